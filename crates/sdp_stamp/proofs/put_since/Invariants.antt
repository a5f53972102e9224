-- `sdp_stamp::put_since` meets its contract. The invariant: the rows from `from` to i have the line. Assumes nothing.
use mathlib.Core.Path.{◌≡◌}
use Prim.Native.Nat.{◌+◌, ◌*◌, ◌-◌, ◌≤◌}
use lib.ListN.{replicate}
use Rattle.sdp_cells.specs.Bytes.{over}
use Rattle.sdp_cells.specs.Tables.{pairs}
use Rattle.sdp_stamp.proofs.put_since.Given as goal

abbrev pub invariant-loop-i : goal.invariant-loop-i
invariant-loop-i l = (l.i - l.from ≤ l.n - l.from) × (l.area ≡ over l.initial.area (l.at + l.from * 2) (pairs (replicate (l.i - l.from) l.line)))
