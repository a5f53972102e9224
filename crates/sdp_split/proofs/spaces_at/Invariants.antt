-- `sdp_split::spaces_at` meets its contract. The invariant: the run from i is the bytes passed and the run from j.
-- Assumes nothing.
use Prim.Native.Nat.{◌+◌}
use mathlib.Core.Path.{◌≡◌}
use lib.ListN.{drop}
use Rattle.sdp_split.specs.Split.{spaces}
use Rattle.sdp_split.proofs.spaces_at.Given as goal

abbrev pub invariant-loop-j : goal.invariant-loop-j
invariant-loop-j l = l.i + spaces (drop l.i l.v) ≡ l.j + spaces (drop l.j l.v)
