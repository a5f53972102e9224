-- `sdp_put::kept_len` meets its contract. The invariant: what was counted and what is left give the whole. Assumes nothing.
use Rattle.sdp_put.specs.Strings.{clean}
use lib.ListN.{length, drop}
use mathlib.Core.Path.{◌≡◌}
use Prim.Native.Nat.{◌+◌, ◌≤◌}
use Rattle.sdp_put.proofs.kept_len.Given as goal

abbrev pub invariant-loop-b : goal.invariant-loop-b
invariant-loop-b l = (l.n ≤ l.b-index) × (length (clean l.s) ≡ l.n + length (clean (drop l.b-index l.s)))
