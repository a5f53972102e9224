-- `sdp_put::copy_each` meets its contract. The invariant: the first i bytes are those of s. Assumes nothing.
use lib.ListN.{length, take}
use mathlib.Core.Path.{◌≡◌}
use Rattle.sdp_put.proofs.copy_each.Given as goal

abbrev pub invariant-loop-i : goal.invariant-loop-i
invariant-loop-i l = (length l.out ≡ length l.initial.out) × (take l.i l.out ≡ take l.i l.s)
