-- `sdp_put::copy_eights` meets its contract. The invariant: the first i bytes of s were put. Assumes nothing.
use Rattle.sdp_put.specs.Out.{put}
use lib.ListN.{length, take}
use mathlib.Core.Path.{◌≡◌}
use Prim.Native.Nat.{◌-◌, ◌<◌}
use Rattle.sdp_put.proofs.copy_eights.Given as goal

abbrev pub invariant-loop-i : goal.invariant-loop-i
invariant-loop-i l =
    (l.n ≡ length l.s) × (l.i < l.n) × (length l.out ≡ length l.initial.out) × (l.out ≡ put l.initial.out 0 (take l.i l.s))

abbrev pub decreases-loop-i : goal.decreases-loop-i
decreases-loop-i l = l.n - l.i
