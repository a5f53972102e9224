-- `sdp_order::repeats` and `sdp_order::times`. The measure is what is left of the hand-overs, and not of the text: it bounds
-- how deep the calls are in each other. Assumes nothing.
use Prim.Native.Nat.{◌+◌, ◌*◌}
use Rattle.sdp_order.proofs.+repeats_times.Given as goal

abbrev pub decreases-repeats : goal.decreases-repeats
decreases-repeats l = 2 * l.left + 1

abbrev pub decreases-times : goal.decreases-times
decreases-times l = 2 * l.left
