-- `sdp_order::next_line` meets its contract. Assumes nothing.
use Prim.Native.Nat.{◌-◌}
use lib.ListN.{length}
use Rattle.sdp_order.proofs.FindLaws.{Skips}
use Rattle.sdp_order.proofs.next_line.Given as goal

abbrev pub invariant-loop-fault : goal.invariant-loop-fault
invariant-loop-fault l = Skips l.text l.initial.c l.c

abbrev pub decreases-loop-fault : goal.decreases-loop-fault
decreases-loop-fault l = length l.text - l.c.at.0
