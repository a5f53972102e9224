-- `sdp_utf8::utf8_end` meets its contract. The invariant: the whole list's end is i and the end of the rest from i.
-- Assumes nothing.
use Prim.Native.Nat.{◌-◌}
use lib.ListN.{length}
use Rattle.sdp_utf8.specs.Utf8.{utf8_end}
use Rattle.sdp_bytes.proofs.ScanLaws.{Reached}
use Rattle.sdp_utf8.proofs.utf8_end.Given as goal

abbrev pub invariant-loop-i : goal.invariant-loop-i
invariant-loop-i l = Reached utf8_end l.s l.i

abbrev pub decreases-loop-i : goal.decreases-loop-i
decreases-loop-i l = length l.s - l.i
