-- `sdp_lines::stop_index` meets its contract. The invariant: the whole list's stop is i and the stop of the rest from i.
-- Assumes nothing.
use Rattle.sdp_lines.specs.Quick.{stop_index}
use Rattle.sdp_bytes.proofs.ScanLaws.{Reached}
use Rattle.sdp_lines.proofs.stop_index.Given as goal

abbrev pub invariant-loop-i : goal.invariant-loop-i
invariant-loop-i l = Reached stop_index l.s l.i
