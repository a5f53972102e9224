-- `sdp_bytes::runs::run_len` meets its contract. The invariant: the whole list's run is i and the run of the rest from i.
-- Assumes nothing.
use Rattle.sdp_bytes.specs.Ranges.{◌to◌, within}
use Rattle.sdp_bytes.specs.Runs.{run_len}
use Rattle.sdp_bytes.proofs.ScanLaws.{Reached}
use Rattle.sdp_bytes.proofs.runs.run_len.Given as goal

abbrev pub invariant-loop-i : goal.invariant-loop-i
invariant-loop-i l = Reached (run_len (within (l.lo to l.hi))) l.s l.i
