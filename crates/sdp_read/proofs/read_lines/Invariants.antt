-- `sdp_read::read_lines`, before each line. The measure: how much of the text is left.
-- Assumes nothing.
use Rattle.std.proofs.Common.{◌-◌, length}
use Rattle.sdp_cutter.specs.Cutter.{due}
use Rattle.sdp_read.proofs.LoopLaws.{Before}
use Rattle.sdp_read.proofs.read_lines.Given as goal

abbrev pub invariant-loop-turn : goal.invariant-loop-turn
invariant-loop-turn l = Before l.text (due l.fn.c) l.fn.area l.c l.state l.area

abbrev pub decreases-loop-turn : goal.decreases-loop-turn
decreases-loop-turn l = length l.text - l.c.at.0
