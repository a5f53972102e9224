-- `sdp_lines::equals_second` meets its contract. Assumes nothing.
use Rattle.sdp_lines.proofs.LineLaws.{second_short, second_is}
use Rattle.sdp_lines.proofs.equals_second.Goals as goal

pub returns-then-s-lt2 : goal.returns-then-s-lt2
returns-then-s-lt2 c = second_short _ c.if-s-lt2.true

pub returns : goal.returns
returns c = second_is _ c.if-s-lt2.false
