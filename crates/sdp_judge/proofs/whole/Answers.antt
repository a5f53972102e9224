-- `sdp_judge::whole` meets its contract. Assumes nothing.
use Rattle.sdp_judge.specs.Read.{whole_of}
use Rattle.sdp_judge.proofs.whole.Goals as goal

pub returns-then-is_utf8 : goal.returns-then-is_utf8
unfolding whole_of
returns-then-is_utf8 c = rw (← c.is_utf8.ensures, c.if-is_utf8.true)

pub returns : goal.returns
unfolding whole_of
returns c = rw (c.not_utf8.ensures, ← c.is_utf8.ensures, c.if-is_utf8.false)
