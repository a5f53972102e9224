-- `sdp_row::put_name` meets its contract. Assumes nothing.
use Rattle.sdp_row.proofs.LineLaws.{name-empty, name-past, name-there}
use Rattle.sdp_put.proofs.PutsLaws.{said}
use Rattle.sdp_row.proofs.put_name.Goals as goal

pub returns-then-get2-eq0 : goal.returns-then-get2-eq0
returns-then-get2-eq0 c = said (name-empty _ _ _ _ c.get2.ensures.0 c.if-get2-eq0.true) c.byte.ensures

pub returns-then-s-get2 : goal.returns-then-s-get2
returns-then-s-get2 c =
    said (name-past _ _ _ _ c.get2-2.ensures.0 c.if-s-get2.true) c.byte-then-s-get2.ensures

pub returns : goal.returns
returns c =
    said (name-there _ _ _ _ c.get2-2.ensures.0 _ c.get2.ensures.0 c.if-get2-eq0.false c.if-s-get2.false) c.put_string.ensures
