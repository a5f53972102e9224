-- `sdp_row::put_string` meets its contract. Assumes nothing.
use Rattle.sdp_row.proofs.LineLaws.{string_is}
use Rattle.sdp_put.proofs.PutsLaws.{said}
use Rattle.sdp_row.proofs.put_string.Goals as goal

pub returns : goal.returns
returns c = said (string_is _ _ _ _ _ c.get2-place.ensures.0 c.get2-len.ensures.0) c.text.ensures
