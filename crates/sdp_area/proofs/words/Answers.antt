-- `sdp_area::words` meets its contract.
-- Assumes nothing.
use Rattle.sdp_area.proofs.WordLaws.{eight_is}
use Rattle.sdp_area.proofs.words.Goals as goal

pub returns : goal.returns
returns c = (eight_is c.args.v).is
