-- `sdp_starts::put_once` meets its contract. Assumes nothing.
use Rattle.sdp_starts.proofs.FillLaws.{fills_as}
use Rattle.sdp_starts.proofs.SeriesLaws.{once_is}
use Rattle.sdp_starts.proofs.put_once.Goals as goal

pub returns : goal.returns
returns c = fills_as (once_is _ _ _ _) c.put_part.ensures
