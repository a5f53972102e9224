-- `sdp_starts::put_before` meets its contract. Assumes nothing.
use Rattle.sdp_starts.proofs.FillLaws.{fills_none, fills_as}
use Rattle.sdp_starts.proofs.SeriesLaws.{before_none, before_some}
use Rattle.sdp_starts.proofs.put_before.Goals as goal

pub returns-then-a-eq0 : goal.returns-then-a-eq0
returns-then-a-eq0 c = fills_as (before_none _ _ _ _ _ c.if-a-eq0.true) fills_none

pub returns : goal.returns
returns c = fills_as (before_some _ _ _ _ _ _ c.if-a-eq0.false c.until.ensures) c.put_part.ensures
