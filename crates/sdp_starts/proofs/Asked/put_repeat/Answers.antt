-- `Asked::put_repeat` of `sdp_starts` meets its contract. Assumes nothing.
use Rattle.sdp_starts.proofs.FillLaws.{fills_as}
use Rattle.sdp_starts.proofs.TimeLaws.{repeat_some, repeat_none}
use Rattle.sdp_starts.proofs.Asked.put_repeat.Goals as goal

pub returns-then-owns : goal.returns-then-owns
returns-then-owns c = fills_as (repeat_some _ _ _ _ _ _ c.owns.ensures c.if-owns.true) c.put_offsets.ensures

pub returns : goal.returns
returns c = fills_as (repeat_none _ _ _ _ _ _ c.owns.ensures c.if-owns.false) c.put_series.ensures
