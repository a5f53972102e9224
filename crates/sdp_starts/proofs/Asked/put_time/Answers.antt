-- `Asked::put_time` of `sdp_starts` meets its contract. Assumes nothing.
use Rattle.sdp_starts.proofs.FillLaws.{fills_none, fills_as}
use Rattle.sdp_starts.proofs.TimeLaws.{time_zero, time_some, time-once}
use Rattle.sdp_starts.proofs.Asked.put_time.Goals as goal

pub returns-then-start-eq0 : goal.returns-then-start-eq0
returns-then-start-eq0 c = fills_as (time_zero _ _ _ _ _ c.num8-start.ensures c.if-start-eq0.true) fills_none

pub returns-then-owns : goal.returns-then-owns
returns-then-owns c =
    fills_as (time_some _ _ _ _ _ c.num8-start.ensures _ c.num8.ensures _ c.owns.ensures c.if-start-eq0.false c.if-owns.true) c.put_repeats.ensures

pub returns : goal.returns
returns c =
    fills_as (time-once _ _ _ _ _ c.num8-start.ensures _ c.num8.ensures _ c.owns.ensures c.if-start-eq0.false c.if-owns.false) c.put_once.ensures
