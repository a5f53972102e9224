-- `Asked::put_own_repeat` of `sdp_starts` meets its contract. Assumes nothing.
use Rattle.sdp_starts.proofs.FillLaws.{fills_none, fills_as}
use Rattle.sdp_starts.proofs.RowLaws.{mine-not, mine_is}
use Rattle.sdp_starts.proofs.TimeLaws.{repeat-row}
use Rattle.sdp_starts.proofs.Asked.put_own_repeat.Goals as goal

pub returns-then-num2-t : goal.returns-then-num2-t
returns-then-num2-t c = fills_as (mine-not _ _ _ c.num2.ensures.0 _ c.if-num2-t.true) fills_none

pub returns : goal.returns
returns c =
    fills_as (mine_is _ _ _ c.num2.ensures.0 _ _ c.if-num2-t.false (repeat-row _ _ _ _ _ _ _ _ c.num8.ensures)) c.put_repeat.ensures
