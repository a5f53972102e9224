-- `sdp_window::run_in_part` meets its contract. Assumes nothing.
use Rattle.sdp_window.proofs.SegmentLaws.{part_none, part-once, part_more}
use Rattle.sdp_window.proofs.run_in_part.Goals as goal

pub returns-then-hi-lo : goal.returns-then-hi-lo
returns-then-hi-lo c =
    part_none _ _ _ _ _ _ c.window_end-hi.ensures c.zoned.ensures c.lowest_of-lo.ensures c.if-hi-lo.true

pub returns-then-s-eq0 : goal.returns-then-s-eq0
returns-then-s-eq0 c =
    part-once _ _ _ _ _ _ _ c.window_end-hi.ensures c.zoned.ensures
    c.lowest_of-lo.ensures c.zoned-sum.ensures _ c.if-s-eq0.true c.once_in.ensures

pub returns : goal.returns
returns c =
    part_more _ _ _ _ _ _ _ c.window_end-hi.ensures c.zoned.ensures
    c.lowest_of-lo.ensures c.zoned-sum.ensures _ c.if-s-eq0.false c.run_in.ensures
