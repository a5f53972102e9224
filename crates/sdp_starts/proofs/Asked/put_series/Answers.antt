-- `Asked::put_series` of `sdp_starts` meets its contract. Assumes nothing.
use Rattle.sdp_starts.proofs.FillLaws.{fills_as, fills_err}
use Rattle.sdp_starts.proofs.SeriesLaws.{passed_begin, passed_turn, passed_end, passed_stop, passed_roomy, series_is}
use native.Mathlib.Omega.{arith}
use Rattle.sdp_starts.proofs.Asked.put_series.Goals as goal

pub loop-i-init : goal.loop-i-init
loop-i-init c = passed_begin _ _ _ _ _ _ _ _ c.num2-zones.ensures.0 c.num2-zones.ensures.1

pub put_before-requires : goal.put_before-requires
put_before-requires c = passed_roomy _ _ _ _ _ _ _ _ c.loop-i.invariant c.requires

pub loop-i-preserved : goal.loop-i-preserved
loop-i-preserved c = passed_turn _ _ _ _ _ _ _ _ c.loop-i.invariant c.loop-i-test.true c.num8-a.ensures c.num8-zone.ensures c.in_ok-put_before.ensures

pub put_part-requires : goal.put_part-requires
put_part-requires c = passed_roomy _ _ _ _ _ _ _ _ c.loop-i.invariant c.requires

pub returns : goal.returns
returns c =
    fills_as (series_is _ _ _ _ _ c.args.self.now.rises) (passed_end _ _ _ _ _ _ _ _ c.loop-i.invariant c.loop-i-test.false c.put_part.ensures)

pub overflow_add-q-in-loop-i : goal.overflow_add-q-in-loop-i
overflow_add-q-in-loop-i c = omega (arith, c.loop-i.invariant.few, c.loop-i.invariant.near)

pub overflow_add-q-in-loop-i-2 : goal.overflow_add-q-in-loop-i-2
overflow_add-q-in-loop-i-2 c = omega (arith, c.loop-i.invariant.few, c.loop-i.invariant.near)

pub returns-in_err-put_before : goal.returns-in_err-put_before
returns-in_err-put_before c =
    fills_err _ _ c.from_residual.ensures.0
    (fills_as (series_is _ _ _ _ _ c.args.self.now.rises)
    (passed_stop _ _ _ _ _ _ _ _ c.loop-i.invariant c.loop-i-test.true c.num8-a.ensures c.in_err-put_before.ensures))
