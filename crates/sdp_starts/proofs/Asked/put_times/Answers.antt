-- `Asked::put_times` of `sdp_starts` meets its contract. Assumes nothing.
use Rattle.sdp_area.specs.Area.{times_at}
use Rattle.sdp_decode.specs.Decode.{time_of}
use Rattle.sdp_starts.proofs.RowLaws.{left_begin, left_turn, left_finish, left_full, left_roomy}
use Rattle.sdp_starts.proofs.FillLaws.{fills_as}
use Rattle.sdp_starts.proofs.TimeLaws.{times_are}
use native.Mathlib.Omega.{arith}
use Rattle.sdp_starts.proofs.FillLaws.{fills_err}
use Rattle.sdp_starts.proofs.Asked.put_times.Invariants.{row}
use Rattle.sdp_starts.proofs.Asked.put_times.Goals as goal

pub loop-i-init : goal.loop-i-init
loop-i-init c = left_begin (row c.args.self.now.area.now c.args.self.now.window) time_of 16 times_at _ _ _ _ c.num2-rows.ensures.0 c.num2-rows.ensures.1

pub put_time-requires : goal.put_time-requires
put_time-requires c = record {
  roomy = left_roomy (row c.args.self.now.area.now c.args.self.now.window) time_of 16 times_at _ _ _ _ c.loop-i.invariant c.requires;
  near = omega (arith, c.loop-i.invariant.few, c.loop-i.invariant.near, c.loop-i-test.true);
}

pub loop-i-preserved : goal.loop-i-preserved
loop-i-preserved c = left_turn (row c.args.self.now.area.now c.args.self.now.window) time_of 16 times_at _ _ _ _ (omega arith) c.loop-i-test.true c.loop-i.invariant c.in_ok-put_time.ensures

pub returns : goal.returns
returns c = fills_as (times_are _ _) (left_finish (row c.args.self.now.area.now c.args.self.now.window) time_of 16 times_at _ _ _ _ c.loop-i-test.false c.loop-i.invariant)

pub overflow_add-p-in-loop-i : goal.overflow_add-p-in-loop-i
overflow_add-p-in-loop-i c = omega (arith, c.loop-i.invariant.few, c.loop-i.invariant.near)

pub returns-in_err-put_time : goal.returns-in_err-put_time
returns-in_err-put_time c =
    fills_err _ _ c.from_residual.ensures.0
    (fills_as (times_are _ _) (left_full (row c.args.self.now.area.now c.args.self.now.window) time_of 16 times_at _ _ _ _ (omega arith) (left_turn (row c.args.self.now.area.now c.args.self.now.window) time_of 16 times_at _ _ _ _ (omega arith) c.loop-i-test.true c.loop-i.invariant c.in_err-put_time.ensures)))
