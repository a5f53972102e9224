-- `Asked::put_repeats` of `sdp_starts` meets its contract. Assumes nothing.
use Rattle.sdp_area.specs.Area.{repeats_at}
use Rattle.sdp_decode.specs.Decode.{repeat_of}
use Rattle.sdp_starts.proofs.RowLaws.{left_begin, left_turn, left_finish, left_full, left_roomy}
use native.Mathlib.Omega.{arith}
use Rattle.sdp_starts.proofs.FillLaws.{fills_err}
use Rattle.sdp_starts.proofs.Asked.put_repeats.Invariants.{row}
use Rattle.sdp_starts.proofs.Asked.put_repeats.Goals as goal

pub loop-j-init : goal.loop-j-init
loop-j-init c = left_begin (row c.args.self.now.area.now c.args.t.number c.args.t.start c.args.t.stop c.args.self.now.window) repeat_of 18 repeats_at _ _ _ _ c.num2-rows.ensures.0 c.num2-rows.ensures.1

pub put_own_repeat-requires : goal.put_own_repeat-requires
put_own_repeat-requires c = record {
  roomy = left_roomy (row c.args.self.now.area.now c.args.t.number c.args.t.start c.args.t.stop c.args.self.now.window) repeat_of 18 repeats_at _ _ _ _ c.loop-j.invariant c.requires;
  near = omega (arith, c.loop-j.invariant.few, c.loop-j.invariant.near, c.loop-j-test.true);
}

pub loop-j-preserved : goal.loop-j-preserved
loop-j-preserved c = left_turn (row c.args.self.now.area.now c.args.t.number c.args.t.start c.args.t.stop c.args.self.now.window) repeat_of 18 repeats_at _ _ _ _ (omega arith) c.loop-j-test.true c.loop-j.invariant c.in_ok-put_own_repeat.ensures

pub returns : goal.returns
returns c = left_finish (row c.args.self.now.area.now c.args.t.number c.args.t.start c.args.t.stop c.args.self.now.window) repeat_of 18 repeats_at _ _ _ _ c.loop-j-test.false c.loop-j.invariant

pub overflow_add-p-in-loop-j : goal.overflow_add-p-in-loop-j
overflow_add-p-in-loop-j c = omega (arith, c.loop-j.invariant.few, c.loop-j.invariant.near)

pub returns-in_err-put_own_repeat : goal.returns-in_err-put_own_repeat
returns-in_err-put_own_repeat c =
    fills_err _ _ c.from_residual.ensures.0
    (left_full (row c.args.self.now.area.now c.args.t.number c.args.t.start c.args.t.stop c.args.self.now.window) repeat_of 18 repeats_at _ _ _ _ (omega arith) (left_turn (row c.args.self.now.area.now c.args.t.number c.args.t.start c.args.t.stop c.args.self.now.window) repeat_of 18 repeats_at _ _ _ _ (omega arith) c.loop-j-test.true c.loop-j.invariant c.in_err-put_own_repeat.ensures))
