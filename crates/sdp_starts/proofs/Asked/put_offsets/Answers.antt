-- `Asked::put_offsets` of `sdp_starts` meets its contract. Assumes nothing.
use Rattle.sdp_area.specs.Area.{offsets_at}
use Rattle.sdp_decode.specs.Decode.{offset_of}
use Rattle.sdp_starts.proofs.RowLaws.{left_begin, left_turn, left_finish, left_full, left_roomy}
use native.Mathlib.Omega.{arith}
use Rattle.sdp_starts.proofs.FillLaws.{fills_err}
use Rattle.sdp_starts.proofs.Asked.put_offsets.Invariants.{row}
use Rattle.sdp_starts.proofs.Asked.put_offsets.Goals as goal

pub loop-k-init : goal.loop-k-init
loop-k-init c = left_begin (row c.args.self.now.area.now c.args.whose c.args.rule c.args.self.now.window) offset_of 10 offsets_at _ _ _ _ c.num2-rows.ensures.0 c.num2-rows.ensures.1

pub put_offset-requires : goal.put_offset-requires
put_offset-requires c = record {
  roomy = left_roomy (row c.args.self.now.area.now c.args.whose c.args.rule c.args.self.now.window) offset_of 10 offsets_at _ _ _ _ c.loop-k.invariant c.requires;
  near = omega (arith, c.loop-k.invariant.few, c.loop-k.invariant.near, c.loop-k-test.true);
}

pub loop-k-preserved : goal.loop-k-preserved
loop-k-preserved c = left_turn (row c.args.self.now.area.now c.args.whose c.args.rule c.args.self.now.window) offset_of 10 offsets_at _ _ _ _ (omega arith) c.loop-k-test.true c.loop-k.invariant c.in_ok-put_offset.ensures

pub returns : goal.returns
returns c = left_finish (row c.args.self.now.area.now c.args.whose c.args.rule c.args.self.now.window) offset_of 10 offsets_at _ _ _ _ c.loop-k-test.false c.loop-k.invariant

pub overflow_add-p-in-loop-k : goal.overflow_add-p-in-loop-k
overflow_add-p-in-loop-k c = omega (arith, c.loop-k.invariant.few, c.loop-k.invariant.near)

pub returns-in_err-put_offset : goal.returns-in_err-put_offset
returns-in_err-put_offset c =
    fills_err _ _ c.from_residual.ensures.0
    (left_full (row c.args.self.now.area.now c.args.whose c.args.rule c.args.self.now.window) offset_of 10 offsets_at _ _ _ _ (omega arith) (left_turn (row c.args.self.now.area.now c.args.whose c.args.rule c.args.self.now.window) offset_of 10 offsets_at _ _ _ _ (omega arith) c.loop-k-test.true c.loop-k.invariant c.in_err-put_offset.ensures))
