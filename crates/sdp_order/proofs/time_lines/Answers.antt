-- `sdp_order::time_lines` meets its contract. Assumes nothing.
use Prim.Native.Nat.{◌-◌}
use native.Mathlib.Omega.{arith}
use mathlib.Core.Path.{◌∙◌}
use Rattle.std.specs.Prelude.{Some, None}
use Rattle.sdp_order.proofs.SeenLaws.{run_same}
use Rattle.sdp_order.proofs.PassLaws.{must_come}
use Rattle.sdp_order.proofs.GrammarLaws.{first_time}
use Rattle.sdp_order.proofs.time_lines.Goals as goal

pub returns-in_err-c : goal.returns-in_err-c
returns-in_err-c c =
    rw c.from_residual.ensures (run_same _ _ _ _ first_time ∙ must_come _ _ 0x74 _ None c.in_err-c.ensures)

pub returns-in-Through : goal.returns-in-Through
returns-in-Through c =
    run_same _ _ _ _ first_time ∙ must_come _ _ 0x74 _ (Some _) c.in_ok-c.ensures ∙ c.loop-next.invariant ∙ (rw c.in-Through.is at c.repeats.ensures)

pub loop-next-smaller : goal.loop-next-smaller
loop-next-smaller c = let h = rw c.in-AtRepeats.is at c.repeats.ensures in omega (arith, h.0.stands, h.0.moved)

pub loop-next-preserved : goal.loop-next-preserved
loop-next-preserved c = c.loop-next.invariant ∙ (rw c.in-AtRepeats.is at c.repeats.ensures).1
