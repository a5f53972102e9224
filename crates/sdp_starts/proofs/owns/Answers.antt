-- `sdp_starts::owns` meets its contract. Assumes nothing.
use Rattle.sdp_starts.proofs.RowLaws.{owns_all, owns_here, owns_more, owns_none}
use mathlib.Core.Path.{sym, ◌∙◌}
use native.Mathlib.Omega.{arith}
use Prim.Native.Nat.{◌-◌}
use Rattle.sdp_starts.proofs.owns.Goals as goal

pub loop-i-init : goal.loop-i-init
loop-i-init c =
    (c.num2-rows.ensures.1, omega arith, omega arith, owns_all _ _ _ _ _ _ c.num2-rows.ensures.0)

pub returns-then-num2-n : goal.returns-then-num2-n
returns-then-num2-n c =
    sym (c.loop-i.invariant.3 ∙ owns_here _ _ _ _ _ _ _ c.loop-i-test.true c.num2.ensures.0 c.if-num2-n.true)

pub loop-i-preserved : goal.loop-i-preserved
loop-i-preserved c =
    (c.loop-i.invariant.0, omega (arith, c.loop-i.invariant.1), omega arith, c.loop-i.invariant.3 ∙ owns_more _ _ _ _ _ _ _ c.loop-i-test.true c.num2.ensures.0 c.if-num2-n.false)

pub returns : goal.returns
returns c = sym (c.loop-i.invariant.3 ∙ owns_none _ _ _ _ _ _ c.loop-i-test.false)

pub overflow_add-p-in-loop-i : goal.overflow_add-p-in-loop-i
overflow_add-p-in-loop-i c = omega (arith, c.loop-i.invariant.1, c.loop-i.invariant.0)
