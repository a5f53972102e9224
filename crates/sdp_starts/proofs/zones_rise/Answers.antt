-- `sdp_starts::zones_rise` meets its contract. Assumes nothing.
use Rattle.sdp_starts.proofs.ZoneLaws.{rise_all, rise_falls, rise_more, rise_none}
use mathlib.Core.Path.{sym, ◌∙◌}
use native.Mathlib.Omega.{arith}
use Prim.Native.Nat.{◌-◌}
use Rattle.sdp_starts.proofs.zones_rise.Goals as goal

pub loop-i-init : goal.loop-i-init
loop-i-init c = (c.num2-rows.ensures.1, omega arith, omega arith, rise_all _ _ c.num2-rows.ensures.0)

pub returns-then-a-last : goal.returns-then-a-last
returns-then-a-last c =
    sym (c.loop-i.invariant.3 ∙ rise_falls _ _ _ _ _ _ c.loop-i-test.true c.num8-a.ensures c.if-a-last.true)

pub loop-i-preserved : goal.loop-i-preserved
loop-i-preserved c =
    (c.loop-i.invariant.0, omega (arith, c.loop-i.invariant.1), omega arith, c.loop-i.invariant.3 ∙ rise_more _ _ _ _ _ _ c.loop-i-test.true c.num8-a.ensures c.if-a-last.false)

pub returns : goal.returns
returns c = sym (c.loop-i.invariant.3 ∙ rise_none _ _ _ _ _ c.loop-i-test.false)

pub overflow_add-p-in-loop-i : goal.overflow_add-p-in-loop-i
overflow_add-p-in-loop-i c = omega (arith, c.loop-i.invariant.1, c.loop-i.invariant.0)
