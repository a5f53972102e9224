-- `sdp_room::sum_rows` meets its contract. Assumes nothing.
use Rattle.sdp_room.proofs.TableLaws.{sum_all, sum_turn, sum_done}
use native.Mathlib.Omega.{arith}
use Rattle.sdp_room.proofs.sum_rows.Goals as goal

pub loop-i-init : goal.loop-i-init
loop-i-init g c = (omega arith, sum_all g.rule _ _ _ _ c.get2-n.ensures.0)

pub overflow_add-sum : goal.overflow_add-sum
overflow_add-sum g c =
    omega (arith, c.loop-i.invariant.0, c.loop-i-test.true, c.get2-n.ensures.1, (c.requires.1.1.1 _ _ c.cost-sum.ensures).1)

pub loop-i-preserved : goal.loop-i-preserved
loop-i-preserved g c =
    let t = c.requires.1.1.1 _ _ c.cost-sum.ensures in
    (omega (arith, c.loop-i.invariant.0, t.1), sum_turn g.rule _ _ _ _ _ _ c.loop-i.invariant.1 _ c.loop-i-test.true t.0)

pub returns : goal.returns
returns g c =
    (sum_done g.rule _ _ _ _ _ _ c.loop-i.invariant.1 c.loop-i-test.false, omega (arith, c.loop-i.invariant.0, c.get2-n.ensures.1))
