-- `sdp_valid::rising` meets its contract. Assumes nothing.
use Rattle.sdp_valid.proofs.JudgeLaws.{rising_all, rising_more, rising_falls, rising-past, rising_none}
use mathlib.Core.Path.{sym, ◌∙◌}
use Rattle.sdp_valid.proofs.rising.Goals as goal
use Rattle.sdp_valid.proofs.rising.Goals.{then-owner-lo-via-then-owner-lo, then-owner-lo-via-else-owner-lo+then-most-owner}

pub loop-i-init : goal.loop-i-init
loop-i-init c = rising_all _ _ _ _ _ _ _ c.get2-n.ensures.0

pub loop-i-preserved : goal.loop-i-preserved
loop-i-preserved c =
    c.loop-i.invariant ∙ rising_more _ _ _ _ _ _ _ _ c.loop-i-test.true c.get2-owner.ensures.0 c.if-owner-lo.false c.if-most-owner.false

pub returns-then-owner-lo : goal.returns-then-owner-lo
returns-then-owner-lo c =
    elim c.then-owner-lo.branch [
      | then-owner-lo-via-then-owner-lo w ↦
          sym (c.loop-i.invariant ∙ rising_falls _ _ _ _ _ _ _ _ c.loop-i-test.true c.get2-owner.ensures.0 w.if-owner-lo.true)
      | then-owner-lo-via-else-owner-lo+then-most-owner w ↦
          sym (c.loop-i.invariant ∙ rising-past _ _ _ _ _ _ _ _ c.loop-i-test.true c.get2-owner.ensures.0 w.if-most-owner.true)
    ]

pub returns : goal.returns
returns c = sym (c.loop-i.invariant ∙ rising_none _ _ _ _ _ _ _ c.loop-i-test.false)
