-- `sdp_valid::every_at` meets its contract. Assumes nothing.
use Rattle.sdp_valid.proofs.JudgeLaws.{every_all, every_more, every_not, every_none}
use mathlib.Core.Path.{sym, ◌∙◌}
use Rattle.sdp_valid.proofs.every_at.Goals as goal

pub loop-i-init : goal.loop-i-init
loop-i-init g c = every_all g.rule _ _ _

pub loop-i-preserved : goal.loop-i-preserved
loop-i-preserved g c =
    c.loop-i.invariant ∙ every_more g.rule _ _ _ _ c.loop-i-test.true (sym (c.requires.1.1.1 _ _ c.test.ensures) ∙ c.if-not-test.false)

pub returns-then-not-test : goal.returns-then-not-test
returns-then-not-test g c =
    sym (c.loop-i.invariant ∙ every_not g.rule _ _ _ _ c.loop-i-test.true (sym (c.requires.1.1.1 _ _ c.test.ensures) ∙ c.if-not-test.true))

pub returns : goal.returns
returns g c = sym (c.loop-i.invariant ∙ every_none g.rule _ _ _ _ c.loop-i-test.false)
