-- `sdp_stamp_valid::fine_marks` meets its contract. Assumes nothing.
use Rattle.sdp_stamp_valid.proofs.FineLaws.{marks_all, marks_more, marks_not, marks_none}
use mathlib.Core.Path.{sym, ◌∙◌}
use Rattle.sdp_stamp_valid.proofs.fine_marks.Goals as goal

pub loop-i-init : goal.loop-i-init
loop-i-init c = marks_all _ _ _ _ _ c.get2-n.ensures.0

pub loop-i-preserved : goal.loop-i-preserved
loop-i-preserved c =
    c.loop-i.invariant ∙ marks_more _ _ _ _ _ c.loop-i-test.true (sym c.fine_field.ensures ∙ c.if-not-fine_field.false)

pub returns-then-not-fine_field : goal.returns-then-not-fine_field
returns-then-not-fine_field c =
    sym (c.loop-i.invariant ∙ marks_not _ _ _ _ _ c.loop-i-test.true (sym c.fine_field.ensures ∙ c.if-not-fine_field.true))

pub returns : goal.returns
returns c = sym (c.loop-i.invariant ∙ marks_none _ _ _ _ _ c.loop-i-test.false)
