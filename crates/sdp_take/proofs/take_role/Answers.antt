-- `sdp_take::take_role` meets its contract. Assumes nothing.
use mathlib.Core.Path.{ap, ◌∙◌}
use Rattle.sdp_step.specs.Step.{step_role}
use Rattle.sdp_take.specs.Shapes.{shape_role}
use Rattle.sdp_take.proofs.ShapeLaws.{used, once_lands, row_lands}
use Rattle.sdp_take.proofs.take_role.Goals as goal

pub returns-in-Once : goal.returns-in-Once
returns-in-Once c ρ t h =
    rw (c.shape_of.ensures ∙ ap shape_role c.in-Once.is) (rw c.told.ensures (once_lands _ _ _ t _ (c.take_once.ensures ρ t h) c.in-Once.what))

pub returns-in-Row : goal.returns-in-Row
returns-in-Row c ρ t h =
    rw (c.shape_of.ensures ∙ ap shape_role c.in-Row.is) (rw c.told-in-Row.ensures (row_lands _ _ _ t _ (c.take_row.ensures ρ t h) c.in-Row.what))

pub returns-in-Repeat : goal.returns-in-Repeat
returns-in-Repeat c ρ t h = rw (c.shape_of.ensures ∙ ap shape_role c.in-Repeat.is) (rw c.told-in-Repeat.ensures (used _ c.args.marks _ t _ (c.take_repeat.ensures ρ t h)))

pub returns-in-Zone : goal.returns-in-Zone
returns-in-Zone c ρ t h = rw (c.shape_of.ensures ∙ ap shape_role c.in-Zone.is) (rw c.told-in-Zone.ensures (used _ c.args.marks _ t _ (c.take_zone.ensures ρ t h)))

pub returns-in-Nothing : goal.returns-in-Nothing
unfolding step_role
returns-in-Nothing c ρ t h = rw (c.shape_of.ensures ∙ ap shape_role c.in-Nothing.is) h
