-- `sdp_take_once::take_name` meets its contract. Assumes nothing.
use Rattle.std.proofs.lemmas.Result.{err_from_is_err_and}
use mathlib.Core.Path.{refl, sym, ap, ◌∙◌}
use native.Mathlib.Omega.{arith}
use Rattle.sdp_judge.proofs.EveryLaws.{whole-within}
use Rattle.sdp_area.proofs.HeadLaws.{name_set}
use Rattle.sdp_step.specs.Step.{step_role}
use Rattle.sdp_step.specs.declared.Marks.{Marks}
use Rattle.sdp_step.proofs.HandleLaws.{once-second, once_wrong, once-kept}
use Rattle.sdp_step.proofs.OnceLaws.{head_kept}
use Rattle.sdp_step.proofs.TailLaws.{held, tail_of}
use mathlib.Core.Bool.{true}
use Rattle.sdp_take_once.proofs.take_name.Goals as goal

pub returns-then-marks : goal.returns-then-marks
unfolding step_role
returns-then-marks c ρ t h =
    once-second 13 _ _ _ (held h) t (sym (ap (λ (m : Marks). m.named) h.marks) ∙ c.if-marks.true) (tail_of h)

pub span_of-x-requires : goal.span_of-x-requires
span_of-x-requires c =
    omega (arith, whole-within _ _ _ (sym c.whole.ensures ∙ c.in_ok-p.was), c.requires.1)

pub set_name-requires : goal.set_name-requires
set_name-requires c = omega (arith, c.requires.0)

pub returns-in_err-p : goal.returns-in_err-p
unfolding step_role
returns-in_err-p c ρ t h =
    let u = err_from_is_err_and c.from_residual.result c.from_residual.ensures.1 in
    rw (u.1, u.2) ((once_wrong 13 _ _ _ (held h) t (sym (ap (λ (m : Marks). m.named) h.marks) ∙ c.if-marks.false) _ (sym c.whole.ensures ∙ c.in_err-p.was) (tail_of h)))

pub returns : goal.returns
unfolding step_role
returns c ρ t h =
    once-kept 13 _ _ _ _ _ (sym (ap (λ (m : Marks). m.named) h.marks) ∙ c.if-marks.false) _ _ _ (sym c.whole.ensures ∙ c.in_ok-p.was) refl (head_kept ρ _ _ _ _ t _ h (ap (λ (m : Marks). record { named = true; zoned = m.zoned }) h.marks) (c.set_name.ensures ∙ rw c.span_of-x.ensures (name_set ρ.session t h.within _ h.bytes _)))
