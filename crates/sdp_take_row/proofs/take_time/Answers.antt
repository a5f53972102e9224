-- `sdp_take_row::take_time` meets its contract. Assumes nothing.
use Rattle.std.proofs.lemmas.Result.{err_from_is_err_and}
use mathlib.Core.Path.{refl, sym, ◌∙◌}
use Rattle.sdp_area.specs.With.{with_times}
use Rattle.sdp_area.proofs.GrownLaws.{times-grown}
use Rattle.sdp_step.specs.Step.{step_role}
use Rattle.sdp_step.proofs.HandleLaws.{row_wrong, row_pushed}
use Rattle.sdp_step.proofs.TailLaws.{held, tail_of}
use Rattle.sdp_step.proofs.WithinLaws.{within-times}
use Rattle.sdp_step.specs.Step.{time_in}
use Rattle.sdp_take_row.proofs.take_time.Goals as goal

pub returns-in_err-t : goal.returns-in_err-t
unfolding step_role
returns-in_err-t c ρ t h =
    let u = err_from_is_err_and c.from_residual.result c.from_residual.ensures.1 in
    rw (u.1, u.2) ((row_wrong 5 32 _ _ _ (held h) t _ (sym c.parse.ensures ∙ c.in_err-t.was) (tail_of h)))

pub returns : goal.returns
unfolding step_role
returns c ρ t h =
    let q = time_in c.in_ok-t.t in
    rw c.stored.ensures (row_pushed 5 32 ρ.session.tables.times _ _ _ (sym c.parse.ensures ∙ c.in_ok-t.was) q (with_times ρ.session) _ t _ _ ρ h _ (c.push_time-p.ensures.value ∙ (times-grown ρ.session t h.within _ h.bytes q).0) (c.push_time-p.ensures.area_after ∙ (times-grown ρ.session t h.within _ h.bytes q).1) (within-times ρ.session h.within) refl refl refl)
