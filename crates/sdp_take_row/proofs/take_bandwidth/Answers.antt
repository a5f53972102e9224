-- `sdp_take_row::take_bandwidth` meets its contract. Assumes nothing.
use Rattle.std.proofs.lemmas.Result.{err_from_is_err_and}
use mathlib.Core.Path.{refl, sym, ◌∙◌}
use native.Mathlib.Omega.{arith}
use Rattle.sdp_fields.proofs.BoundLaws.{bandwidth-within}
use Rattle.sdp_area.specs.With.{with_bandwidths}
use Rattle.sdp_area.proofs.GrownLaws.{bandwidths-grown, medias_count}
use Rattle.sdp_step.specs.Step.{step_role}
use Rattle.sdp_step.proofs.HandleLaws.{row_wrong, row_pushed}
use Rattle.sdp_step.proofs.TailLaws.{held, tail_of}
use Rattle.sdp_step.proofs.WithinLaws.{within-bandwidths}
use mathlib.Core.List.{[]}
use Rattle.sdp_strings.specs.Strings.{span_at}
use lib.ListN.{length}
use Rattle.sdp_step.specs.Step.{bandwidth_in}
use Rattle.sdp_take_row.proofs.take_bandwidth.Goals as goal

pub span_of-bwtype-requires : goal.span_of-bwtype-requires
span_of-bwtype-requires c =
    omega (arith, bandwidth-within _ _ (sym c.parse.ensures ∙ c.in_ok-b.was), c.requires.1)

pub returns-in_err-b : goal.returns-in_err-b
unfolding step_role
returns-in_err-b c ρ t h =
    let u = err_from_is_err_and c.from_residual.result c.from_residual.ensures.1 in
    rw (u.1, u.2) ((row_wrong 4 64 _ _ _ (held h) t _ (sym c.parse.ensures ∙ c.in_err-b.was) (tail_of h)))

pub returns : goal.returns
unfolding step_role
returns c ρ t h =
    let q = bandwidth_in (span_at c.args.at []) (length ρ.session.tables.medias) c.in_ok-b.b in
    rw c.stored.ensures (row_pushed 4 64 ρ.session.tables.bandwidths _ _ _ (sym c.parse.ensures ∙ c.in_ok-b.was) q (with_bandwidths ρ.session) _ t _ _ ρ h _ (c.push_bandwidth-p.ensures.value ∙ (bandwidths-grown ρ.session t h.within _ h.bytes q).0) (c.push_bandwidth-p.ensures.area_after ∙ rw (c.medias-owner.ensures.0, medias_count ρ.session t h.within _ h.bytes, c.span_of-bwtype.ensures) (bandwidths-grown ρ.session t h.within _ h.bytes q).1) (within-bandwidths ρ.session h.within) refl refl refl)
