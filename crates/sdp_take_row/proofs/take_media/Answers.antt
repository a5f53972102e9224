-- `sdp_take_row::take_media` meets its contract. Assumes nothing.
use Rattle.std.proofs.lemmas.Result.{err_from_is_err_and}
use mathlib.Core.Path.{refl, sym, ◌∙◌}
use native.Mathlib.Omega.{arith}
use Rattle.sdp_media_line.proofs.BoundLaws.{media-within}
use Rattle.sdp_area.specs.With.{with_medias}
use Rattle.sdp_area.proofs.GrownLaws.{medias-grown}
use Rattle.sdp_step.specs.Step.{step_role}
use Rattle.sdp_step.proofs.HandleLaws.{row_wrong, row_pushed}
use Rattle.sdp_step.proofs.TailLaws.{held, tail_of}
use Rattle.sdp_step.proofs.WithinLaws.{within-medias}
use mathlib.Core.List.{[]}
use Rattle.sdp_strings.specs.Strings.{span_at}
use Rattle.sdp_step.specs.Step.{media_in}
use Rattle.sdp_take_row.proofs.take_media.Goals as goal

pub span_of-media-requires : goal.span_of-media-requires
span_of-media-requires c =
    omega (arith, (media-within _ _ (sym c.parse_m_line.ensures ∙ c.in_ok-m.was)).media, c.requires.1)

pub span_of-proto-requires : goal.span_of-proto-requires
span_of-proto-requires c =
    omega (arith, (media-within _ _ (sym c.parse_m_line.ensures ∙ c.in_ok-m.was)).proto, c.requires.1)

pub span_of-fmt-requires : goal.span_of-fmt-requires
span_of-fmt-requires c =
    omega (arith, (media-within _ _ (sym c.parse_m_line.ensures ∙ c.in_ok-m.was)).fmt, c.requires.1)

pub returns-in_err-m : goal.returns-in_err-m
unfolding step_role
returns-in_err-m c ρ t h =
    let u = err_from_is_err_and c.from_residual.result c.from_residual.ensures.1 in
    rw (u.1, u.2) ((row_wrong 10 32 _ _ _ (held h) t _ (sym c.parse_m_line.ensures ∙ c.in_err-m.was) (tail_of h)))

pub returns : goal.returns
unfolding step_role
returns c ρ t h =
    let q = media_in (span_at c.args.at []) c.in_ok-m.m in
    rw c.stored.ensures (row_pushed 10 32 ρ.session.tables.medias _ _ _ (sym c.parse_m_line.ensures ∙ c.in_ok-m.was) q (with_medias ρ.session) _ t _ _ ρ h _ (c.push_media-p.ensures.value ∙ (medias-grown ρ.session t h.within _ h.bytes q).0) (c.push_media-p.ensures.area_after ∙ rw (c.span_of-media.ensures, c.ports_of-ports.ensures, c.span_of-proto.ensures, c.span_of-fmt.ensures) (medias-grown ρ.session t h.within _ h.bytes q).1) (within-medias ρ.session h.within) refl refl refl)
