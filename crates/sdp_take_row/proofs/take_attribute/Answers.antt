-- `sdp_take_row::take_attribute` meets its contract. Assumes nothing.
use Rattle.std.proofs.lemmas.Result.{err_from_is_err_and}
use mathlib.Core.Path.{refl, sym, ◌∙◌}
use native.Mathlib.Omega.{arith}
use Rattle.sdp_fields.proofs.BoundLaws.{attribute-within}
use Rattle.sdp_area.specs.With.{with_attributes}
use Rattle.sdp_area.proofs.GrownLaws.{attributes-grown, medias_count}
use Rattle.sdp_step.specs.Step.{step_role}
use Rattle.sdp_step.proofs.MaybeLaws.{maybe_fits}
use Rattle.sdp_step.proofs.HandleLaws.{row_wrong, row_pushed}
use Rattle.sdp_step.proofs.TailLaws.{held, tail_of}
use Rattle.sdp_step.proofs.WithinLaws.{within-attributes}
use mathlib.Core.List.{[]}
use Rattle.sdp_strings.specs.Strings.{span_at}
use lib.ListN.{length}
use Rattle.sdp_step.specs.Step.{attribute_in}
use Rattle.sdp_take_row.proofs.take_attribute.Goals as goal

pub span_of-name-requires : goal.span_of-name-requires
span_of-name-requires c =
    omega (arith, (attribute-within _ _ (sym c.parse.ensures ∙ c.in_ok-k.was)).attribute, c.requires.1)

pub maybe_of-value-requires : goal.maybe_of-value-requires
maybe_of-value-requires c =
    maybe_fits _ _ _ _ (attribute-within _ _ (sym c.parse.ensures ∙ c.in_ok-k.was)).value c.requires.1

pub returns-in_err-k : goal.returns-in_err-k
unfolding step_role
returns-in_err-k c ρ t h =
    let u = err_from_is_err_and c.from_residual.result c.from_residual.ensures.1 in
    rw (u.1, u.2) ((row_wrong 9 512 _ _ _ (held h) t _ (sym c.parse.ensures ∙ c.in_err-k.was) (tail_of h)))

pub returns : goal.returns
unfolding step_role
returns c ρ t h =
    let q = attribute_in (span_at c.args.at []) (length ρ.session.tables.medias) c.in_ok-k.k in
    rw c.stored.ensures (row_pushed 9 512 ρ.session.tables.attributes _ _ _ (sym c.parse.ensures ∙ c.in_ok-k.was) q (with_attributes ρ.session) _ t _ _ ρ h _ (c.push_attribute-p.ensures.value ∙ (attributes-grown ρ.session t h.within _ h.bytes q).0) (c.push_attribute-p.ensures.area_after ∙ rw (c.medias-owner.ensures.0, medias_count ρ.session t h.within _ h.bytes, c.span_of-name.ensures, c.maybe_of-value.ensures) (attributes-grown ρ.session t h.within _ h.bytes q).1) (within-attributes ρ.session h.within) refl refl refl)
