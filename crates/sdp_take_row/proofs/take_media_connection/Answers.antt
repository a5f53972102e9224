-- `sdp_take_row::take_media_connection` meets its contract. Assumes nothing.
use Rattle.std.proofs.lemmas.Result.{err_from_is_err_and}
use mathlib.Core.Path.{refl, sym, ◌∙◌}
use native.Mathlib.Omega.{arith}
use Rattle.sdp_fields.proofs.BoundLaws.{connection_within}
use Rattle.sdp_area.specs.With.{with_connections}
use Rattle.sdp_area.proofs.GrownLaws.{connections-grown, medias_count}
use Rattle.sdp_step.specs.Step.{step_role}
use Rattle.sdp_step.proofs.HandleLaws.{row_wrong, row_pushed}
use Rattle.sdp_step.proofs.TailLaws.{held, tail_of}
use Rattle.sdp_step.proofs.WithinLaws.{within-connections}
use mathlib.Core.List.{[]}
use Rattle.sdp_strings.specs.Strings.{span_at}
use lib.ListN.{length}
use Rattle.sdp_step.specs.Step.{media_connection_in}
use Rattle.sdp_take_row.proofs.take_media_connection.Goals as goal

pub span_of-nettype-requires : goal.span_of-nettype-requires
span_of-nettype-requires c =
    omega (arith, (connection_within _ _ (sym c.parse.ensures ∙ c.in_ok-c.was)).nettype, c.requires.1)

pub span_of-addrtype-requires : goal.span_of-addrtype-requires
span_of-addrtype-requires c =
    omega (arith, (connection_within _ _ (sym c.parse.ensures ∙ c.in_ok-c.was)).addrtype, c.requires.1)

pub span_of-address-requires : goal.span_of-address-requires
span_of-address-requires c =
    omega (arith, (connection_within _ _ (sym c.parse.ensures ∙ c.in_ok-c.was)).address, c.requires.1)

pub returns-in_err-c : goal.returns-in_err-c
unfolding step_role
returns-in_err-c c ρ t h =
    let u = err_from_is_err_and c.from_residual.result c.from_residual.ensures.1 in
    rw (u.1, u.2) ((row_wrong 3 64 _ _ _ (held h) t _ (sym c.parse.ensures ∙ c.in_err-c.was) (tail_of h)))

pub returns : goal.returns
unfolding step_role
returns c ρ t h =
    let q = media_connection_in (span_at c.args.at []) (length ρ.session.tables.medias) c.in_ok-c.c in
    rw c.stored.ensures (row_pushed 3 64 ρ.session.tables.connections _ _ _ (sym c.parse.ensures ∙ c.in_ok-c.was) q (with_connections ρ.session) _ t _ _ ρ h _ (c.push_connection-p.ensures.value ∙ (connections-grown ρ.session t h.within _ h.bytes q).0) (c.push_connection-p.ensures.area_after ∙ rw (c.medias-owner.ensures.0, medias_count ρ.session t h.within _ h.bytes, c.span_of-nettype.ensures, c.span_of-addrtype.ensures, c.span_of-address.ensures) (connections-grown ρ.session t h.within _ h.bytes q).1) (within-connections ρ.session h.within) refl refl refl)
