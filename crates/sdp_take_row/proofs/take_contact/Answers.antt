-- `sdp_take_row::take_contact` meets its contract. Assumes nothing.
use Rattle.std.proofs.lemmas.Result.{err_from_is_err_and}
use mathlib.Core.Path.{sym, ap, ◌∙◌}
use native.Mathlib.Omega.{arith}
use Rattle.sdp_lines.specs.declared.Span.{Span}
use Rattle.sdp_cells.specs.Tables.{grown}
use Rattle.sdp_judge.proofs.EveryLaws.{whole-within}
use Rattle.sdp_area.specs.Area.{span}
use Rattle.sdp_area.specs.Which.{contacts_at, most_contacts}
use Rattle.sdp_strings.specs.Strings.{span_at}
use Rattle.sdp_take_row.proofs.ContactLaws.{contact_wrong, contact_pushed}
use Rattle.sdp_take_row.proofs.take_contact.Goals as goal

pub span_of-x-requires : goal.span_of-x-requires
span_of-x-requires c =
    omega (arith, whole-within _ _ _ (sym c.whole.ensures ∙ c.in_ok-p.was), c.requires.1)

pub returns-in_err-p : goal.returns-in_err-p
returns-in_err-p c ρ t h =
    let b = c.args in
    let u = err_from_is_err_and c.from_residual.result c.from_residual.ensures.1 in
    rw (u.1, u.2) ((contact_wrong ρ b.marks b.area.now t h (span_at b.at b.v.now) b.v.now _ b.which c.contact_field.ensures _ (sym c.whole.ensures ∙ c.in_err-p.was)))

pub returns : goal.returns
returns c ρ t h =
    let b = c.args in
    rw (c.stored.ensures, c.contact_table.ensures) (contact_pushed ρ b.marks b.area.now t h (span_at b.at b.v.now) b.v.now _ b.which c.contact_field.ensures _ _ _ (sym c.whole.ensures ∙ c.in_ok-p.was) c.push_contact-p.ensures.value (c.push_contact-p.ensures.area_after ∙ ap (λ (y : Span). grown b.area.now (contacts_at b.which) (most_contacts b.which) (span y)) c.span_of-x.ensures))
