-- `sdp_take_once::take_text` meets its contract. Assumes nothing.
use Rattle.std.proofs.lemmas.Result.{err_from_is_err_and}
use mathlib.Core.Path.{sym, ap, ◌∙◌}
use native.Mathlib.Omega.{arith}
use mathlib.Core.List.{◌++◌}
use Rattle.sdp_cells.specs.Bytes.{le}
use Rattle.sdp_area.specs.Area.{span}
use Rattle.sdp_area.specs.Which.{over_text}
use Rattle.sdp_lines.specs.declared.Span.{Span}
use Rattle.sdp_judge.proofs.EveryLaws.{whole-within}
use Rattle.sdp_strings.specs.Strings.{span_at}
use Rattle.sdp_take_once.proofs.TextLaws.{text-second, text_wrong, text-kept}
use Rattle.sdp_take_once.proofs.take_text.Goals as goal

pub returns-then-has_text : goal.returns-then-has_text
returns-then-has_text c ρ t h =
    let b = c.args in
    rw c.text_number.ensures (text-second ρ b.marks b.area.now t h (span_at b.at b.v.now) b.v.now b.which (sym c.has_text.ensures ∙ c.if-has_text.true))

pub span_of-x-requires : goal.span_of-x-requires
span_of-x-requires c =
    omega (arith, whole-within _ _ _ (sym c.whole.ensures ∙ c.in_ok-p.was), c.requires.1)

pub returns-in_err-p : goal.returns-in_err-p
returns-in_err-p c ρ t h =
    let b = c.args in
    let u = err_from_is_err_and c.from_residual.result c.from_residual.ensures.1 in
    rw (u.1, u.2) ((text_wrong ρ b.marks b.area.now t h (span_at b.at b.v.now) b.v.now b.which (sym c.has_text.ensures ∙ c.if-has_text.false) _ c.text_field.ensures _ (sym c.whole.ensures ∙ c.in_err-p.was)))

pub returns : goal.returns
returns c ρ t h =
    let b = c.args in
    text-kept ρ b.marks b.area.now t h (span_at b.at b.v.now) b.v.now b.which (sym c.has_text.ensures ∙ c.if-has_text.false) _ c.text_field.ensures _ _ (sym c.whole.ensures ∙ c.in_ok-p.was) (c.set_text.ensures ∙ ap (λ (y : Span). over_text b.which b.area.now (le 2 1 ++ span y)) c.span_of-x.ensures)
