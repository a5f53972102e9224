-- `sdp_lines::form_of` meets its contract. Assumes nothing.
use mathlib.Core.Path.{sym, ◌∙◌}
use borrow.Author.Tests.{eqb-true, eqb-false}
use Rattle.sdp_lines.proofs.LineLaws.{form_blank, form_none, form_second, form_later}
use Rattle.sdp_lines.proofs.form_of.Goals as goal

pub returns-then-is_empty : goal.returns-then-is_empty
returns-then-is_empty c = sym (form_blank _ (eqb-true _ _ (sym c.if-is_empty.ensures)))

pub returns-then-equals_second : goal.returns-then-equals_second
returns-then-equals_second c = sym (form_second _ (sym c.equals_second.ensures ∙ c.if-equals_second.true))

pub returns-then-index_of-s : goal.returns-then-index_of-s
returns-then-index_of-s c =
    sym (form_none _ (eqb-false _ _ (sym c.if-is_empty.ensures)) _ c.index_of.ensures c.if-index_of-s.true)

pub returns : goal.returns
returns c =
    sym (form_later _ (sym c.equals_second.ensures ∙ c.if-equals_second.false) (eqb-false _ _ (sym c.if-is_empty.ensures)) _ c.index_of.ensures c.if-index_of-s.false)
