-- `sdp_number::numeral_to` meets its contract. Assumes nothing.
use mathlib.Core.Path.{sym, ap, ◌∙◌}
use Rattle.sdp_bytes.proofs.ScanLaws.{rest_from}
use Rattle.sdp_number.proofs.NumberLaws.{plus_none, plus_yes, plus_no}
use Rattle.sdp_number.specs.Number.{digits_below}
use Rattle.sdp_number.proofs.numeral_to.Goals as goal

pub returns-then-s-eq0 : goal.returns-then-s-eq0
returns-then-s-eq0 c = sym (plus_none _ _ c.if-s-eq0.true)

pub returns-then-s-eq43 : goal.returns-then-s-eq43
returns-then-s-eq43 c =
    rw rest_from at c.digits_to.ensures ∙ ap (digits_below _) (sym (plus_yes _ c.if-s-eq43.true))

pub returns : goal.returns
returns c = c.digits_to-2.ensures ∙ ap (digits_below _) (sym (plus_no _ c.if-s-eq43.false))
