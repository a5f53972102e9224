-- `sdp_number::number_to` meets its contract. Assumes nothing.
use mathlib.Core.Path.{sym, ◌∙◌}
use Rattle.sdp_number.proofs.NumberLaws.{number_value, number_format}
use Rattle.sdp_number.proofs.number_to.Goals as goal

pub returns-in-Ok : goal.returns-in-Ok
returns-in-Ok c = number_value _ _ _ (sym c.numeral_to.ensures ∙ c.in-Ok.is)

pub returns-in-Err : goal.returns-in-Err
returns-in-Err c = number_format _ _ _ (sym c.numeral_to.ensures ∙ c.in-Err.is) (sym c.is_utf8.ensures ∙ c.if-is_utf8.true)
