-- `sdp_cutter::move_at` meets its contract. Assumes nothing.
use mathlib.Core.Path.{sym, ◌∙◌}
use Rattle.sdp_cutter.proofs.MoveLaws.{move_by_lem}
use Rattle.sdp_cutter.proofs.move_at.Goals as goal

pub returns-in-Line : goal.returns-in-Line
returns-in-Line c = c.past.ensures ∙ sym (move_by_lem _ _ _ _ (sym c.cut.ensures ∙ c.in-Line.is))

pub returns-in-Empty : goal.returns-in-Empty
returns-in-Empty c = c.past-in-Empty.ensures ∙ sym (move_by_lem _ _ _ _ (sym c.cut.ensures ∙ c.in-Empty.is))

pub returns-in-Refused : goal.returns-in-Refused
returns-in-Refused c =
    c.past-in-Refused.ensures ∙ sym (move_by_lem _ _ _ _ (sym c.cut.ensures ∙ c.in-Refused.is))

pub returns-in-End : goal.returns-in-End
returns-in-End c = c.past-in-End.ensures ∙ sym (move_by_lem _ _ _ _ (sym c.cut.ensures ∙ c.in-End.is))
