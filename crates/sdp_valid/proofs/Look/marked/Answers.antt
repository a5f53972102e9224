-- `sdp_valid::Look::marked` meets its contract. Assumes nothing.
use mathlib.Core.Path.{◌∙◌}
use Rattle.sdp_valid.proofs.JudgeLaws.{if_absent, if_present, if_neither}
use Rattle.sdp_valid.proofs.Look.marked.Goals as goal
use Rattle.sdp_valid.proofs.Look.marked.Goals.{then-mark-eq0, else-mark-eq0+then-mark-eq1, else-mark-eq0+else-mark-eq1}

pub returns : goal.returns
returns g c =
    elim c.if-mark-eq0.branch [
      | then-mark-eq0 w ↦ w.result-is ∙ if_absent _ _ _ c.get2-mark.ensures.0 w.if-mark-eq0.true
      | else-mark-eq0+then-mark-eq1 w ↦
          w.result-is ∙ if_present _ _ _ c.get2-mark.ensures.0 w.if-mark-eq1.true _ (c.requires.1.1.1 _ w.fine.ensures)
      | else-mark-eq0+else-mark-eq1 w ↦ w.result-is ∙ if_neither _ _ _ c.get2-mark.ensures.0 w.if-mark-eq0.false w.if-mark-eq1.false
    ]
