-- `sdp_put::Out::text` meets its contract. Assumes nothing.
use Rattle.sdp_put.proofs.StringLaws.{part_upto, clean_none}
use Rattle.sdp_put.proofs.PutsLaws.{said, nothing}
use Rattle.sdp_put.specs.Strings.{clean}
use mathlib.Core.Path.{sym, ap, ◌∙◌}
use Rattle.sdp_put.proofs.Out.text.Goals as goal

pub returns-else-place-end : goal.returns-else-place-end
returns-else-place-end c =
    let e = c.end_of-end.ensures in
    said (sym (ap clean (part_upto _ _ _ _ e.0 e.1.0 e.1.1) ∙ clean_none _ _ _ c.if-place-end.false)) (nothing _)

pub returns-then-place-end : goal.returns-then-place-end
returns-then-place-end c =
    let e = c.end_of-end.ensures in
    said (sym (ap clean (part_upto _ _ _ _ e.0 e.1.0 e.1.1))) c.clean.ensures
