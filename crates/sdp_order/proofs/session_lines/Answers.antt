-- `sdp_order::session_lines` meets its contract. Assumes nothing.
use mathlib.Core.Path.{refl, ◌∙◌}
use Rattle.sdp_order.specs.Expression.{maybe_empty}
use Rattle.sdp_order.specs.From.{begins}
use Rattle.sdp_order.proofs.session_lines.Goals as goal

pub returns : goal.returns
unfolding begins maybe_empty
returns c =
    (c.maybe-u.ensures _ refl).rest ∙ (c.maybe-e.ensures _ refl).rest ∙ (c.many-p.ensures _ refl).rest ∙ (c.many-c.ensures _ refl).rest ∙ (c.maybe-b.ensures _ refl).rest ∙ (c.many.ensures _ refl).rest
