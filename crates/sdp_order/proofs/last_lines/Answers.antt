-- `sdp_order::last_lines` meets its contract. Assumes nothing.
use mathlib.Core.Path.{refl, ◌∙◌}
use Rattle.sdp_order.specs.Expression.{maybe_empty}
use Rattle.sdp_order.specs.From.{begins}
use Rattle.sdp_order.proofs.last_lines.Goals as goal

pub returns : goal.returns
unfolding begins maybe_empty
returns c = (c.maybe-a.ensures _ refl).rest ∙ (c.many.ensures _ refl).rest
