-- `sdp_order::media_lines` meets its contract. Assumes nothing.
use mathlib.Core.Path.{refl}
use Rattle.sdp_order.specs.Expression.{maybe_empty}
use Rattle.sdp_order.specs.From.{begins}
use Rattle.sdp_order.proofs.PassLaws.{passes_as, passes_on}
use Rattle.sdp_order.proofs.GrammarLaws.{media-parts}
use Rattle.sdp_order.proofs.media_lines.Goals as goal

pub returns : goal.returns
unfolding begins maybe_empty
returns c =
    passes_as _ _ _ _ _ _ media-parts (passes_on _ _ _ _ _ _ _ (c.maybe-c.ensures _ refl) (passes_on _ _ _ _ _ _ _ (c.many-b.ensures _ refl) (passes_on _ _ _ _ _ _ _ (c.many-k.ensures _ refl) (passes_on _ _ _ _ _ _ _ (c.maybe-a.ensures _ refl) (c.many.ensures _ refl)))))
