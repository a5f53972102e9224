-- `sdp_split::piece_after` meets its contract. Assumes nothing.
use mathlib.Core.Path.{◌∙◌}
use Rattle.sdp_split.proofs.SplitLaws.{after_here, after-past}
use Rattle.sdp_split.proofs.piece_after.Goals as goal

pub returns-then-e-v : goal.returns-then-e-v
returns-then-e-v c = c.piece_from.ensures ∙ after_here _ _ c.if-e-v.true _

pub returns : goal.returns
returns c = after-past _ _ c.if-e-v.false _
