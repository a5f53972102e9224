-- `sdp_split::word_at` meets its contract. Assumes nothing.
use mathlib.Core.Path.{refl, ◌∙◌}
use native.Mathlib.Omega.{arith}
use Rattle.sdp_split.proofs.SplitLaws.{spaces-fit}
use Rattle.sdp_split.proofs.WordLaws.{word_here, word_past}
use Rattle.sdp_split.proofs.word_at.Goals as goal

pub returns-then-v-i : goal.returns-then-v-i
returns-then-v-i c = let a = c.args in word_past a.v.now a.i _ refl (omega arith)

pub overflow_add-at : goal.overflow_add-at
overflow_add-at c =
    let a = c.args in omega (arith, spaces-fit a.v.now a.i c.spaces_at.result c.spaces_at.ensures (omega arith))

pub returns-then-at-v : goal.returns-then-at-v
returns-then-at-v c = c.piece_from.ensures ∙ word_here _ _ _ c.spaces_at.ensures c.if-at-v.true

pub returns : goal.returns
returns c = word_past _ _ _ c.spaces_at.ensures c.if-at-v.false
