-- `sdp_turn::wrong_at` meets its contract. Assumes nothing.
use Rattle.std.proofs.Common.{refl, ◌∙◌}
use Rattle.sdp_turn.proofs.TurnLaws.{byte_told, none_told}
use Rattle.sdp_turn.proofs.wrong_at.Goals as goal

pub returns-then-w-ne8 : goal.returns-then-w-ne8
returns-then-w-ne8 c = λ h. c.on_line-told.ensures ∙ none_told _ _ _ c.if-w-ne8.true

pub returns : goal.returns
returns c = λ h. rw c.on_line-told.ensures (byte_told _ _ _ _ c.if-w-ne8.false refl h)
