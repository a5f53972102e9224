-- `sdp_order::letter_order` meets its contract. Assumes nothing.
use Rattle.std.proofs.Common.{rules}
use Rattle.sdp_order.proofs.AnswerLaws.{too_long, ends_or_not, judged}
use Rattle.sdp_order.proofs.letter_order.Goals as goal

pub returns-then-text-gt32768 : goal.returns-then-text-gt32768
returns-then-text-gt32768 c = too_long _ c.if-text-gt32768.true

pub returns : goal.returns
returns c = judged _ c.if-text-gt32768.false _ (ends_or_not _ _ _ _ c.all_lines.ensures c.is_some_and.ensures (λ end h. search rules))
