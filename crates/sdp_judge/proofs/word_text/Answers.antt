-- `sdp_judge::word_text` meets its contract. Assumes nothing.
use Rattle.sdp_split.proofs.WordLaws.{word_within}
use Rattle.sdp_judge.proofs.word_text.Goals as goal

pub text_of-requires : goal.text_of-requires
text_of-requires c = rw c.word_at.ensures (word_within _ _)
