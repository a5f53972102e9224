-- `sdp_judge::word_number` meets its contract. Assumes nothing.
use Rattle.sdp_split.proofs.WordLaws.{word_within}
use Rattle.sdp_judge.proofs.word_number.Goals as goal

pub number_of-requires : goal.number_of-requires
number_of-requires c = rw c.word_at.ensures (word_within _ _)
