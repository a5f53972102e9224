-- `sdp_judge::word_token` meets its contract. Assumes nothing.
use Rattle.sdp_split.proofs.WordLaws.{word_within}
use Rattle.sdp_judge.proofs.word_token.Goals as goal

pub token_of-requires : goal.token_of-requires
token_of-requires c = rw c.word_at.ensures (word_within _ _)
