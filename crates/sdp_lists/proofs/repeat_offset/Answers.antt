-- `sdp_lists::repeat_offset` meets its contract. Assumes nothing.
use Rattle.sdp_split.proofs.WordLaws.{word_within}
use Rattle.sdp_lists.proofs.repeat_offset.Goals as goal

pub time_of-requires : goal.time_of-requires
time_of-requires c = rw c.word_at.ensures (word_within _ _)
