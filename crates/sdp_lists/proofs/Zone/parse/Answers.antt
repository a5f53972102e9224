-- `sdp_lists::Zone::parse` meets its contract. Assumes nothing.
use Rattle.sdp_split.proofs.WordLaws.{word_within}
use Rattle.sdp_lists.proofs.Zone.parse.Goals as goal

pub number_of-requires : goal.number_of-requires
number_of-requires c = rw c.word_at.ensures (word_within _ _)

pub offset_of-requires : goal.offset_of-requires
offset_of-requires c = rw c.word_at-in_default.ensures (word_within _ _)
