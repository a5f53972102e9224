-- `sdp_area::number_words` meets its contract.
-- Assumes nothing.
use Rattle.sdp_cells.specs.Bytes.{zeros}
use Rattle.sdp_area.specs.Area.{opt}
use Rattle.sdp_area.proofs.WordLaws.{◌and◌, word_is, none_is}
use Rattle.sdp_area.proofs.number_words.Goals as goal

pub returns-in-Some : goal.returns-in-Some
unfolding opt
returns-in-Some c = let row = word_is 1 and word_is c.in-Some.x in rw c.in-Some.is row.is

pub returns-in-None : goal.returns-in-None
unfolding opt zeros
returns-in-None c = rw c.in-None.is (none_is 2).is
