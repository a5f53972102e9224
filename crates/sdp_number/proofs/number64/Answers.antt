-- `sdp_number::number64` meets its contract. Assumes nothing.
use Rattle.sdp_number.specs.Number.{numeral, whole_number}
use Rattle.sdp_number.proofs.number64.Goals as goal

pub returns : goal.returns
unfolding whole_number numeral
returns c = c.number_to.ensures
