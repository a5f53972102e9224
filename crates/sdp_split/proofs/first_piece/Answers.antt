-- `sdp_split::first_piece_lem` meets its contract. Assumes nothing.
use Rattle.sdp_split.specs.Split.{first_piece}
use Rattle.sdp_split.proofs.first_piece.Goals as goal

pub returns : goal.returns
unfolding first_piece
returns c = c.piece_from.ensures
