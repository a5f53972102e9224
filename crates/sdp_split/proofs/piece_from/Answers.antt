-- `sdp_split::piece_from` meets its contract: its length is the index of the separator in the rest. Assumes nothing.
use native.Mathlib.Omega.{arith}
use Rattle.sdp_split.proofs.SplitLaws.{piece_is, piece_fits}
use Rattle.sdp_split.proofs.piece_from.Goals as goal

pub overflow_add-result : goal.overflow_add-result
overflow_add-result c =
    let a = c.args in omega (arith, piece_fits a.sep a.v.now a.i c.index_of-len.result c.index_of-len.ensures c.requires)

pub returns : goal.returns
returns c = piece_is _ _ _ _ c.index_of-len.ensures
