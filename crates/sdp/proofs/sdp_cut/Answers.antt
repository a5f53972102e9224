-- `sdp::sdp_cut` meets its contract. Assumes nothing.
use mathlib.Core.Path.{ap, ◌∙◌}
use Rattle.sdp_answers.specs.Boundary.{piece_of}
use Rattle.sdp.proofs.sdp_cut.Goals as goal

pub returns : goal.returns
returns c = c.piece_of.ensures ∙ ap (piece_of c.args.line) c.cut.ensures
