-- `sdp_answers::piece_of` meets its contract. Assumes nothing.
use mathlib.Core.Path.{sym, ap}
use Rattle.sdp_answers.specs.Boundary.{piece_of}
use Rattle.sdp_answers.proofs.piece_of.Goals as goal

pub returns-in-End : goal.returns-in-End
returns-in-End c = sym (ap (piece_of c.args.line) c.in-End.is)

pub returns-in-Empty : goal.returns-in-Empty
returns-in-Empty c = sym (ap (piece_of c.args.line) c.in-Empty.is)

pub returns-in-Line : goal.returns-in-Line
returns-in-Line c = rw c.from.ensures (sym (ap (piece_of c.args.line) c.in-Line.is))

pub returns-in-Refused : goal.returns-in-Refused
returns-in-Refused c = rw c.number.ensures (sym (ap (piece_of c.args.line) c.in-Refused.is))
