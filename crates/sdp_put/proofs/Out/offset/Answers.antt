-- `sdp_put::Out::offset` meets its contract. Assumes nothing.
use Rattle.sdp_put.proofs.DigitLaws.{offset-minus, offset-plain}
use Rattle.sdp_put.proofs.PutsLaws.{said, ◌then◌}
use mathlib.Core.Path.{sym}
use Rattle.sdp_put.proofs.Out.offset.Goals as goal
use Rattle.sdp_put.proofs.Out.offset.Goals.{then-negative, else-negative}

pub returns : goal.returns
returns c =
    elim c.if-negative.branch [
      | then-negative w ↦ said (sym (offset-minus _ _ w.if-negative.true)) (w.byte.ensures then (rw w.self-is at c.time.ensures))
      | else-negative w ↦ said (sym (offset-plain _ _ w.if-negative.false)) (rw w.self-is at c.time.ensures)
    ]
