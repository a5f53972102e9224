-- `sdp_put::clean_at` meets its contract. Assumes nothing.
use Rattle.sdp_put.proofs.StringLaws.{clean_more, clean_done}
use Rattle.sdp_put.proofs.OutLaws.{begin, turn, finish}
use mathlib.Core.Path.{refl}
use native.Mathlib.Omega.{arith}
use Rattle.sdp_put.proofs.clean_at.Goals as goal

pub loop-b-init : goal.loop-b-init
loop-b-init c = (refl, begin refl)

pub loop-b-preserved : goal.loop-b-preserved
loop-b-preserved c =
    (omega arith, turn c.loop-b.invariant.1 (clean_more _ _ c.loop-b-test.true) c.kept_at-p.ensures)

pub returns : goal.returns
returns c = finish c.loop-b.invariant.1 (clean_done _ _ c.loop-b-test.false)
