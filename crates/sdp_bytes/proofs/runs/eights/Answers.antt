-- `sdp_bytes::runs::eights` meets its contract. The invariant: the whole list's run is i and the run of the rest from i.
-- Assumes nothing.
use mathlib.Core.Path.{sym, ◌∙◌}
use native.Mathlib.Omega.{arith}
use Rattle.sdp_bytes.proofs.ScanLaws.{rest_from, run_on}
use Rattle.sdp_bytes.proofs.runs.eights.Goals as goal

pub loop-i-preserved : goal.loop-i-preserved
loop-i-preserved c =
    let e = rw rest_from at (sym c.eight.ensures) ∙ c.loop-i-test.true in
    run_on _ _ _ c.loop-i.invariant 8 e

pub overflow_add-i : goal.overflow_add-i
overflow_add-i c = let h = loop-i-preserved c in omega arith

pub loop-i-smaller : goal.loop-i-smaller
loop-i-smaller c = let h = loop-i-preserved c in omega arith

pub returns : goal.returns
returns c = omega (arith, c.loop-i.invariant)
