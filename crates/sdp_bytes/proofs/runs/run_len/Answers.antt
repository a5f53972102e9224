-- `sdp_bytes::runs::run_len` meets its contract. The invariant: the whole list's run is i and the run of the rest from i.
-- Assumes nothing.
use native.Mathlib.Omega.{arith}
use mathlib.Core.Path.{sym, ap, ◌∙◌}
use mathlib.Core.Bool.{not}
use Rattle.sdp_bytes.proofs.ScanLaws.{until_next, until_here, until_done, run-until, run_passed, run_pass}
use Rattle.sdp_bytes.proofs.runs.run_len.Goals as goal

pub loop-i-init : goal.loop-i-init
loop-i-init c = run_passed _ (run_pass _) _ _ c.eights-i.ensures

pub returns-then-not-inside : goal.returns-then-not-inside
returns-then-not-inside c =
    until_here (run-until _) _ _ c.loop-i.invariant c.loop-i-test.true (ap not (sym c.inside.ensures ∙ c.if-not-inside.true))

pub loop-i-preserved : goal.loop-i-preserved
loop-i-preserved c =
    until_next (run-until _) _ _ c.loop-i.invariant c.loop-i-test.true (ap not (sym c.inside.ensures ∙ c.if-not-inside.false))

pub returns : goal.returns
returns c =
    let e = until_done (run-until _) _ _ c.loop-i.invariant c.loop-i-test.false in
    omega (arith, e, c.loop-i.invariant)
