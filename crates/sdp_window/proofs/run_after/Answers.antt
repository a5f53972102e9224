-- `sdp_window::run_after` meets its contract. Assumes nothing.
use mathlib.Core.Path.{◌≡◌, ◌∙◌}
use Prim.Native.Nat.{◌+◌, ◌-◌}
use native.Mathlib.Omega.{arith}
use Rattle.sdp_window.proofs.RunLaws.{after_none, after_some, after-past}
use Rattle.sdp_window.proofs.run_after.Goals as goal

pub returns-then-r-eq0 : goal.returns-then-r-eq0
returns-then-r-eq0 c = c.run_from.ensures ∙ after_none _ _ _ _ c.if-r-eq0.true

pub returns-in-None : goal.returns-in-None
returns-in-None c = after-past _ _ _ _ c.if-r-eq0.false (omega (arith, c.in-None.ensures))

pub returns-in-Some : goal.returns-in-Some
returns-in-Some c =
    let e : c.in-Some.first ≡ c.args.lo + (c.args.d - c.args.r) = omega (arith, c.in-Some.ensures) in
    c.run_from-in-Some.ensures ∙ rw e (after_some _ _ _ _ c.if-r-eq0.false)
