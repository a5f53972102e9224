-- `Listing::place_of` of `sdp_listing` meets its contract. Assumes nothing.
use mathlib.Core.Path.{◌≡◌, sym, ◌∙◌}
use native.Mathlib.Omega.{arith}
use Rattle.sdp_listing.proofs.PlaceLaws.{place_all, place_stop, place_next, place_done}
use Rattle.sdp_listing.proofs.Listing.place_of.Goals as goal

pub loop-i-init : goal.loop-i-init
loop-i-init c = (omega arith, place_all _ _ _)

pub returns-then-comes_first : goal.returns-then-comes_first
returns-then-comes_first c =
    (place_stop _ _ _ _ _ c.loop-i.invariant.1 c.loop-i-test.true (rw (← c.row.ensures) (sym c.comes_first.ensures ∙ c.if-comes_first.true)), omega arith)

pub loop-i-preserved : goal.loop-i-preserved
loop-i-preserved c =
    (omega arith, place_next _ _ _ _ _ c.loop-i.invariant.1 c.loop-i-test.true (rw (← c.row.ensures) (sym c.comes_first.ensures ∙ c.if-comes_first.false)))

pub returns : goal.returns
returns c =
    let e : c.loop-i.i ≡ c.args.self.now.len = omega (arith, c.loop-i.invariant.0, c.loop-i-test.false) in
    (sym e ∙ place_done _ _ _ _ _ c.loop-i.invariant.1 c.loop-i-test.false, omega arith)
