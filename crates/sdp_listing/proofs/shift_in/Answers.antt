-- `sdp_listing::shift_in` meets its contract. The invariant: what is still to be done gives the whole. Assumes nothing.
use mathlib.Core.Path.{◌≡◌, refl, ◌∙◌}
use native.Mathlib.Omega.{arith}
use lib.ListN.{length-set}
use Rattle.sdp_listing.proofs.ShiftLaws.{shift_turn, shift_end}
use Rattle.sdp_listing.proofs.shift_in.Goals as goal

pub loop-i-init : goal.loop-i-init
loop-i-init c = (c.requires.0, refl, refl)

pub loop-i-preserved : goal.loop-i-preserved
loop-i-preserved c =
    let e = shift_turn _ _ _ _ c.loop-i-test.true (omega (arith, c.requires.1)) ∙ c.loop-i.invariant.2 in
    (omega arith, simp length-set (omega arith), e)

pub returns : goal.returns
returns c =
    let e : c.loop-i.i ≡ c.args.n = omega (arith, c.loop-i.invariant.0, c.loop-i-test.false) in
    rw e at (shift_end _ _ _ _ c.loop-i-test.false (omega (arith, c.requires.1, c.loop-i.invariant.0)) ∙ c.loop-i.invariant.2)
