-- `sdp_number::digits_to` meets its contract. Assumes nothing.
use mathlib.Core.Path.{sym, ◌∙◌}
use native.Mathlib.Omega.{arith}
use Rattle.sdp_number.proofs.NumberLaws.{started, empty, low, high, next, over, done}
use Rattle.sdp_number.proofs.digits_to.Goals as goal

pub returns-then-s-eq0 : goal.returns-then-s-eq0
returns-then-s-eq0 c = sym (empty _ _ c.if-s-eq0.true)

pub loop-b-init : goal.loop-b-init
loop-b-init c = (omega arith, started _ _ (omega arith))

pub returns-then-b-lt48 : goal.returns-then-b-lt48
returns-then-b-lt48 c = sym (c.loop-b.invariant.1 ∙ low _ _ _ _ c.loop-b-test.true c.if-b-lt48.true)

pub returns-then-b-gt57 : goal.returns-then-b-gt57
returns-then-b-gt57 c = sym (c.loop-b.invariant.1 ∙ high _ _ _ _ c.loop-b-test.true c.if-b-gt57.true)

pub returns-then-max-v : goal.returns-then-max-v
returns-then-max-v c =
    sym (c.loop-b.invariant.1 ∙ over _ _ _ _ c.loop-b-test.true c.if-b-lt48.false c.if-b-gt57.false (omega arith))

pub returns-then-max-v-2 : goal.returns-then-max-v-2
returns-then-max-v-2 c =
    sym (c.loop-b.invariant.1 ∙ over _ _ _ _ c.loop-b-test.true c.if-b-lt48.false c.if-b-gt57.false (omega (arith, c.from-d.ensures)))

pub loop-b-preserved : goal.loop-b-preserved
loop-b-preserved c = (
  omega arith,
  rw c.from-d.ensures (c.loop-b.invariant.1 ∙ next _ _ _ _ c.loop-b-test.true c.if-b-lt48.false c.if-b-gt57.false),
)

pub returns : goal.returns
returns c = sym (c.loop-b.invariant.1 ∙ done _ _ _ _ c.loop-b-test.false (omega arith))
