-- `sdp_put::copy_each` meets its contract. Assumes nothing.
use Rattle.std.proofs.lemmas.List.{take_more, take_more_set}
use lib.ListN.{get_or, length-set}
use lib.Seq.{take_all}
use mathlib.Core.List.{List, [], ◌∷◌, ◌++◌}
use mathlib.Core.Path.{refl, sym, ap, ◌∙◌}
use native.Mathlib.Omega.{arith}
use Prim.Native.Nat.{ℕ}
use Rattle.sdp_put.proofs.copy_each.Goals as goal

pub loop-i-init : goal.loop-i-init
loop-i-init c = (refl, refl)

pub loop-i-preserved : goal.loop-i-preserved
loop-i-preserved c =
    let b = get_or c.args.s.now c.loop-i.i 0 in (
      length-set _ _ _ ∙ c.loop-i.invariant.0,
      take_more_set c.loop-i.out c.loop-i.i b (omega arith) ∙ ap (λ (t : List ℕ). t ++ (b ∷ [])) c.loop-i.invariant.1 ∙ sym (take_more c.args.s.now c.loop-i.i 0 c.loop-i-test.true),
    )

pub returns : goal.returns
returns c = sym (take_all c.loop-i.i c.loop-i.out (omega arith)) ∙ c.loop-i.invariant.1 ∙ take_all c.loop-i.i c.args.s.now c.loop-i-test.false
