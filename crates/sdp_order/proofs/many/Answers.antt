-- `sdp_order::many` meets its contract. Assumes nothing.
use Prim.Native.Nat.{◌-◌}
use native.Mathlib.Omega.{arith}
use mathlib.Core.Path.{refl}
use Rattle.sdp_order.proofs.PassLaws.{passes_on, many_came, many_none}
use Rattle.sdp_order.proofs.many.Goals as goal

pub loop-next-init : goal.loop-next-init
loop-next-init c = λ y b. record { onward = omega arith; rest = refl }

pub loop-next-smaller : goal.loop-next-smaller
loop-next-smaller c = let h = c.in-Some.ensures in omega (arith, h.0.stands, h.0.moved)

pub loop-next-preserved : goal.loop-next-preserved
loop-next-preserved c =
    λ y b. passes_on _ _ _ _ _ _ _ (c.loop-next.invariant y b) (many_came _ _ _ y b _ c.in-Some.ensures)

pub returns : goal.returns
returns c =
    λ y b. passes_on _ _ _ _ _ _ _ (c.loop-next.invariant y b) (many_none _ _ _ (c.in_default.ensures) y)
