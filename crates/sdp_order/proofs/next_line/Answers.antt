-- `sdp_order::next_line` meets its contract. Assumes nothing.
use Prim.Native.Nat.{◌-◌}
use native.Mathlib.Omega.{arith}
use mathlib.Core.Path.{refl, sym, ◌∙◌}
use Rattle.sdp_order.proofs.SeenLaws.{seen}
use Rattle.sdp_order.proofs.FindLaws.{skips_empty, follows_line}
use Rattle.sdp_order.proofs.next_line.Goals as goal

pub loop-fault-init : goal.loop-fault-init
loop-fault-init c = record { onward = omega arith; same = λ x. refl }

pub returns-in-End : goal.returns-in-End
returns-in-End c =
    let l = c.loop-fault in λ x. l.invariant.same x ∙ seen _ l.c _ (sym c.cut.ensures ∙ c.in-End.is) x

pub returns-in-Refused : goal.returns-in-Refused
returns-in-Refused c =
    let l = c.loop-fault in λ x. l.invariant.same x ∙ seen _ l.c _ (sym c.cut.ensures ∙ c.in-Refused.is) x

pub loop-fault-smaller : goal.loop-fault-smaller
loop-fault-smaller c =
    let h = seen _ c.loop-fault.c _ (sym c.cut.ensures ∙ c.in-Empty.is) in omega (arith, h.0.stands, h.0.moved)

pub loop-fault-preserved : goal.loop-fault-preserved
loop-fault-preserved c =
    skips_empty _ _ _ c.loop-fault.invariant _ (seen _ c.loop-fault.c _ (sym c.cut.ensures ∙ c.in-Empty.is))

pub returns-in-Line : goal.returns-in-Line
returns-in-Line c =
    follows_line _ _ _ c.loop-fault.invariant _ c.in-Line.value _ (seen _ c.loop-fault.c _ (sym c.cut.ensures ∙ c.in-Line.is))
