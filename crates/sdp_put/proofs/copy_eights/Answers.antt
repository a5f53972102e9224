-- `sdp_put::copy_eights` meets its contract. Assumes nothing.
use Rattle.sdp_put.proofs.StringLaws.{stored_more, stored_last}
use Rattle.sdp_put.proofs.OutLaws.{length-put, put_whole}
use Rattle.sdp_put.specs.Out.{put}
use Rattle.sdp_cells.specs.Bytes.{le}
use Prim.Native.Nat.{ℕ, ◌+◌, ◌-◌}
use lib.ListN.{length}
use mathlib.Core.Path.{◌≡◌, refl, ap, ◌∙◌}
use native.Mathlib.Omega.{arith}
use Rattle.sdp_put.proofs.copy_eights.Goals as goal

pub loop-i-init : goal.loop-i-init
unfolding put
loop-i-init c = (refl, omega arith, refl, refl)

pub loop-i-preserved : goal.loop-i-preserved
loop-i-preserved c =
    let z = ap (λ (j : ℕ). put c.loop-i.out j (le 8 c.get8.result)) (let e : c.loop-i.i ≡ 0 + c.loop-i.i = omega arith in e) in
    let e = stored_more c.args.out.now c.loop-i.out _ c.args.s.now (λ i. omega (arith, c.type_inv.s i)) 0 c.loop-i.i c.loop-i.i _ c.get8.ensures c.loop-i.invariant.3 (c.store8.ensures ∙ z) refl (omega arith) in
    (c.loop-i.invariant.0, omega arith, ap length e ∙ length-put _ _ _, e)

pub returns : goal.returns
returns c =
    let k = length c.args.s.now - 8 in
    let z = ap (λ (j : ℕ). put c.loop-i.out j (le 8 c.get8-2.result)) (let e : k ≡ 0 + k = omega arith in e) in
    stored_last c.args.out.now c.loop-i.out _ c.args.s.now (λ i. omega (arith, c.type_inv.s i)) 0 c.loop-i.i k _ c.get8-2.ensures c.loop-i.invariant.3 (c.store8-2.ensures ∙ z) (omega arith) (omega arith) (omega arith) (omega arith)
    ∙ put_whole _ _ c.requires.1
