-- `sdp_take_list::take_offsets` meets its contract. Assumes nothing.
use Rattle.std.proofs.lemmas.Result.{err_from_is_err_and}
use Prim.Native.Nat.{◌-◌}
use native.Mathlib.Omega.{arith}
use mathlib.Core.Path.{◌≡◌, refl, sym, ap, ◌∙◌}
use Rattle.std.specs.Prelude.{Ok, Err, Some, None}
use Rattle.sdp_lists.specs.Answers.{offset_at}
use borrow.Author.Rules.{rules}
use Rattle.sdp_lists.proofs.RestLaws.{offset_next}
use Rattle.sdp_take_list.proofs.RepeatLaws.{repeating-begin, repeating_next, repeating_wrong, repeating_all, offsets_wrong, offsets_end}
use Rattle.sdp_take_list.proofs.take_offsets.Goals as goal

pub loop-value-init : goal.loop-value-init
loop-value-init c =
    (refl, omega (arith, c.requires.1), λ ρ q a₀ t h o k. repeating-begin _ _ ρ.session q t _ _ k)

pub returns-in_err-value : goal.returns-in_err-value
returns-in_err-value c ρ q a₀ t h o k =
    let z = c.loop-value.invariant.2 ρ q a₀ t h o k in let u = err_from_is_err_and c.from_residual.result c.from_residual.ensures.1 in
    rw (u.1, u.2) (offsets_wrong ρ _ a₀ t _ h q _ _ c.loop-value.room z.done (repeating_wrong _ _ ρ.session h.within q t _ _ _ z _ (let e : offset_at c.args.v.now c.loop-value.i ≡ Err c.in_err-value.field-0.0 = search rules in e)) z.holds)

pub loop-value-smaller : goal.loop-value-smaller
loop-value-smaller c = let m = (offset_next _ _ _ _ (let e : offset_at c.args.v.now c.loop-value.i ≡ Ok (Some (c.in-Some.value, c.in-Some.next)) = search rules in e)).1 in omega arith

pub loop-value-preserved : goal.loop-value-preserved
loop-value-preserved c =
    let e = (let e : offset_at c.args.v.now c.loop-value.i ≡ Ok (Some (c.in-Some.value, c.in-Some.next)) = search rules in e) in
    let m = (offset_next _ _ _ _ e).1 in
    (search rules, omega arith, λ ρ q a₀ t h o k. repeating_next _ _ ρ.session h.within q t _ _ _ (c.loop-value.invariant.2 ρ q a₀ t h o k) _ _ _ _ e c.add_offset-room.ensures.value (rw o at c.add_offset-room.ensures.area_after))

pub returns : goal.returns
returns c ρ q a₀ t h o k =
    let z = (c.loop-value.invariant.2 ρ q a₀ t h o k) in
    rw c.offsets_told.ensures (offsets_end ρ _ a₀ t _ h q _ z.done (repeating_all _ _ ρ.session h.within q t _ _ _ z (let e : offset_at c.args.v.now c.loop-value.i ≡ Ok None = search rules in e)) _ z.holds)
