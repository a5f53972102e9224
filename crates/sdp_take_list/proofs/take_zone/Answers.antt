-- `sdp_take_list::take_zone` meets its contract. Assumes nothing.
use Rattle.std.proofs.lemmas.Result.{err_from_is_err_and}
use Rattle.sdp_strings.specs.Strings.{span_at}
use Prim.Native.Nat.{◌-◌}
use native.Mathlib.Omega.{arith}
use mathlib.Core.Path.{refl, sym, ap, ◌∙◌}
use mathlib.Core.Bool.{false}
use mathlib.Core.List.{[]}
use Rattle.std.specs.Prelude.{Ok}
use borrow.Author.Rules.{rules}
use Rattle.sdp_lists.proofs.RestLaws.{zone_next}
use Rattle.sdp_step.specs.Step.{step_role}
use Rattle.sdp_step.specs.declared.Marks.{Marks}
use Rattle.sdp_step.proofs.HandleLaws.{once-second, once_wrong, once_then}
use Rattle.sdp_step.proofs.TailLaws.{held, tail_of}
use Rattle.sdp_take_list.proofs.ZoneLaws.{zoning_begin, zoning_next, zoning_wrong, zoning_all, zoning_tail, zones_full, zones-kept}
use Rattle.sdp_take_list.proofs.take_zone.Goals as goal

pub returns-then-marks : goal.returns-then-marks
unfolding step_role
returns-then-marks c ρ t h =
    once-second 17 _ _ _ (held h) t (sym (ap (λ (m : Marks). m.zoned) h.marks) ∙ c.if-marks.true) (tail_of h)

pub loop-zone-init : goal.loop-zone-init
loop-zone-init c =
    (refl, omega arith, omega arith, λ ρ t h u. zoning_begin _ ρ.session t _ (h.unzoned u) h.bytes)

pub returns-in_err-zone : goal.returns-in_err-zone
unfolding step_role
returns-in_err-zone c ρ t h =
    let u = err_from_is_err_and c.from_residual.result c.from_residual.ensures.1 in
    rw (u.1, u.2) (once_wrong 17 _ _ _ _ _ (sym (ap (λ (m : Marks). m.zoned) h.marks) ∙ c.if-marks.false) _ (zoning_wrong _ ρ.session h.within t _ _ _ (c.loop-zone.invariant.3 ρ t h (sym (ap (λ (m : Marks). m.zoned) h.marks) ∙ c.if-marks.false)) _ (sym c.parse.ensures ∙ c.in_err-zone.was)) (zoning_tail _ ρ.session h.within t _ _ _ (c.loop-zone.invariant.3 ρ t h (sym (ap (λ (m : Marks). m.zoned) h.marks) ∙ c.if-marks.false))))

pub overflow_add-n : goal.overflow_add-n
overflow_add-n c = omega (arith, c.requires.1)

pub loop-zone-smaller : goal.loop-zone-smaller
loop-zone-smaller c = let m = (zone_next _ _ _ _ (sym c.parse.ensures ∙ c.in_ok-zone.was ∙ ap Ok c.in-Some.is)).1 in omega arith

pub loop-zone-preserved : goal.loop-zone-preserved
loop-zone-preserved c =
    let e = (sym c.parse.ensures ∙ c.in_ok-zone.was ∙ ap Ok c.in-Some.is) in
    let m = (zone_next _ _ _ _ e).1 in
    (search rules, omega arith, omega arith, λ ρ t h u. zoning_next _ ρ.session h.within t _ _ _ (c.loop-zone.invariant.3 ρ t h u) _ _ _ e c.push_zone.ensures.area_after)

pub returns-then-pairs-gt64 : goal.returns-then-pairs-gt64
unfolding step_role
returns-then-pairs-gt64 c ρ t h =
    once_then 17 _ _ _ _ _ (sym (ap (λ (m : Marks). m.zoned) h.marks) ∙ c.if-marks.false) _ _ (zoning_all _ ρ.session h.within t _ _ _ (c.loop-zone.invariant.3 ρ t h (sym (ap (λ (m : Marks). m.zoned) h.marks) ∙ c.if-marks.false)) (sym c.parse.ensures ∙ c.in_ok-zone.was ∙ ap Ok c.in_default.is)) (zones_full (span_at c.args.at []) _ ρ _ _ t _ h _ _ (c.loop-zone.invariant.3 ρ t h (sym (ap (λ (m : Marks). m.zoned) h.marks) ∙ c.if-marks.false)) c.if-pairs-gt64.true)

pub returns : goal.returns
unfolding step_role
returns c ρ t h =
    once_then 17 _ _ _ _ _ (sym (ap (λ (m : Marks). m.zoned) h.marks) ∙ c.if-marks.false) _ _ (zoning_all _ ρ.session h.within t _ _ _ (c.loop-zone.invariant.3 ρ t h (sym (ap (λ (m : Marks). m.zoned) h.marks) ∙ c.if-marks.false)) (sym c.parse.ensures ∙ c.in_ok-zone.was ∙ ap Ok c.in_default.is)) (zones-kept (span_at c.args.at []) _ ρ _ _ t _ h _ _ (c.loop-zone.invariant.3 ρ t h (sym (ap (λ (m : Marks). m.zoned) h.marks) ∙ c.if-marks.false)) c.if-pairs-gt64.false)
