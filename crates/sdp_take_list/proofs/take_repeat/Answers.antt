-- `sdp_take_list::take_repeat` meets its contract. Assumes nothing.
use Rattle.std.proofs.lemmas.Result.{err_from_is_err_and}
use Rattle.sdp_cells.specs.Bytes.{num}
use Rattle.sdp_area.specs.Area.{times_at}
use Prim.Native.Nat.{ℕ, ◌+◌}
use native.Mathlib.Omega.{arith}
use mathlib.Core.Path.{refl, sym, ap, ◌∙◌}
use mathlib.Core.List.{[]}
use Rattle.sdp_lists.proofs.RestLaws.{head_next}
use Rattle.sdp_area.proofs.GrownLaws.{times_count, repeats_count, repeats-grown}
use Rattle.sdp_strings.specs.Strings.{span_at}
use Rattle.sdp_step.specs.Step.{step_role}
use Rattle.sdp_take_list.proofs.RepeatLaws.{none_latest, some_latest, room_begin, head_wrong, head_got}
use Rattle.sdp_step.proofs.TailLaws.{tail_of}
use Rattle.sdp_take_list.proofs.take_repeat.Goals as goal

pub returns-in_default : goal.returns-in_default
unfolding step_role
returns-in_default c ρ t h =
    let e = none_latest (num 2 c.args.area.now times_at) (sym c.latest_time.ensures ∙ c.in_default.is) in
    rw (rw (times_count ρ.session t h.within c.args.area.now h.bytes) at e) (refl, tail_of h)

pub take_offsets-requires : goal.take_offsets-requires
take_offsets-requires c = (omega arith, head_next _ _ (sym c.parse.ensures ∙ c.in_ok-h.was))

pub returns-in_err-h : goal.returns-in_err-h
unfolding step_role
returns-in_err-h c ρ t h =
    let e = (some_latest (num 2 c.args.area.now times_at) _ (sym c.latest_time.ensures ∙ c.in-Some.is)).0 in
    let f = (sym c.parse.ensures ∙ c.in_err-h.was) in
    let u = err_from_is_err_and c.from_residual.result c.from_residual.ensures.1 in
    rw (u.1, u.2) (rw (rw (times_count ρ.session t h.within c.args.area.now h.bytes) at e, head_wrong (span_at c.args.at []) ρ c.args.v.now _ f) (refl, tail_of h))

pub returns : goal.returns
unfolding step_role
returns c ρ t h =
    let s = some_latest (num 2 c.args.area.now times_at) _ (sym c.latest_time.ensures ∙ c.in-Some.is) in
    let f = (sym c.parse.ensures ∙ c.in_ok-h.was) in
    let k = s.1 ∙ times_count ρ.session t h.within c.args.area.now h.bytes in
    let o = ap (λ (i : ℕ). i + 1) (c.repeats-owner.ensures.0 ∙ repeats_count ρ.session t h.within _ h.bytes) in
    let g = repeats-grown ρ.session t h.within _ h.bytes _ in
    let u = c.push_repeat-p.ensures in
    let r = room_begin ρ.session h.within _ _ _ t (u.value ∙ g.0) (u.area_after ∙ g.1) in
    rw (rw (times_count ρ.session t h.within c.args.area.now h.bytes) at s.0, head_got (span_at c.args.at []) ρ c.args.v.now c.in_ok-h.h f, ← k) (c.take_offsets.ensures ρ _ _ t h o (rw (← c.repeat_room.ensures) at r))
