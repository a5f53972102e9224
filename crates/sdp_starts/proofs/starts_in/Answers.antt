-- `sdp_starts::starts_in` meets its contract. Assumes nothing.
use mathlib.Core.Path.{refl, sym, ◌∙◌}
use mathlib.Core.List.{[]}
use Rattle.sdp_unfit.proofs.UnfitLaws.{numbered}
use Rattle.sdp_starts.proofs.ToldLaws.{refused_as, none_held, zeros_roomy, told-unfit, told_fall, told_many, told_list}
use native.Mathlib.Omega.{arith}
use Rattle.sdp_starts.proofs.starts_in.Goals as goal

pub returns-in-Err : goal.returns-in-Err
returns-in-Err c =
    refused_as _ _ _ c.refused.ensures (told-unfit _ _ _ _ _ (c.into.ensures ∙ c.in-Err.ensures) (numbered _ _ c.into.ensures))

pub returns-then-not-zones_rise : goal.returns-then-not-zones_rise
returns-then-not-zones_rise c =
    refused_as _ _ _ c.refused-then-not-zones_rise.ensures
    (told_fall _ _ _ _ _ c.in_default.ensures refl (sym c.zones_rise.ensures ∙ c.if-not-zones_rise.true))

pub put_times-requires : goal.put_times-requires
put_times-requires c = zeros_roomy

pub returns-in-Err-put_times : goal.returns-in-Err-put_times
returns-in-Err-put_times c =
    refused_as _ _ _ c.refused-in-Err-put_times.ensures
    (told_many _ _ _ _ _ c.in_default.ensures refl (sym c.zones_rise.ensures ∙ c.if-not-zones_rise.false) _ _ (c.in-Err-put_times.ensures.holds [] none_held) (omega arith))

pub returns-then-list-gt-MOST : goal.returns-then-list-gt-MOST
returns-then-list-gt-MOST c =
    refused_as _ _ _ c.refused-then-list-gt-MOST.ensures
    (told_many _ _ _ _ _ c.in_default.ensures refl (sym c.zones_rise.ensures ∙ c.if-not-zones_rise.false) _ _ (c.in_default-put_times.ensures.holds [] none_held) c.if-list-gt-MOST.true)

pub returns : goal.returns
returns c =
    rw (c.column.ensures, c.column-2.ensures, c.column-3.ensures)
    (told_list _ _ _ _ _ c.in_default.ensures refl (sym c.zones_rise.ensures ∙ c.if-not-zones_rise.false) _ _ (c.in_default-put_times.ensures.holds [] none_held) c.if-list-gt-MOST.false)
