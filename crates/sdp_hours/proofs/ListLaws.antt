-- What holds of every list of starts that is handed out. Assumes nothing.
use Prim.Native.Nat.{ℕ, ◌≤◌}
use mathlib.Core.Path.{◌≡◌, refl, ap, ◌∙◌}
use mathlib.Core.Bool.{Bool, true, false, cond}
use mathlib.Core.List.{List, []}
use native.Mathlib.Omega.{arith}
use lib.ListN.{length}
use lib.Dec.{ltb, eqb}
use borrow.Author.Tests.{eqb-false, eq-eqb, le-ltb}
use Rattle.sdp_numbers.specs.Refusals as refusals
use Rattle.sdp_numbers.specs.Refusals.{most_starts}
use Rattle.sdp_decode.specs.Decode.{decode}
use Rattle.sdp_unfit.specs.Unfit.{unfit}
use Rattle.sdp_unfit.proofs.UnfitLaws.{fit_formed}
use Rattle.sdp_hours.specs.Hours.{rise}
use Rattle.sdp_hours.specs.Listing.{Start, sorted}
use Rattle.sdp_hours.specs.Starts as starts
use Rattle.sdp_hours.specs.Starts.{Told, refused, starts_text}
use Rattle.sdp_hours.specs.Rises as rising
use Rattle.sdp_hours.specs.Rises.{Rises, InWindow, found_in, count_of, times_only}
use Rattle.sdp_hours.proofs.OrderLaws.{sorted_rises, count_sorted}
use Rattle.sdp_hours.proofs.InsideLaws.{inside_sorted, starts_of_inside}
use Rattle.sdp_hours.proofs.TimesLaws.{only_is, length_only, few_times}

module _ (t a : List ℕ) (from to : ℕ) where
  abbrev found : List Start
  found = found_in (decode a).tables from to

  -- the answer by its tests
  abbrev told_by : Bool → Bool → Bool → Told
  told_by fit rises many =
      cond fit
      (cond rises (cond many (refused refusals.too_many_starts) (record { number = 0; list = sorted found })) (refused refusals.adjustments_fall))
      (refused (unfit t a))

  told : starts_text t a from to ≡ told_by (eqb (unfit t a) 0) (rise 0 (decode a).tables.zones) (ltb most_starts (length found))
  unfolding starts.starts_text starts.starts_in starts.answered
  told = refl

  -- the list is empty, or has all that is found
  listed_by : (P : List Start → Type 0) → P [] → P (sorted found) → P (starts_text t a from to).list
  listed_by P p q = rw told (go (eqb (unfit t a) 0) (rise 0 (decode a).tables.zones) (ltb most_starts (length found)))
    where
      go : (f r m : Bool) → P (told_by f r m).list
      go true true true = p
      go true true false = q
      go true false m = p
      go false r m = p

  -- where nothing is refused, it has all that is found
  all_listed : (starts_text t a from to).number ≡ 0 → (starts_text t a from to).list ≡ sorted found
  all_listed = rw told (go (eqb (unfit t a) 0) (rise 0 (decode a).tables.zones) (ltb most_starts (length found)) refl)
    where
      go : (f r m : Bool) → eqb (unfit t a) 0 ≡ f → (told_by f r m).number ≡ 0 → (told_by f r m).list ≡ sorted found
      go true true true e h = absurd (omega (arith, h))
      go true true false e h = refl
      go true false m e h = absurd (omega (arith, h))
      go false r m e h = absurd (eqb-false (unfit t a) 0 e h)

  -- "rising, ties by time, then repeat"
  pub starts_rise : Rises (starts_text t a from to).list
  unfolding rising.Rises
  starts_rise = listed_by Rises tt (sorted_rises found)

  -- "within the caller's window (from included, to excluded)"
  pub starts_inside : InWindow from to (starts_text t a from to).list
  unfolding rising.InWindow
  starts_inside = listed_by (InWindow from to) tt (inside_sorted from to found (starts_of_inside from to _ _ _ _))

  -- "exactly one for each k and offset": each start is listed as often as it is found
  pub starts_once_lem : (starts_text t a from to).number ≡ 0 → (x : Start)
      → count_of x (starts_text t a from to).list ≡ count_of x (found_in (decode a).tables from to)
  starts_once_lem h x = ap (count_of x) (all_listed h) ∙ count_sorted x found

  -- "A time without repeats starts once, at its start time": no zone offset is added
  pub starts_times : unfit t a ≡ 0 → rise 0 (decode a).tables.zones ≡ true → (decode a).tables.repeats ≡ []
      → starts_text t a from to ≡ record { number = 0; list = sorted (times_only from to 1 (decode a).tables.times) }
  unfolding starts.starts_of
  starts_times f r h =
      let s = (decode a).tables in
      let e : found ≡ times_only from to 1 s.times = rw h (only_is s.offsets s.zones from to 1 s.times) in
      let l : length found ≤ most_starts = rw e (omega (arith, length_only from to 1 s.times, few_times a t (fit_formed t a f))) in
      rw (told, eq-eqb (unfit t a) 0 f, r, le-ltb most_starts (length found) l, e) refl
