-- How many digits a number has, and a time with its unit and its sign. Assumes nothing.
use mathlib.Core.Path.{◌≡◌, refl, sym, ap, ◌∙◌}
use mathlib.Core.Bool.{true}
use mathlib.Core.List.{List, [], ◌∷◌, ◌++◌}
use Prim.Native.Nat.{ℕ, ◌+◌, ◌-◌, ◌/◌, ◌%◌, ◌^◌, ◌≤◌, ◌<◌}
use native.Mathlib.Omega.{arith}
use lib.ListN.{length, length-append}
use Rattle.sdp_put.specs.Digits.{digits, four_digits, time_text}
use Rattle.sdp_put.proofs.DigitLaws.{one_is, two_are, three_are, four_digits_lem, digits_four, time_zero, offset-minus, offset-plain}
use Rattle.sdp_row.specs.Written.{signed_text}
use Rattle.sdp_table_row.proofs.ZoneLaws.{signed-minus, signed-plain}
use Rattle.sdp_room.proofs.LengthLaws.{digits_20}

-- ---- digits
module _ (v : ℕ) where
  pub one-digit : v < 10 → 1 ≡ length (digits v)
  one-digit h = ap length (one_is v _ h refl)

  pub two_digits : 10 ≤ v → v < 100 → 2 ≡ length (digits v)
  two_digits h l = ap length (two_are v _ _ h l refl refl)

  pub three-digits : 100 ≤ v → v < 1000 → 3 ≡ length (digits v)
  three-digits h l = ap length (three_are v _ _ _ h l refl refl refl)

  pub some_digits : 1000 ≤ v → v < 10000 → 4 ≡ length (digits v)
  some_digits h l = ap length (sym (four_digits_lem v h l))

  -- four behind those of the rest
  pub more_digits : (n : ℕ) → v < 2 ^ 64 → 10000 ≤ v → n ≡ length (digits (v / 10000)) → (4 + n ≡ length (digits v)) × (4 + n ≤ 20)
  more_digits n l h e =
      let f = ap length (digits_four v h) in
      let g = length-append (digits (v / 10000)) (four_digits (v % 10000)) in
      (omega (arith, e, f, g), omega (arith, e, f, g, digits_20 v l))

-- ---- times
pub no_time_lem : (v : ℕ) → v ≡ 0 → 1 ≡ length (time_text v)
no_time_lem v e = one-digit v (omega arith) ∙ ap length (sym (time_zero v e))

-- a unit behind digits
pub with_unit : (s : List ℕ) (v unit n : ℕ) → s ≡ digits v ++ (unit ∷ []) → n ≡ length (digits v) → 1 + n ≡ length s
with_unit s v unit n e h = omega (arith, h, ap length e, length-append (digits v) (unit ∷ []))

-- a sign before the magnitude
pub minus : (v m n : ℕ) → 2 ^ 63 ≤ v → m ≡ 2 ^ 64 - v → n ≡ length (time_text m) → 1 + n ≡ length (signed_text v)
minus v m n h e k = omega (arith, k, ap length (sym (offset-minus true m refl) ∙ signed-minus v m h e))

pub plain : (v n : ℕ) → v < 2 ^ 63 → n ≡ length (time_text v) → n ≡ length (signed_text v)
plain v n h k = k ∙ ap length (sym (offset-plain _ v refl) ∙ signed-plain v h)
