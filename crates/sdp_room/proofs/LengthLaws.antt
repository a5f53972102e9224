-- How many bytes numbers and lines take at most. Assumes nothing.
use mathlib.Core.Path.{◌≡◌, refl}
use mathlib.Core.Bool.{Bool, true, false, cond}
use mathlib.Core.List.{List, [], ◌∷◌, ◌++◌}
use Prim.Native.Nat.{ℕ, zero, suc, ◌+◌, ◌*◌, ◌-◌, ◌/◌, ◌%◌, ◌≤◌, ◌<◌, ◌^◌}
use native.Mathlib.Nat.{pow-suc}
use native.Mathlib.Omega.{arith}
use lib.ListN.{length, length-append}
use lib.Dec.{ltb, leb, eqb}
use borrow.Author.Tests.{ltb-true, ltb-false, leb-true}
use Rattle.sdp_put.specs.Digits as digit
use Rattle.sdp_put.specs.Digits.{digits, time_text, offset_text}
use Rattle.sdp_put.proofs.DigitLaws.{digits-one, digits_more}
use Rattle.sdp_row.specs.Written
use Rattle.sdp_row.specs.Written.{line, signed_text}

-- ---- digits
pub length_digits : (n v : ℕ) → v < 10 ^ suc n → length (digits v) ≤ suc n
length_digits zero v h = let l : v < 10 = h in rw (digits-one v l) (omega arith)
length_digits (suc n) v h = go (ltb v 10) refl (let e : v < 10 ^ suc n * 10 = rw (← (pow-suc 10 (suc n))) h in length_digits n (v / 10) (omega arith))
  where
    go : (b : Bool) → ltb v 10 ≡ b → length (digits (v / 10)) ≤ suc n → length (digits v) ≤ suc (suc n)
    go true e ih = rw (digits-one v (ltb-true v 10 e)) (omega arith)
    go false e ih = rw (digits_more v (ltb-false v 10 e)) (omega (arith, length-append (digits (v / 10)) ((0x30 + v % 10) ∷ [])))

pub digits_20 : (v : ℕ) → v < 2 ^ 64 → length (digits v) ≤ 20
digits_20 v h = length_digits 19 v (omega arith)

pub time_21 : (v : ℕ) → v < 2 ^ 64 → length (time_text v) ≤ 21
unfolding digit.time_text
time_21 v h = go (eqb v 0) (eqb (v % 86400) 0) (eqb (v % 3600) 0) (eqb (v % 60) 0)
  where
    unit : (k : ℕ) (x : ℕ) → v / k < 2 ^ 64 → length (digits (v / k) ++ (x ∷ [])) ≤ 21
    unit k x l = omega (arith, length-append (digits (v / k)) (x ∷ []), digits_20 (v / k) l)

    go : (z d g m : Bool) → length (cond z (digits v) (cond d (digits (v / 86400) ++ (0x64 ∷ [])) (cond g (digits (v / 3600) ++ (0x68 ∷ [])) (cond m (digits (v / 60) ++ (0x6d ∷ [])) (digits v))))) ≤ 21
    go true d g m = omega (arith, digits_20 v h)
    go false true g m = unit 86400 0x64 (omega arith)
    go false false true m = unit 3600 0x68 (omega arith)
    go false false false true = unit 60 0x6d (omega arith)
    go false false false false = omega (arith, digits_20 v h)

offset_22 : (n : Bool) (v : ℕ) → v < 2 ^ 64 → length (offset_text n v) ≤ 22
unfolding digit.offset_text
offset_22 true v h = omega (arith, time_21 v h)
offset_22 false v h = omega (arith, time_21 v h)

pub signed_22 : (v : ℕ) → v < 2 ^ 64 → length (signed_text v) ≤ 22
signed_22 v h = go (leb (2 ^ 63) v) refl
  where
    go : (b : Bool) → leb (2 ^ 63) v ≡ b → length (offset_text b (cond b (2 ^ 64 - v) v)) ≤ 22
    go true e = offset_22 true (2 ^ 64 - v) (omega (arith, leb-true (2 ^ 63) v e))
    go false e = offset_22 false v h

-- ---- parts of lines
pub length-line : (l : ℕ) (v : List ℕ) → length (line l v) ≡ length v + 4
unfolding Written.line
length-line l v = omega (arith, length-append v (0x0d ∷ 0x0a ∷ []))
