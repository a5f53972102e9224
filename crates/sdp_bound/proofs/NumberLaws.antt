-- What is written of a number, a time or an offset is no longer than what it was read from. Assumes nothing.
use mathlib.Core.Path.{◌≡◌, refl, sym, ap, ◌∙◌}
use mathlib.Core.Bool.{Bool, true, false, cond, ◌&&◌}
use mathlib.Core.List.{List, [], ◌∷◌}
use Prim.Native.Nat.{ℕ, zero, suc, ◌+◌, ◌-◌, ◌*◌, ◌/◌, ◌%◌, ◌^◌, ◌≤◌, ◌<◌}
use native.Mathlib.Nat.{pow-suc, mul-le-mul_right, mul_assoc, mul_comm, le_trans}
use native.Mathlib.Omega.{arith}
use lib.ListN.{length, get_or, take, drop, length-append, length-take, length-drop}
use lib.Dec.{ltb, leb, eqb, lit<}
use borrow.Author.Tests.{ltb-true, ltb-false, leb-true, eqb-true, eqb-false, le-leb, lt-leb}
use Rattle.sdp_bytes.specs.Token.{digit}
use Rattle.sdp_utf8.specs.Utf8.{is_utf8}
use Rattle.sdp_number.specs.Number
use Rattle.sdp_number.specs.Number.{Number, all_digits, value, digits_below, drop_plus, whole_number, scaled, typed_time}
use Rattle.sdp_number.specs.declared.NumberError.TheVariants.{Encoding, Format}
use Rattle.sdp_bytes.proofs.ScanLaws.{and_left, and_right}
use Rattle.sdp_judge.specs.Offset
use Rattle.sdp_judge.specs.Offset.{negated, signed_of, zone_offset}
use Rattle.sdp_put.specs.Digits.{digits, time_text}
use Rattle.sdp_put.proofs.DigitLaws.{digits-one, digits_more, time_form, offset-minus, offset-plain}
use Rattle.sdp_row.specs.Written.{signed_text}
use Rattle.sdp_room.proofs.LengthLaws.{length_digits}
use Rattle.std.specs.Prelude.{Ok, Err}

-- ---- digits
-- the digits of a number of two or more
more_digits : (v : ℕ) → 10 ≤ v → length (digits v) ≡ length (digits (v / 10)) + 1
more_digits v h = ap length (digits_more v h) ∙ length-append (digits (v / 10)) ((0x30 + v % 10) ∷ [])

one-digit : (v : ℕ) → v < 10 → length (digits v) ≡ 1
one-digit v h = ap length (digits-one v h)

pub digits_some : (v : ℕ) → 0 < length (digits v)
digits_some v = go (ltb v 10) refl
  where
    go : (b : Bool) → ltb v 10 ≡ b → 0 < length (digits v)
    go true e = omega (arith, one-digit v (ltb-true v 10 e))
    go false e = omega (arith, more_digits v (ltb-false v 10 e))

-- more digits for a larger number
digits_mono : (n a b : ℕ) → b < n → a ≤ b → length (digits a) ≤ length (digits b)
digits_mono zero a b l h = absurd (omega arith)
digits_mono (suc n) a b l h = go (ltb a 10) (ltb b 10) refl refl (λ g. digits_mono n (a / 10) (b / 10) (omega arith) (omega arith))
  where
    go : (p q : Bool) → ltb a 10 ≡ p → ltb b 10 ≡ q → (10 ≤ b → length (digits (a / 10)) ≤ length (digits (b / 10))) → length (digits a) ≤ length (digits b)
    go true q e f ih = omega (arith, one-digit a (ltb-true a 10 e), digits_some b)
    go false true e f ih = absurd (omega (arith, ltb-false a 10 e, ltb-true b 10 f))
    go false false e f ih =
        omega (arith, ih (ltb-false b 10 f), more_digits a (ltb-false a 10 e), more_digits b (ltb-false b 10 f))

-- the value of n digits is below 10 ^ n
value_below : (s : List ℕ) (v : ℕ) → all_digits s ≡ true → value v s < (v + 1) * 10 ^ length s
unfolding Number.value Number.all_digits
value_below [] v h = omega arith
value_below (b ∷ s) v h =
    let d = and_left (digit b) (all_digits s) h in
    let l = leb-true b 0x39 (and_right (leb 0x30 b) (leb b 0x39) d) in
    let i = value_below s (v * 10 + (b - 0x30)) (and_right (digit b) (all_digits s) h) in
    let g : v * 10 + (b - 0x30) + 1 ≤ (v + 1) * 10 = omega arith in
    let m : (v * 10 + (b - 0x30) + 1) * 10 ^ length s ≤ (v + 1) * 10 * 10 ^ length s = mul-le-mul_right (10 ^ length s) g in
    let e : (v + 1) * 10 * 10 ^ length s ≡ (v + 1) * 10 ^ suc (length s) = mul_assoc (v + 1) 10 (10 ^ length s) ∙ ap (λ (x : ℕ). (v + 1) * x) (mul_comm 10 (10 ^ length s) ∙ sym (pow-suc 10 (length s))) in
    omega (arith, i, m, e)

plus_short : (s : List ℕ) → length (drop_plus s) ≤ length s
unfolding Number.drop_plus
plus_short [] = omega arith
plus_short (b ∷ s) = go (eqb b 0x2b)
  where
    go : (c : Bool) → length (cond c s (b ∷ s)) ≤ suc (length s)
    go true = omega arith
    go false = omega arith

below_short : (n : ℕ) (s : List ℕ) (v : ℕ) → digits_below n s ≡ Ok v → length (digits v) ≤ length s
unfolding Number.digits_below
below_short n [] v e = absurd (let z : ◌≡◌ {A = ℕ} 0 1 = cc in omega arith)
below_short n (b ∷ s) v e = go (ltb 0 (length (b ∷ s))) (all_digits (b ∷ s)) (ltb (value 0 (b ∷ s)) n) refl e
  where
    go : (o p q : Bool) → all_digits (b ∷ s) ≡ p → cond (o && (p && q)) (Ok (value 0 (b ∷ s))) (Err Format) ≡ Ok v → length (digits v) ≤ suc (length s)
    go true true true f e =
        let z : value 0 (b ∷ s) ≡ v = cc in
        length_digits (length s) v (omega (arith, value_below (b ∷ s) 0 f))
    go true true false f e = absurd (let z : ◌≡◌ {A = ℕ} 0 1 = cc in omega arith)
    go true false q f e = absurd (let z : ◌≡◌ {A = ℕ} 0 1 = cc in omega arith)
    go false p q f e = absurd (let z : ◌≡◌ {A = ℕ} 0 1 = cc in omega arith)

pub number_short : (w : ℕ) (s : List ℕ) (v : ℕ) → whole_number w s ≡ Ok v → length (digits v) ≤ length s
unfolding Number.whole_number Number.numeral
number_short w s v = go (is_utf8 s)
  where
    go : (b : Bool) → cond b (digits_below (2 ^ w) (drop_plus s)) (Err Encoding) ≡ Ok v → length (digits v) ≤ length s
    go true e = le_trans (below_short (2 ^ w) (drop_plus s) v e) (plus_short s)
    go false e = absurd (let z : ◌≡◌ {A = ℕ} 0 1 = cc in omega arith)

-- ---- times
last_more : (v u : ℕ) → 10 ≤ v → u ≤ v / 10 → length (digits u) + 1 ≤ length (digits v)
last_more v u h l = omega (arith, digits_mono (suc (v / 10)) u (v / 10) (omega arith) l, more_digits v h)

-- a time in its shortest form, for anything that bounds each of its forms
module _ (v n : ℕ) where
  forms_short : ((v ≡ 0 → ⊥) → v % 86400 ≡ 0 → length (digits (v / 86400)) + 1 ≤ n)
      → ((v % 86400 ≡ 0 → ⊥) → v % 3600 ≡ 0 → length (digits (v / 3600)) + 1 ≤ n)
      → ((v % 3600 ≡ 0 → ⊥) → v % 60 ≡ 0 → length (digits (v / 60)) + 1 ≤ n)
      → ((v % 60 ≡ 0 → ⊥) → length (digits v) ≤ n)
      → (v ≡ 0 → length (digits v) ≤ n)
      → length (time_text v) ≤ n
  forms_short d h m p z =
      time_form (λ s. length s ≤ n) v z
      (λ a b. omega (arith, d a b, length-append (digits (v / 86400)) (0x64 ∷ [])))
      (λ a b. omega (arith, h a b, length-append (digits (v / 3600)) (0x68 ∷ [])))
      (λ a b. omega (arith, m a b, length-append (digits (v / 60)) (0x6d ∷ [])))
      p

plain-short : (v : ℕ) → length (time_text v) ≤ length (digits v)
plain-short v =
    forms_short v (length (digits v))
    (λ z e. last_more v (v / 86400) (omega arith) (omega arith))
    (λ d e. last_more v (v / 3600) (omega arith) (omega arith))
    (λ h e. last_more v (v / 60) (omega arith) (omega arith))
    (λ m. omega arith)
    (λ z. omega arith)

mono_more : (u q n : ℕ) → u ≤ q → length (digits q) + 1 ≤ n → length (digits u) + 1 ≤ n
mono_more u q n h l = omega (arith, digits_mono (suc q) u q (omega arith) h)

-- a time that was written with a unit of k seconds
module _ (v q n : ℕ) (l : length (digits q) + 1 ≤ n) where
  zero_short : v ≡ 0 → length (digits v) ≤ n
  zero_short e = omega (arith, ap (λ (x : ℕ). length (digits x)) e, one-digit 0 (lit< tt))

  days_short : v ≡ q * 86400 → length (time_text v) ≤ n
  days_short e = forms_short v n (λ z f. mono_more (v / 86400) q n (omega arith) l) (λ d f. absurd (d (omega arith))) (λ h f. absurd (h (omega arith))) (λ m. absurd (m (omega arith))) zero_short

  hours_short : v ≡ q * 3600 → length (time_text v) ≤ n
  hours_short e = forms_short v n (λ z f. mono_more (v / 86400) q n (omega arith) l) (λ d f. mono_more (v / 3600) q n (omega arith) l) (λ h f. absurd (h (omega arith))) (λ m. absurd (m (omega arith))) zero_short

  minutes_short : v ≡ q * 60 → length (time_text v) ≤ n
  minutes_short e = forms_short v n (λ z f. mono_more (v / 86400) q n (omega arith) l) (λ d f. mono_more (v / 3600) q n (omega arith) l) (λ h f. mono_more (v / 60) q n (omega arith) l) (λ m. absurd (m (omega arith))) zero_short

  seconds_short : v ≡ q * 1 → length (time_text v) ≤ n
  seconds_short e = forms_short v n (λ z f. mono_more (v / 86400) q n (omega arith) l) (λ d f. mono_more (v / 3600) q n (omega arith) l) (λ h f. mono_more (v / 60) q n (omega arith) l) (λ m. omega (arith, mono_more v q n (omega arith) l)) zero_short

-- the stem's number, where a unit was there
scaled_is : (k : ℕ) (x : Number) (v : ℕ) → scaled k x ≡ Ok v → (A : Type 0) → ((q : ℕ) → x ≡ Ok q → v ≡ q * k → A) → A
scaled_is k (Err Encoding) v e A go = absurd (let z : ◌≡◌ {A = ℕ} 0 1 = cc in omega arith)
scaled_is k (Err Format) v e A go = absurd (let z : ◌≡◌ {A = ℕ} 0 1 = cc in omega arith)
scaled_is k (Ok q) v e A next = next q refl (go (ltb (q * k) (2 ^ 64)) e)
  where
    go : (b : Bool) → cond b (Ok (q * k)) (Err Format) ≡ Ok v → v ≡ q * k
    go true e = cc
    go false e = absurd (let z : ◌≡◌ {A = ℕ} 0 1 = cc in omega arith)

pub time-short : (s : List ℕ) (v : ℕ) → typed_time s ≡ Ok v → length (time_text v) ≤ length s
unfolding Number.typed_time
time-short s v e = go (eqb b 0x64) (eqb b 0x68) (eqb b 0x6d) (eqb b 0x73) e
  where
    b : ℕ
    b = get_or s (length s - 1) 0

    stem : List ℕ
    stem = take (length s - 1) s

    fits : (q : ℕ) → whole_number 64 stem ≡ Ok q → length (digits q) + 1 ≤ length s
    fits q f = omega (arith, number_short 64 stem q f, length-take (length s - 1) s, digits_some q)

    go : (d h m z : Bool)
        → (let u = cond d 86400 (cond h 3600 (cond m 60 (cond z 1 0))) in cond (eqb u 0) (whole_number 64 s) (scaled u (whole_number 64 stem))) ≡ Ok v
        → length (time_text v) ≤ length s
    go true h m z e = scaled_is 86400 (whole_number 64 stem) v e (length (time_text v) ≤ length s) (λ q f g. days_short v q (length s) (fits q f) g)
    go false true m z e = scaled_is 3600 (whole_number 64 stem) v e (length (time_text v) ≤ length s) (λ q f g. hours_short v q (length s) (fits q f) g)
    go false false true z e = scaled_is 60 (whole_number 64 stem) v e (length (time_text v) ≤ length s) (λ q f g. minutes_short v q (length s) (fits q f) g)
    go false false false true e = scaled_is 1 (whole_number 64 stem) v e (length (time_text v) ≤ length s) (λ q f g. seconds_short v q (length s) (fits q f) g)
    go false false false false e = le_trans (plain-short v) (number_short 64 s v e)

-- ---- offsets
-- a magnitude below 2^63 is written as it is; one of at most 2^63 that was negated is written with a sign
plain-offset : (m : ℕ) → m < 2 ^ 63 → length (signed_text m) ≡ length (time_text m)
plain-offset m h = rw (lt-leb (2 ^ 63) m h) (ap length (offset-plain false m refl))

minus-offset : (m : ℕ) → m ≤ 2 ^ 63 → length (signed_text (negated m)) ≤ length (time_text m) + 1
minus-offset m h = go (eqb m 0) refl
  where
    go : (b : Bool) → eqb m 0 ≡ b → length (signed_text (cond b 0 (2 ^ 64 - m))) ≤ length (time_text m) + 1
    go true e = let z = eqb-true m 0 e in omega (arith, plain-offset 0 (lit< tt), ap (λ (n : ℕ). length (time_text n)) z)
    go false e =
        let z = eqb-false m 0 e in
        let k : 2 ^ 64 - (2 ^ 64 - m) ≡ m = omega arith in
        rw (le-leb (2 ^ 63) (2 ^ 64 - m) (omega arith), k) (omega (arith, ap length (offset-minus true m refl)))

pub offset-short : (s : List ℕ) (n : ℕ) → zone_offset s ≡ Ok n → length (signed_text n) ≤ length s
unfolding Offset.zone_offset
offset-short s n = go (ltb 0 (length s)) (eqb (get_or s 0 0) 0x2d) refl
  where
    minus : 0 < length s → (x : Number) → typed_time (drop 1 s) ≡ x → signed_of true x ≡ Ok n → length (signed_text n) ≤ length s
    minus l (Err Encoding) q e = absurd (let z : ◌≡◌ {A = ℕ} 0 1 = cc in omega arith)
    minus l (Err Format) q e = absurd (let z : ◌≡◌ {A = ℕ} 0 1 = cc in omega arith)
    minus l (Ok m) q e = go (leb m (2 ^ 63)) refl e
      where
        go : (b : Bool) → leb m (2 ^ 63) ≡ b → cond b (Ok (negated m)) (Err Format) ≡ Ok n → length (signed_text n) ≤ length s
        go true h e =
            let z : negated m ≡ n = cc in
            rw (← z) (omega (arith, minus-offset m (leb-true m (2 ^ 63) h), time-short (drop 1 s) m q, length-drop 1 s))
        go false h e = absurd (let z : ◌≡◌ {A = ℕ} 0 1 = cc in omega arith)

    plain : (x : Number) → typed_time s ≡ x → signed_of false x ≡ Ok n → length (signed_text n) ≤ length s
    plain (Err Encoding) q e = absurd (let z : ◌≡◌ {A = ℕ} 0 1 = cc in omega arith)
    plain (Err Format) q e = absurd (let z : ◌≡◌ {A = ℕ} 0 1 = cc in omega arith)
    plain (Ok m) q e = go (ltb m (2 ^ 63)) refl e
      where
        go : (b : Bool) → ltb m (2 ^ 63) ≡ b → cond b (Ok m) (Err Format) ≡ Ok n → length (signed_text n) ≤ length s
        go true h e =
            let z : m ≡ n = cc in
            rw (← z) (omega (arith, plain-offset m (ltb-true m (2 ^ 63) h), time-short s m q))
        go false h e = absurd (let z : ◌≡◌ {A = ℕ} 0 1 = cc in omega arith)

    go : (a b : Bool) → ltb 0 (length s) ≡ a → cond (a && b) (signed_of true (typed_time (drop 1 s))) (signed_of false (typed_time s)) ≡ Ok n → length (signed_text n) ≤ length s
    go true true h e = minus (ltb-true 0 (length s) h) (typed_time (drop 1 s)) refl e
    go true false h e = plain (typed_time s) refl e
    go false b h e = plain (typed_time s) refl e
