-- Laws of specs/Number: the number rule, once, for every bound n, and so for every width.
-- Assumes nothing.
use Prim.Native.Nat.{ℕ, suc, ◌+◌, ◌-◌, ◌*◌, ◌/◌, ◌^◌, ◌<◌, ◌≤◌}
use native.Mathlib.Omega.{arith}
use native.Mathlib.Numerals.{add-one}
use native.Mathlib.Nat.{le_trans}
use mathlib.Core.Path.{◌≡◌, refl, sym, ◌∙◌}
use mathlib.Core.Bool.{Bool, true, false, ◌&&◌, and-false, cond}
use mathlib.Core.List.{List, [], ◌∷◌}
use borrow.Author.Tests.{lt-ltb, le-ltb, le-leb, lt-leb, eq-eqb, ne_eqb, eqb-true, leb-true, ltb-true}
use lib.Dec.{ltb, leb, eqb}
use lib.ListN.{length, get_or, take, drop, drop_of_length-le}
use lib.Seq.{drop-cons}
use Rattle.sdp_bytes.specs.Token.{digit}
use Rattle.sdp_utf8.specs.Utf8.{end_from, is_utf8, utf8_end}
use Rattle.sdp_bytes.proofs.ScanLaws.{and_left, and_right}
use Rattle.sdp_utf8.proofs.Utf8Laws.{utf8_plain}
use Rattle.std.specs.Prelude.{Option, Some, None, Ok, Err, SomeIff}
use Rattle.std.specs.Option.{ok_or}
use Rattle.sdp_number.specs.declared.NumberError.{NumberError}
use Rattle.sdp_number.specs.declared.NumberError.TheVariants.{Encoding, Format}
use Rattle.sdp_number.specs.Number.{Number, all_digits, value, digits_below, drop_plus, numeral, whole_number, unit_of, scaled, typed_time}

-- what the digits s say after digits of the value v
unfoldable pub continued : ℕ → ℕ → List ℕ → Number
continued n v s = cond (all_digits s && ltb (value v s) n) (Ok (value v s)) (Err Format)

pub started : (n : ℕ) (s : List ℕ) → 0 < length s → digits_below n s ≡ continued n 0 s
unfolding digits_below continued
started n s h = rw (lt-ltb 0 (length s) h)

pub empty : (n : ℕ) (s : List ℕ) → length s ≡ 0 → digits_below n s ≡ Err Format
unfolding digits_below
empty n s h = rw (le-ltb 0 (length s) (omega arith))

grows : (v : ℕ) (s : List ℕ) → v ≤ value v s
unfolding value
grows v [] = omega arith
grows v (b ∷ s) = let h = grows (v * 10 + (b - 0x30)) s in omega arith

module _ (n v : ℕ) (s : List ℕ) (i : ℕ) (l : i < length s) where
  pub low : get_or s i 0 < 0x30 → continued n v (drop i s) ≡ Err Format
  unfolding continued all_digits
  low h = rw (drop-cons s i 0, lt-leb 0x30 (get_or s i 0) h)

  pub high : 0x39 < get_or s i 0 → continued n v (drop i s) ≡ Err Format
  unfolding continued all_digits
  high h = rw (drop-cons s i 0, lt-leb (get_or s i 0) 0x39 h, and-false)

  module _ (p : 0x30 ≤ get_or s i 0) (q : get_or s i 0 ≤ 0x39) where
    pub next : continued n v (drop i s) ≡ continued n (v * 10 + (get_or s i 0 - 0x30)) (drop (i + 1) s)
    unfolding continued all_digits value
    next = rw (drop-cons s i 0, le-leb 0x30 (get_or s i 0) p, le-leb (get_or s i 0) 0x39 q, add-one)

    pub over : n ≤ v * 10 + (get_or s i 0 - 0x30) → continued n v (drop i s) ≡ Err Format
    unfolding continued
    over h =
        let w = v * 10 + (get_or s i 0 - 0x30) in
        next ∙ rw (le-ltb (value w (drop (i + 1) s)) n (le_trans h (grows w (drop (i + 1) s))), and-false)

pub done : (n v : ℕ) (s : List ℕ) (i : ℕ) → length s ≤ i → v < n → continued n v (drop i s) ≡ Ok v
unfolding continued all_digits value
done n v s i l h = rw (drop_of_length-le s l, lt-ltb v n h)

pub plus_none : (n : ℕ) (s : List ℕ) → length s ≡ 0 → digits_below n (drop_plus s) ≡ Err Format
unfolding digits_below drop_plus
plus_none n [] h = refl
plus_none n (b ∷ s) h = absurd (omega arith)

pub plus_yes : (s : List ℕ) → get_or s 0 0 ≡ 0x2b → drop_plus s ≡ drop 1 s
unfolding drop_plus
plus_yes [] h = refl
plus_yes (b ∷ s) h = rw (eq-eqb b 0x2b h)

pub plus_no : (s : List ℕ) → (get_or s 0 0 ≡ 0x2b → ⊥) → drop_plus s ≡ s
unfolding drop_plus
plus_no [] h = refl
plus_no (b ∷ s) h = rw (ne_eqb b 0x2b h)

-- ---- a number is ASCII, and so UTF-8
digits-plain : (s : List ℕ) → all_digits s ≡ true → utf8_end s ≡ length s
unfolding all_digits utf8_end end_from
digits-plain [] h = refl
digits-plain (b ∷ s) h =
    let d = and_left (digit b) (all_digits s) h in
    let e = utf8_plain b s (omega (arith, leb-true b 0x39 (and_right (leb 0x30 b) (leb b 0x39) d))) in
    let i = digits-plain s (and_right (digit b) (all_digits s) h) in
    omega arith

below_digits : (n : ℕ) (s : List ℕ) (v : ℕ) → digits_below n s ≡ Ok v → all_digits s ≡ true
unfolding digits_below
below_digits n s v = go (ltb 0 (length s)) (all_digits s) (ltb (value 0 s) n)
  where
    go : (a b c : Bool) → cond (a && (b && c)) (Ok (value 0 s)) (Err Format) ≡ Ok v → b ≡ true
    go true true c e = refl
    go true false c e = absurd (let z : ◌≡◌ {A = ℕ} 0 1 = cc in omega arith)
    go false b c e = absurd (let z : ◌≡◌ {A = ℕ} 0 1 = cc in omega arith)

plus_plain : (s : List ℕ) → all_digits (drop_plus s) ≡ true → utf8_end s ≡ length s
unfolding drop_plus
plus_plain [] h = digits-plain [] h
plus_plain (b ∷ s) h = go (eqb b 0x2b) refl h
  where
    go : (t : Bool) → eqb b 0x2b ≡ t → all_digits (cond t s (b ∷ s)) ≡ true → utf8_end (b ∷ s) ≡ suc (length s)
    go true p h = let e = utf8_plain b s (omega (arith, eqb-true b 0x2b p)) in let i = digits-plain s h in omega arith
    go false p h = digits-plain (b ∷ s) h

number_utf8 : (n : ℕ) (s : List ℕ) (v : ℕ) → digits_below n (drop_plus s) ≡ Ok v → is_utf8 s ≡ true
unfolding is_utf8
number_utf8 n s v e = eq-eqb (utf8_end s) (length s) (plus_plain s (below_digits n (drop_plus s) v e))

-- the answers by the form: a value is UTF-8, and what has no good form is judged by its encoding
pub number_value : (n : ℕ) (s : List ℕ) (v : ℕ) → digits_below n (drop_plus s) ≡ Ok v → Ok v ≡ cond (is_utf8 s) (digits_below n (drop_plus s)) (Err Encoding)
number_value n s v e = rw (number_utf8 n s v e) (sym e)

pub number_format : (n : ℕ) (s : List ℕ) (x : NumberError) → digits_below n (drop_plus s) ≡ Err x → is_utf8 s ≡ true
    → Err Format ≡ cond (is_utf8 s) (digits_below n (drop_plus s)) (Err Encoding)
unfolding digits_below
number_format n s x e h = rw h (go (ltb 0 (length (drop_plus s)) && (all_digits (drop_plus s) && ltb (value 0 (drop_plus s)) n)) e)
  where
    go : (t : Bool) → ◌≡◌ {A = Number} (cond t (Ok (value 0 (drop_plus s))) (Err Format)) (Err x)
        → ◌≡◌ {A = Number} (Err Format) (cond t (Ok (value 0 (drop_plus s))) (Err Format))
    go true e = absurd (let z : ◌≡◌ {A = ℕ} 0 1 = cc in omega arith)
    go false e = refl

-- ---- typed times
pub typed_none : (s : List ℕ) → length s ≡ 0 → typed_time s ≡ Err Format
unfolding typed_time whole_number numeral digits_below drop_plus is_utf8 utf8_end end_from
typed_none [] h = refl
typed_none (b ∷ s) h = absurd (omega arith)

pub typed_plain : (s : List ℕ) → unit_of (get_or s (length s - 1) 0) ≡ 0 → typed_time s ≡ whole_number 64 s
unfolding typed_time
typed_plain s h = rw (eq-eqb _ 0 h)

pub typed_unit : (s : List ℕ) (k : ℕ) → k ≡ unit_of (get_or s (length s - 1) 0) → (k ≡ 0 → ⊥)
    → typed_time s ≡ scaled k (whole_number 64 (take (length s - 1) s))
unfolding typed_time
typed_unit s k e h = rw (← e, ne_eqb k 0 h)

-- a product that the machine's checked one gives
pub scaled_checked : (k v : ℕ) (r : Option ℕ) → SomeIff r (v * k < 2 ^ 64) (v * k) → ok_or r Format ≡ scaled k (Ok v)
scaled_checked k v (Some x) h = rw (lt-ltb (v * k) (2 ^ 64) h.0, h.1)
scaled_checked k v None h = rw (le-ltb (v * k) (2 ^ 64) (omega arith))

-- ---- a whole number of w bits is below 2^w
pub number_below : (w : ℕ) (s : List ℕ) (n : ℕ) → whole_number w s ≡ Ok n → n < 2 ^ w
unfolding whole_number numeral digits_below
number_below w s n = go (is_utf8 s) (ltb 0 (length (drop_plus s)) && (all_digits (drop_plus s) && ltb (value 0 (drop_plus s)) (2 ^ w))) refl
  where
    go : (u t : Bool) → (ltb 0 (length (drop_plus s)) && (all_digits (drop_plus s) && ltb (value 0 (drop_plus s)) (2 ^ w))) ≡ t
        → cond u (cond t (Ok (value 0 (drop_plus s))) (Err Format)) (Err Encoding) ≡ Ok n → n < 2 ^ w
    go true true q h =
        let z : value 0 (drop_plus s) ≡ n = cc in
        rw z at (ltb-true (value 0 (drop_plus s)) (2 ^ w) (and_right (all_digits (drop_plus s)) _ (and_right (ltb 0 (length (drop_plus s))) _ q)))
    go true false q h = absurd (let z : ◌≡◌ {A = ℕ} 0 1 = cc in omega arith)
    go false t q h = absurd (let z : ◌≡◌ {A = ℕ} 0 1 = cc in omega arith)
