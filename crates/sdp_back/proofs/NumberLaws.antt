-- What is written of a number, a time or an offset, read again, is the number, the time or the offset. Assumes nothing.
use mathlib.Core.Path.{◌≡◌, refl, sym, ap, ◌∙◌}
use mathlib.Core.Bool.{Bool, true, false, not, ◌&&◌, and_assoc, true≢false}
use mathlib.Core.List.{List, [], ◌∷◌, ◌++◌}
use Prim.Native.Nat.{ℕ, zero, suc, ◌+◌, ◌-◌, ◌*◌, ◌/◌, ◌%◌, ◌^◌, ◌≤◌, ◌<◌}
use native.Mathlib.Omega.{arith}
use lib.ListN.{length, get_or, length-append}
use lib.Dec.{ltb, leb, eqb}
use borrow.Author.Tests.{lt-ltb, le-leb, eq-eqb, ltb-true, ltb-false, leb-true, leb-false, ne_eqb, eqb-false, not-true}
use Rattle.sdp_bytes.specs.Token.{digit}
use Rattle.sdp_bytes.proofs.ScanLaws.{and_left, and_right}
use Rattle.sdp_utf8.specs.Utf8 as utf8
use Rattle.sdp_utf8.specs.Utf8.{utf8_end, is_utf8}
use Rattle.sdp_utf8.proofs.Utf8Laws.{utf8_plain}
use Rattle.sdp_number.specs.Number as number
use Rattle.sdp_number.specs.Number.{all_digits, value, digits_below, drop_plus, whole_number, unit_of, scaled, typed_time}
use Rattle.sdp_number.proofs.NumberLaws.{typed_plain, typed_unit}
use Rattle.sdp_judge.specs.Offset as signed-offset
use Rattle.sdp_judge.specs.Offset.{zone_offset}
use Rattle.sdp_put.specs.Digits.{digits, time_text}
use Rattle.sdp_put.proofs.DigitLaws.{digits-one, digits_more, digits_pass, time_form, time_pass, offset-minus, offset-plain}
use Rattle.sdp_row.specs.Written.{signed_text}
use Rattle.sdp_bound.proofs.NumberLaws.{digits_some}
use Rattle.sdp_put.proofs.ByteLaws.{every, last_byte, but_last}
use Rattle.std.specs.Prelude.{Ok}

-- ---- digits
value-append : (v : ℕ) (a b : List ℕ) → value v (a ++ b) ≡ value (value v a) b
unfolding number.value
value-append v [] b = refl
value-append v (x ∷ a) b = value-append (v * 10 + (x - 0x30)) a b

all_append : (a b : List ℕ) → all_digits (a ++ b) ≡ (all_digits a && all_digits b)
unfolding number.all_digits
all_append [] b = refl
all_append (x ∷ a) b = rw (all_append a b) (sym (and_assoc (digit x) (all_digits a) (all_digits b)))

digit_is : (d : ℕ) → d < 10 → all_digits ((0x30 + d) ∷ []) ≡ true
unfolding number.all_digits
digit_is d h = rw (le-leb 0x30 (0x30 + d) (omega arith), le-leb (0x30 + d) 0x39 (omega arith))

-- the digits of v: all of them digits, that say v
record Digits (v : ℕ) (s : List ℕ) : Type 0 where
  all : all_digits s ≡ true
  says : value 0 s ≡ v

digits_in_lem : (n v : ℕ) → v < n → Digits v (digits v)
unfolding number.value
digits_in_lem zero v h = absurd (omega arith)
digits_in_lem (suc n) v h = go (ltb v 10) refl (λ g. digits_in_lem n (v / 10) (omega arith))
  where
    go : (b : Bool) → ltb v 10 ≡ b → (10 ≤ v → Digits (v / 10) (digits (v / 10))) → Digits v (digits v)
    go true e ih =
        let l = ltb-true v 10 e in
        let s : value 0 ((0x30 + v) ∷ []) ≡ v = omega arith in
        rw (digits-one v l) (record { all = digit_is v l; says = s })
    go false e ih =
        let l = ltb-false v 10 e in
        let i = ih l in
        let d : List ℕ = (0x30 + v % 10) ∷ [] in
        let k : value (v / 10) d ≡ v = omega arith in
        rw (digits_more v l) (record {
          all = rw (all_append (digits (v / 10)) d, i.all) (digit_is (v % 10) (omega arith));
          says = value-append 0 (digits (v / 10)) d ∙ ap (λ (n : ℕ). value n d) i.says ∙ k;
        })

digits_are : (v : ℕ) → Digits v (digits v)
digits_are v = digits_in_lem (suc v) v (omega arith)

-- digits begin with no plus sign, and bytes below 80 hexadecimal are UTF-8
no_plus : (s : List ℕ) → all_digits s ≡ true → drop_plus s ≡ s
unfolding number.drop_plus number.all_digits
no_plus [] h = refl
no_plus (b ∷ s) h = rw (ne_eqb b 0x2b (λ e. true≢false (sym h ∙ ap (λ (x : ℕ). digit x && all_digits s) e)))

ascii_end : (s : List ℕ) → every (λ b. ltb b 0x80) s ≡ true → utf8_end s ≡ length s
unfolding every utf8.utf8_end utf8.end_from
ascii_end [] h = refl
ascii_end (b ∷ s) h = utf8_plain b s (ltb-true b 0x80 (and_left (ltb b 0x80) _ h)) ∙ ap suc (ascii_end s (and_right (ltb b 0x80) _ h))

pub ascii_utf8 : (s : List ℕ) → every (λ b. ltb b 0x80) s ≡ true → is_utf8 s ≡ true
unfolding utf8.is_utf8
ascii_utf8 s h = eq-eqb (utf8_end s) (length s) (ascii_end s h)

pub digits-ascii : (v : ℕ) → every (λ b. ltb b 0x80) (digits v) ≡ true
digits-ascii v = digits_pass (λ b. ltb b 0x80) (λ b l g. lt-ltb b 0x80 (omega arith)) v

pub number_back : (w v : ℕ) → v < 2 ^ w → whole_number w (digits v) ≡ Ok v
unfolding number.whole_number number.numeral number.digits_below
number_back w v h =
    let s = digits_are v in
    rw (ascii_utf8 (digits v) (digits-ascii v), no_plus (digits v) s.all, lt-ltb 0 (length (digits v)) (digits_some v), s.all, s.says, lt-ltb v (2 ^ w) h)

-- ---- times
no_unit : (d : ℕ) → d < 10 → unit_of (0x30 + d) ≡ 0
no_unit d h = rw (ne_eqb (0x30 + d) 0x64 (λ e. omega arith), ne_eqb (0x30 + d) 0x68 (λ e. omega arith), ne_eqb (0x30 + d) 0x6d (λ e. omega arith), ne_eqb (0x30 + d) 0x73 (λ e. omega arith))

plain_unit : (v : ℕ) → unit_of (get_or (digits v) (length (digits v) - 1) 0) ≡ 0
plain_unit v = go (ltb v 10) refl
  where
    go : (b : Bool) → ltb v 10 ≡ b → unit_of (get_or (digits v) (length (digits v) - 1) 0) ≡ 0
    go true e = rw (digits-one v (ltb-true v 10 e)) (no_unit v (ltb-true v 10 e))
    go false e = rw (digits_more v (ltb-false v 10 e)) (ap unit_of (last_byte (digits (v / 10)) (0x30 + v % 10)) ∙ no_unit (v % 10) (omega arith))

plain_back : (v : ℕ) → v < 2 ^ 64 → typed_time (digits v) ≡ Ok v
plain_back v h = typed_plain (digits v) (plain_unit v) ∙ number_back 64 v h

unit_back : (v k x : ℕ) → unit_of x ≡ k → (k ≡ 0 → ⊥) → (v / k) * k ≡ v → v / k < 2 ^ 64 → v < 2 ^ 64 → typed_time (digits (v / k) ++ (x ∷ [])) ≡ Ok v
unit_back v k x u z e l h =
    let d = digits (v / k) in
    typed_unit (d ++ (x ∷ [])) k (sym (ap unit_of (last_byte d x) ∙ u)) z
    ∙ ap (λ (s : List ℕ). scaled k (whole_number 64 s)) (but_last d x)
    ∙ ap (scaled k) (number_back 64 (v / k) l)
    ∙ rw (e, lt-ltb v (2 ^ 64) h)

pub time_back : (v : ℕ) → v < 2 ^ 64 → typed_time (time_text v) ≡ Ok v
time_back v h =
    time_form (λ s. typed_time s ≡ Ok v) v
    (λ e. plain_back v h)
    (λ z e. unit_back v 86400 0x64 refl (eqb-false 86400 0 refl) (omega arith) (omega arith) h)
    (λ z e. unit_back v 3600 0x68 refl (eqb-false 3600 0 refl) (omega arith) (omega arith) h)
    (λ z e. unit_back v 60 0x6d refl (eqb-false 60 0 refl) (omega arith) (omega arith) h)
    (λ z. plain_back v h)

pub time_some : (v : ℕ) → 0 < length (time_text v)
time_some v =
    time_form (λ s. 0 < length s) v (λ e. digits_some v) (λ z e. more (v / 86400) 0x64) (λ z e. more (v / 3600) 0x68) (λ z e. more (v / 60) 0x6d) (λ z. digits_some v)
  where
    more : (n x : ℕ) → 0 < length (digits n ++ (x ∷ []))
    more n x = omega (arith, length-append (digits n) (x ∷ []))

-- ---- offsets: the 64 bits of a signed number
-- a time begins with no minus sign
no_minus : (v : ℕ) → eqb (get_or (time_text v) 0 0) 0x2d ≡ false
unfolding every
no_minus v = go (time_text v) (time_pass (λ b. not (eqb b 0x2d)) (λ b l g. rw (ne_eqb b 0x2d (λ e. omega arith))) refl refl refl v)
  where
    go : (s : List ℕ) → every (λ b. not (eqb b 0x2d)) s ≡ true → eqb (get_or s 0 0) 0x2d ≡ false
    go [] e = refl
    go (b ∷ s) e = not-true (eqb b 0x2d) (and_left (not (eqb b 0x2d)) _ e)

pub offset_back : (n : ℕ) → n < 2 ^ 64 → zone_offset (signed_text n) ≡ Ok n
unfolding signed-offset.zone_offset
offset_back n h = go (leb (2 ^ 63) n) refl
  where
    go : (b : Bool) → leb (2 ^ 63) n ≡ b → zone_offset (signed_text n) ≡ Ok n
    go true e =
        let l = leb-true (2 ^ 63) n e in
        let k : 2 ^ 64 - (2 ^ 64 - n) ≡ n = omega arith in
        let z : eqb (2 ^ 64 - n) 0 ≡ false = ne_eqb (2 ^ 64 - n) 0 (λ q. omega arith) in
        rw (e, offset-minus true (2 ^ 64 - n) refl, lt-ltb 0 (suc (length (time_text (2 ^ 64 - n)))) (omega arith), time_back (2 ^ 64 - n) (omega arith), le-leb (2 ^ 64 - n) (2 ^ 63) (omega arith), z, k)
    go false e =
        let l = leb-false (2 ^ 63) n e in
        rw (e, offset-plain false n refl, lt-ltb 0 (length (time_text n)) (time_some n), no_minus n, time_back n h, lt-ltb n (2 ^ 63) l)
