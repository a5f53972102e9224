-- A number, a time or a zone offset that was refused for its encoding stands in a field that is not UTF-8, and one that was read in a field that
-- is: unit letters and the sign are ASCII.
-- Assumes nothing.
use Prim.Native.Nat.{ℕ, suc, ◌+◌, ◌*◌, ◌^◌, ◌-◌, ◌<◌}
use native.Mathlib.Omega.{arith}
use mathlib.Core.Path.{◌≡◌, refl, sym, ap, ◌∙◌}
use mathlib.Core.Bool.{Bool, true, false, ◌&&◌, cond}
use mathlib.Core.List.{List, [], ◌∷◌, ◌++◌}
use borrow.Author.Tests.{eqb-true}
use lib.Dec.{ltb, leb, eqb}
use lib.ListN.{length, get_or, take, drop, length-append, take-append-drop, drop_of_length-le}
use lib.Seq.{drop-cons}
use Rattle.sdp_bytes.proofs.ScanLaws.{and_right}
use Rattle.sdp_utf8.specs.Utf8.{is_utf8, Text, none, more}
use Rattle.sdp_utf8.proofs.Utf8Laws.{plain-one, utf8_plain}
use Rattle.sdp_utf8.proofs.Utf8Text.{text_join, utf8_text}
use Rattle.sdp_utf8.proofs.BreakLaws.{utf8_short, short_utf8, break_stays}
use Rattle.sdp_number.specs.Number as number
use Rattle.sdp_number.specs.Number.{Number, all_digits, value, drop_plus, numeral, whole_number, unit_of, scaled, typed_time}
use Rattle.sdp_number.specs.declared.NumberError.TheVariants.{Encoding, Format}
use Rattle.sdp_judge.specs.Offset as zone
use Rattle.sdp_judge.specs.Offset.{signed_of, zone_offset}
use Rattle.std.specs.Prelude.{Ok, Err}

-- a rule that refuses for the encoding only what is not UTF-8, and reads only what is
pub record Honest (rule : List ℕ → Number) : Type 0 where
  pub bad : (s : List ℕ) → rule s ≡ (Err Encoding) → is_utf8 s ≡ false
  pub good : (s : List ℕ) (n : ℕ) → rule s ≡ Ok n → is_utf8 s ≡ true

number_bad : (w : ℕ) (s : List ℕ) → whole_number w s ≡ (Err Encoding) → is_utf8 s ≡ false
unfolding number.whole_number number.numeral number.digits_below
number_bad w s h = go (is_utf8 s) (ltb 0 (length (drop_plus s)) && (all_digits (drop_plus s) && ltb (value 0 (drop_plus s)) (2 ^ w))) h
  where
    go : (b c : Bool) → cond b (cond c (Ok (value 0 (drop_plus s))) (Err Format)) (Err Encoding) ≡ (Err Encoding) → b ≡ false
    go true true e = absurd (let z : ◌≡◌ {A = ℕ} 0 1 = cc in omega arith)
    go true false e = absurd (let z : ◌≡◌ {A = ℕ} 0 1 = cc in omega arith)
    go false c e = refl

number_good : (w : ℕ) (s : List ℕ) (n : ℕ) → whole_number w s ≡ Ok n → is_utf8 s ≡ true
unfolding number.whole_number
number_good w s n h = go (is_utf8 s) h
  where
    go : (b : Bool) → cond b (numeral w s) (Err Encoding) ≡ Ok n → b ≡ true
    go true e = refl
    go false e = absurd (let z : ◌≡◌ {A = ℕ} 0 1 = cc in omega arith)

pub number_honest : (w : ℕ) → Honest (whole_number w)
number_honest w = record { bad = number_bad w; good = number_good w }

-- ---- an ASCII byte before or behind
pub ascii-text : (b : ℕ) → b < 0x80 → Text (b ∷ [])
ascii-text b l = more (b ∷ []) [] (record { some = omega arith; whole = plain-one b [] l }) none

behind-ascii : (s : List ℕ) (b : ℕ) → b < 0x80 → is_utf8 s ≡ false → is_utf8 (s ++ (b ∷ [])) ≡ false
behind-ascii s b l h =
    let n = utf8_short s h in
    short_utf8 (s ++ (b ∷ [])) (omega (arith, break_stays b [] l s n, length-append s (b ∷ [])))

before_ascii : (s : List ℕ) (b : ℕ) → b < 0x80 → is_utf8 s ≡ false → is_utf8 (b ∷ s) ≡ false
before_ascii s b l h = let n = utf8_short s h in short_utf8 (b ∷ s) (omega (arith, utf8_plain b s l))

ascii-behind : (s : List ℕ) (b : ℕ) → b < 0x80 → is_utf8 s ≡ true → is_utf8 (s ++ (b ∷ [])) ≡ true
ascii-behind s b l h = (utf8_text (s ++ (b ∷ []))).1 (text_join ((utf8_text s).0 h) (ascii-text b l))

ascii-before : (s : List ℕ) (b : ℕ) → b < 0x80 → is_utf8 s ≡ true → is_utf8 (b ∷ s) ≡ true
ascii-before s b l h = (utf8_text (b ∷ s)).1 (text_join (ascii-text b l) ((utf8_text s).0 h))

-- a unit letter
unit_ascii : (b : ℕ) → eqb (unit_of b) 0 ≡ false → b < 0x80
unit_ascii b = go (eqb b 0x64) (eqb b 0x68) (eqb b 0x6d) (eqb b 0x73) refl refl refl refl
  where
    go : (d h m s : Bool) → eqb b 0x64 ≡ d → eqb b 0x68 ≡ h → eqb b 0x6d ≡ m → eqb b 0x73 ≡ s
        → eqb (cond d 86400 (cond h 3600 (cond m 60 (cond s 1 0)))) 0 ≡ false → b < 0x80
    go true h m s p q r t e = let z = eqb-true b 0x64 p in omega arith
    go false true m s p q r t e = let z = eqb-true b 0x68 q in omega arith
    go false false true s p q r t e = let z = eqb-true b 0x6d r in omega arith
    go false false false true p q r t e = let z = eqb-true b 0x73 t in omega arith
    go false false false false p q r t e = absurd (let z : true ≡ false = e in let y : ◌≡◌ {A = ℕ} 0 1 = cc in omega arith)

-- the last byte, where there is one
last_split : (s : List ℕ) → 0 < length s → s ≡ take (length s - 1) s ++ (get_or s (length s - 1) 0 ∷ [])
last_split s l =
    let d : drop (length s - 1) s ≡ get_or s (length s - 1) 0 ∷ drop (suc (length s - 1)) s = drop-cons s (length s - 1) 0 (omega arith) in
    let n : drop (suc (length s - 1)) s ≡ [] = drop_of_length-le s {i = suc (length s - 1)} (omega arith) in
    sym (take-append-drop (length s - 1) s) ∙ ap (λ (r : List ℕ). take (length s - 1) s ++ r) (d ∙ ap (λ (r : List ℕ). get_or s (length s - 1) 0 ∷ r) n)

scaled_from : (k : ℕ) (x : Number) → scaled k x ≡ (Err Encoding) → x ≡ (Err Encoding)
scaled_from k (Ok m) = go (ltb (m * k) (2 ^ 64))
  where
    go : (b : Bool) → cond b (Ok (m * k)) (Err Format) ≡ (Err Encoding) → Ok m ≡ (Err Encoding)
    go true e = absurd (let z : ◌≡◌ {A = ℕ} 0 1 = cc in omega arith)
    go false e = absurd (let z : ◌≡◌ {A = ℕ} 0 1 = cc in omega arith)
scaled_from k (Err Encoding) = λ e. refl
scaled_from k (Err Format) = λ e. absurd (let z : ◌≡◌ {A = ℕ} 0 1 = cc in omega arith)

-- a time by its last byte: a unit letter, or a number as it stands
scaled_value : (k : ℕ) (x : Number) (n : ℕ) → scaled k x ≡ Ok n → (m : ℕ) × (x ≡ Ok m)
scaled_value k (Ok m) n h = (m, refl)
scaled_value k (Err Encoding) n h = absurd (let z : ◌≡◌ {A = ℕ} 0 1 = cc in omega arith)
scaled_value k (Err Format) n h = absurd (let z : ◌≡◌ {A = ℕ} 0 1 = cc in omega arith)

module _ (s : List ℕ) where
  abbrev unit : ℕ
  unit = get_or s (length s - 1) 0

  abbrev stem : List ℕ
  stem = take (length s - 1) s

  united : eqb (unit_of unit) 0 ≡ false → (s ≡ stem ++ (unit ∷ [])) × (unit < 0x80)
  united u = go s refl
    where
      go : (t : List ℕ) → s ≡ t → (s ≡ stem ++ (unit ∷ [])) × (unit < 0x80)
      go [] q = absurd (let z : eqb (unit_of unit) 0 ≡ true = rw q in let y : true ≡ false = sym z ∙ u in let x : ◌≡◌ {A = ℕ} 0 1 = cc in omega arith)
      go (b ∷ t) q = (last_split s (omega (arith, ap length q)), unit_ascii unit u)

  time_bad : typed_time s ≡ (Err Encoding) → is_utf8 s ≡ false
  unfolding number.typed_time
  time_bad h = go (eqb (unit_of unit) 0) refl h
    where
      go : (b : Bool) → eqb (unit_of unit) 0 ≡ b → cond b (whole_number 64 s) (scaled (unit_of unit) (whole_number 64 stem)) ≡ (Err Encoding) → is_utf8 s ≡ false
      go true u e = number_bad 64 s e
      go false u e = let w = united u in ap is_utf8 w.0 ∙ behind-ascii stem unit w.1 (number_bad 64 stem (scaled_from (unit_of unit) (whole_number 64 stem) e))

  time_good : (n : ℕ) → typed_time s ≡ Ok n → is_utf8 s ≡ true
  unfolding number.typed_time
  time_good n h = go (eqb (unit_of unit) 0) refl h
    where
      go : (b : Bool) → eqb (unit_of unit) 0 ≡ b → cond b (whole_number 64 s) (scaled (unit_of unit) (whole_number 64 stem)) ≡ Ok n → is_utf8 s ≡ true
      go true u e = number_good 64 s n e
      go false u e =
          let w = united u in
          let m = scaled_value (unit_of unit) (whole_number 64 stem) n e in
          ap is_utf8 w.0 ∙ ascii-behind stem unit w.1 (number_good 64 stem m.0 m.1)

pub time_honest : Honest typed_time
time_honest = record { bad = time_bad; good = time_good }

-- ---- a sign before it
signed_from : (neg : Bool) (x : Number) → signed_of neg x ≡ (Err Encoding) → x ≡ (Err Encoding)
signed_from true (Ok m) = go (leb m (2 ^ 63))
  where
    go : (b : Bool) → cond b (Ok (zone.negated m)) (Err Format) ≡ (Err Encoding) → Ok m ≡ (Err Encoding)
    go true e = absurd (let z : ◌≡◌ {A = ℕ} 0 1 = cc in omega arith)
    go false e = absurd (let z : ◌≡◌ {A = ℕ} 0 1 = cc in omega arith)
signed_from false (Ok m) = go (ltb m (2 ^ 63))
  where
    go : (b : Bool) → cond b (Ok m) (Err Format) ≡ (Err Encoding) → Ok m ≡ (Err Encoding)
    go true e = absurd (let z : ◌≡◌ {A = ℕ} 0 1 = cc in omega arith)
    go false e = absurd (let z : ◌≡◌ {A = ℕ} 0 1 = cc in omega arith)
signed_from neg (Err Encoding) = λ e. refl
signed_from neg (Err Format) = λ e. absurd (let z : ◌≡◌ {A = ℕ} 0 1 = cc in omega arith)

signed-value : (neg : Bool) (x : Number) (n : ℕ) → signed_of neg x ≡ Ok n → (m : ℕ) × (x ≡ Ok m)
signed-value neg (Ok m) n h = (m, refl)
signed-value neg (Err Encoding) n h = absurd (let z : ◌≡◌ {A = ℕ} 0 1 = cc in omega arith)
signed-value neg (Err Format) n h = absurd (let z : ◌≡◌ {A = ℕ} 0 1 = cc in omega arith)

offset_bad : (s : List ℕ) → zone_offset s ≡ (Err Encoding) → is_utf8 s ≡ false
unfolding zone.zone_offset
offset_bad [] h = time_bad [] (signed_from false (typed_time []) h)
offset_bad (b ∷ s) h = go (ltb 0 (suc (length s)) && eqb b 0x2d) refl h
  where
    go : (t : Bool) → (ltb 0 (suc (length s)) && eqb b 0x2d) ≡ t → cond t (signed_of true (typed_time s)) (signed_of false (typed_time (b ∷ s))) ≡ (Err Encoding) → is_utf8 (b ∷ s) ≡ false
    go true q e = let z = eqb-true b 0x2d (and_right (ltb 0 (suc (length s))) (eqb b 0x2d) q) in before_ascii s b (omega arith) (time_bad s (signed_from true (typed_time s) e))
    go false q e = time_bad (b ∷ s) (signed_from false (typed_time (b ∷ s)) e)

offset_good : (s : List ℕ) (n : ℕ) → zone_offset s ≡ Ok n → is_utf8 s ≡ true
unfolding zone.zone_offset
offset_good [] n h = let m = signed-value false (typed_time []) n h in time_good [] m.0 m.1
offset_good (b ∷ s) n h = go (ltb 0 (suc (length s)) && eqb b 0x2d) refl h
  where
    go : (t : Bool) → (ltb 0 (suc (length s)) && eqb b 0x2d) ≡ t → cond t (signed_of true (typed_time s)) (signed_of false (typed_time (b ∷ s))) ≡ Ok n → is_utf8 (b ∷ s) ≡ true
    go true q e =
        let z = eqb-true b 0x2d (and_right (ltb 0 (suc (length s))) (eqb b 0x2d) q) in
        let m = signed-value true (typed_time s) n e in
        ascii-before s b (omega arith) (time_good s m.0 m.1)
    go false q e = let m = signed-value false (typed_time (b ∷ s)) n e in time_good (b ∷ s) m.0 m.1

pub offset_honest : Honest zone_offset
offset_honest = record { bad = offset_bad; good = offset_good }
