-- Laws of char_len and utf8_end: one step of a loop over the characters, and of its quick way.
-- Assumes nothing.
use Prim.Native.Nat.{ℕ, zero, suc, ◌+◌, ◌<◌, ◌≤◌}
use native.Mathlib.Nat.{add-zero}
use native.Mathlib.Numerals.{add-one}
use native.Mathlib.Decide.{dec_lt}
use native.Mathlib.Omega.{arith}
use mathlib.Core.Path.{◌≡◌, refl, sym, ap, ◌∙◌}
use mathlib.Core.Bool.{Bool, true, false, ◌&&◌, ◌||◌, not, and-false, and-true, false≢true, cond}
use mathlib.Core.List.{List, [], ◌∷◌}
use borrow.Author.Tests.{lt-ltb, le-ltb, le-leb, lt-leb, leb-true}
use lib.Dec.{leb, ltb, eqb}
use Rattle.std.proofs.lemmas.Bool.Decides.{nat_tests}
use lib.ListN.{length, get_or, drop, drop_of_length-le, length-drop}
use lib.Seq.{drop-cons}
use Rattle.sdp_bytes.proofs.ScanLaws.{and_right, Reached, reached_on, run_passed, run-until, Steps}
use Rattle.sdp_bytes.specs.Ranges.{Range, ◌to◌, within, fits, in_at}
use Rattle.sdp_bytes.specs.Runs.{run_len}
use Rattle.sdp_utf8.specs.Utf8.{tail, char1, char2, char3, char4, char_len, end_from, utf8_end, stop_at, ascii, step_len}

or_elim : (a b : Bool) {P : Type 0} → (a ≡ true → P) → (b ≡ true → P) → (a || b) ≡ true → P
or_elim true b p q e = p refl
or_elim false b p q e = q e

not_true : (b : Bool) → (b ≡ true → ⊥) → b ≡ false
not_true true h = absurd (h refl)
not_true false h = refl

-- ---- the ranges by their places
-- a byte of each range stands from place i on
abbrev pub fits_at : List Range → List ℕ → ℕ → Bool
fits_at [] s i = true
fits_at (r ∷ rs) s i = in_at r s i && fits_at rs s (i + 1)

fits_at_lem : (rs : List Range) (s : List ℕ) (i : ℕ) → fits rs (drop i s) ≡ fits_at rs s i
unfolding fits
fits_at_lem [] s i = refl
fits_at_lem (r ∷ rs) s i = go (dec_lt i (length s)) (fits_at_lem rs s (i + 1))
  where
    go : Dec (i < length s) → fits rs (drop (i + 1) s) ≡ fits_at rs s (i + 1) → fits (r ∷ rs) (drop i s) ≡ fits_at (r ∷ rs) s i
    go (yes h) e = rw (drop-cons s i 0, lt-ltb i (length s) h, ← e, add-one)
    go (no h) e = let l : length s ≤ i = omega arith in rw (drop_of_length-le s l, le-ltb i (length s) l)

pub fits_places : (rs : List Range) (s : List ℕ) → fits rs s ≡ fits_at rs s 0
fits_places rs s = fits_at_lem rs s 0

-- ---- which rows of the table the first byte leaves
below_out : (lo hi b : ℕ) (rs : List Range) (s : List ℕ) → b < lo → fits (lo to hi ∷ rs) (b ∷ s) ≡ false
unfolding fits
below_out lo hi b rs s h = rw (lt-leb lo b h)

above_out : (lo hi b : ℕ) (rs : List Range) (s : List ℕ) → hi < b → fits (lo to hi ∷ rs) (b ∷ s) ≡ false
unfolding fits
above_out lo hi b rs s h = rw (lt-leb b hi h, and-false)

module _ (b : ℕ) (s : List ℕ) where
  out1 : 0x80 ≤ b → char1 (b ∷ s) ≡ false
  out1 h = above_out 0 0x7f b [] s (omega arith)

  out2 : 0xe0 ≤ b → char2 (b ∷ s) ≡ false
  out2 h = above_out 0xc2 0xdf b _ s (omega arith)

  low3 : b < 0xe0 → char3 (b ∷ s) ≡ false
  low3 h =
      rw (below_out 0xe0 0xe0 b _ s (omega arith), below_out 0xe1 0xec b _ s (omega arith), below_out 0xed 0xed b _ s (omega arith), below_out 0xee 0xef b _ s (omega arith))

  out3 : 0xf0 ≤ b → char3 (b ∷ s) ≡ false
  out3 h =
      rw (above_out 0xe0 0xe0 b _ s (omega arith), above_out 0xe1 0xec b _ s (omega arith), above_out 0xed 0xed b _ s (omega arith), above_out 0xee 0xef b _ s (omega arith))

  low4 : b < 0xf0 → char4 (b ∷ s) ≡ false
  low4 h =
      rw (below_out 0xf0 0xf0 b _ s (omega arith), below_out 0xf1 0xf3 b _ s (omega arith), below_out 0xf4 0xf4 b _ s (omega arith))

  pub plain-one : b < 0x80 → char_len (b ∷ s) ≡ 1
  unfolding char_len fits
  plain-one h = rw (le-leb 0 b (omega arith), le-leb b 0x7f (omega arith))

  two_cons : 0x80 ≤ b → b < 0xe0 → char_len (b ∷ s) ≡ cond (char2 (b ∷ s)) 2 0
  unfolding char_len
  two_cons h l = rw (out1 h, low3 l, low4 (omega arith))

  three_cons : 0xe0 ≤ b → b < 0xf0 → char_len (b ∷ s) ≡ cond (char3 (b ∷ s)) 3 0
  unfolding char_len
  three_cons h l = rw (out1 (omega arith), out2 h, low4 l)

  four_cons : 0xf0 ≤ b → char_len (b ∷ s) ≡ cond (char4 (b ∷ s)) 4 0
  unfolding char_len
  four_cons h = rw (out1 (omega arith), out2 (omega arith), out3 h)

pub none_len : (s : List ℕ) → length s ≡ 0 → char_len s ≡ 0
unfolding char_len fits
none_len [] h = refl
none_len (b ∷ s) h = absurd (omega arith)

module _ (s : List ℕ) (l : 0 < length s) where
  pub one_len : get_or s 0 0 < 0x80 → char_len s ≡ 1
  one_len h = go s l h
    where
      go : (s : List ℕ) → 0 < length s → get_or s 0 0 < 0x80 → char_len s ≡ 1
      go [] l h = absurd (omega arith)
      go (b ∷ s) l h = plain-one b s h

  pub two_len : 0x80 ≤ get_or s 0 0 → get_or s 0 0 < 0xe0 → char_len s ≡ cond (char2 s) 2 0
  two_len h k = go s l h k
    where
      go : (s : List ℕ) → 0 < length s → 0x80 ≤ get_or s 0 0 → get_or s 0 0 < 0xe0 → char_len s ≡ cond (char2 s) 2 0
      go [] l h k = absurd (omega arith)
      go (b ∷ s) l h k = two_cons b s h k

  pub three_len : 0xe0 ≤ get_or s 0 0 → get_or s 0 0 < 0xf0 → char_len s ≡ cond (char3 s) 3 0
  three_len h k = go s l h k
    where
      go : (s : List ℕ) → 0 < length s → 0xe0 ≤ get_or s 0 0 → get_or s 0 0 < 0xf0 → char_len s ≡ cond (char3 s) 3 0
      go [] l h k = absurd (omega arith)
      go (b ∷ s) l h k = three_cons b s h k

  pub four_len : 0xf0 ≤ get_or s 0 0 → char_len s ≡ cond (char4 s) 4 0
  four_len h = go s l h
    where
      go : (s : List ℕ) → 0 < length s → 0xf0 ≤ get_or s 0 0 → char_len s ≡ cond (char4 s) 4 0
      go [] l h = absurd (omega arith)
      go (b ∷ s) l h = four_cons b s h

-- ---- a character is no longer than the list
fits_le : (rs : List Range) (s : List ℕ) → fits rs s ≡ true → length rs ≤ length s
unfolding fits
fits_le [] s e = omega arith
fits_le (r ∷ rs) [] e = absurd (false≢true e)
fits_le (r ∷ rs) (b ∷ s) e = let h = fits_le rs s (and_right (within r b) (fits rs s) e) in omega arith

pub fits_short : (rs : List Range) (s : List ℕ) → length s < length rs → fits rs s ≡ false
fits_short rs s h = not_true (fits rs s) (λ e. omega (arith, fits_le rs s e))

-- where s is long enough, only the bytes are asked, and not whether they are there
abbrev pub within_at : List Range → List ℕ → ℕ → Bool
within_at [] s i = true
within_at (r ∷ rs) s i = within r (get_or s i 0) && within_at rs s (i + 1)

known_at : (rs : List Range) (s : List ℕ) (i : ℕ) → i + length rs ≤ length s → fits_at rs s i ≡ within_at rs s i
known_at [] s i h = refl
known_at (r ∷ rs) s i h = rw (lt-ltb i (length s) (omega arith), known_at rs s (i + 1) (omega arith))

pub fits_known : (rs : List Range) (s : List ℕ) → length rs ≤ length s → fits rs s ≡ within_at rs s 0
fits_known rs s h = fits_places rs s ∙ known_at rs s 0 (omega arith)

-- the rows of three bytes at once: they differ in the second byte alone
three_rows : (a b : ℕ) (t : Bool)
    → (within (0xe0 to 0xef) a && (within tail b && t) && not (eqb a 0xe0 && ltb b 0xa0) && not (eqb a 0xed && ltb 0x9f b))
    ≡ (within (0xe0 to 0xe0) a && (within (0xa0 to 0xbf) b && t) || within (0xe1 to 0xec) a && (within tail b && t)
    || within (0xed to 0xed) a && (within (0x80 to 0x9f) b && t) || within (0xee to 0xef) a && (within tail b && t))
three_rows a b t = grind (arith, nat_tests)

pub char3_at : (s : List ℕ) → 3 ≤ length s
    → (within (0xe0 to 0xef) (get_or s 0 0) && (within tail (get_or s 1 0) && within tail (get_or s 2 0)) && not (eqb (get_or s 0 0) 0xe0 && ltb (get_or s 1 0) 0xa0)
    && not (eqb (get_or s 0 0) 0xed && ltb 0x9f (get_or s 1 0)))
    ≡ char3 s
char3_at s h =
    rw (fits_known (0xe0 to 0xe0 ∷ 0xa0 to 0xbf ∷ tail ∷ []) s h, fits_known (0xe1 to 0xec ∷ tail ∷ tail ∷ []) s h, fits_known (0xed to 0xed ∷ 0x80 to 0x9f ∷ tail ∷ []) s h, fits_known (0xee to 0xef ∷ tail ∷ tail ∷ []) s h, and-true (within tail (get_or s 2 0)))
    (three_rows (get_or s 0 0) (get_or s 1 0) (within tail (get_or s 2 0)))

-- and of four
four_rows : (a b : ℕ) (t u : Bool)
    → (within (0xf0 to 0xf4) a && (within tail b && t && u) && not (eqb a 0xf0 && ltb b 0x90) && not (eqb a 0xf4 && ltb 0x8f b))
    ≡ (within (0xf0 to 0xf0) a && (within (0x90 to 0xbf) b && (t && u)) || within (0xf1 to 0xf3) a && (within tail b && (t && u))
    || within (0xf4 to 0xf4) a && (within (0x80 to 0x8f) b && (t && u)))
four_rows a b t u = grind (arith, nat_tests)

pub char4_at : (s : List ℕ) → 4 ≤ length s
    → (within (0xf0 to 0xf4) (get_or s 0 0) && (within tail (get_or s 1 0) && within tail (get_or s 2 0) && within tail (get_or s 3 0))
    && not (eqb (get_or s 0 0) 0xf0 && ltb (get_or s 1 0) 0x90) && not (eqb (get_or s 0 0) 0xf4 && ltb 0x8f (get_or s 1 0)))
    ≡ char4 s
char4_at s h =
    rw (fits_known (0xf0 to 0xf0 ∷ 0x90 to 0xbf ∷ tail ∷ tail ∷ []) s h, fits_known (0xf1 to 0xf3 ∷ tail ∷ tail ∷ tail ∷ []) s h, fits_known (0xf4 to 0xf4 ∷ 0x80 to 0x8f ∷ tail ∷ tail ∷ []) s h, and-true (within tail (get_or s 3 0)))
    (four_rows (get_or s 0 0) (get_or s 1 0) (within tail (get_or s 2 0)) (within tail (get_or s 3 0)))

-- fewer bytes begin with none of them
pub none_three : (s : List ℕ) → length s < 3 → char3 s ≡ false
none_three s h =
    rw (fits_short (0xe0 to 0xe0 ∷ 0xa0 to 0xbf ∷ tail ∷ []) s h, fits_short (0xe1 to 0xec ∷ tail ∷ tail ∷ []) s h, fits_short (0xed to 0xed ∷ 0x80 to 0x9f ∷ tail ∷ []) s h, fits_short (0xee to 0xef ∷ tail ∷ tail ∷ []) s h)

pub none_four : (s : List ℕ) → length s < 4 → char4 s ≡ false
none_four s h =
    rw (fits_short (0xf0 to 0xf0 ∷ 0x90 to 0xbf ∷ tail ∷ tail ∷ []) s h, fits_short (0xf1 to 0xf3 ∷ tail ∷ tail ∷ tail ∷ []) s h, fits_short (0xf4 to 0xf4 ∷ 0x80 to 0x8f ∷ tail ∷ tail ∷ []) s h)

pick_le : (a b c d : Bool) (n : ℕ) → (a ≡ true → 1 ≤ n) → (b ≡ true → 2 ≤ n) → (c ≡ true → 3 ≤ n) → (d ≡ true → 4 ≤ n)
    → cond a 1 (cond b 2 (cond c 3 (cond d 4 0))) ≤ n
pick_le true b c d n p q r s = p refl
pick_le false true c d n p q r s = q refl
pick_le false false true d n p q r s = r refl
pick_le false false false true n p q r s = s refl
pick_le false false false false n p q r s = omega arith

pub char_len-le : (s : List ℕ) → char_len s ≤ length s
unfolding char_len
char_len-le s =
    pick_le (char1 s) (char2 s) (char3 s) (char4 s) (length s) (fits_le _ s) (fits_le _ s)
    (or_elim _ _ (or_elim _ _ (or_elim _ _ (fits_le _ s) (fits_le _ s)) (fits_le _ s)) (fits_le _ s))
    (or_elim _ _ (or_elim _ _ (fits_le _ s) (fits_le _ s)) (fits_le _ s))

-- ---- one character on
end_from_skip : (k : ℕ) (s : List ℕ) → k ≤ length s → end_from k s ≡ k + end_from 0 (drop k s)
unfolding end_from
end_from_skip zero s h = omega arith
end_from_skip (suc k) [] h = omega arith
end_from_skip (suc k) (b ∷ s) h = let e = end_from_skip k s (omega arith) in omega arith

pub utf8_next : (s : List ℕ) (n : ℕ) → char_len s ≡ suc n → utf8_end s ≡ suc n + utf8_end (drop (suc n) s)
unfolding utf8_end end_from
utf8_next [] n e = let h = char_len-le [] in omega arith
utf8_next (b ∷ s) n e =
    let h = char_len-le (b ∷ s) in
    let k = end_from_skip n s (omega arith) in
    rw e (omega arith)

pub utf8_stop : (s : List ℕ) → char_len s ≡ 0 → utf8_end s ≡ 0
unfolding utf8_end end_from
utf8_stop [] e = refl
utf8_stop (b ∷ s) e = rw e

-- ---- plain bytes on
pub utf8_plain : (b : ℕ) (s : List ℕ) → b < 0x80 → utf8_end (b ∷ s) ≡ suc (utf8_end s)
utf8_plain b s h = let e = utf8_next (b ∷ s) 0 (plain-one b s h) in omega arith

pub plain_pass : (b : ℕ) (s : List ℕ) → ascii b ≡ true → utf8_end (b ∷ s) ≡ suc (utf8_end s)
plain_pass b s e = let l = leb-true b 0x7f (and_right (leb 0 b) (leb b 0x7f) e) in utf8_plain b s (omega arith)

pub plain_on : (s : List ℕ) → Reached utf8_end s (run_len ascii s)
plain_on s = run_passed ascii plain_pass (run_len ascii s) s (omega arith)

-- a step passes well_formed_lem bytes, or stands where there is no character
step_next : (s : List ℕ) (n : ℕ) → step_len s ≡ suc n → Reached utf8_end s (suc n)
unfolding step_len
step_next s n = go (char_len s) refl
  where
    go : (m : ℕ) → char_len s ≡ m → stop_at m (m + run_len ascii (drop m s)) ≡ suc n → Reached utf8_end s (suc n)
    go zero p e = absurd (omega arith)
    go (suc m) p e =
        let l = char_len-le s in
        rw (← e) (reached_on utf8_end s (suc m) (omega arith, utf8_next s m p) (run_len ascii (drop (suc m) s)) (plain_on (drop (suc m) s)))

step-stop : (s : List ℕ) → step_len s ≡ 0 → utf8_end s ≡ 0
unfolding step_len
step-stop s = go (char_len s) refl
  where
    go : (m : ℕ) → char_len s ≡ m → stop_at m (m + run_len ascii (drop m s)) ≡ 0 → utf8_end s ≡ 0
    go zero p e = utf8_stop s p
    go (suc m) p e = absurd (omega arith)

utf8_none : utf8_end [] ≡ 0
unfolding utf8_end end_from
utf8_none = refl

pub utf8_steps : Steps utf8_end step_len
utf8_steps = record { next = step_next; stop = step-stop; none = utf8_none }

-- ---- the step by its tests
module _ (s : List ℕ) (n : ℕ) (e : n ≡ char_len s) where
  pub len_none : n ≡ 0 → 0 ≡ step_len s
  unfolding step_len
  len_none z = ap (λ (m : ℕ). stop_at m (m + run_len ascii (drop m s))) (sym z ∙ e)

  module _ (p : n ≡ 0 → ⊥) where
    pub len_some : (r : ℕ) → r ≡ run_len ascii (drop n s) → n + r ≡ step_len s
    unfolding step_len
    len_some r q = ap (λ (x : ℕ). n + x) q ∙ go n e p
      where
        go : (n : ℕ) → n ≡ char_len s → (n ≡ 0 → ⊥) → n + run_len ascii (drop n s) ≡ stop_at (char_len s) (char_len s + run_len ascii (drop (char_len s) s))
        go zero e p = absurd (p refl)
        go (suc m) e p = ap (λ (m : ℕ). stop_at m (m + run_len ascii (drop m s))) e

    pub len_last : length s ≤ n → n ≡ step_len s
    len_last l = let q = ap (run_len ascii) (drop_of_length-le s l) ∙ (run-until ascii).none in sym (add-zero n) ∙ len_some 0 (sym q)

    pub len_high : n < length s → 0x80 ≤ get_or s n 0 → n ≡ step_len s
    len_high l h =
        let f : not (ascii (get_or s n 0)) ≡ true = rw (lt-leb (get_or s n 0) 0x7f h, and-false) refl in
        let q = ap (run_len ascii) (drop-cons s n 0 l) ∙ (run-until ascii).here (get_or s n 0) (drop (suc n) s) f in
        sym (add-zero n) ∙ len_some 0 (sym q)

  pub len_le : (r : ℕ) → r ≡ run_len ascii (drop n s) → n + r ≤ length s
  len_le r q = omega (arith, char_len-le s, (plain_on (drop n s)).0, length-drop n s)
