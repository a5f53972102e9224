-- Where a list stops being UTF-8: the end lies in it, and an ASCII byte behind it changes nothing.
-- Assumes nothing.
use Prim.Native.Nat.{ℕ, zero, suc, pred, ◌+◌, ◌<◌, ◌≤◌}
use native.Mathlib.Omega.{arith}
use mathlib.Core.Path.{◌≡◌, refl, sym, ap, ◌∙◌}
use mathlib.Core.Bool.{Bool, true, false, ◌&&◌}
use mathlib.Core.List.{List, [], ◌∷◌, ◌++◌, append_assoc}
use lib.ListN.{length, take, drop, length-drop, take-append-drop}
use lib.Seq.{length-take-le}
use lib.Dec.{leb}
use borrow.Author.Tests.{eqb-false, ne_eqb, lt-leb, leb-true}
use Rattle.sdp_bytes.proofs.ScanLaws.{and_left, and_right}
use Rattle.sdp_bytes.specs.Ranges.{Range, ◌to◌, within, fits}
use Rattle.sdp_utf8.specs.Utf8.{char_len, stop_at, end_from, utf8_end, is_utf8}
use Rattle.sdp_utf8.proofs.Utf8Laws.{utf8_next, utf8_stop}
use Rattle.sdp_utf8.proofs.Utf8Text.{utf8_sound, text-append}

-- ---- the end lies in the list
end_le : (k : ℕ) (s : List ℕ) → end_from k s ≤ length s
unfolding end_from
end_le k [] = omega arith
end_le (suc k) (b ∷ s) = let h = end_le k s in omega arith
end_le zero (b ∷ s) = go (char_len (b ∷ s)) (end_le (pred (char_len (b ∷ s))) s)
  where
    go : (n : ℕ) → end_from (pred (char_len (b ∷ s))) s ≤ length s → stop_at n (suc (end_from (pred (char_len (b ∷ s))) s)) ≤ suc (length s)
    go zero h = omega arith
    go (suc n) h = omega arith

pub utf8_le : (s : List ℕ) → utf8_end s ≤ length s
unfolding utf8_end
utf8_le s = end_le 0 s

-- before the list's own end where it is not UTF-8, and only there
pub utf8_short : (s : List ℕ) → is_utf8 s ≡ false → utf8_end s < length s
unfolding is_utf8
utf8_short s h = let n = eqb-false (utf8_end s) (length s) h in omega (arith, utf8_le s)

pub short_utf8 : (s : List ℕ) → utf8_end s < length s → is_utf8 s ≡ false
unfolding is_utf8
short_utf8 s h = ne_eqb (utf8_end s) (length s) (λ e. omega arith)

-- ---- an ASCII byte behind it
-- ranges without ASCII bytes
abbrev high : List Range → Bool
high [] = true
high (lo to hi ∷ rs) = leb 0x80 lo && high rs

module _ (b : ℕ) (r : List ℕ) (small : b < 0x80) where
  -- it is no tail of a character
  no_tail : (rs : List Range) (s : List ℕ) → high rs ≡ true → fits rs (s ++ (b ∷ r)) ≡ fits rs s
  unfolding fits
  no_tail [] s h = refl
  no_tail (lo to hi ∷ rs) [] h = let l = leb-true 0x80 lo (and_left (leb 0x80 lo) (high rs) h) in rw (lt-leb lo b (omega arith))
  no_tail (lo to hi ∷ rs) (c ∷ s) h = ap (λ t. within (lo to hi) c && t) (no_tail rs s (and_right (leb 0x80 lo) (high rs) h))

  no_more : (q : Range) (rs : List Range) (s : List ℕ) → 0 < length s → high rs ≡ true → fits (q ∷ rs) (s ++ (b ∷ r)) ≡ fits (q ∷ rs) s
  unfolding fits
  no_more q rs [] l h = absurd (omega arith)
  no_more q rs (c ∷ s) l h = ap (λ t. within q c && t) (no_tail rs s h)

  same_char : (s : List ℕ) → 0 < length s → char_len (s ++ (b ∷ r)) ≡ char_len s
  unfolding char_len
  same_char s l = simp no_more

  -- what follows the end begins with no character
  none_there : (s : List ℕ) → utf8_end s ≡ 0 → char_len s ≡ 0
  none_there s h = go (char_len s) refl
    where
      go : (n : ℕ) → char_len s ≡ n → n ≡ 0
      go zero e = refl
      go (suc n) e = absurd (let z = utf8_next s n e in omega arith)

  pub break_stays : (s : List ℕ) → utf8_end s < length s → utf8_end (s ++ (b ∷ r)) ≡ utf8_end s
  break_stays s h =
      let pre : List ℕ = take (utf8_end s) s in
      let bad : List ℕ = drop (utf8_end s) s in
      let whole : pre ++ bad ≡ s = take-append-drop (utf8_end s) s in
      let n : length pre ≡ utf8_end s = length-take-le (utf8_end s) s (utf8_le s) in
      let t = utf8_sound s in
      let e : utf8_end bad ≡ 0 = let x : utf8_end s ≡ length pre + utf8_end bad = ap utf8_end (sym whole) ∙ text-append t bad in omega arith in
      let f : utf8_end (bad ++ (b ∷ r)) ≡ 0 = utf8_stop (bad ++ (b ∷ r)) (same_char bad (omega (arith, length-drop (utf8_end s) s)) ∙ none_there bad e) in
      let g : s ++ (b ∷ r) ≡ pre ++ (bad ++ (b ∷ r)) = ap (λ (l : List ℕ). l ++ (b ∷ r)) (sym whole) ∙ append_assoc pre bad (b ∷ r) in
      ap utf8_end g ∙ text-append t (bad ++ (b ∷ r)) ∙ (let z : length pre + utf8_end (bad ++ (b ∷ r)) ≡ utf8_end s = omega arith in z)
