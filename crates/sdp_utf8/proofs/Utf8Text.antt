-- What the UTF-8 test answers, in terms of Text, a concatenation of well_formed_lem characters: is_utf8 says yes exactly to a Text, and
-- utf8_end is the end of the longest beginning that is one.
-- Assumes nothing.
use Prim.Native.Nat.{ℕ, zero, suc, ◌+◌, ◌<◌, ◌≤◌}
use native.Mathlib.Nat.{add-zero}
use native.Mathlib.Omega.{arith}
use mathlib.Core.Path.{◌≡◌, refl, sym, ap, ◌∙◌}
use mathlib.Core.Logic.{◌↔◌}
use mathlib.Core.Bool.{Bool, true, false, cond}
use mathlib.Core.List.{List, [], ◌∷◌, ◌++◌, append_assoc, append-nil}
use lib.ListN.{length, take, drop, length-append, length-drop, take-append-drop}
use lib.Seq.{drop_at, length-take-le, take-add, take-length}
use borrow.Author.Tests.{eq-eqb, eqb-true}
use Rattle.sdp_bytes.specs.Ranges.{Range, fits}
use Rattle.sdp_utf8.specs.Utf8.{char1, char2, char3, char4, char_len, end_from, utf8_end, is_utf8, Text, none, more}
use Rattle.sdp_utf8.proofs.Utf8Laws.{char_len-le, utf8_next, utf8_stop}

fits_prefix : (rs : List Range) (c t : List ℕ) → length rs ≤ length c → fits rs c ≡ fits rs (c ++ t)
unfolding fits
fits_prefix [] c t h = refl
fits_prefix (r ∷ rs) [] t h = absurd (omega arith)
fits_prefix (r ∷ rs) (b ∷ c) t h = rw (fits_prefix rs c t (omega arith))

abbrev pick_len : Bool → Bool → Bool → Bool → ℕ
pick_len a b c d = cond a 1 (cond b 2 (cond c 3 (cond d 4 0)))

pick_same : (a b c d a' b' c' d' : Bool) (k : ℕ) → (1 ≤ k → a ≡ a') → (2 ≤ k → b ≡ b') → (3 ≤ k → c ≡ c') → (4 ≤ k → d ≡ d') → 0 < k → pick_len a b c d ≡ k → pick_len a' b' c' d' ≡ k
pick_same true b c d a' b' c' d' k p q r s l e = rw (← p l) e
pick_same false true c d a' b' c' d' k p q r s l e = rw (← p l, ← q (omega arith)) e
pick_same false false true d a' b' c' d' k p q r s l e = rw (← p l, ← q (omega arith), ← r (omega arith)) e
pick_same false false false true a' b' c' d' k p q r s l e = rw (← p l, ← q (omega arith), ← r (omega arith), ← s (omega arith)) e
pick_same false false false false a' b' c' d' k p q r s l e = omega arith

module _ (c t : List ℕ) where
  same1 : 1 ≤ length c → char1 c ≡ char1 (c ++ t)
  same1 h = simp (← fits_prefix)

  same2 : 2 ≤ length c → char2 c ≡ char2 (c ++ t)
  same2 h = simp (← fits_prefix)

  same3 : 3 ≤ length c → char3 c ≡ char3 (c ++ t)
  same3 h = simp (← fits_prefix)

  same4 : 4 ≤ length c → char4 c ≡ char4 (c ++ t)
  same4 h = simp (← fits_prefix)

  char_append : 0 < length c → char_len c ≡ length c → char_len (c ++ t) ≡ length c
  unfolding char_len
  char_append l e = pick_same _ _ _ _ _ _ _ _ (length c) same1 same2 same3 same4 l e

  char_prefix : 0 < length c → char_len (c ++ t) ≡ length c → char_len c ≡ length c
  unfolding char_len
  char_prefix l e = pick_same _ _ _ _ _ _ _ _ (length c) (λ h. sym (same1 h)) (λ h. sym (same2 h)) (λ h. sym (same3 h)) (λ h. sym (same4 h)) l e

-- characters, and then what is left
pub text-append : {s : List ℕ} → Text s → (u : List ℕ) → utf8_end (s ++ u) ≡ length s + utf8_end u
text-append none u = omega arith
text-append (more [] s k t) u = text-append t u
text-append (more (b ∷ c) s k t) u =
    let w = append_assoc (b ∷ c) s u in
    let n = utf8_next (b ∷ c ++ (s ++ u)) (length c) (char_append (b ∷ c) (s ++ u) k.some k.whole) in
    let e = ap utf8_end (drop_at (b ∷ c) (s ++ u) (length (b ∷ c)) refl) in
    let i = text-append t u in
    let l = length-append (b ∷ c) s in
    rw w (omega arith)

-- one text behind another
pub text_join : {s u : List ℕ} → Text s → Text u → Text (s ++ u)
text_join none t = t
text_join {u = u} (more c s k r) t = rw (append_assoc c s u) (more c (s ++ u) k (text_join r t))

beginning : (n : ℕ) (s : List ℕ) → length s ≤ n → Text (take (utf8_end s) s)
unfolding utf8_end end_from
beginning zero [] h = none
beginning (suc n) [] h = none
beginning zero (b ∷ s) h = absurd (omega arith)
beginning (suc n) (b ∷ s) h = go (char_len (b ∷ s)) refl (λ (t : List ℕ). beginning n t)
  where
    go : (k : ℕ) → char_len (b ∷ s) ≡ k → ((t : List ℕ) → length t ≤ n → Text (take (utf8_end t) t)) → Text (take (utf8_end (b ∷ s)) (b ∷ s))
    go zero q ih = rw (utf8_stop (b ∷ s) q) none
    go (suc m) q ih =
        let l = char_len-le (b ∷ s) in
        let d = length-drop (suc m) (b ∷ s) in
        let c : length (take (suc m) (b ∷ s)) ≡ suc m = length-take-le (suc m) (b ∷ s) (omega arith) in
        let f = char_prefix (take (suc m) (b ∷ s)) (drop (suc m) (b ∷ s)) (omega arith) (ap char_len (take-append-drop (suc m) (b ∷ s)) ∙ q ∙ sym c) in
        rw (utf8_next (b ∷ s) m q, take-add)
        (more (take (suc m) (b ∷ s)) _ (record { some = omega arith; whole = f }) (ih (drop (suc m) (b ∷ s)) (omega arith)))

-- the end is that of a beginning of characters ..
pub utf8_sound : (s : List ℕ) → Text (take (utf8_end s) s)
utf8_sound s = beginning (length s) s (omega arith)

-- .. and no longer beginning is one
pub utf8_longest : (s : List ℕ) (n : ℕ) → n ≤ length s → Text (take n s) → n ≤ utf8_end s
utf8_longest s n h t = let e = rw take-append-drop at (text-append t (drop n s)) in omega (arith, length-take-le n s h)

whole : {s : List ℕ} → Text s → utf8_end s ≡ length s
unfolding utf8_end end_from
whole {s} t = rw append-nil at (text-append t []) ∙ add-zero (length s)

-- UTF-8 is exactly a concatenation of well_formed_lem characters
pub utf8_text : (s : List ℕ) → is_utf8 s ≡ true ↔ Text s
unfolding is_utf8
utf8_text s = (
  λ e. rw take-length at (rw (eqb-true (utf8_end s) (length s) e) at (utf8_sound s)),
  λ t. eq-eqb (utf8_end s) (length s) (whole t),
)
