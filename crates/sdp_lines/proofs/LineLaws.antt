-- Laws of Lines: the first line of a text and the text past it, its extent by the first stop, the forms by their tests.
-- Assumes nothing.
use Prim.Native.Nat.{ℕ, zero, suc, ◌+◌, ◌-◌, ◌≤◌, ◌<◌}
use mathlib.Core.Path.{◌≡◌, refl, sym, ap, ◌∙◌}
use mathlib.Core.List.{List, [], ◌∷◌}
use mathlib.Core.Bool.{Bool, true, false, ◌&&◌, ◌||◌, not, cond, false≢true}
use native.Mathlib.Omega.{arith}
use lib.Dec.{ltb, eqb, leb-suc-suc}
use lib.ListN.{length, get_or, take, drop, length-take, length-drop}
use lib.Seq.{take-take, length-take-le, drop-drop, get_or-take}
use borrow.Author.Tests.{eq-eqb, ne_eqb, lt-ltb, le-ltb, ltb-true, ltb-false, eqb-true, eqb-false}
use Rattle.sdp_bytes.specs.Runs.{index_of}
use Rattle.sdp_bytes.proofs.ScanLaws.{and_left, and_right, index_le}
use Rattle.sdp_lines.specs.Lines.{Raw, split, chop, content, width, has_nul_or_cr, plain_form, form_of}
use Rattle.sdp_lines.specs.Quick.{stop_index, crlf_at, first_raw, first_of, equals_second}
use Rattle.sdp_lines.specs.declared.Fault.TheVariants as fault
use Rattle.sdp_lines.specs.declared.Fault.TheVariants.{NoEquals, NotSecond}
use Rattle.std.specs.Prelude.{Some, None, Ok, Err}
use Rattle.sdp_lines.proofs.StopLaws.{stop_le, stop-before, stop_here, bad_none, bad_at, index_from, index_at, index_found, crlf_yes}

-- ---- bounds
chop-le : (l : List ℕ) → length (chop l) ≤ length l
unfolding chop
chop-le l = go (eqb (get_or l (length l - 1) 0) 13)
  where
    go : (t : Bool) → length (cond t (take (length l - 1) l) l) ≤ length l
    go true = simp length-take (omega arith)
    go false = omega arith

pub content-le : (r : Raw) → length (content r) ≤ width r
unfolding content width
content-le r = go r.ended
  where
    go : (t : Bool) → length (cond t (chop r.body) r.body) ≤ cond t (length r.body + 1) (length r.body)
    go true = omega (arith, chop-le r.body)
    go false = omega arith

pub width-le : (s : List ℕ) → width (first_raw s) ≤ length s
unfolding width
width-le s = go (ltb (index_of 10 s) (length s)) refl
  where
    go : (t : Bool) → ltb (index_of 10 s) (length s) ≡ t → cond t (length (take (index_of 10 s) s) + 1) (length (take (index_of 10 s) s)) ≤ length s
    go true h = simp length-take (omega (arith, ltb-true (index_of 10 s) (length s) h))
    go false h = simp length-take (omega arith)

pub width_pos : (s : List ℕ) → 0 < length s → 0 < width (first_raw s)
unfolding width index_of
width_pos [] h = absurd (omega arith)
width_pos (x ∷ s) h = go (eqb x 10)
  where
    more : (t : Bool) → 0 < cond t (length (x ∷ take (index_of 10 s) s) + 1) (length (x ∷ take (index_of 10 s) s))
    more true = omega arith
    more false = omega arith

    go : (t : Bool) → 0 < cond (ltb (cond t 0 (suc (index_of 10 s))) (suc (length s))) (length (take (cond t 0 (suc (index_of 10 s))) (x ∷ s)) + 1) (length (take (cond t 0 (suc (index_of 10 s))) (x ∷ s)))
    go true = rw (lt-ltb 0 (suc (length s)) (omega arith)) (omega arith)
    go false = more (ltb (suc (index_of 10 s)) (suc (length s)))

-- ---- cutting off the first line
width_cons : (x : ℕ) (b : List ℕ) (t : Bool) → width (record { body = x ∷ b; ended = t }) ≡ suc (width (record { body = b; ended = t }))
unfolding width
width_cons x b true = omega arith
width_cons x b false = refl

-- a byte that is no LF goes in front of the first line
ended_cons : (k n : ℕ) → ltb (suc k) (suc n) ≡ ltb k n
ended_cons k n = leb-suc-suc (suc k) n

-- the first line and the rest, of a text that is not empty
Unconses : List ℕ → Type 0
Unconses s = split s ≡ first_raw s ∷ split (drop (width (first_raw s)) s)

uncons_here : (x : ℕ) (xs : List ℕ) → eqb x 10 ≡ true → Unconses (x ∷ xs)
unfolding Unconses split index_of width
uncons_here x xs e = simp (e, lt-ltb 0 (suc (length xs)) (omega arith))

uncons_last : (x : ℕ) → eqb x 10 ≡ false → Unconses (x ∷ [])
unfolding Unconses split index_of width
uncons_last x e = simp e

uncons_next : (x : ℕ) (s : List ℕ) → eqb x 10 ≡ false → Unconses s → Unconses (x ∷ s)
unfolding Unconses split index_of
uncons_next x s e ih = rw (e, ih) (simp (ended_cons, width_cons))

uncons : (x : ℕ) (xs : List ℕ) → Unconses (x ∷ xs)
uncons x [] = go (eqb x 10) refl
  where
    go : (t : Bool) → eqb x 10 ≡ t → Unconses (x ∷ [])
    go true e = uncons_here x [] e
    go false e = uncons_last x e
uncons x (y ∷ ys) = go (eqb x 10) refl (uncons y ys)
  where
    go : (t : Bool) → eqb x 10 ≡ t → Unconses (y ∷ ys) → Unconses (x ∷ y ∷ ys)
    go true e ih = uncons_here x (y ∷ ys) e
    go false e ih = uncons_next x (y ∷ ys) e ih

pub split_at_place : (s : List ℕ) (i : ℕ) → i < length s → split (drop i s) ≡ first_raw (drop i s) ∷ split (drop (i + width (first_raw (drop i s))) s)
unfolding Unconses
split_at_place s i h = rw (← drop-drop (width (first_raw (drop i s))) i s) (go (drop i s) (simp length-drop (omega arith)))
  where
    go : (t : List ℕ) → 0 < length t → Unconses t
    go [] p = absurd (omega arith)
    go (x ∷ xs) p = uncons x xs

-- ---- a line's content is a front of the text
take_self : (m : ℕ) (s : List ℕ) → take (length (take m s)) s ≡ take m s
take_self zero s = refl
take_self (suc m) [] = refl
take_self (suc m) (x ∷ xs) = ap (λ (l : List ℕ). x ∷ l) (take_self m xs)

chop-front : (k : ℕ) (s : List ℕ) → take (length (chop (take k s))) s ≡ chop (take k s)
unfolding chop
chop-front k s = go (eqb (get_or (take k s) (length (take k s) - 1) 0) 13)
  where
    go : (t : Bool) → take (length (cond t (take (length (take k s) - 1) (take k s)) (take k s))) s ≡ cond t (take (length (take k s) - 1) (take k s)) (take k s)
    go true =
        let h : length (take k s) - 1 ≤ k = simp length-take (omega arith) in
        rw (take-take (length (take k s) - 1) k s h) (take_self (length (take k s) - 1) s)
    go false = take_self k s

pub content-front : (s : List ℕ) → take (length (content (first_raw s))) s ≡ content (first_raw s)
unfolding content
content-front s = go (ltb (index_of 10 s) (length s))
  where
    go : (t : Bool) → take (length (cond t (chop (take (index_of 10 s) s)) (take (index_of 10 s) s))) s ≡ cond t (chop (take (index_of 10 s) s)) (take (index_of 10 s) s)
    go true = chop-front (index_of 10 s) s
    go false = take_self (index_of 10 s) s

-- ---- the first line by its LF
module _ (s : List ℕ) where
  content_last : length s ≤ index_of 10 s → content (first_raw s) ≡ take (index_of 10 s) s
  unfolding content
  content_last h = rw (le-ltb (index_of 10 s) (length s) h)

  content_lf : index_of 10 s < length s → content (first_raw s) ≡ chop (take (index_of 10 s) s)
  unfolding content
  content_lf h = rw (lt-ltb (index_of 10 s) (length s) h)

  width_last : length s ≤ index_of 10 s → width (first_raw s) ≡ index_of 10 s
  unfolding width
  width_last h = rw (le-ltb (index_of 10 s) (length s) h) (length-take-le (index_of 10 s) s (index_le 10 s))

  width_lf : index_of 10 s < length s → width (first_raw s) ≡ index_of 10 s + 1
  unfolding width
  width_lf h = rw (lt-ltb (index_of 10 s) (length s) h, length-take-le (index_of 10 s) s (index_le 10 s))

chop-cr : (l : List ℕ) → get_or l (length l - 1) 0 ≡ 13 → chop l ≡ take (length l - 1) l
unfolding chop
chop-cr l h = rw (eq-eqb _ 13 h)

chop_no : (l : List ℕ) → (get_or l (length l - 1) 0 ≡ 13 → ⊥) → chop l ≡ l
unfolding chop
chop_no l h = rw (ne_eqb _ 13 h)

chop_long : (l : List ℕ) → length l - 1 ≤ length (chop l)
unfolding chop
chop_long l = go (eqb (get_or l (length l - 1) 0) 13)
  where
    go : (t : Bool) → length l - 1 ≤ length (cond t (take (length l - 1) l) l)
    go true = simp length-take (omega arith)
    go false = omega arith

-- the last byte of a front of k + 1 bytes stands at k
front_end : (s : List ℕ) (k : ℕ) → k < length s → get_or (take (k + 1) s) (length (take (k + 1) s) - 1) 0 ≡ get_or s k 0
front_end s k h =
    let e : length (take (k + 1) s) - 1 ≡ k = omega (arith, length-take-le (k + 1) s (omega arith)) in
    rw (e, get_or-take (k + 1) s k 0 (omega arith))

-- ---- the first line by its first stop
module _ (s : List ℕ) where
  -- a front that ends at or before the stop has neither NUL nor CR
  front_clear : (k : ℕ) → k ≤ stop_index s → has_nul_or_cr (take k s) ≡ false
  front_clear k h =
      let q = stop_le s in
      let n = length-take-le k s (omega arith) in
      bad_none (take k s) (λ i l. let m : i < k = omega arith in rw (get_or-take k s i 0 m) (stop-before s i (omega arith)))

  lf_from : stop_index s ≤ index_of 10 s
  lf_from = index_from 10 s (stop_index s) (stop_le s) (λ i h. (stop-before s i h).lf)

  -- the answer where the line's content is a clear front
  whole_is : (k w : ℕ) → content (first_raw s) ≡ take k s → k ≤ stop_index s → width (first_raw s) ≡ w → Ok (k, w) ≡ first_of s
  unfolding first_of
  whole_is k w e h v = let q = stop_le s in rw (e, front_clear k h, v, length-take-le k s (omega arith))

  pub first_last : (k : ℕ) → k ≡ stop_index s → length s ≤ k → Ok (k, k) ≡ first_of s
  first_last k e h =
      let l = lf_from in
      let i : index_of 10 s ≡ k = omega (arith, index_le 10 s, stop_le s) in
      whole_is k k (content_last s (omega arith) ∙ ap (λ (n : ℕ). take n s) i) (omega arith) (width_last s (omega arith) ∙ i)

  -- the front before the stop ends in no CR
  no_cr : (k : ℕ) → k ≤ stop_index s → get_or (take k s) (length (take k s) - 1) 0 ≡ 13 → ⊥
  no_cr zero h e = omega arith
  no_cr (suc k) h e =
      let q = stop_le s in
      let n : suc k ≡ k + 1 = omega arith in
      (stop-before s k (omega arith)).cr (sym (front_end s k (omega arith)) ∙ (rw n at e))

  module _ (k : ℕ) (e : k ≡ stop_index s) (h : k < length s) where
    pub first_lf : get_or s k 0 ≡ 10 → Ok (k, k + 1) ≡ first_of s
    first_lf b =
        let l = lf_from in
        let m = index_at 10 s k h b in
        let i : index_of 10 s ≡ k = omega arith in
        whole_is k (k + 1) (content_lf s (omega arith) ∙ ap (λ (n : ℕ). chop (take n s)) i ∙ chop_no (take k s) (no_cr k (omega arith))) (omega arith)
        (width_lf s (omega arith) ∙ ap (λ (n : ℕ). n + 1) i)

    module _ (b : get_or s k 0 ≡ 10 → ⊥) where
      past_stop : k + 1 ≤ index_of 10 s
      past_stop = index_from 10 s (k + 1) (omega arith) (λ i l. go i (ltb i k) refl l)
        where
          go : (i : ℕ) (t : Bool) → ltb i k ≡ t → i < k + 1 → get_or s i 0 ≡ 10 → ⊥
          go i true p l = (stop-before s i (omega (arith, ltb-true i k p))).lf
          go i false p l =
              let q : i ≡ k = omega (arith, ltb-false i k p) in
              λ z. b (sym (ap (λ (n : ℕ). get_or s n 0) q) ∙ z)

      pub first_crlf : crlf_at s k ≡ true → Ok (k, k + 2) ≡ first_of s
      unfolding crlf_at
      first_crlf c =
          let r = ltb-true (k + 1) (length s) (and_left _ _ c) in
          let d = and_right (ltb (k + 1) (length s)) _ c in
          let cr = eqb-true (get_or s k 0) 13 (and_left _ _ d) in
          let lf = eqb-true (get_or s (k + 1) 0) 10 (and_right (eqb (get_or s k 0) 13) _ d) in
          let l = past_stop in
          let m = index_at 10 s (k + 1) r lf in
          let i : index_of 10 s ≡ k + 1 = omega arith in
          let n : length (take (k + 1) s) - 1 ≡ k = omega (arith, length-take-le (k + 1) s (omega arith)) in
          let z : take (length (take (k + 1) s) - 1) (take (k + 1) s) ≡ take k s = rw (n, take-take k (k + 1) s (omega arith)) in
          whole_is k (k + 2)
          (content_lf s (omega arith) ∙ ap (λ (j : ℕ). chop (take j s)) i ∙ chop-cr (take (k + 1) s) (front_end s k h ∙ cr) ∙ z) (omega arith)
          (width_lf s (omega arith) ∙ omega arith)

      -- the line reaches past a stop that does not end it
      module _ (c : crlf_at s k ≡ false) where
        no_crlf : get_or s k 0 ≡ 13 → k + 1 < length s → get_or s (k + 1) 0 ≡ 10 → ⊥
        no_crlf x y z = false≢true (sym c ∙ crlf_yes s k y x z)

        past_lf : index_of 10 s < length s → (t : Bool) → eqb (index_of 10 s) (k + 1) ≡ t → k < length (chop (take (index_of 10 s) s))
        past_lf r false p =
            omega (arith, eqb-false (index_of 10 s) (k + 1) p, past_stop, chop_long (take (index_of 10 s) s), length-take-le (index_of 10 s) s (index_le 10 s))
        past_lf r true p =
            let i = eqb-true (index_of 10 s) (k + 1) p in
            let lf = sym (ap (λ (n : ℕ). get_or s n 0) i) ∙ index_found 10 s r in
            rw (i, chop_no (take (k + 1) s) (λ z. no_crlf (sym (front_end s k h) ∙ z) (omega arith) lf))
            (omega (arith, length-take-le (k + 1) s (omega arith)))

        reaches : (t : Bool) → ltb (index_of 10 s) (length s) ≡ t → k < length (content (first_raw s))
        reaches false p =
            let r = ltb-false (index_of 10 s) (length s) p in
            rw (content_last s (omega arith)) (omega (arith, length-take-le (index_of 10 s) s (index_le 10 s), past_stop))
        reaches true p =
            let r = ltb-true (index_of 10 s) (length s) p in
            rw (content_lf s r) (past_lf r (eqb (index_of 10 s) (k + 1)) refl)

        stop_in : eqb (get_or (content (first_raw s)) k 0) 0 || eqb (get_or (content (first_raw s)) k 0) 13 ≡ true
        stop_in =
            let l = reaches (ltb (index_of 10 s) (length s)) refl in
            let q : get_or (content (first_raw s)) k 0 ≡ get_or s k 0 = ap (λ (l : List ℕ). get_or l k 0) (sym (content-front s)) ∙ get_or-take (length (content (first_raw s))) s k 0 l in
            let z : get_or s k 0 ≡ get_or s (stop_index s) 0 = ap (λ (n : ℕ). get_or s n 0) e in
            rw (q, z) (stop_here s (omega arith) (λ y. b (z ∙ y)))

        pub first_bad : Err fault.NulOrCr ≡ first_of s
        unfolding first_of
        first_bad = rw (bad_at (content (first_raw s)) k (reaches (ltb (index_of 10 s) (length s)) refl) stop_in)

-- ---- the forms by their tests
module _ (l : List ℕ) where
  pub form_blank : length l ≡ 0 → plain_form l ≡ Ok None
  unfolding plain_form
  form_blank h = rw (eq-eqb _ _ h)

  module _ (n : length l ≡ 0 → ⊥) (e : ℕ) (i : e ≡ index_of 0x3d l) where
    pub form_none : e ≡ length l → plain_form l ≡ Err NoEquals
    unfolding plain_form
    form_none h = rw (ne_eqb _ _ n, ← i, eq-eqb _ _ h)

    form_good : (e ≡ length l → ⊥) → e ≡ 1 → plain_form l ≡ Ok (Some (get_or l 0 0))
    unfolding plain_form
    form_good h k = rw (ne_eqb _ _ n, ← i, ne_eqb _ _ h, eq-eqb _ _ k)

    form_far : (e ≡ length l → ⊥) → (e ≡ 1 → ⊥) → plain_form l ≡ Err NotSecond
    unfolding plain_form
    form_far h k = rw (ne_eqb _ _ n, ← i, ne_eqb _ _ h, ne_eqb _ _ k)

-- where the first `=` is the second byte, or not
pub second_short : (l : List ℕ) → length l < 2 → false ≡ equals_second l
unfolding equals_second
second_short l h = rw (le-ltb 1 (length l) (omega arith))

pub second_is : (l : List ℕ) → 2 ≤ length l → (not (eqb (get_or l 0 0) 0x3d) && eqb (get_or l 1 0) 0x3d) ≡ equals_second l
unfolding equals_second index_of
second_is [] h = absurd (omega arith)
second_is (a ∷ []) h = absurd (omega arith)
second_is (a ∷ b ∷ l) h = rw (lt-ltb 1 (length (a ∷ b ∷ l)) (omega arith)) (go (eqb a 0x3d) (eqb b 0x3d))
  where
    go : (p q : Bool) → (not p && q) ≡ eqb (cond p 0 (suc (cond q 0 (suc (index_of 0x3d l))))) 1
    go true q = refl
    go false true = refl
    go false false = sym (ne_eqb (suc (suc (index_of 0x3d l))) 1 (λ (e : suc (suc (index_of 0x3d l)) ≡ 1). omega arith))

module _ (l : List ℕ) where
  pub form_second : equals_second l ≡ true → plain_form l ≡ Ok (Some (get_or l 0 0))
  unfolding equals_second
  form_second e =
      let a = ltb-true 1 (length l) (and_left (ltb 1 (length l)) (eqb (index_of 0x3d l) 1) e) in
      let b = eqb-true (index_of 0x3d l) 1 (and_right (ltb 1 (length l)) (eqb (index_of 0x3d l) 1) e) in
      form_good l (λ (h : length l ≡ 0). omega arith) (index_of 0x3d l) refl (λ (h : index_of 0x3d l ≡ length l). omega arith) b

  pub form_later : equals_second l ≡ false → (length l ≡ 0 → ⊥) → (e : ℕ) → e ≡ index_of 0x3d l → (e ≡ length l → ⊥) → plain_form l ≡ Err NotSecond
  unfolding equals_second
  form_later f n e i h =
      let a = index_le 0x3d l in
      form_far l n e i h
      (λ (k : e ≡ 1). false≢true (sym f ∙ rw (lt-ltb 1 (length l) (omega arith), eq-eqb (index_of 0x3d l) 1 (omega arith))))

-- a line of good form has two bytes at least
pub good_long : (l : List ℕ) (c : ℕ) → plain_form l ≡ Ok (Some c) → 2 ≤ length l
unfolding plain_form
good_long l c = go (eqb (length l) 0) (eqb (index_of 0x3d l) (length l)) (eqb (index_of 0x3d l) 1) refl refl
  where
    go : (t₁ t₂ t₃ : Bool) → eqb (index_of 0x3d l) (length l) ≡ t₂ → eqb (index_of 0x3d l) 1 ≡ t₃
        → cond t₁ (Ok None) (cond t₂ (Err NoEquals) (cond t₃ (Ok (Some (get_or l 0 0))) (Err NotSecond))) ≡ Ok (Some c) → 2 ≤ length l
    go true t₂ t₃ p q h = absurd (let z : ◌≡◌ {A = ℕ} 0 1 = cc in omega arith)
    go false true t₃ p q h = absurd (let z : ◌≡◌ {A = ℕ} 0 1 = cc in omega arith)
    go false false true p q h = omega (arith, eqb-false (index_of 0x3d l) (length l) p, eqb-true (index_of 0x3d l) 1 q, index_le 0x3d l)
    go false false false p q h = absurd (let z : ◌≡◌ {A = ℕ} 0 1 = cc in omega arith)

pub good_form : (l : List ℕ) (c : ℕ) → form_of l ≡ Ok (Some c) → 2 ≤ length l
unfolding form_of
good_form l c = go (has_nul_or_cr l)
  where
    go : (t : Bool) → cond t (Err fault.NulOrCr) (plain_form l) ≡ Ok (Some c) → 2 ≤ length l
    go true e = absurd (let z : ◌≡◌ {A = ℕ} 0 1 = cc in omega arith)
    go false e = good_long l c e
