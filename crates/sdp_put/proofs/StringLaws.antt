-- Laws of strings. Assumes nothing.
use mathlib.Core.Path.{◌≡◌, refl, sym, ap, ap₂, ◌∙◌}
use mathlib.Core.Bool.{Bool, true, false, false≢true, cond, not, ◌&&◌, and-eq-true_iff}
use mathlib.Core.List.{List, [], ◌∷◌}
use Prim.Native.Nat.{ℕ, zero, suc, ◌+◌, ◌*◌, ◌-◌, ◌/◌, ◌%◌, ◌≤◌, ◌<◌}
use native.Mathlib.Numerals.{add-one}
use native.Mathlib.Omega.{arith}
use lib.ListN.{length, take, drop, get_or, set, length-drop, length-set, length-append, drop_of_length-le, take-append-drop}
use lib.Seq.{drop-cons, take-add, take_all, take-take}
use lib.Dec.{ltb, leb}
use borrow.Author.Tests.{leb-true, ltb-true, ltb-false, ne_eqb}
use Rattle.sdp_bytes.specs.Ranges.{◌to◌, within}
use Rattle.sdp_bytes.specs.Runs as runs
use Rattle.sdp_bytes.specs.Runs.{run, run_len}
use Rattle.sdp_bytes.proofs.ScanLaws.{and_left, and_right}
use Rattle.sdp_cells.specs.Bytes as cells
use Rattle.sdp_cells.specs.Bytes.{le, num}
use Rattle.sdp_put.proofs.OutLaws.{Cut, put_more, put-over}
use Rattle.sdp_put.proofs.ByteLaws as bytes
use Rattle.sdp_put.proofs.ByteLaws.{every, every_append, every_take, every_so, clean_bare}
use Rattle.sdp_put.specs.Out.{put}
use Rattle.sdp_put.specs.Strings.{part, dropped, kept, clean}

-- the bytes from i to e
abbrev pub upto : List ℕ → ℕ → ℕ → List ℕ
upto t e i = take (e - i) (drop i t)

pub part_upto : (t : List ℕ) (e place len : ℕ) → e ≤ length t → e ≤ place + len → (e < length t → place + len ≤ e) → part t place len ≡ upto t e place
part_upto t e place len p q r = go (ltb (length t - place) len) refl
  where
    -- what is known of e, in a form that omega reads
    whole : (b : Bool) → ltb e (length t) ≡ b → length t ≤ place + len → e ≡ length t
    whole true w h = let k = r (ltb-true e (length t) w) in omega (arith, ltb-true e (length t) w)
    whole false w h = omega (arith, ltb-false e (length t) w)

    some : (b : Bool) → ltb e (length t) ≡ b → place + len ≤ length t → e ≡ place + len
    some true w h = let k = r (ltb-true e (length t) w) in omega arith
    some false w h = omega (arith, ltb-false e (length t) w)

    go : (b : Bool) → ltb (length t - place) len ≡ b → part t place len ≡ upto t e place
    go true w =
        let h = ltb-true (length t - place) len w in
        let k : e ≡ length t = whole (ltb e (length t)) refl (omega arith) in
        let d = length-drop place t in
        take_all len (drop place t) (omega arith) ∙ sym (take_all (e - place) (drop place t) (omega arith))
    go false w =
        let h = ltb-false (length t - place) len w in
        decide (ltb place (length t)) refl h
      where
        decide : (b : Bool) → ltb place (length t) ≡ b → len ≤ length t - place → part t place len ≡ upto t e place
        decide true w h = let g = ltb-true place (length t) w in let k : e ≡ place + len = some (ltb e (length t)) refl (omega arith) in ap (λ (n : ℕ). take n (drop place t)) (let z : len ≡ e - place = omega arith in z)
        decide false w h = let g = ltb-false place (length t) w in ap (λ (n : ℕ). take n (drop place t)) (let z : len ≡ e - place = omega arith in z)

pub clean_more : (s : List ℕ) (i : ℕ) → i < length s → Cut (clean (drop i s)) (kept (get_or s i 0)) (clean (drop (i + 1) s))
unfolding clean
clean_more s i h = record { is = rw (add-one, drop-cons s i 0) }

pub clean_done : (s : List ℕ) (i : ℕ) → length s ≤ i → clean (drop i s) ≡ []
unfolding clean
clean_done s i h = ap clean (drop_of_length-le s h)

pub clean_none : (t : List ℕ) (e i : ℕ) → e ≤ i → clean (upto t e i) ≡ []
unfolding clean
clean_none t e i h = ap (λ (n : ℕ). clean (take n (drop i t))) (let z : e - i ≡ 0 = omega arith in z)

pub kept-not : (b : ℕ) → dropped b ≡ true → kept b ≡ []
unfolding kept
kept-not b e = rw e

pub kept_is : (b : ℕ) → dropped b ≡ false → kept b ≡ b ∷ []
unfolding kept
kept_is b e = rw e

length-kept : (b : ℕ) → length (kept b) ≤ 1
unfolding kept
length-kept b = go (dropped b)
  where
    go : (d : Bool) → length (cond d [] (b ∷ [])) ≤ 1
    go true = omega arith
    go false = omega arith

pub length-clean : (s : List ℕ) → length (clean s) ≤ length s
unfolding clean
length-clean [] = omega arith
length-clean (b ∷ s) = omega (arith, length-append (kept b) (clean s), length-kept b, length-clean s)

-- ---- bytes above CR, the largest byte that is left out
abbrev pub quiet : ℕ → Bool
quiet = within (14 to 255)

quiet_kept : (b : ℕ) → quiet b ≡ true → not (dropped b) ≡ true
quiet_kept b e =
    let h = leb-true 14 b (and_left (leb 14 b) _ e) in
    rw (ne_eqb b 0 (λ e. omega arith), ne_eqb b 13 (λ e. omega arith), ne_eqb b 10 (λ e. omega arith))

pub quiet_clean : (s : List ℕ) → every quiet s ≡ true → clean s ≡ s
quiet_clean s e = clean_bare s (every_so quiet (λ b. not (dropped b)) quiet_kept s e)

-- ---- by eights, of which the last may lie over the one before it
module _ (p : ℕ → Bool) where
  run_every : (k : ℕ) (s : List ℕ) → run p k s ≡ true → every p (take k s) ≡ true
  unfolding run bytes.every
  run_every zero s e = refl
  run_every (suc k) [] e = absurd (false≢true e)
  run_every (suc k) (b ∷ s) e = (and-eq-true_iff (p b) _).1 (and_left (p b) _ e, run_every k s (and_right (p b) _ e))

  pub every_eight : (s : List ℕ) (i : ℕ) → every p (take i s) ≡ true → run p 8 (drop i s) ≡ true → every p (take (i + 8) s) ≡ true
  every_eight s i h e = rw (take-add i 8 s) (every_append p (take i s) (take 8 (drop i s)) h (run_every 8 (drop i s) e))

  pub every_last : (s : List ℕ) (i k : ℕ) → k + 8 ≡ length s → k ≤ i → every p (take i s) ≡ true → run p 8 (drop k s) ≡ true → every p s ≡ true
  every_last s i k n l h e =
      let first : every p (take k s) ≡ true = rw (take-take k i s l) at (every_take p k (take i s) h) in
      let last : every p (drop k s) ≡ true = rw (take_all 8 (drop k s) (omega (arith, length-drop k s))) at (run_every 8 (drop k s) e) in
      rw (take-append-drop k s) at (every_append p (take k s) (drop k s) first last)

  pub every_run : (s : List ℕ) → run_len p s ≡ length s → every p s ≡ true
  unfolding runs.run_len bytes.every
  every_run [] e = refl
  every_run (b ∷ s) e = go (p b) refl (every_run s) e
    where
      go : (t : Bool) → p b ≡ t → (run_len p s ≡ length s → every p s ≡ true) → cond t (suc (run_len p s)) 0 ≡ suc (length s) → (t && every p s) ≡ true
      go true e ih n = ih (omega arith)
      go false e ih n = absurd (omega arith)

-- ---- the bytes of a number are those that it was read from
pub le-num : (s : List ℕ) → ((i : ℕ) → get_or s i 0 < 256) → (k i : ℕ) → i + k ≤ length s → le k (num k s i) ≡ take k (drop i s)
unfolding cells.le cells.num
le-num s byte zero i h = refl
le-num s byte (suc k) i h =
    let l : i < length s = omega arith in
    let e : (get_or s i 0 + 256 * num k s (i + 1)) % 256 ≡ get_or s i 0 = omega (arith, byte i) in
    let f : (get_or s i 0 + 256 * num k s (i + 1)) / 256 ≡ num k s (i + 1) = omega (arith, byte i) in
    rw (e, f, le-num s byte k (i + 1) (omega arith), drop-cons s i 0, add-one)

-- ---- s is stored by eights: o₁ has the first i bytes of it, and then eight from k on were stored
module _ (o o₁ o₂ s : List ℕ) (byte : (i : ℕ) → get_or s i 0 < 256) (at i k x : ℕ) (e : x ≡ num 8 s k) (before : o₁ ≡ put o at (take i s)) (after : o₂ ≡ put o₁ (at + k) (le 8 x)) where
  stored : k + 8 ≤ length s → o₂ ≡ put (put o at (take i s)) (at + k) (take 8 (drop k s))
  stored h = after ∙ ap₂ (λ (l b : List ℕ). put l (at + k) b) before (ap (le 8) e ∙ le-num s byte 8 k h)

  pub stored_more : k ≡ i → k + 8 ≤ length s → o₂ ≡ put o at (take (k + 8) s)
  stored_more n h =
      stored h
      ∙ ap (λ (j : ℕ). put (put o at (take j s)) (at + k) (take 8 (drop k s))) (sym n)
      ∙ put_more o s at k h

  pub stored_last : k + 8 ≡ length s → k ≤ i → i ≤ length s → at + length s ≤ length o → o₂ ≡ put o at s
  stored_last n l h room =
      stored (omega arith)
      ∙ ap (put (put o at (take i s)) (at + k)) (take_all 8 (drop k s) (omega (arith, length-drop k s)))
      ∙ put-over o s at i k l h room

-- ---- stores one after the other
-- o after the bytes of s up to k were stored from at on
abbrev pub stores : ℕ → List ℕ → ℕ → List ℕ → List ℕ
stores zero o at s = set o at (get_or s 0 0)
stores (suc k) o at s = set (stores k o at s) (at + suc k) (get_or s (suc k) 0)

pub length_stores : (k : ℕ) (o : List ℕ) (at : ℕ) (s : List ℕ) → length (stores k o at s) ≡ length o
length_stores zero o at s = length-set o at (get_or s 0 0)
length_stores (suc k) o at s = length-set (stores k o at s) (at + suc k) (get_or s (suc k) 0) ∙ length_stores k o at s

-- the place of the next store
pub next_in : (k : ℕ) (o : List ℕ) (at : ℕ) (s : List ℕ) → at + suc k < length o → at + suc k < length (stores k o at s)
next_in k o at s h = omega (arith, length_stores k o at s)
