-- Laws of the quick way: what the first NUL, LF or CR of a text says of its first line.
-- Assumes nothing.
use Prim.Native.Nat.{ℕ, zero, suc, ◌+◌, ◌≤◌, ◌<◌}
use mathlib.Core.Path.{◌≡◌, refl, sym}
use mathlib.Core.List.{List, [], ◌∷◌}
use mathlib.Core.Bool.{Bool, true, false, ◌&&◌, ◌||◌, cond, false≢true}
use native.Mathlib.Omega.{arith}
use lib.Dec.{leb, eqb}
use lib.ListN.{length, get_or}
use borrow.Author.Tests.{eq-eqb, ne_eqb, lt-ltb, le-ltb, leb-true, eqb-true, eqb-false}
use Rattle.sdp_bytes.specs.Ranges.{◌to◌, within}
use Rattle.sdp_bytes.specs.Runs.{index_of}
use Rattle.sdp_bytes.proofs.ScanLaws.{Until, and_left}
use Rattle.sdp_lines.specs.Lines.{has_nul_or_cr}
use Rattle.sdp_lines.specs.Quick.{stop_byte, stop_index, crlf_at}

-- ---- the way to the first stop
-- a byte above CR is passed
pub quiet_pass : (b : ℕ) (s : List ℕ) → within (14 to 255) b ≡ true → stop_index (b ∷ s) ≡ suc (stop_index s)
unfolding stop_index
quiet_pass b s e =
    let h = leb-true 14 b (and_left (leb 14 b) (leb b 255) e) in
    rw (ne_eqb b 0 (λ (q : b ≡ 0). omega arith), ne_eqb b 10 (λ (q : b ≡ 10). omega arith), ne_eqb b 13 (λ (q : b ≡ 13). omega arith))

pub stop-until : Until stop_byte stop_index
unfolding stop_index
stop-until = record { next = λ b s e. rw e; here = λ b s e. rw e; none = refl }

-- ---- the bytes before the first stop, and the stop
pub stop_le : (s : List ℕ) → stop_index s ≤ length s
unfolding stop_index
stop_le [] = omega arith
stop_le (b ∷ s) = go (stop_byte b) (stop_le s)
  where
    go : (t : Bool) → stop_index s ≤ length s → cond t 0 (suc (stop_index s)) ≤ suc (length s)
    go true h = omega arith
    go false h = omega arith

-- a byte that is no stop
pub record Clear (b : ℕ) : Type 0 where
  pub nul : b ≡ 0 → ⊥
  pub lf : b ≡ 10 → ⊥
  pub cr : b ≡ 13 → ⊥

clear : (b : ℕ) → stop_byte b ≡ false → Clear b
clear b = go (eqb b 0) (eqb b 10) (eqb b 13) refl refl refl
  where
    go : (x y z : Bool) → eqb b 0 ≡ x → eqb b 10 ≡ y → eqb b 13 ≡ z → (x || y || z) ≡ false → Clear b
    go true y z p q r e = absurd (false≢true (sym e))
    go false true z p q r e = absurd (false≢true (sym e))
    go false false true p q r e = absurd (false≢true (sym e))
    go false false false p q r e = record { nul = eqb-false b 0 p; lf = eqb-false b 10 q; cr = eqb-false b 13 r }

pub stop-before : (s : List ℕ) (i : ℕ) → i < stop_index s → Clear (get_or s i 0)
unfolding stop_index
stop-before [] i h = absurd (omega arith)
stop-before (b ∷ s) i h = go (stop_byte b) refl i h (stop-before s)
  where
    go : (t : Bool) → stop_byte b ≡ t → (i : ℕ) → i < cond t 0 (suc (stop_index s)) → ((j : ℕ) → j < stop_index s → Clear (get_or s j 0)) → Clear (get_or (b ∷ s) i 0)
    go true p i h ih = absurd (omega arith)
    go false p zero h ih = clear b p
    go false p (suc i) h ih = ih i (omega arith)

-- the stop itself: what is no LF is NUL or CR
pub stop_here : (s : List ℕ) → stop_index s < length s → (get_or s (stop_index s) 0 ≡ 10 → ⊥) → eqb (get_or s (stop_index s) 0) 0 || eqb (get_or s (stop_index s) 0) 13 ≡ true
unfolding stop_index
stop_here [] h n = absurd (omega arith)
stop_here (b ∷ s) h n = go (stop_byte b) refl h n (stop_here s)
  where
    last : stop_byte b ≡ true → (b ≡ 10 → ⊥) → eqb b 0 || eqb b 13 ≡ true
    last e n = rw (ne_eqb b 10 n, or_false) at e
      where
        or_false : (a : Bool) → (a || false) ≡ a
        or_false true = refl
        or_false false = refl

    go : (t : Bool) → stop_byte b ≡ t → cond t 0 (suc (stop_index s)) < suc (length s)
        → (get_or (b ∷ s) (cond t 0 (suc (stop_index s))) 0 ≡ 10 → ⊥)
        → (stop_index s < length s → (get_or s (stop_index s) 0 ≡ 10 → ⊥) → eqb (get_or s (stop_index s) 0) 0 || eqb (get_or s (stop_index s) 0) 13 ≡ true)
        → eqb (get_or (b ∷ s) (cond t 0 (suc (stop_index s))) 0) 0 || eqb (get_or (b ∷ s) (cond t 0 (suc (stop_index s))) 0) 13 ≡ true
    go true p h n ih = last p n
    go false p h n ih = ih (omega arith) n

-- ---- NUL and CR by places
pub bad_none : (l : List ℕ) → ((i : ℕ) → i < length l → Clear (get_or l i 0)) → has_nul_or_cr l ≡ false
unfolding has_nul_or_cr
bad_none [] h = refl
bad_none (b ∷ l) h =
    let q = h 0 (omega arith) in
    rw (ne_eqb b 0 q.nul, ne_eqb b 13 q.cr, bad_none l (λ i k. h (suc i) (omega arith)))

pub bad_at : (l : List ℕ) (i : ℕ) → i < length l → eqb (get_or l i 0) 0 || eqb (get_or l i 0) 13 ≡ true → has_nul_or_cr l ≡ true
unfolding has_nul_or_cr
bad_at [] i h e = absurd (omega arith)
bad_at (b ∷ l) zero h e = rw e
bad_at (b ∷ l) (suc i) h e = rw (bad_at l i (omega arith) e) (go (eqb b 0 || eqb b 13))
  where
    go : (t : Bool) → (t || true) ≡ true
    go true = refl
    go false = refl

-- ---- the index of LF by places
pub index_from : (b : ℕ) (s : List ℕ) (k : ℕ) → k ≤ length s → ((i : ℕ) → i < k → get_or s i 0 ≡ b → ⊥) → k ≤ index_of b s
unfolding index_of
index_from b s zero h n = omega arith
index_from b [] (suc k) h n = absurd (omega arith)
index_from b (x ∷ s) (suc k) h n =
    let e = index_from b s k (omega arith) (λ i l. n (suc i) (omega arith)) in
    rw (ne_eqb x b (n 0 (omega arith))) (omega arith)

pub index_at : (b : ℕ) (s : List ℕ) (k : ℕ) → k < length s → get_or s k 0 ≡ b → index_of b s ≤ k
unfolding index_of
index_at b [] k h e = absurd (omega arith)
index_at b (x ∷ s) zero h e = rw (eq-eqb x b e) (omega arith)
index_at b (x ∷ s) (suc k) h e = go (eqb x b) (index_at b s k (omega arith) e)
  where
    go : (t : Bool) → index_of b s ≤ k → cond t 0 (suc (index_of b s)) ≤ suc k
    go true l = omega arith
    go false l = omega arith

pub index_found : (b : ℕ) (s : List ℕ) → index_of b s < length s → get_or s (index_of b s) 0 ≡ b
unfolding index_of
index_found b [] h = absurd (omega arith)
index_found b (x ∷ s) h = go (eqb x b) refl h (index_found b s)
  where
    go : (t : Bool) → eqb x b ≡ t → cond t 0 (suc (index_of b s)) < suc (length s) → (index_of b s < length s → get_or s (index_of b s) 0 ≡ b)
        → get_or (x ∷ s) (cond t 0 (suc (index_of b s))) 0 ≡ b
    go true p h ih = eqb-true x b p
    go false p h ih = ih (omega arith)

pub crlf_yes : (s : List ℕ) (k : ℕ) → k + 1 < length s → get_or s k 0 ≡ 13 → get_or s (k + 1) 0 ≡ 10 → crlf_at s k ≡ true
unfolding crlf_at
crlf_yes s k h x y = rw (lt-ltb (k + 1) (length s) h, eq-eqb (get_or s k 0) 13 x, eq-eqb (get_or s (k + 1) 0) 10 y)

pub crlf_short : (s : List ℕ) (k : ℕ) → length s ≤ k + 1 → crlf_at s k ≡ false
unfolding crlf_at
crlf_short s k h = rw (le-ltb (k + 1) (length s) h)

pub crlf_is : (s : List ℕ) (k : ℕ) → k + 1 < length s → crlf_at s k ≡ (eqb (get_or s k 0) 13 && eqb (get_or s (k + 1) 0) 10)
unfolding crlf_at
crlf_is s k h = rw (lt-ltb (k + 1) (length s) h)
