-- Laws of scans: a loop that passes a list in steps or byte by byte, runs of bytes, the index of a byte.
-- Assumes nothing.
use Prim.Native.Nat.{ℕ, zero, suc, ◌+◌, ◌-◌, ◌<◌, ◌≤◌}
use native.Mathlib.Numerals.{add-one}
use native.Mathlib.Omega.{arith}
use mathlib.Core.Path.{◌≡◌, refl, sym, ap, ◌∙◌}
use mathlib.Core.Bool.{Bool, true, false, ◌&&◌, not, and-false, false≢true, cond}
use mathlib.Core.List.{List, [], ◌∷◌}
use borrow.Author.Tests.{not-true, not-false, ltb-false}
use lib.Dec.{eqb, ltb}
use lib.ListN.{length, get_or, take, drop, drop_of_length-le, length-drop}
use lib.Seq.{drop-cons, drop-drop, take_all}
use Rattle.std.specs.List.{position_or_len, position}
use Rattle.std.specs.Prelude.{Some, None}
use Rattle.std.specs.Option.{unwrap_or}
use Rattle.std.proofs.lemmas.List.Recursion.{is_position_or_len}
use Rattle.sdp_bytes.specs.Runs.{index_of, run, run_len}

pub and_left : (a b : Bool) → (a && b) ≡ true → a ≡ true
and_left true b e = refl
and_left false b e = absurd (false≢true e)

pub and_right : (a b : Bool) → (a && b) ≡ true → b ≡ true
and_right true b e = e
and_right false b e = absurd (false≢true e)

-- what `&s[i..]` is
pub rest_from : (s : List ℕ) (i : ℕ) → take (length s - i) (drop i s) ≡ drop i s
rest_from s i = take_all (length s - i) (drop i s) (omega (arith, length-drop i s))

-- ---- a scan: `end` is where it ends
-- the end of the whole is i and the end of the rest from i
abbrev pub Reached : (List ℕ → ℕ) → List ℕ → ℕ → Type 0
Reached end s i = (i ≤ length s) × (end s ≡ i + end (drop i s))

module _ (end : List ℕ → ℕ) (s : List ℕ) (i : ℕ) (h : Reached end s i) where
  pub reached_on : (n : ℕ) → Reached end (drop i s) n → Reached end s (i + n)
  reached_on n u = let d = length-drop i s in (omega arith, omega (arith, ap end (drop-drop n i s)))

  pub reached_here : end (drop i s) ≡ 0 → i ≡ end s
  reached_here u = omega arith

  pub reached_done : end [] ≡ 0 → length s ≤ i → i ≡ end s
  reached_done z l = reached_here (ap end (drop_of_length-le s l) ∙ z)

-- in steps: `step` passes some bytes, or none where the scan ends here
pub record Steps (end step : List ℕ → ℕ) : Type 0 where
  pub next : (s : List ℕ) (n : ℕ) → step s ≡ suc n → Reached end s (suc n)
  pub stop : (s : List ℕ) → step s ≡ 0 → end s ≡ 0
  pub none : end [] ≡ 0

module _ {end step : List ℕ → ℕ} (laws : Steps end step) (s : List ℕ) (i : ℕ) (h : Reached end s i) where
  pub step_on : (n : ℕ) → n ≡ step (drop i s) → (n ≡ 0 → ⊥) → Reached end s (i + n)
  step_on zero e p = absurd (p refl)
  step_on (suc m) e p = reached_on end s i h (suc m) (laws.next (drop i s) m (sym e))

  pub step_here : (n : ℕ) → n ≡ step (drop i s) → n ≡ 0 → i ≡ end s
  step_here n e p = reached_here end s i h (laws.stop (drop i s) (sym e ∙ p))

  pub step_done : length s ≤ i → i ≡ end s
  step_done l = reached_done end s i h laws.none l

-- byte by byte: to the first that passes the test `stop`
pub record Until (stop : ℕ → Bool) (end : List ℕ → ℕ) : Type 0 where
  pub next : (b : ℕ) (s : List ℕ) → stop b ≡ false → end (b ∷ s) ≡ suc (end s)
  pub here : (b : ℕ) (s : List ℕ) → stop b ≡ true → end (b ∷ s) ≡ 0
  pub none : end [] ≡ 0

module _ {stop : ℕ → Bool} {end : List ℕ → ℕ} (laws : Until stop end) (s : List ℕ) (i : ℕ) (h : Reached end s i) where
  pub until_next : i < length s → stop (get_or s i 0) ≡ false → Reached end s (i + 1)
  until_next l e =
      let u = ap end (drop-cons s i 0 l) ∙ laws.next (get_or s i 0) (drop (suc i) s) e in
      let v = ap (λ (k : ℕ). end (drop k s)) (add-one i) in
      (omega arith, omega arith)

  pub until_done : length s ≤ i → i ≡ end s
  until_done l = reached_done end s i h laws.none l

  pub until_here : i < length s → stop (get_or s i 0) ≡ true → i ≡ end s
  until_here l e = reached_here end s i h (ap end (drop-cons s i 0 l) ∙ laws.here (get_or s i 0) (drop (suc i) s) e)

-- ---- runs of bytes that pass a test, by their places
module _ (p : ℕ → Bool) where
  abbrev pub run_at : ℕ → List ℕ → ℕ → Bool
  run_at zero s i = true
  run_at (suc k) s i = p (get_or s i 0) && run_at k s (i + 1)

  pub run_at_lem : (k : ℕ) (s : List ℕ) (i : ℕ) → i + k ≤ length s → run p k (drop i s) ≡ run_at k s i
  unfolding run
  run_at_lem zero s i h = refl
  run_at_lem (suc k) s i h =
      let l : i < length s = omega arith in
      let e = run_at_lem k s (i + 1) (omega arith) in
      rw (drop-cons s i 0, ← e, add-one)

  pub run_short : (k : ℕ) (s : List ℕ) → length s < k → run p k s ≡ false
  unfolding run
  run_short zero s h = absurd (omega arith)
  run_short (suc k) [] h = refl
  run_short (suc k) (b ∷ s) h = rw (run_short k s (omega arith), and-false)

  pub run_fewest : (k : ℕ) (s : List ℕ) → run p k s ≡ true → k ≤ run_len p s
  unfolding run run_len
  run_fewest zero s h = omega arith
  run_fewest (suc k) [] h = absurd (false≢true h)
  run_fewest (suc k) (b ∷ s) h = rw (and_left (p b) (run p k s) h) (omega (arith, run_fewest k s (and_right (p b) (run p k s) h)))

  pub run_pass : (b : ℕ) (s : List ℕ) → p b ≡ true → run_len p (b ∷ s) ≡ suc (run_len p s)
  unfolding run_len
  run_pass b s e = rw e

  pub run-until : Until (λ b. not (p b)) (run_len p)
  unfolding run_len
  run-until = record { next = λ b s e. rw (not-false (p b) e); here = λ b s e. rw (not-true (p b) e); none = refl }

  -- a scan that passes such bytes passes a run of them
  module _ {end : List ℕ → ℕ} (pass : (b : ℕ) (s : List ℕ) → p b ≡ true → end (b ∷ s) ≡ suc (end s)) where
    pub run_passed : (k : ℕ) (s : List ℕ) → k ≤ run_len p s → Reached end s k
    unfolding run_len
    run_passed zero s h = (omega arith, omega arith)
    run_passed (suc k) [] h = absurd (omega arith)
    run_passed (suc k) (b ∷ s) h = go (p b) refl h (run_passed k s)
      where
        go : (t : Bool) → p b ≡ t → suc k ≤ cond t (suc (run_len p s)) 0 → (k ≤ run_len p s → Reached end s k) → Reached end (b ∷ s) (suc k)
        go true e h ih = let u = pass b s e in let v = ih (omega arith) in (omega arith, omega arith)
        go false e h ih = absurd (omega arith)

-- a run from where a run has come to
pub run_on : (p : ℕ → Bool) (s : List ℕ) (i : ℕ) → Reached (run_len p) s i → (k : ℕ) → run p k (drop i s) ≡ true → Reached (run_len p) s (i + k)
run_on p s i h k e = reached_on (run_len p) s i h k (run_passed p (run_pass p) k (drop i s) (run_fewest p k (drop i s) e))

-- ---- the index of a byte
pub index_until : (b : ℕ) → Until (λ x. eqb x b) (index_of b)
unfolding index_of
index_until b = record { next = λ x s e. rw e; here = λ x s e. rw e; none = refl }

pub index-position : (b : ℕ) (s : List ℕ) → index_of b s ≡ position_or_len (λ x. eqb x b) s
unfolding index_of
index-position b s = is_position_or_len (index_of b) (λ x. eqb x b) refl (λ x xs. let e : suc (index_of b xs) ≡ 1 + index_of b xs = omega arith in ap (cond (eqb x b) 0) e) s

pub index_le : (b : ℕ) (s : List ℕ) → index_of b s ≤ length s
unfolding index_of
index_le b [] = omega arith
index_le b (x ∷ s) = go (eqb x b) (index_le b s)
  where
    go : (t : Bool) → index_of b s ≤ length s → cond t 0 (suc (index_of b s)) ≤ suc (length s)
    go true h = omega arith
    go false h = omega arith

-- as the code finds it: where it is found, or else at the length
pub index-found : (b : ℕ) (s : List ℕ) → unwrap_or (position (λ x. eqb x b) s) (length s) ≡ index_of b s
index-found b s = rw (← index-position b s) (go (ltb (index_of b s) (length s)) refl)
  where
    go : (t : Bool) → ltb (index_of b s) (length s) ≡ t → unwrap_or (cond t (Some (index_of b s)) None) (length s) ≡ index_of b s
    go true e = refl
    go false e = omega (arith, index_le b s, ltb-false _ _ e)
