-- Bytes that all pass a test, and strings that the writer leaves as they are. Assumes nothing.
use mathlib.Core.Path.{◌≡◌, refl, ap}
use mathlib.Core.Bool.{Bool, true, false, cond, not, ◌&&◌, and-eq-true_iff}
use mathlib.Core.List.{List, [], ◌∷◌, ◌++◌}
use Prim.Native.Nat.{ℕ, zero, suc, ◌-◌}
use native.Mathlib.Omega.{arith}
use lib.ListN.{length, get_or, take, drop, length-append}
use lib.Seq.{get_or_at, take_at}
use lib.Dec.{eqb}
use borrow.Author.Tests.{not-true}
use Rattle.sdp_bytes.specs.Runs as runs
use Rattle.sdp_bytes.specs.Runs.{index_of}
use Rattle.sdp_bytes.proofs.ScanLaws.{and_left, and_right}
use Rattle.sdp_put.specs.Strings as strings
use Rattle.sdp_put.specs.Strings.{dropped, kept, clean}

-- ---- the last byte, and those before it
pub last_byte : (s : List ℕ) (x : ℕ) → get_or (s ++ (x ∷ [])) (length (s ++ (x ∷ [])) - 1) 0 ≡ x
last_byte s x = get_or_at s x [] 0 (length (s ++ (x ∷ [])) - 1) (omega (arith, length-append s (x ∷ [])))

pub but_last : (s : List ℕ) (x : ℕ) → take (length (s ++ (x ∷ [])) - 1) (s ++ (x ∷ [])) ≡ s
but_last s x = take_at s (x ∷ []) (length (s ++ (x ∷ [])) - 1) (omega (arith, length-append s (x ∷ [])))

-- ---- every byte passes p
unfoldable pub every : (ℕ → Bool) → List ℕ → Bool
every p [] = true
every p (b ∷ s) = p b && every p s

module _ (p : ℕ → Bool) where
  pub every_append : (a b : List ℕ) → every p a ≡ true → every p b ≡ true → every p (a ++ b) ≡ true
  unfolding every
  every_append [] b h k = k
  every_append (x ∷ a) b h k = (and-eq-true_iff (p x) _).1 (and_left (p x) _ h, every_append a b (and_right (p x) _ h) k)

  pub every_take : (n : ℕ) (s : List ℕ) → every p s ≡ true → every p (take n s) ≡ true
  unfolding every
  every_take zero s h = refl
  every_take (suc n) [] h = refl
  every_take (suc n) (b ∷ s) h = (and-eq-true_iff (p b) _).1 (and_left (p b) _ h, every_take n s (and_right (p b) _ h))

  pub every_drop : (n : ℕ) (s : List ℕ) → every p s ≡ true → every p (drop n s) ≡ true
  unfolding every
  every_drop zero s h = h
  every_drop (suc n) [] h = refl
  every_drop (suc n) (b ∷ s) h = every_drop n s (and_right (p b) _ h)

-- another test that passes where p does
pub every_so : (p q : ℕ → Bool) → ((b : ℕ) → p b ≡ true → q b ≡ true) → (s : List ℕ) → every p s ≡ true → every q s ≡ true
unfolding every
every_so p q h [] e = refl
every_so p q h (b ∷ s) e = (and-eq-true_iff (q b) _).1 (h b (and_left (p b) _ e), every_so p q h s (and_right (p b) _ e))

-- ---- a byte that is not there
abbrev pub lacks : ℕ → List ℕ → Bool
lacks c s = every (λ b. not (eqb b c)) s

pub before_lacks : (c : ℕ) (s : List ℕ) → lacks c (take (index_of c s) s) ≡ true
unfolding every runs.index_of
before_lacks c [] = refl
before_lacks c (b ∷ s) = go (eqb b c) refl (before_lacks c s)
  where
    go : (t : Bool) → eqb b c ≡ t → lacks c (take (index_of c s) s) ≡ true → lacks c (take (cond t 0 (suc (index_of c s))) (b ∷ s)) ≡ true
    go true e h = refl
    go false e h = rw e h

-- ---- strings without NUL, CR and LF
abbrev pub bare : List ℕ → Bool
bare s = every (λ b. not (dropped b)) s

pub clean_bare : (s : List ℕ) → bare s ≡ true → clean s ≡ s
unfolding every strings.clean strings.kept
clean_bare [] h = refl
clean_bare (b ∷ s) h = rw (not-true (dropped b) (and_left (not (dropped b)) _ h)) (ap (λ (l : List ℕ). b ∷ l) (clean_bare s (and_right (not (dropped b)) _ h)))

pub cleaned : (s : List ℕ) → bare (clean s) ≡ true
unfolding every strings.clean strings.kept
cleaned [] = refl
cleaned (b ∷ s) = go (dropped b) refl (cleaned s)
  where
    go : (t : Bool) → dropped b ≡ t → bare (clean s) ≡ true → bare (cond t [] (b ∷ []) ++ clean s) ≡ true
    go true e h = h
    go false e h = rw e h
