-- The lists of an r and a z line while they are read: what was read so far, and what is left.
-- Assumes nothing.
use Prim.Native.Nat.{ℕ, ◌+◌, ◌≤◌, ◌<◌}
use native.Mathlib.Omega.{arith}
use mathlib.Core.Path.{◌≡◌, refl, sym, ap, ◌∙◌}
use mathlib.Core.Bool.{Bool, true, false, cond}
use mathlib.Core.List.{List, [], ◌∷◌, ◌++◌, append_assoc, append-nil, map}
use lib.Dec.{ltb}
use lib.ListN.{length, length-append}
use borrow.Author.Tests.{lt-ltb, ltb-true}
use Rattle.sdp_judge.specs.Read.{Read, and_then}
use Rattle.sdp_cells.specs.Tables.{add}
use Rattle.std.specs.Prelude.{Ok, Err}

module _ {A : Type 0} where
  -- nothing so far
  pub none_yet : (r : Read (List A)) → r ≡ and_then r (λ xs. Ok ([] ++ xs))
  none_yet (Ok xs) = refl
  none_yet (Err w) = refl

  -- one more
  pub one_more : (r : Read (List A)) (done : List A) (x : A)
      → and_then (and_then r (λ xs. Ok (x ∷ xs))) (λ xs. Ok (done ++ xs)) ≡ and_then r (λ xs. Ok ((done ++ (x ∷ [])) ++ xs))
  one_more (Ok xs) done x = ap Ok (sym (append_assoc done (x ∷ []) xs))
  one_more (Err w) done x = refl

  -- all
  pub all_read : (done : List A) → and_then (Ok []) (λ xs. Ok (done ++ xs)) ≡ Ok done
  all_read done = ap Ok (append-nil done)

  pub length_more : (done : List A) (x : A) → length (done ++ (x ∷ [])) ≡ length done + 1
  length_more done x = length-append done (x ∷ [])

pub map_more : {A B : Type 0} (f : A → B) (xs : List A) (x : A) → map f (xs ++ (x ∷ [])) ≡ map f xs ++ (f x ∷ [])
map_more f [] x = refl
map_more f (y ∷ xs) x = ap (λ (l : List _). f y ∷ l) (map_more f xs x)

pub length-map : {A B : Type 0} (f : A → B) (xs : List A) → length (map f xs) ≡ length xs
length-map f [] = refl
length-map f (x ∷ xs) = let e = length-map f xs in omega arith

-- rows that hold what was read, as far as they have room
pub record Kept {A B : Type 0} (f : A → B) (cap : ℕ) (rows : List B) (done : List A) : Type 0 where
  pub fits : length rows ≤ cap
  pub same : length done ≤ cap → rows ≡ map f done

pub kept_none : {A B : Type 0} (f : A → B) (cap : ℕ) → Kept f cap [] []
kept_none f cap = record { fits = omega arith; same = λ h. refl }

pub kept_more_lem : {A B : Type 0} (f : A → B) (cap : ℕ) (rows : List B) (done : List A) (x : A) → Kept f cap rows done
    → Kept f cap (add cap rows (f x)) (done ++ (x ∷ []))
kept_more_lem f cap rows done x k = record { fits = fits (ltb (length rows) cap) refl; same = same }
  where
    fits : (b : Bool) → ltb (length rows) cap ≡ b → length (cond b (rows ++ (f x ∷ [])) rows) ≤ cap
    fits true e = omega (arith, length-append rows (f x ∷ []), ltb-true (length rows) cap e)
    fits false e = k.fits

    same : length (done ++ (x ∷ [])) ≤ cap → add cap rows (f x) ≡ map f (done ++ (x ∷ []))
    same h =
        let n = length_more done x in
        let s = k.same (omega arith) in
        let l : length rows < cap = omega (arith, ap length s, length-map f done) in
        rw (lt-ltb (length rows) cap l) (ap (λ (l : List _). l ++ (f x ∷ [])) s ∙ sym (map_more f done x))
