-- What is written of a table: each row is written once where its owner is there, since it has one owner. Assumes nothing.
use mathlib.Core.Path.{◌≡◌, refl, ap}
use mathlib.Core.Bool.{Bool, true, false, cond}
use mathlib.Core.List.{List, [], ◌∷◌}
use Prim.Native.Nat.{ℕ, ◌+◌, ◌≤◌}
use native.Mathlib.Omega.{arith}
use lib.ListN.{length, length-append}
use lib.Dec.{leb, eqb}
use borrow.Author.Tests.{eqb-true, eqb-false, leb-true, leb-false, le-leb, lt-leb}
use Rattle.sdp_decode.specs.Rows as rows
use Rattle.sdp_decode.specs.Rows.{each, mine}

-- ---- a number for each row, added
unfoldable pub sum : {X : Type 0} → (X → ℕ) → List X → ℕ
sum f [] = 0
sum f (x ∷ xs) = f x + sum f xs

-- ---- all rows, where each takes its own bytes and those of what it owns: owned k of the k-th row, rest k of all from the k-th on. What
-- is owned by none of them is left over
module _ {X : Type 0} (f : ℕ → X → List ℕ) (own : X → ℕ) (owned rest : ℕ → ℕ) where
  pub each_sum : ((n : ℕ) → rest n ≡ owned n + rest (n + 1)) → ((n : ℕ) (x : X) → length (f n x) ≡ own x + owned n)
      → (n : ℕ) (xs : List X) → length (each f n xs) + rest (n + length xs) ≡ sum own xs + rest n
  unfolding sum rows.each
  each_sum e h n [] = omega (arith, ap rest (let z : n + 0 ≡ n = omega arith in z))
  each_sum e h n (x ∷ xs) =
      omega (
        arith,
        length-append (f n x) (each f (n + 1) xs),
        e n,
        h n x,
        each_sum e h (n + 1) xs,
        ap rest (let z : n + length (x ∷ xs) ≡ n + 1 + length xs = omega arith in z),
      )

-- rows that own nothing
pub rows_sum : {X : Type 0} (f : ℕ → X → List ℕ) (own : X → ℕ) → ((n : ℕ) (x : X) → length (f n x) ≡ own x)
    → (n : ℕ) (xs : List X) → length (each f n xs) ≡ sum own xs
rows_sum f own h n xs =
    omega (arith, each_sum f own (λ k. 0) (λ k. 0) (λ k. refl) (λ k x. let l : length (f k x) ≡ own x = h k x in omega arith) n xs)

pub rows_short : {X : Type 0} (f : ℕ → X → List ℕ) (own : X → ℕ) → ((n : ℕ) (x : X) → length (f n x) ≤ own x)
    → (n : ℕ) (xs : List X) → length (each f n xs) ≤ sum own xs
unfolding sum rows.each
rows_short f own h n [] = omega arith
rows_short f own h n (x ∷ xs) = omega (arith, length-append (f n x) (each f (n + 1) xs), h n x, rows_short f own h (n + 1) xs)

-- ---- rows with an owner
-- how the rows of a table are written: the owner of a row, and the bytes of the k-th
pub record Rows (X : Type 0) : Type 0 where
  pub owner : X → ℕ
  pub bytes : ℕ → X → List ℕ

-- one row, of n or a later owner
one_owner : (n o : ℕ) (bs : List ℕ) → length (cond (leb n o) bs []) ≡ length (mine n o bs) + length (cond (leb (n + 1) o) bs [])
unfolding rows.mine
one_owner n o bs = go (leb n o) (eqb o n) refl refl
  where
    go : (a b : Bool) → leb n o ≡ a → eqb o n ≡ b → length (cond a bs []) ≡ length (cond b bs []) + length (cond (leb (n + 1) o) bs [])
    go true true p q = rw (lt-leb (n + 1) o (omega (arith, eqb-true o n q))) (omega arith)
    go true false p q = rw (le-leb (n + 1) o (omega (arith, eqb-false o n q, leb-true n o p))) (omega arith)
    go false true p q = absurd (omega (arith, eqb-true o n q, leb-false n o p))
    go false false p q = rw (lt-leb (n + 1) o (omega (arith, leb-false n o p))) (omega arith)

-- with an owner that is late enough, or not
two_sides : (b : Bool) (bs : List ℕ) → length (cond b bs []) + length (cond b [] bs) ≡ length bs
two_sides true bs = omega arith
two_sides false bs = omega arith

module _ {X : Type 0} (r : Rows X) where
  -- what belongs to n, and to n or a later owner, where the rows are counted on from k
  abbrev of_from : ℕ → ℕ → List X → List ℕ
  of_from k n xs = each (λ k x. mine n (r.owner x) (r.bytes k x)) k xs

  abbrev later_from : ℕ → ℕ → List X → List ℕ
  later_from k n xs = each (λ k x. cond (leb n (r.owner x)) (r.bytes k x) []) k xs

  -- what belongs to an owner before n
  abbrev earlier_from : ℕ → ℕ → List X → List ℕ
  earlier_from k n xs = each (λ k x. cond (leb n (r.owner x)) [] (r.bytes k x)) k xs

  -- what belongs to no owner from low to most
  unfoldable pub stray_from : ℕ → ℕ → ℕ → List X → ℕ
  stray_from k low most xs = length (earlier_from k low xs) + length (later_from k (1 + most) xs)

  -- the same of a whole table
  abbrev pub of_owner : List X → ℕ → ℕ
  of_owner xs n = length (of_from 1 n xs)

  abbrev pub from_owner : List X → ℕ → ℕ
  from_owner xs n = length (later_from 1 n xs)

  abbrev pub stray : ℕ → ℕ → List X → ℕ
  stray low most xs = stray_from 1 low most xs

  next_from : (k n : ℕ) (xs : List X) → length (later_from k n xs) ≡ length (of_from k n xs) + length (later_from k (n + 1) xs)
  unfolding rows.each
  next_from k n [] = refl
  next_from k n (x ∷ xs) =
      omega (
        arith,
        one_owner n (r.owner x) (r.bytes k x),
        next_from (k + 1) n xs,
        length-append (cond (leb n (r.owner x)) (r.bytes k x) []) (later_from (k + 1) n xs),
        length-append (mine n (r.owner x) (r.bytes k x)) (of_from (k + 1) n xs),
        length-append (cond (leb (n + 1) (r.owner x)) (r.bytes k x) []) (later_from (k + 1) (n + 1) xs),
      )

  pub owner_next : (xs : List X) (n : ℕ) → from_owner xs n ≡ of_owner xs n + from_owner xs (n + 1)
  owner_next xs n = next_from 1 n xs

  both_from : (k n : ℕ) (xs : List X) → length (later_from k n xs) + length (earlier_from k n xs) ≡ length (each r.bytes k xs)
  unfolding rows.each
  both_from k n [] = refl
  both_from k n (x ∷ xs) =
      omega (
        arith,
        two_sides (leb n (r.owner x)) (r.bytes k x),
        both_from (k + 1) n xs,
        length-append (r.bytes k x) (each r.bytes (k + 1) xs),
        length-append (cond (leb n (r.owner x)) (r.bytes k x) []) (later_from (k + 1) n xs),
        length-append (cond (leb n (r.owner x)) [] (r.bytes k x)) (earlier_from (k + 1) n xs),
      )

  -- all rows: those of the owners from low to most, and the others
  pub owner_all : (low most : ℕ) (xs : List X) → from_owner xs low + stray low most xs ≡ length (each r.bytes 1 xs) + from_owner xs (1 + most)
  unfolding stray_from
  owner_all low most xs = omega (arith, both_from 1 low xs)

  -- the same where the rows own nothing
  pub owner_sum : (own : X → ℕ) → ((k : ℕ) (x : X) → length (r.bytes k x) ≡ own x) → (low most : ℕ) (xs : List X)
      → from_owner xs low + stray low most xs ≡ sum own xs + from_owner xs (1 + most)
  owner_sum own h low most xs = omega (arith, owner_all low most xs, rows_sum r.bytes own h 1 xs)

  -- ---- where each row has an owner that is there, none is a stray
  pub stray_none : (k low most : ℕ) → stray_from k low most [] ≡ 0
  unfolding stray_from rows.each
  stray_none k low most = refl

  pub stray_next : (k low most : ℕ) (x : X) (xs : List X) → low ≤ r.owner x → r.owner x ≤ most → stray_from k low most (x ∷ xs) ≡ stray_from (k + 1) low most xs
  unfolding stray_from rows.each
  stray_next k low most x xs l m = rw (le-leb low (r.owner x) l, lt-leb (1 + most) (r.owner x) (omega arith))
