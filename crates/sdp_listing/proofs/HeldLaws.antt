-- The columns of a list of starts stay the columns of a list. Assumes nothing.
use Prim.Native.Nat.{ℕ, zero, suc, ◌≤◌, ◌<◌, ◌+◌, ◌-◌}
use mathlib.Core.Path.{◌≡◌, refl, sym, ap, ◌∙◌}
use mathlib.Core.Bool.{Bool, true, false, cond}
use mathlib.Core.List.{List, [], ◌∷◌}
use native.Mathlib.Omega.{arith}
use lib.ListN.{length}
use Rattle.sdp_hours.specs.Listing as listing
use Rattle.sdp_hours.specs.Listing.{Start, before, insert, into}
use Rattle.sdp_hours.proofs.OrderLaws.{length-insert}
use Rattle.sdp_listing.specs.Columns as held
use Rattle.sdp_listing.specs.Columns.{columns, row_at, rows_from, place_of, shift_in, put_in, put_all, cells, columns_of}

-- ---- the rows of a list's columns are the list
rows_next : (n : ℕ) (a t r : List ℕ) (x y z i : ℕ) → rows_from (columns (x ∷ a) (y ∷ t) (z ∷ r)) (suc i) n ≡ rows_from (columns a t r) i n
unfolding held.rows_from
rows_next zero a t r x y z i = refl
rows_next (suc n) a t r x y z i =
    let e : suc i + 1 ≡ suc (i + 1) = omega arith in
    rw e (ap (λ (l : List Start). row_at (columns a t r) i ∷ l) (rows_next n a t r x y z (i + 1)))

rows_held : (l : List Start) (m : ℕ) → length l ≤ m → rows_from (columns_of m l) 0 (length l) ≡ l
unfolding held.rows_from held.cells
rows_held [] m h = refl
rows_held (x ∷ l) zero h = absurd (omega arith)
rows_held (x ∷ l) (suc m) h =
    ap (λ (k : List Start). x ∷ k) (rows_next (length l) _ _ _ x.at x.time x.repeat 0 ∙ rows_held l m (omega arith))

-- ---- one start put in
shift_front : (l : List Start) (m : ℕ) (f : Start → ℕ) (v : ℕ) → length l ≤ m → shift_in 0 (length l) v (cells (suc m) f l) ≡ v ∷ cells m f l
unfolding held.shift_in held.cells
shift_front [] m f v h = refl
shift_front (y ∷ l) zero f v h = absurd (omega arith)
shift_front (y ∷ l) (suc m) f v h = ap (λ (k : List ℕ). v ∷ k) (shift_front l m f (f y) (omega arith))

shift_held : (l : List Start) (m : ℕ) (f : Start → ℕ) (x : Start) → length l < m
    → shift_in (place_of x l) (length l - place_of x l) (f x) (cells m f l) ≡ cells m f (insert x l)
unfolding held.shift_in held.cells held.place_of listing.insert
shift_held l zero f x h = absurd (omega arith)
shift_held [] (suc m) f x h = refl
shift_held (y ∷ l) (suc m) f x h = go (before x y) (shift_held l m f x)
  where
    go : (t : Bool) → (length l < m → shift_in (place_of x l) (length l - place_of x l) (f x) (cells m f l) ≡ cells m f (insert x l))
        → shift_in (cond t 0 (suc (place_of x l))) (length (y ∷ l) - cond t 0 (suc (place_of x l))) (f x) (cells (suc m) f (y ∷ l))
        ≡ cells (suc m) f (cond t (x ∷ y ∷ l) (y ∷ insert x l))
    go true ih =
        let e : suc (length l) - 0 ≡ suc (length l) = omega arith in
        rw e (shift_front (y ∷ l) m f (f x) (omega arith))
    go false ih =
        let e : suc (length l) - suc (place_of x l) ≡ length l - place_of x l = omega arith in
        rw e (ap (λ (k : List ℕ). f y ∷ k) (ih (omega arith)))

put_in_held : (m : ℕ) (l : List Start) (x : Start) → length l < m → put_in (columns_of m l) (length l) x ≡ columns_of m (insert x l)
unfolding held.put_in
put_in_held m l x h =
    rw (rows_held l m (omega arith), shift_held l m (λ s. s.at) x h, shift_held l m (λ s. s.time) x h, shift_held l m (λ s. s.repeat) x h) refl

-- ---- a list of starts put in
pub put_all_held : (m : ℕ) (l xs : List Start) → length l + length xs ≤ m → put_all (columns_of m l) (length l) xs ≡ columns_of m (into l xs)
unfolding held.put_all listing.into
put_all_held m l [] h = refl
put_all_held m l (x ∷ xs) h =
    rw (put_in_held m l x (omega arith), sym (length-insert x l)) (put_all_held m (insert x l) xs (omega (arith, length-insert x l)))
