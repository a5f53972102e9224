-- A number put into a column. Assumes nothing.
use Prim.Native.Nat.{ℕ, zero, suc, ◌≤◌, ◌<◌, ◌+◌, ◌-◌}
use mathlib.Core.Path.{◌≡◌, refl, ap}
use mathlib.Core.List.{List, [], ◌∷◌}
use native.Mathlib.Numerals.{add-one}
use native.Mathlib.Omega.{arith}
use lib.ListN.{length, get_or, set}
use Rattle.sdp_listing.specs.Columns as columns
use Rattle.sdp_listing.specs.Columns.{shift_in}

shift_next : (a : List ℕ) (i m v : ℕ) → i < length a → shift_in (suc i) m (get_or a i 0) (set a i v) ≡ shift_in i (suc m) v a
unfolding columns.shift_in
shift_next [] i m v h = absurd (omega arith)
shift_next (x ∷ xs) zero m v h = refl
shift_next (x ∷ xs) (suc i) m v h = ap (λ (l : List ℕ). x ∷ l) (shift_next xs i m v (omega arith))

-- one place further
pub shift_turn : (a : List ℕ) (i n v : ℕ) → i < n → i < length a → shift_in (i + 1) (n - (i + 1)) (get_or a i 0) (set a i v) ≡ shift_in i (n - i) v a
shift_turn a i n v l h =
    let e : n - i ≡ suc (n - suc i) = omega arith in
    rw (add-one i, e) (shift_next a i (n - suc i) v h)

shift_last : (a : List ℕ) (i v : ℕ) → i < length a → set a i v ≡ shift_in i 0 v a
unfolding columns.shift_in
shift_last [] i v h = absurd (omega arith)
shift_last (x ∷ xs) zero v h = refl
shift_last (x ∷ xs) (suc i) v h = ap (λ (l : List ℕ). x ∷ l) (shift_last xs i v (omega arith))

-- the last place
pub shift_end : (a : List ℕ) (i n v : ℕ) → n ≤ i → i < length a → set a i v ≡ shift_in i (n - i) v a
shift_end a i n v l h = let e : n - i ≡ 0 = omega arith in rw e (shift_last a i v h)
