-- Sums over the rows of a table that grows. Assumes nothing.
use mathlib.Core.Path.{◌≡◌, refl}
use mathlib.Core.List.{List, [], ◌∷◌, ◌++◌, map}
use Prim.Native.Nat.{ℕ, ◌+◌, ◌≤◌}
use native.Mathlib.Omega.{arith}
use Rattle.sdp_room.proofs.SumLaws
use Rattle.sdp_room.proofs.SumLaws.{sum}
use Rattle.sdp_area.specs.With
use Rattle.sdp_area.specs.With.{set_last}

module _ {X : Type 0} (f : X → ℕ) where
  pub sum_append : (xs ys : List X) → sum f (xs ++ ys) ≡ sum f xs + sum f ys
  unfolding SumLaws.sum
  sum_append [] ys = omega arith
  sum_append (x ∷ xs) ys = let e = sum_append xs ys in omega arith

  -- one row more
  pub sum_more : (xs : List X) (x : X) → sum f (xs ++ (x ∷ [])) ≡ sum f xs + f x
  unfolding SumLaws.sum
  sum_more xs x = let e = sum_append xs (x ∷ []) in omega arith

  pub sum_map : {Y : Type 0} (g : Y → X) (ys : List Y) → sum f (map g ys) ≡ sum (λ y. f (g y)) ys
  unfolding SumLaws.sum
  sum_map g [] = refl
  sum_map g (y ∷ ys) = let e = sum_map g ys in omega arith

  -- the latest row changed, by at most n
  pub sum_last : (g : X → X) (n : ℕ) → ((x : X) → f (g x) ≤ f x + n) → (xs : List X) → sum f (set_last g xs) ≤ sum f xs + n
  unfolding SumLaws.sum With.set_last
  sum_last g n h [] = omega arith
  sum_last g n h (x ∷ []) = let l = h x in omega arith
  sum_last g n h (x ∷ y ∷ ys) = let l = sum_last g n h (y ∷ ys) in omega arith
