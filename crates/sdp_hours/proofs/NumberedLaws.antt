-- Starts with their numbers, one list after the other. Assumes nothing.
use Prim.Native.Nat.{ℕ, suc}
use mathlib.Core.Path.{◌≡◌, refl, ap}
use mathlib.Core.List.{List, [], ◌∷◌, ◌++◌}
use lib.ListN.{length}
use Rattle.sdp_hours.specs.Listing.{Start}
use Rattle.sdp_hours.specs.Starts.{numbered}

pub numbered-parts : (i j : ℕ) (vs ws : List ℕ) → numbered i j (vs ++ ws) ≡ numbered i j vs ++ numbered i j ws
unfolding numbered
numbered-parts i j [] ws = refl
numbered-parts i j (v ∷ vs) ws = ap (λ (l : List Start). record { at = v; time = i; repeat = j } ∷ l) (numbered-parts i j vs ws)

pub length-numbered : (i j : ℕ) (vs : List ℕ) → length (numbered i j vs) ≡ length vs
unfolding numbered
length-numbered i j [] = refl
length-numbered i j (v ∷ vs) = ap suc (length-numbered i j vs)
