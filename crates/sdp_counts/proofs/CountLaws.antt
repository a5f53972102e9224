-- The lines of a text are as many as its LFs, and one more where it ends in another byte. Assumes nothing.
use Prim.Native.Nat.{ℕ, ◌+◌, ◌<◌}
use native.Mathlib.Omega.{arith}
use mathlib.Core.Path.{◌≡◌, refl}
use mathlib.Core.Bool.{Bool, true, false, cond}
use mathlib.Core.List.{List, [], ◌∷◌}
use lib.ListN.{length}
use lib.Dec.{eqb}
use Rattle.sdp_lines.specs.Lines
use Rattle.sdp_lines.specs.Lines.{Raw, onto, split}
use Rattle.sdp_counts.specs.Count.{lfs, unended, line_count}

-- a byte in front makes no line more where there is one
onto-lines : (b : ℕ) (rs : List Raw) → 0 < length rs → length (onto b rs) ≡ length rs
onto-lines b [] h = absurd (omega arith)
onto-lines b (r ∷ rs) h = refl

split_some : (b : ℕ) (t : List ℕ) → 0 < length (split (b ∷ t))
unfolding Lines.split
split_some b t = go (eqb b 10) (split t)
  where
    go : (e : Bool) (rs : List Raw) → 0 < length (cond e (record { body = []; ended = true } ∷ rs) (onto b rs))
    go true rs = omega arith
    go false [] = omega arith
    go false (r ∷ rs) = omega arith

pub split_count : (t : List ℕ) → length (split t) ≡ line_count t
unfolding Lines.split lfs unended
split_count [] = refl
split_count (b ∷ []) = go (eqb b 10)
  where
    go : (e : Bool) → length (cond e (record { body = []; ended = true } ∷ []) (onto b [])) ≡ cond e 1 0 + 0 + cond e 0 1
    go true = refl
    go false = refl
split_count (b ∷ (c ∷ t)) = go (eqb b 10) (split (c ∷ t)) (split_some c t) (split_count (c ∷ t))
  where
    go : (e : Bool) (rs : List Raw) → 0 < length rs → length rs ≡ line_count (c ∷ t)
        → length (cond e (record { body = []; ended = true } ∷ rs) (onto b rs)) ≡ cond e 1 0 + lfs (c ∷ t) + unended (c ∷ t)
    go true rs h ih = omega arith
    go false rs h ih = omega (arith, onto-lines b rs h)
