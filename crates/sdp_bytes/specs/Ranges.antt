-- Ranges of bytes, as the grammars of RFC 3629 and RFC 8866 write them: lo-hi.
use Rattle.std.specs.Prelude.{ℕ, Bool, true, false, ◌&&◌, ◌||◌, List, [], ◌∷◌, length, get_or, ltb, leb}

infix 90 ◌to◌
-- %x lo-hi
pub data Range : Type 0 where
  ◌to◌ : ℕ → ℕ → Range

-- lo ≤ b ≤ hi
abbrev pub within : Range → ℕ → Bool
within (lo to hi) b = leb lo b && leb b hi

-- b is of one of the ranges
unfoldable pub in_some : List Range → ℕ → Bool
in_some [] b = false
in_some (r ∷ rs) b = within r b || in_some rs b

-- the list begins with a byte of each range, in their order
unfoldable pub fits : List Range → List ℕ → Bool
fits [] s = true
fits (r ∷ rs) [] = false
fits (r ∷ rs) (b ∷ s) = within r b && fits rs s

-- a byte of the range stands at place i
abbrev pub in_at : Range → List ℕ → ℕ → Bool
in_at r s i = ltb i (length s) && within r (get_or s i 0)
