-- Numbers as bytes, the lower first, and a run of bytes written over a list.
use Rattle.std.specs.Prelude.{List, [], ◌∷◌, ◌++◌, ℕ, zero, suc, ◌+◌, ◌*◌, ◌/◌, ◌%◌, length, take, drop, get_or, replicate}

-- v as k bytes, the lower first
unfoldable pub le : ℕ → ℕ → List ℕ
le zero v = []
le (suc k) v = v % 256 ∷ le k (v / 256)

-- the number that k bytes from at on spell, the lower first; bytes past the end count as 0
unfoldable pub num : ℕ → List ℕ → ℕ → ℕ
num zero a at = 0
num (suc k) a at = get_or a at 0 + 256 * num k a (at + 1)

-- a with bs in the place of the bytes from at on
unfoldable pub over : List ℕ → ℕ → List ℕ → List ℕ
over a at bs = take at a ++ (bs ++ drop (at + length bs) a)

-- n zero bytes
unfoldable pub zeros : ℕ → List ℕ
zeros n = replicate n 0
