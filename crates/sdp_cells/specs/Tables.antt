-- A table of fixed capacity in the area: two bytes of count, the rows, zero bytes.
use Rattle.std.specs.Prelude.{List, [], ◌∷◌, ◌++◌, cond, ℕ, ◌+◌, ◌*◌, length, take, ltb, Result, Ok, Err}
use Rattle.sdp_cells.specs.Bytes.{le, num, over, zeros}
use Rattle.sdp_cells.specs.declared.Full.{Full}

-- the rows' bytes, one after the other
unfoldable pub flat : {X : Type 0} → (X → List ℕ) → List X → List ℕ
flat f [] = []
flat f (x ∷ xs) = f x ++ flat f xs

-- the first k bytes of xs and then of zeros: always k bytes
unfoldable pub fit : ℕ → List ℕ → List ℕ
fit k xs = take k (xs ++ zeros k)

-- a table of at most cap rows of w bytes each; "unused cells .. are zero"
unfoldable pub tab : {X : Type 0} → ℕ → ℕ → (X → List ℕ) → List X → List ℕ
tab cap w f xs = le 2 (length xs) ++ fit (cap * w) (flat f xs)

-- xs with x behind it, where there is room for one more
abbrev pub add : {X : Type 0} → ℕ → List X → X → List X
add cap xs x = cond (ltb (length xs) cap) (xs ++ (x ∷ [])) xs

-- that there is no room has one value
abbrev pub full : Full
full = record {}

-- whether there was room
abbrev pub pushed : {X : Type 0} → ℕ → List X → Result (Unit {0}) Full
pushed cap xs = cond (ltb (length xs) cap) (Ok tt) (Err full)

-- ---- the same of the bytes, for any table: base is its place, bs the row
-- numbers as two bytes each
abbrev pub pairs : List ℕ → List ℕ
pairs ws = flat (le 2) ws

unfoldable pub grown : List ℕ → ℕ → ℕ → List ℕ → List ℕ
grown a base cap bs =
    cond (ltb (num 2 a base) cap)
    (over (over a (base + (2 + num 2 a base * length bs)) bs) base (le 2 (num 2 a base + 1)))
    a

unfoldable pub told : List ℕ → ℕ → ℕ → Result (Unit {0}) Full
told a base cap = cond (ltb (num 2 a base) cap) (Ok tt) (Err full)
