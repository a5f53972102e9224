-- Rows of a fixed width, read from any bytes.
use Rattle.std.specs.Prelude.{List, [], ◌∷◌, ◌++◌, cond, ℕ, zero, suc, ◌+◌, eqb, Option, Some, None}
use Rattle.sdp_cells.specs.Bytes.{num}

-- n rows of w bytes each, from place p on
unfoldable pub rows_at : {X : Type 0} → (List ℕ → ℕ → X) → ℕ → ℕ → List ℕ → ℕ → List X
rows_at rd w zero a p = []
rows_at rd w (suc n) a p = rd a p ∷ rows_at rd w n a (p + w)

-- a table: its count in two bytes, then its rows
abbrev pub table : {X : Type 0} → (List ℕ → ℕ → X) → ℕ → List ℕ → ℕ → List X
table rd w a base = rows_at rd w (num 2 a base) a (base + 2)

-- what may be absent: a mark, 0 for absent, and what it marks
unfoldable pub marked : {X : Type 0} → (List ℕ → ℕ → X) → List ℕ → ℕ → Option X
marked rd a p = cond (eqb (num 2 a p) 0) None (Some (rd a (p + 2)))

-- ---- what rows give, one after the other
-- each row with its number, counted on from n
unfoldable pub each : {X Y : Type 0} → (ℕ → X → List Y) → ℕ → List X → List Y
each f n [] = []
each f n (x ∷ xs) = f n x ++ each f (n + 1) xs

-- n rows of w bytes each by their places, from p on, each with its number, counted on from k
unfoldable pub each_at : {Y : Type 0} → (ℕ → ℕ → List Y) → ℕ → ℕ → ℕ → ℕ → List Y
each_at f w zero k p = []
each_at f w (suc n) k p = f k p ++ each_at f w n (k + 1) (p + w)

-- what belongs to the owner n
unfoldable pub mine : {Y : Type 0} → ℕ → ℕ → List Y → List Y
mine n owner ys = cond (eqb owner n) ys []
