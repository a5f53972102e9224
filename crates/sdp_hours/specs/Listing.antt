-- Document 02, P3: the list of starts, "rising, ties by time, then repeat".
use Rattle.std.specs.Prelude.{ℕ, Bool, cond, List, [], ◌∷◌, leb, ltb, eqb}

-- a start "with its time and repeat number (0 without)": the instant, and the rows of the two tables, counted from 1
pub record Start : Type 0 where
  pub at : ℕ
  pub time : ℕ
  pub repeat : ℕ

-- a is less than b, or they are equal and the rest decides
abbrev pub tied : ℕ → ℕ → Bool → Bool
tied a b rest = cond (eqb a b) rest (ltb a b)

-- x may stand before y
unfoldable pub before : Start → Start → Bool
before x y = tied x.at y.at (tied x.time y.time (leb x.repeat y.repeat))

-- one start more in a list that rises
unfoldable pub insert : Start → List Start → List Start
insert x [] = x ∷ []
insert x (y ∷ ys) = cond (before x y) (x ∷ y ∷ ys) (y ∷ insert x ys)

-- all of a list, one after the other
unfoldable pub into : List Start → List Start → List Start
into l [] = l
into l (x ∷ xs) = into (insert x l) xs

-- starts in whatever order they are found, each as often as it is found
abbrev pub sorted : List Start → List Start
sorted xs = into [] xs
