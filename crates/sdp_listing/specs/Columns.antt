-- Starts in three columns of numbers, whatever these hold.
use Rattle.std.specs.Prelude.{ℕ, zero, suc, ◌+◌, ◌-◌, ◌≡◌, cond, List, [], ◌∷◌, get_or}
use Rattle.sdp_hours.specs.Listing.{Start, before}
use Rattle.sdp_listing.specs.declared.Entry.{Entry}
use Rattle.sdp_listing.specs.declared.Listing.{Listing}

pub record Columns : Type 0 where
  pub ats : List ℕ
  pub times : List ℕ
  pub repeats : List ℕ

-- three lent arrays
abbrev pub columns : List ℕ → List ℕ → List ℕ → Columns
columns a t r = record { ats = a; times = t; repeats = r }

-- the same three arrays are lent before and after
abbrev pub SameArrays : Listing → Listing → Type 0
SameArrays x y =
    (y.at.ghost_name ≡ x.at.ghost_name) × (y.time.ghost_name ≡ x.time.ghost_name) × (y.repeat.ghost_name ≡ x.repeat.ghost_name)

-- the start of row i
abbrev pub row_at : Columns → ℕ → Start
row_at c i = record { at = get_or c.ats i 0; time = get_or c.times i 0; repeat = get_or c.repeats i 0 }

-- n rows from row i on
unfoldable pub rows_from : Columns → ℕ → ℕ → List Start
rows_from c i zero = []
rows_from c i (suc n) = row_at c i ∷ rows_from c (i + 1) n

-- how many of a list stand before the place of x
unfoldable pub place_of : Start → List Start → ℕ
place_of x [] = 0
place_of x (y ∷ ys) = cond (before x y) 0 (suc (place_of x ys))

-- v at place p; the m numbers from there on move up by one, over the one behind them
unfoldable pub shift_in : ℕ → ℕ → ℕ → List ℕ → List ℕ
shift_in p m v [] = []
shift_in (suc p) m v (x ∷ xs) = x ∷ shift_in p m v xs
shift_in zero zero v (x ∷ xs) = v ∷ xs
shift_in zero (suc m) v (x ∷ xs) = v ∷ shift_in zero m x xs

-- x in row p, where n rows are in use
abbrev pub put_at : Columns → ℕ → ℕ → Start → Columns
put_at c n p x =
    record {
      ats = shift_in p (n - p) x.at c.ats;
      times = shift_in p (n - p) x.time c.times;
      repeats = shift_in p (n - p) x.repeat c.repeats;
    }

-- x at its place among the first n rows
unfoldable pub put_in : Columns → ℕ → Start → Columns
put_in c n x = put_at c n (place_of x (rows_from c 0 n)) x

-- all of a list, one after the other
unfoldable pub put_all : Columns → ℕ → List Start → Columns
put_all c n [] = c
put_all c n (x ∷ xs) = put_all (put_in c n x) (n + 1) xs

-- ---- the columns of a list of starts
-- what f says of each of them, then zeros, m numbers in all: "zero .. past its last start"
unfoldable pub cells : ℕ → (Start → ℕ) → List Start → List ℕ
cells zero f l = []
cells (suc m) f [] = 0 ∷ cells m f []
cells (suc m) f (x ∷ l) = f x ∷ cells m f l

abbrev pub columns_of : ℕ → List Start → Columns
columns_of m l = record { ats = cells m (λ x. x.at) l; times = cells m (λ x. x.time) l; repeats = cells m (λ x. x.repeat) l }

-- ---- the code's own starts
abbrev pub start_of : Entry → Start
start_of x = record { at = x.at; time = x.time; repeat = x.repeat }

abbrev pub start_at : ℕ → ℕ → ℕ → Start
start_at a t r = record { at = a; time = t; repeat = r }

-- the three arrays of a list that is lent
abbrev pub held : Listing → Columns
held l = columns l.at.now l.time.now l.repeat.now
