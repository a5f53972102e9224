-- What the table loops put of an owner's rows, and where these begin.
use Rattle.std.specs.Prelude.{ℕ, ◌+◌, ◌*◌, ◌≤◌, ◌<◌, List}
use Rattle.sdp_cells.specs.Bytes.{num}
use Rattle.sdp_decode.specs.Rows.{mine}

-- what f gives of row k at place p, where its owner is n
abbrev pub own : List ℕ → ℕ → (ℕ → ℕ → List ℕ) → ℕ → ℕ → List ℕ
own a n f k p = mine n (num 2 a p) (f k p)

-- "owners never fall": those of the table at base, whose rows have w bytes
pub record NeverFall (a : List ℕ) (base w : ℕ) : Type 0 where
  pub rise : (i j : ℕ) → i ≤ j → j < num 2 a base → num 2 a (base + 2 + i * w) ≤ num 2 a (base + 2 + j * w)

-- of the rows lo to hi, those before r have an owner below n, and from r on the owner is n or a later one
pub record Parted (a : List ℕ) (base w n lo hi r : ℕ) : Type 0 where
  pub low : lo ≤ r
  pub high : r ≤ hi
  pub earlier : (j : ℕ) → lo ≤ j → j < r → num 2 a (base + 2 + j * w) < n
  pub later : (j : ℕ) → r ≤ j → j < hi → n ≤ num 2 a (base + 2 + j * w)
