-- Where the rows of an area lie once its counts were judged: all in the area. So a cell of them is read without a look at the area's length.
use Rattle.std.specs.Prelude.{◌≡◌, true, List, ℕ, ◌+◌, ◌*◌, ◌≤◌, length}
use Rattle.sdp_cells.specs.Bytes.{num}
use Rattle.sdp_area.specs.Area.{size}
use Rattle.sdp_valid.specs.Judge.{small_counts, large_counts}

-- the area is long enough, and no count is above its table
pub record Counted (a : List ℕ) : Type 0 where
  pub whole : size ≤ length a
  pub small : small_counts a ≡ true
  pub large : large_counts a ≡ true

-- the rows of the table at base, of w bytes each, lie in the area
abbrev pub Inside : List ℕ → ℕ → ℕ → Type 0
Inside a base w = base + 2 + num 2 a base * w ≤ length a
