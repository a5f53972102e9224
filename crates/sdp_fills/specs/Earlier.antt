-- Document 02, P4: "Areas kept from earlier are judged as before". One from before P9 has a session's bytes and no lines. With zeros where the
-- lines now stand, the line "for hand-built ones" (P9), it is an area of today, and the same is said of it.
use Rattle.std.specs.Prelude.{◌≡◌, List, ◌++◌, ℕ, ◌-◌, length}
use Rattle.sdp_cells.specs.Bytes.{zeros}
use Rattle.sdp_area.specs.Area.{size}
use Rattle.sdp_area.specs.Columns.{area_size}
use Rattle.sdp_valid.specs.Judge.{well_formed}
use Rattle.sdp_unfit.specs.Unfit.{in_order, unfit}

-- what was said of an area before there were lines: `unfit` of then
abbrev pub earlier : List ℕ → List ℕ → ℕ
earlier t a = in_order size (well_formed a t) t a

-- an area from then, with zeros for the lines, and x behind it
abbrev pub extended : List ℕ → List ℕ → List ℕ
extended a x = a ++ (zeros (area_size - size) ++ x)

-- it is judged with a text as it was
abbrev pub EarlierGood : List ℕ → List ℕ → Type 0
EarlierGood t a = length a ≡ size → (x : List ℕ) → unfit t (extended a x) ≡ earlier t a
