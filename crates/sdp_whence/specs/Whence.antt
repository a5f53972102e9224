-- Document 02, P9: "Each record in every table, offsets and zones too, and each single field, carries the line it was read from, 0 for hand-built
-- ones and the placeholder." What the line of a cell means, without a word of how the lines are gathered: the lines before it don't make the
-- record, and with it they do.
use Rattle.std.specs.Prelude.{ℕ, ◌+◌, ◌-◌, ◌<◌, ◌≤◌, ◌≡◌, ◌⊎◌, Bool, true, false, ◌&&◌, ◌||◌, List, [], ◌∷◌, map, leb, ltb, length, take, get_or, Option}
use Rattle.sdp_lines.specs.Lines.{split}
use Rattle.sdp_lines.specs.declared.Span.{Span}
use Rattle.sdp_cells.specs.Bytes.{num}
use Rattle.sdp_area.specs.Session.{Media, Session}
use Rattle.sdp_area.specs.Columns.{titles_cell, keys_cell, cells, cell_at}
use Rattle.sdp_area.specs.Latest.{given}
use Rattle.sdp_strings.specs.Strings.{span_at}
use Rattle.sdp_stamp.specs.Stamp.{begins, rows_in}
use Rattle.sdp_read.specs.Run.{Verdict, accepted, begin, lines, read_text}

-- ---- whether a session has what a cell stands for
-- the cell i is one of the r cells from c on
abbrev pub in_rows : ℕ → ℕ → ℕ → Bool
in_rows c r i = leb c i && ltb i (c + r)

-- it is one of the rows rs of the columns that begin at the cells cs
unfoldable pub in_any : List ℕ → List ℕ → ℕ → Bool
in_any [] rs i = false
in_any (c ∷ cs) [] i = false
in_any (c ∷ cs) (r ∷ rs) i = in_rows c r i || in_any cs rs i

-- it stands for the field f of a media, in the column that begins at c, and that media has it
abbrev pub in_media : {S X : Type 0} → (Media S → Option X) → List (Media S) → ℕ → ℕ → Bool
in_media f ms c i = leb c i && get_or (map (λ m. given (f m)) ms) (i - c) false

-- the title of a media, its key, or any other field or row
unfoldable pub there : {S : Type 0} → Session S → ℕ → Bool
there {S} s i =
    in_media (λ (m : Media S). m.media_title) s.tables.medias titles_cell i
    || (in_media (λ (m : Media S). m.key) s.tables.medias keys_cell i || in_any begins (rows_in s) i)

-- ---- the line that it came with
-- what the first n lines of a text say
abbrev pub front : ℕ → List ℕ → Verdict Span
front n t = begin span_at 1 0 (take n (split t))

-- the first n - 1 lines don't have it, and the first n lines do
pub record Came (t : List ℕ) (i n : ℕ) : Type 0 where
  pub before : Session Span
  pub with : Session Span
  pub before_is : front (n - 1) t ≡ accepted before
  pub with_is : front n t ≡ accepted with
  pub inside : (1 ≤ n) × (n ≤ length (split t))
  pub not_yet : there before i ≡ false
  pub now : there with i ≡ true

-- the session x of a text t: n stands in the cell i
abbrev pub CellSays : List ℕ → Session Span → ℕ → ℕ → Type 0
CellSays t x i n = ((there x i ≡ false) × (n ≡ 0)) ⊎ ((there x i ≡ true) × Came t i n)

-- reading t into any area a, where it is accepted: every cell of the area
abbrev pub Whence : List ℕ → List ℕ → Type 0
Whence t a =
    (read_text t a).answer.number ≡ 0
    → (x : Session Span) × ((lines span_at t ≡ accepted x) × ((i : ℕ) → i < cells → CellSays t x i (num 2 (read_text t a).area (cell_at i))))
