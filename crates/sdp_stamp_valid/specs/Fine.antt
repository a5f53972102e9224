-- Document 02, P9: "Refusals: 23 also for a line above 32,768". Judged on any bytes: a is the area, p the place of a cell. As with all that is
-- judged for writing, cells past a count or of an absent field aren't looked at.
use Rattle.std.specs.Prelude.{ℕ, zero, suc, ◌+◌, Bool, true, ◌&&◌, cond, List, leb, eqb}
use Rattle.sdp_numbers.specs.Refusals.{highest_line}
use Rattle.sdp_cells.specs.Bytes.{num}
use Rattle.sdp_area.specs.Area.{origin_at, description_at, uri_at, connection_at, key_at}
use Rattle.sdp_area.specs.Area.{emails_at, phones_at, connections_at, bandwidths_at, times_at, repeats_at, offsets_at, zones_at, attributes_at, medias_at}
use Rattle.sdp_area.specs.Columns.{origin_cell, name_cell, description_cell, uri_cell, connection_cell, key_cell, emails_cell, phones_cell, connections_cell}
use Rattle.sdp_area.specs.Columns.{bandwidths_cell, times_cell, repeats_cell, offsets_cell, zones_cell, attributes_cell, medias_cell, titles_cell, keys_cell, cell_at}
use Rattle.sdp_valid.specs.Judge.{every_at}

module _ (a : List ℕ) where
  -- the line in a cell
  unfoldable pub fine_line : ℕ → Bool
  fine_line p = leb (num 2 a p) highest_line

  -- the line of a field whose mark stands at m
  unfoldable pub fine_field : ℕ → ℕ → Bool
  fine_field m p = cond (eqb (num 2 a m) 1) (fine_line p) true

  -- the lines of the table at base, whose column begins at p
  abbrev pub fine_column : ℕ → ℕ → Bool
  fine_column base p = every_at fine_line 2 (num 2 a base) p

  -- the lines of a field of n medias, from the one on whose mark stands at m; a media's row has 36 bytes
  unfoldable pub fine_marks : ℕ → ℕ → ℕ → Bool
  fine_marks zero m p = true
  fine_marks (suc n) m p = fine_field m p && fine_marks n (m + 36) (p + 2)

  -- what a session has at most once; the name has no mark
  unfoldable pub fine_fields : Bool
  fine_fields =
      fine_field origin_at (cell_at origin_cell)
      && (fine_line (cell_at name_cell)
      && (fine_field description_at (cell_at description_cell)
      && (fine_field uri_at (cell_at uri_cell)
      && (fine_field connection_at (cell_at connection_cell) && fine_field key_at (cell_at key_cell)))))

  -- the ten tables
  unfoldable pub fine_columns : Bool
  fine_columns =
      fine_column emails_at (cell_at emails_cell)
      && (fine_column phones_at (cell_at phones_cell)
      && (fine_column connections_at (cell_at connections_cell)
      && (fine_column bandwidths_at (cell_at bandwidths_cell)
      && (fine_column times_at (cell_at times_cell)
      && (fine_column repeats_at (cell_at repeats_cell)
      && (fine_column offsets_at (cell_at offsets_cell)
      && (fine_column zones_at (cell_at zones_cell)
      && (fine_column attributes_at (cell_at attributes_cell) && fine_column medias_at (cell_at medias_cell)))))))))

  -- the titles and the keys of the medias, whose marks stand at 18 and at 24 of a row
  unfoldable pub media_columns : Bool
  media_columns =
      fine_marks (num 2 a medias_at) (medias_at + (2 + 18)) (cell_at titles_cell)
      && fine_marks (num 2 a medias_at) (medias_at + (2 + 24)) (cell_at keys_cell)

  -- all lines are: else 23
  unfoldable pub fine_lines : Bool
  fine_lines = fine_fields && (fine_columns && media_columns)
