-- Document 02, P9: "Each record in every table, offsets and zones too, and each single field, carries the line it was read from". The lines
-- stand behind the session's bytes, so that these lie as before: cells of two bytes, one for each field, then a column for each table, with a
-- cell for each row that it has room for, then the columns of the medias' titles and keys.
use Rattle.std.specs.Prelude.{List, ◌++◌, ℕ, ◌+◌, ◌*◌}
use Rattle.sdp_lines.specs.declared.Span.{Span}
use Rattle.sdp_cells.specs.Tables.{pairs}
use Rattle.sdp_area.specs.Session.{Session}
use Rattle.sdp_area.specs.Area.{encode, size}

-- ---- the cell where each column begins; that of a field has one cell
-- the first
abbrev pub origin_cell : ℕ
origin_cell = 0

-- 1 cell on
abbrev pub name_cell : ℕ
name_cell = 1

-- 1 cell on
abbrev pub description_cell : ℕ
description_cell = 2

-- 1 cell on
abbrev pub uri_cell : ℕ
uri_cell = 3

-- 1 cell on
abbrev pub connection_cell : ℕ
connection_cell = 4

-- 1 cell on
abbrev pub key_cell : ℕ
key_cell = 5

-- 1 cell on
abbrev pub emails_cell : ℕ
emails_cell = 6

-- 16 cells on
abbrev pub phones_cell : ℕ
phones_cell = 22

-- 16 cells on
abbrev pub connections_cell : ℕ
connections_cell = 38

-- 64 cells on
abbrev pub bandwidths_cell : ℕ
bandwidths_cell = 102

-- 64 cells on
abbrev pub times_cell : ℕ
times_cell = 166

-- 32 cells on
abbrev pub repeats_cell : ℕ
repeats_cell = 198

-- 64 cells on
abbrev pub offsets_cell : ℕ
offsets_cell = 262

-- 256 cells on
abbrev pub zones_cell : ℕ
zones_cell = 518

-- 64 cells on
abbrev pub attributes_cell : ℕ
attributes_cell = 582

-- 512 cells on
abbrev pub medias_cell : ℕ
medias_cell = 1094

-- 32 cells on
abbrev pub titles_cell : ℕ
titles_cell = 1126

-- 32 cells on
abbrev pub keys_cell : ℕ
keys_cell = 1158

-- all of them; the last column has 32
abbrev pub cells : ℕ
cells = 1190

-- ---- in the area
-- the place of a cell
abbrev pub cell_at : ℕ → ℕ
cell_at i = size + i * 2

-- "one record area of a fixed size": a session, and the lines of what it has, up to `cell_at cells`
abbrev pub area_size : ℕ
area_size = 16938

-- an area with the session s, the lines ls of what it has, one for each cell, and t behind them
abbrev pub area_of : Session Span → List ℕ → List ℕ → List ℕ
area_of s ls t = encode s ++ (pairs ls ++ t)
