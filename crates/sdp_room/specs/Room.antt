-- Room that is enough for what is written of an area, whatever its bytes are: each string counts whole, absent or not, each number with its
-- most digits, 20, and a unit and a sign where it may have them. Document 01's "Writing" has the lines. a is the area, p a place in it.
use Rattle.std.specs.Prelude.{ℕ, zero, suc, ◌+◌, ◌*◌, List}
use Rattle.sdp_cells.specs.Bytes.{num}
use Rattle.sdp_area.specs.Area.{origin_at, name_at, description_at, uri_at, connection_at}
use Rattle.sdp_area.specs.Area.{emails_at, phones_at, connections_at, bandwidths_at, times_at, repeats_at, offsets_at, zones_at, attributes_at, medias_at}

-- f at the places of n rows of w bytes each, from p on, added
unfoldable pub sum_at : (ℕ → ℕ) → ℕ → ℕ → ℕ → ℕ
sum_at f w zero p = 0
sum_at f w (suc n) p = f p + sum_at f w n (p + w)

module _ (a : List ℕ) where
  -- a c line: 4 bytes of every line, 2 spaces, 3 strings
  unfoldable pub connection_room : ℕ → ℕ
  connection_room p = 6 + (num 2 a (p + 2) + num 2 a (p + 6) + num 2 a (p + 10))

  -- an m line, with 3 spaces, a slash and 2 numbers; its i line
  unfoldable pub media_room : ℕ → ℕ
  media_room p = 52 + (num 2 a (p + 2) + num 2 a (p + 12) + num 2 a (p + 16) + num 2 a (p + 22))

  -- an e or a p line
  abbrev pub contact_room : ℕ → ℕ
  contact_room p = 4 + num 2 a (p + 2)

  -- a b line, with a colon and a number; its owner stands in the first two bytes of its row, as that of a c or an a line does
  abbrev pub bandwidth_room : ℕ → ℕ
  bandwidth_room p = 25 + num 2 a (p + 4)

  -- an a line: a name, a colon and a value
  abbrev pub attribute_room : ℕ → ℕ
  attribute_room p = 5 + (num 2 a (p + 4) + num 2 a (p + 10))

  -- f at the rows of the table at base, added
  abbrev pub sum_rows : (ℕ → ℕ) → ℕ → ℕ → ℕ
  sum_rows f base w = sum_at f w (num 2 a base) (base + 2)

  -- the o line: 5 spaces, a number, 5 strings, of which the username may be a -
  unfoldable pub origin_room : ℕ → ℕ
  origin_room p = 30 + (num 2 a (p + 4) + num 2 a (p + 8) + num 2 a (p + 20) + num 2 a (p + 24) + num 2 a (p + 28))

  -- v, o, s, i, u, c
  unfoldable pub head_room : ℕ
  head_room =
      17
      + origin_room (origin_at + 2)
      + (num 2 a (name_at + 2) + num 2 a (description_at + 4) + num 2 a (uri_at + 4))
      + connection_room (connection_at + 2)

  -- t, r with its offsets, z: numbers only. 11 bytes of `t=0 0` and of the z line
  unfoldable pub times_room : ℕ
  times_room = 11 + num 2 a times_at * 45 + num 2 a repeats_at * 47 + num 2 a offsets_at * 22 + num 2 a zones_at * 44

  -- the tables with strings
  unfoldable pub tables_room : ℕ
  tables_room =
      sum_rows contact_room emails_at 4
      + sum_rows contact_room phones_at 4
      + sum_rows (λ p. connection_room (p + 2)) connections_at 14
      + sum_rows bandwidth_room bandwidths_at 14
      + sum_rows attribute_room attributes_at 12
      + sum_rows media_room medias_at 36

  -- the whole
  unfoldable pub room_for : ℕ
  room_for = head_room + times_room + tables_room
