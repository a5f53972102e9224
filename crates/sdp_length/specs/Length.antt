-- How many bytes the parts of an area take when they are written: t is the text, a the area, p a place in it.
use Rattle.std.specs.Prelude.{ℕ, ◌+◌, List, [], length}
use Rattle.sdp_cells.specs.Bytes.{num}
use Rattle.sdp_area.specs.Area.{emails_at, phones_at, connections_at, bandwidths_at, repeats_at, offsets_at, attributes_at, medias_at}
use Rattle.sdp_lines.specs.Strings.{bytes_of}
use Rattle.sdp_put.specs.Digits.{time_text}
use Rattle.sdp_decode.specs.Decode.{span_of, connection_of, bandwidth_of, time_of, repeat_of, offset_of, zone_of, attribute_of, media_of, times_in, zones_in, decode}
use Rattle.sdp_row.specs.Written.{line, spaced, optional, time_value, repeat_line, times_lines, zone_text, zones_line, string_line, connection_line, bandwidth_line, attribute_line, media_line, head_lines}
use Rattle.sdp_room.specs.Room.{sum_rows}

module _ (a : List ℕ) where
  -- a t line
  abbrev pub time_length : ℕ → ℕ
  time_length p = length (line 0x74 (time_value (time_of a p)))

  -- an r line without its offsets
  abbrev pub repeat_length : ℕ → ℕ
  repeat_length p = length (repeat_line [] 1 (repeat_of a p))

  -- an offset, behind a space
  abbrev pub offset_length : ℕ → ℕ
  offset_length p = length (spaced (time_text (offset_of a p).offset))

  -- a pair of the z line, behind a space as the second one is
  abbrev pub zone_length : ℕ → ℕ
  zone_length p = length (zone_text 2 (zone_of a p))

module _ (t a : List ℕ) where
  -- an m line and its i line
  abbrev pub media_length : ℕ → ℕ
  media_length p = length (media_line (bytes_of t) (media_of a p)) + length (optional (string_line (bytes_of t) 0x69) (media_of a p).media_title)

  -- an e line; a p line is as long
  abbrev pub contact_length : ℕ → ℕ
  contact_length p = length (string_line (bytes_of t) 0x65 (span_of a p))

  -- a c line of a media; the owner stands in the first two bytes of its row
  abbrev pub media_connection_length : ℕ → ℕ
  media_connection_length p = length (connection_line (bytes_of t) (connection_of a (p + 2)))

  -- a b line
  abbrev pub bandwidth_length : ℕ → ℕ
  bandwidth_length p = length (bandwidth_line (bytes_of t) (bandwidth_of a p))

  -- an a line
  abbrev pub attribute_length : ℕ → ℕ
  attribute_length p = length (attribute_line (bytes_of t) (attribute_of a p))

  -- v, o, s, i, u, c
  unfoldable pub head_length : ℕ
  head_length =
      length (head_lines (bytes_of t) (decode a).head) + length (optional (connection_line (bytes_of t)) (decode a).head.connection)

  -- t, r with its offsets, z: numbers only
  unfoldable pub when_length : ℕ
  when_length =
      length (times_lines [] [] (times_in a)) + sum_rows a (repeat_length a) repeats_at 18 + sum_rows a (offset_length a) offsets_at 10 + length (zones_line (zones_in a))

  -- the tables with strings
  unfoldable pub tables_length : ℕ
  tables_length =
      sum_rows a contact_length emails_at 4
      + sum_rows a contact_length phones_at 4
      + sum_rows a media_connection_length connections_at 14
      + sum_rows a bandwidth_length bandwidths_at 14
      + sum_rows a attribute_length attributes_at 12
      + sum_rows a media_length medias_at 36
