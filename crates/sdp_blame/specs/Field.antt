-- Document 01, "Fields:" of "Refusal numbers", and how "Fields" splits a value: which pieces of the value of a line with letter l are its field w.
use Rattle.std.specs.Prelude.{ℕ, zero, suc, ◌+◌, ◌<◌, ◌≡◌, List, Some}
use Rattle.sdp_numbers.specs.Fields as fields
use Rattle.sdp_split.specs.Split.{Field, words, next_word, later, first_piece, piece_after, rest_after}
use Rattle.sdp_split.specs.declared.Piece.{Piece}
use Rattle.sdp_judge.specs.Read.{entire}

-- the word that has k words before it
abbrev pub word_of : ℕ → List Piece → Field
word_of zero ws = next_word ws
word_of (suc k) ws = word_of k (later ws)

-- the piece x of the value v, behind the letter l, is its field w
pub data FieldOf (v : List ℕ) : ℕ → ℕ → Piece → Type 0 where
  -- "o, c, t, r, z: split at runs of spaces": "1-6 o in order", "8-10 c", "15-16 t"
  origin : (k : ℕ) (x : Piece) (e : ℕ) → k < 6 → word_of k (words v) ≡ Some (x, e) → FieldOf v 0x6f (fields.username + k) x
  connection : (k : ℕ) (x : Piece) (e : ℕ) → k < 3 → word_of k (words v) ≡ Some (x, e) → FieldOf v 0x63 (fields.connection_nettype + k) x
  time : (k : ℕ) (x : Piece) (e : ℕ) → k < 2 → word_of k (words v) ≡ Some (x, e) → FieldOf v 0x74 (fields.start_time + k) x
  -- "18 interval, 19 duration, 20 offset": any count of offsets
  repeat : (k : ℕ) (x : Piece) (e : ℕ) → k < 2 → word_of k (words v) ≡ Some (x, e) → FieldOf v 0x72 (fields.interval + k) x
  offset : (k : ℕ) (x : Piece) (e : ℕ) → word_of (suc (suc k)) (words v) ≡ Some (x, e) → FieldOf v 0x72 fields.offset x
  -- "21 adjustment, 22 zone offset": the words of each pair
  adjustment : (k : ℕ) (x : Piece) (e : ℕ) → word_of (k + k) (words v) ≡ Some (x, e) → FieldOf v 0x7a fields.adjustment x
  zone_offset : (k : ℕ) (x : Piece) (e : ℕ) → word_of (suc (k + k)) (words v) ≡ Some (x, e) → FieldOf v 0x7a fields.zone_offset x
  -- "b: split at every colon"; "12-13 b"
  bwtype : (x : Piece) (e : ℕ) → first_piece 0x3a v ≡ Some (x, e) → FieldOf v 0x62 fields.bwtype x
  bandwidth : (y x : Piece) (i e : ℕ) → first_piece 0x3a v ≡ Some (y, i) → piece_after 0x3a v i ≡ Some (x, e) → FieldOf v 0x62 fields.bandwidth x
  -- "a .. at the first colon"; "23-24 a"
  attribute : (x : Piece) (e : ℕ) → first_piece 0x3a v ≡ Some (x, e) → FieldOf v 0x61 fields.attribute x
  value : (y x : Piece) (i e : ℕ) → first_piece 0x3a v ≡ Some (y, i) → rest_after v i ≡ Some (x, e) → FieldOf v 0x61 fields.attribute_value x
  -- "m: at the first three spaces"; "27 media name, .. 29 port encoding, .. 31 proto, 32 fmt"
  media_name : (x : Piece) (e : ℕ) → first_piece 0x20 v ≡ Some (x, e) → FieldOf v 0x6d fields.media_name x
  port : (y x : Piece) (i e : ℕ) → first_piece 0x20 v ≡ Some (y, i) → piece_after 0x20 v i ≡ Some (x, e) → FieldOf v 0x6d fields.port_encoding x
  proto : (y z x : Piece) (i j e : ℕ) → first_piece 0x20 v ≡ Some (y, i) → piece_after 0x20 v i ≡ Some (z, j) → piece_after 0x20 v j ≡ Some (x, e)
      → FieldOf v 0x6d fields.proto x
  fmt : (y z u x : Piece) (i j l e : ℕ) → first_piece 0x20 v ≡ Some (y, i) → piece_after 0x20 v i ≡ Some (z, j) → piece_after 0x20 v j ≡ Some (u, l)
      → rest_after v l ≡ Some (x, e) → FieldOf v 0x6d fields.fmt x
  -- "33 media title", "34 s; 35 session i; 36 u; 37 e; 38 p": the whole value
  title : FieldOf v 0x69 fields.media_title (entire v)
  name : FieldOf v 0x73 fields.name (entire v)
  description : FieldOf v 0x69 fields.description (entire v)
  uri : FieldOf v 0x75 fields.uri (entire v)
  email : FieldOf v 0x65 fields.email (entire v)
  phone : FieldOf v 0x70 fields.phone (entire v)
