-- How a session lies in the record area: docs/AREA.md has the same byte by byte. Places, lengths, marks, owners, counts and ports take two
-- bytes, other numbers eight, the lower first. A mark is 1 for present and 0 for absent; "unused cells, an absent field's too, are zero".
use Rattle.std.specs.Prelude.{List, [], ◌∷◌, ◌++◌, ℕ, ◌+◌, Option, Some, None}
use Rattle.sdp_numbers.specs.Tables.{most_emails, most_phones, most_media_connections, most_bandwidths, most_times}
use Rattle.sdp_numbers.specs.Tables.{most_repeats, most_offsets, most_zones, most_attributes, most_medias}
use Rattle.sdp_lines.specs.declared.Span.{Span}
use Rattle.sdp_cells.specs.Bytes.{le, zeros}
use Rattle.sdp_cells.specs.Tables.{tab}
use Rattle.sdp_area.specs.Session.{Origin, Connection, Key, MediaConnection, Bandwidth, Time, Repeat, Offset, Zone, Attribute, Media, Session}

-- a string: its place and its length
unfoldable pub span : Span → List ℕ
span x = le 2 x.at.0 ++ le 2 x.len

-- what may be absent: a mark, and then w bytes
unfoldable pub opt : {X : Type 0} → ℕ → (X → List ℕ) → Option X → List ℕ
opt w f None = zeros (2 + w)
opt w f (Some x) = le 2 1 ++ f x

-- 30 bytes
unfoldable pub origin_bytes : Origin Span → List ℕ
origin_bytes o =
    opt 4 span o.username ++ (span o.sess_id ++ (le 8 o.sess_version ++ (span o.nettype ++ (span o.addrtype ++ span o.unicast_address))))

-- the name has no mark: 4 bytes
unfoldable pub name_bytes : Option Span → List ℕ
name_bytes None = zeros 4
name_bytes (Some x) = span x

-- 12 bytes
unfoldable pub connection_bytes : Connection Span → List ℕ
connection_bytes c = span c.nettype ++ (span c.addrtype ++ span c.connection_address)

-- 10 bytes
unfoldable pub key_bytes : Key Span → List ℕ
key_bytes k = span k.method ++ opt 4 span k.encryption_key

-- ---- rows
-- 14 bytes
unfoldable pub media_connection_row : MediaConnection Span → List ℕ
media_connection_row c = le 2 c.owner ++ connection_bytes c.connection

-- 14 bytes
unfoldable pub bandwidth_row : Bandwidth Span → List ℕ
bandwidth_row b = le 2 b.owner ++ (span b.bwtype ++ le 8 b.bandwidth)

-- 16 bytes
unfoldable pub time_row : Time → List ℕ
time_row t = le 8 t.start_time ++ le 8 t.stop_time

-- 18 bytes
unfoldable pub repeat_row : Repeat → List ℕ
repeat_row r = le 2 r.owner ++ (le 8 r.repeat_interval ++ le 8 r.active_duration)

-- 10 bytes
unfoldable pub offset_row : Offset → List ℕ
offset_row o = le 2 o.owner ++ le 8 o.offset

-- 16 bytes
unfoldable pub zone_row : Zone → List ℕ
zone_row z = le 8 z.adjustment_time ++ le 8 z.offset

-- 12 bytes
unfoldable pub attribute_row : Attribute Span → List ℕ
attribute_row a = le 2 a.owner ++ (span a.attribute ++ opt 4 span a.value)

-- 36 bytes
unfoldable pub media_row : Media Span → List ℕ
media_row m =
    span m.media
    ++ (le 2 m.port ++ (opt 2 (le 2) m.num_ports ++ (span m.proto ++ (span m.fmt ++ (opt 4 span m.media_title ++ opt 10 key_bytes m.key)))))

-- ---- the whole
-- the segments, one after the other
unfoldable pub cat : List (List ℕ) → List ℕ
cat [] = []
cat (x ∷ xs) = x ++ cat xs

-- six fields and ten tables, in this order
abbrev pub segments : Session Span → List (List ℕ)
segments s =
    opt 30 origin_bytes s.head.origin
    ∷ name_bytes s.head.name
    ∷ opt 4 span s.head.description
    ∷ opt 4 span s.head.uri
    ∷ opt 12 connection_bytes s.head.connection
    ∷ opt 10 key_bytes s.head.key
    ∷ tab most_emails 4 span s.tables.emails
    ∷ tab most_phones 4 span s.tables.phones
    ∷ tab most_media_connections 14 media_connection_row s.tables.connections
    ∷ tab most_bandwidths 14 bandwidth_row s.tables.bandwidths
    ∷ tab most_times 16 time_row s.tables.times
    ∷ tab most_repeats 18 repeat_row s.tables.repeats
    ∷ tab most_offsets 10 offset_row s.tables.offsets
    ∷ tab most_zones 16 zone_row s.tables.zones
    ∷ tab most_attributes 12 attribute_row s.tables.attributes
    ∷ tab most_medias 36 media_row s.tables.medias
    ∷ []

-- the bytes of a session
unfoldable pub encode : Session Span → List ℕ
encode s = cat (segments s)

-- the bytes of every session; the lines that its records were read from stand behind it (Columns.antt)
abbrev pub size : ℕ
size = 14558

-- where each segment begins; the last has 2 + 32 * 36 bytes
abbrev pub origin_at : ℕ
origin_at = 0

-- 2 + 30 bytes on
abbrev pub name_at : ℕ
name_at = 32

-- 4 bytes on
abbrev pub description_at : ℕ
description_at = 36

-- 2 + 4 bytes on
abbrev pub uri_at : ℕ
uri_at = 42

-- 2 + 4 bytes on
abbrev pub connection_at : ℕ
connection_at = 48

-- 2 + 12 bytes on
abbrev pub key_at : ℕ
key_at = 62

-- 2 + 10 bytes on
abbrev pub emails_at : ℕ
emails_at = 74

-- 2 + 16 * 4 bytes on
abbrev pub phones_at : ℕ
phones_at = 140

-- 2 + 16 * 4 bytes on
abbrev pub connections_at : ℕ
connections_at = 206

-- 2 + 64 * 14 bytes on
abbrev pub bandwidths_at : ℕ
bandwidths_at = 1104

-- 2 + 64 * 14 bytes on
abbrev pub times_at : ℕ
times_at = 2002

-- 2 + 32 * 16 bytes on
abbrev pub repeats_at : ℕ
repeats_at = 2516

-- 2 + 64 * 18 bytes on
abbrev pub offsets_at : ℕ
offsets_at = 3670

-- 2 + 256 * 10 bytes on
abbrev pub zones_at : ℕ
zones_at = 6232

-- 2 + 64 * 16 bytes on
abbrev pub attributes_at : ℕ
attributes_at = 7258

-- 2 + 512 * 12 bytes on
abbrev pub medias_at : ℕ
medias_at = 13404
