-- The session that an area holds, whatever its bytes are: docs/AREA.md byte by byte. Bytes past the area's end count as 0.
use Rattle.std.specs.Prelude.{List, ℕ, ◌+◌, Some}
use Rattle.sdp_lines.specs.declared.Span.{Span}
use Rattle.sdp_cells.specs.Bytes.{num}
use Rattle.sdp_area.specs.Session.{Origin, Connection, Key, MediaConnection, Bandwidth, Time, Repeat, Offset, Zone, Attribute, Media, Session}
use Rattle.sdp_area.specs.Area.{origin_at, name_at, description_at, uri_at, connection_at, key_at}
use Rattle.sdp_area.specs.Area.{emails_at, phones_at, connections_at, bandwidths_at, times_at, repeats_at, offsets_at, zones_at, attributes_at, medias_at}
use Rattle.sdp_decode.specs.Rows.{table, marked}

-- a number of 2 bytes
abbrev pub num2 : List ℕ → ℕ → ℕ
num2 a p = num 2 a p

-- a string: its place and its length
abbrev pub span_of : List ℕ → ℕ → Span
span_of a p = record { at = record { 0 = num 2 a p }; len = num 2 a (p + 2) }

-- the o line, 30 bytes
abbrev pub origin_of : List ℕ → ℕ → Origin Span
origin_of a p =
    record {
      username = marked span_of a p;
      sess_id = span_of a (p + 6);
      sess_version = num 8 a (p + 10);
      nettype = span_of a (p + 18);
      addrtype = span_of a (p + 22);
      unicast_address = span_of a (p + 26);
    }

-- a c line, 12 bytes
abbrev pub connection_of : List ℕ → ℕ → Connection Span
connection_of a p = record { nettype = span_of a p; addrtype = span_of a (p + 4); connection_address = span_of a (p + 8) }

-- a key, 10 bytes
abbrev pub key_of : List ℕ → ℕ → Key Span
key_of a p = record { method = span_of a p; encryption_key = marked span_of a (p + 4) }

-- ---- rows
-- 14 bytes
abbrev pub media_connection_of : List ℕ → ℕ → MediaConnection Span
media_connection_of a p = record { owner = num 2 a p; connection = connection_of a (p + 2) }

-- 14 bytes
abbrev pub bandwidth_of : List ℕ → ℕ → Bandwidth Span
bandwidth_of a p = record { owner = num 2 a p; bwtype = span_of a (p + 2); bandwidth = num 8 a (p + 6) }

-- 16 bytes
abbrev pub time_of : List ℕ → ℕ → Time
time_of a p = record { start_time = num 8 a p; stop_time = num 8 a (p + 8) }

-- 18 bytes
abbrev pub repeat_of : List ℕ → ℕ → Repeat
repeat_of a p = record { owner = num 2 a p; repeat_interval = num 8 a (p + 2); active_duration = num 8 a (p + 10) }

-- 10 bytes
abbrev pub offset_of : List ℕ → ℕ → Offset
offset_of a p = record { owner = num 2 a p; offset = num 8 a (p + 2) }

-- 16 bytes
abbrev pub zone_of : List ℕ → ℕ → Zone
zone_of a p = record { adjustment_time = num 8 a p; offset = num 8 a (p + 8) }

-- 12 bytes
abbrev pub attribute_of : List ℕ → ℕ → Attribute Span
attribute_of a p = record { owner = num 2 a p; attribute = span_of a (p + 2); value = marked span_of a (p + 6) }

-- 36 bytes
abbrev pub media_of : List ℕ → ℕ → Media Span
media_of a p =
    record {
      media = span_of a p;
      port = num 2 a (p + 4);
      num_ports = marked num2 a (p + 6);
      proto = span_of a (p + 10);
      fmt = span_of a (p + 14);
      media_title = marked span_of a (p + 18);
      key = marked key_of a (p + 24);
    }

-- ---- the tables of when it is, which the writer and the list of starts cite by themselves too
abbrev pub times_in : List ℕ → List Time
times_in a = table time_of 16 a times_at

abbrev pub repeats_in : List ℕ → List Repeat
repeats_in a = table repeat_of 18 a repeats_at

abbrev pub offsets_in : List ℕ → List Offset
offsets_in a = table offset_of 10 a offsets_at

abbrev pub zones_in : List ℕ → List Zone
zones_in a = table zone_of 16 a zones_at

-- ---- the whole
unfoldable pub decode : List ℕ → Session Span
decode a = record {
  head = record {
    origin = marked origin_of a origin_at;
    name = Some (span_of a name_at);
    description = marked span_of a description_at;
    uri = marked span_of a uri_at;
    connection = marked connection_of a connection_at;
    key = marked key_of a key_at;
  };
  tables = record {
    emails = table span_of 4 a emails_at;
    phones = table span_of 4 a phones_at;
    connections = table media_connection_of 14 a connections_at;
    bandwidths = table bandwidth_of 14 a bandwidths_at;
    times = times_in a;
    repeats = repeats_in a;
    offsets = offsets_in a;
    zones = zones_in a;
    attributes = table attribute_of 12 a attributes_at;
    medias = table media_of 36 a medias_at;
  };
}
