-- Document 01, "Fields" and "Tables": a session over any type S of strings. S is a place and a length where the area is meant, and the
-- bytes themselves where two sessions are compared. Names are the crate's.
use Rattle.std.specs.Prelude.{ℕ, ◌≤◌, List, [], length, Option, None}
use Rattle.sdp_numbers.specs.Tables.{most_emails, most_phones, most_media_connections, most_bandwidths, most_times}
use Rattle.sdp_numbers.specs.Tables.{most_repeats, most_offsets, most_zones, most_attributes, most_medias}

-- an o line
pub record Origin (S : Type 0) : Type 0 where
  pub username : Option S
  pub sess_id : S
  pub sess_version : ℕ
  pub nettype : S
  pub addrtype : S
  pub unicast_address : S

-- a c line
pub record Connection (S : Type 0) : Type 0 where
  pub nettype : S
  pub addrtype : S
  pub connection_address : S

-- a key, where an area kept from earlier has one: no k line is read (document 02, P4). A line without a colon had no encryption key
pub record Key (S : Type 0) : Type 0 where
  pub method : S
  pub encryption_key : Option S

-- a c line of a media
-- "Bandwidths, connections and attributes name their owner (0 the session, else the media; never 0 for connections), repeats their time,
-- offsets their repeat, counted from 1"
pub record MediaConnection (S : Type 0) : Type 0 where
  pub owner : ℕ
  pub connection : Connection S

-- a b line
pub record Bandwidth (S : Type 0) : Type 0 where
  pub owner : ℕ
  pub bwtype : S
  pub bandwidth : ℕ

-- a t line
pub record Time : Type 0 where
  pub start_time : ℕ
  pub stop_time : ℕ

-- an r line without its offsets
pub record Repeat : Type 0 where
  pub owner : ℕ
  pub repeat_interval : ℕ
  pub active_duration : ℕ

-- an offset of an r line
pub record Offset : Type 0 where
  pub owner : ℕ
  pub offset : ℕ

-- a pair of the z line; the offset as the 64 bits of an i64
pub record Zone : Type 0 where
  pub adjustment_time : ℕ
  pub offset : ℕ

-- an a line; `a=x:` has an empty value, `a=x` has none
pub record Attribute (S : Type 0) : Type 0 where
  pub owner : ℕ
  pub attribute : S
  pub value : Option S

-- an m line with its i line, and a key as above
pub record Media (S : Type 0) : Type 0 where
  pub media : S
  pub port : ℕ
  pub num_ports : Option ℕ
  pub proto : S
  pub fmt : S
  pub media_title : Option S
  pub key : Option (Key S)

-- what a session has at most once. No name is "an empty name, place and length 0"
pub record Head (S : Type 0) : Type 0 where
  pub origin : Option (Origin S)
  pub name : Option S
  pub description : Option S
  pub uri : Option S
  pub connection : Option (Connection S)
  pub key : Option (Key S)

-- the ten tables
pub record Tables (S : Type 0) : Type 0 where
  pub emails : List S
  pub phones : List S
  pub connections : List (MediaConnection S)
  pub bandwidths : List (Bandwidth S)
  pub times : List Time
  pub repeats : List Repeat
  pub offsets : List Offset
  pub zones : List Zone
  pub attributes : List (Attribute S)
  pub medias : List (Media S)

-- a whole session
pub record Session (S : Type 0) : Type 0 where
  pub head : Head S
  pub tables : Tables S

-- no table has more rows than it has room for
pub record Within {S : Type 0} (s : Session S) : Type 0 where
  pub emails : length s.tables.emails ≤ most_emails
  pub phones : length s.tables.phones ≤ most_phones
  pub connections : length s.tables.connections ≤ most_media_connections
  pub bandwidths : length s.tables.bandwidths ≤ most_bandwidths
  pub times : length s.tables.times ≤ most_times
  pub repeats : length s.tables.repeats ≤ most_repeats
  pub offsets : length s.tables.offsets ≤ most_offsets
  pub zones : length s.tables.zones ≤ most_zones
  pub attributes : length s.tables.attributes ≤ most_attributes
  pub medias : length s.tables.medias ≤ most_medias

-- before the first line
abbrev pub empty : {S : Type 0} → Session S
empty = record {
  head = record { origin = None; name = None; description = None; uri = None; connection = None; key = None };
  tables = record {
    emails = [];
    phones = [];
    connections = [];
    bandwidths = [];
    times = [];
    repeats = [];
    offsets = [];
    zones = [];
    attributes = [];
    medias = [];
  };
}
