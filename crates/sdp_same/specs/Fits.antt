-- A session whose numbers all have room in the cells of the area: docs/AREA.md. P is what is asked of a string.
use Rattle.std.specs.Prelude.{ℕ, ◌^◌, ◌<◌, ◌≤◌, List, [], ◌∷◌, length, Option, Some, None}
use Rattle.sdp_numbers.specs.Tables.{most_emails, most_phones, most_media_connections, most_bandwidths, most_times}
use Rattle.sdp_numbers.specs.Tables.{most_repeats, most_offsets, most_zones, most_attributes, most_medias}
use Rattle.sdp_lines.specs.declared.Span.{Span}
use Rattle.sdp_area.specs.Session.{Origin, Connection, Key, MediaConnection, Bandwidth, Time, Repeat, Offset, Zone, Attribute, Media, Head, Tables, Session}
use Rattle.sdp_area.specs.With.{with_name}

-- two bytes each for a place and a length
pub record FitsSpan (x : Span) : Type 0 where
  pub at : x.at.0 < 65536
  pub len : x.len < 65536

-- P of what is there
abbrev pub IfGiven : {X : Type 0} → (X → Type 0) → Option X → Type 0
IfGiven P None = Unit {0}
IfGiven P (Some x) = P x

-- P of each row
abbrev pub Each : {X : Type 0} → (X → Type 0) → List X → Type 0
Each P [] = Unit {0}
Each P (x ∷ xs) = P x × Each P xs

-- the rows of a table of cap rows
pub record Rows {X : Type 0} (cap : ℕ) (P : X → Type 0) (xs : List X) : Type 0 where
  pub few : length xs ≤ cap
  pub each : Each P xs

-- an o line
pub record FitOrigin (P : Span → Type 0) (o : Origin Span) : Type 0 where
  pub username : IfGiven P o.username
  pub sess_id : P o.sess_id
  pub sess_version : o.sess_version < 2 ^ 64
  pub nettype : P o.nettype
  pub addrtype : P o.addrtype
  pub unicast_address : P o.unicast_address

-- a c line
pub record FitConnection (P : Span → Type 0) (c : Connection Span) : Type 0 where
  pub nettype : P c.nettype
  pub addrtype : P c.addrtype
  pub connection_address : P c.connection_address

-- a key
pub record FitKey (P : Span → Type 0) (k : Key Span) : Type 0 where
  pub method : P k.method
  pub encryption_key : IfGiven P k.encryption_key

-- ---- rows
pub record FitMediaConnection (P : Span → Type 0) (c : MediaConnection Span) : Type 0 where
  pub owner : c.owner < 65536
  pub connection : FitConnection P c.connection

-- a b line
pub record FitBandwidth (P : Span → Type 0) (b : Bandwidth Span) : Type 0 where
  pub owner : b.owner < 65536
  pub bwtype : P b.bwtype
  pub bandwidth : b.bandwidth < 2 ^ 64

-- a t line
pub record FitTime (t : Time) : Type 0 where
  pub start_time : t.start_time < 2 ^ 64
  pub stop_time : t.stop_time < 2 ^ 64

-- an r line
pub record FitRepeat (r : Repeat) : Type 0 where
  pub owner : r.owner < 65536
  pub repeat_interval : r.repeat_interval < 2 ^ 64
  pub active_duration : r.active_duration < 2 ^ 64

-- an offset of an r line
pub record FitOffset (o : Offset) : Type 0 where
  pub owner : o.owner < 65536
  pub offset : o.offset < 2 ^ 64

-- a pair of the z line
pub record FitZone (z : Zone) : Type 0 where
  pub adjustment_time : z.adjustment_time < 2 ^ 64
  pub offset : z.offset < 2 ^ 64

-- an a line
pub record FitAttribute (P : Span → Type 0) (a : Attribute Span) : Type 0 where
  pub owner : a.owner < 65536
  pub attribute : P a.attribute
  pub value : IfGiven P a.value

-- an m line
pub record FitMedia (P : Span → Type 0) (m : Media Span) : Type 0 where
  pub media : P m.media
  pub port : m.port < 65536
  pub num_ports : IfGiven (λ n. n < 65536) m.num_ports
  pub proto : P m.proto
  pub fmt : P m.fmt
  pub media_title : IfGiven P m.media_title
  pub key : IfGiven (FitKey P) m.key

-- ---- the whole
pub record FitHead (P : Span → Type 0) (h : Head Span) : Type 0 where
  pub origin : IfGiven (FitOrigin P) h.origin
  pub name : IfGiven P h.name
  pub description : IfGiven P h.description
  pub uri : IfGiven P h.uri
  pub connection : IfGiven (FitConnection P) h.connection
  pub key : IfGiven (FitKey P) h.key

-- the ten tables
pub record FitTables (P : Span → Type 0) (t : Tables Span) : Type 0 where
  pub emails : Rows most_emails P t.emails
  pub phones : Rows most_phones P t.phones
  pub connections : Rows most_media_connections (FitMediaConnection P) t.connections
  pub bandwidths : Rows most_bandwidths (FitBandwidth P) t.bandwidths
  pub times : Rows most_times FitTime t.times
  pub repeats : Rows most_repeats FitRepeat t.repeats
  pub offsets : Rows most_offsets FitOffset t.offsets
  pub zones : Rows most_zones FitZone t.zones
  pub attributes : Rows most_attributes (FitAttribute P) t.attributes
  pub medias : Rows most_medias (FitMedia P) t.medias

-- a session
pub record Fits (P : Span → Type 0) (s : Session Span) : Type 0 where
  pub head : FitHead P s.head
  pub tables : FitTables P s.tables

-- ---- "A missing `s` gives an empty name, place and length 0": the area has no mark for it
abbrev pub name_of : Option Span → Span
name_of None = record { at = record { 0 = 0 }; len = 0 }
name_of (Some x) = x

-- s with a name
abbrev pub named : Session Span → Session Span
named s = with_name s (name_of s.head.name)
