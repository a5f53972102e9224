-- "Strings are places in the text; two sessions are the same when counts, numbers, presence, owners and string bytes agree": a session with
-- every string replaced by what f says of it.
use Rattle.std.specs.Prelude.{ℕ, List, map, option_map}
use Rattle.sdp_split.specs.Split.{part}
use Rattle.sdp_split.specs.declared.Piece.{Piece}
use Rattle.sdp_area.specs.Session.{Origin, Connection, Key, MediaConnection, Bandwidth, Attribute, Media, Head, Tables, Session}
use Rattle.sdp_step.specs.Step.{Reading, Stepped, goes, stops}
use Rattle.sdp_read.specs.Run.{Verdict, accepted, refused}

-- a string of a line whose value is v, as its bytes: wherever the line stands
abbrev pub bytes_at : ℕ → List ℕ → Piece → List ℕ
bytes_at p v x = part v x

module _ {S T : Type 0} (f : S → T) where
  abbrev pub said_origin : Origin S → Origin T
  said_origin o = record {
    username = option_map f o.username;
    sess_id = f o.sess_id;
    sess_version = o.sess_version;
    nettype = f o.nettype;
    addrtype = f o.addrtype;
    unicast_address = f o.unicast_address;
  }

  abbrev pub said_connection : Connection S → Connection T
  said_connection c = record { nettype = f c.nettype; addrtype = f c.addrtype; connection_address = f c.connection_address }

  abbrev pub said_key : Key S → Key T
  said_key k = record { method = f k.method; encryption_key = option_map f k.encryption_key }

  -- ---- rows
  abbrev pub said_media_connection : MediaConnection S → MediaConnection T
  said_media_connection c = record { owner = c.owner; connection = said_connection c.connection }

  abbrev pub said_bandwidth : Bandwidth S → Bandwidth T
  said_bandwidth b = record { owner = b.owner; bwtype = f b.bwtype; bandwidth = b.bandwidth }

  abbrev pub said_attribute : Attribute S → Attribute T
  said_attribute a = record { owner = a.owner; attribute = f a.attribute; value = option_map f a.value }

  abbrev pub said_media : Media S → Media T
  said_media m = record {
    media = f m.media;
    port = m.port;
    num_ports = m.num_ports;
    proto = f m.proto;
    fmt = f m.fmt;
    media_title = option_map f m.media_title;
    key = option_map said_key m.key;
  }

  -- ---- the whole
  abbrev pub said_head : Head S → Head T
  said_head h = record {
    origin = option_map said_origin h.origin;
    name = option_map f h.name;
    description = option_map f h.description;
    uri = option_map f h.uri;
    connection = option_map said_connection h.connection;
    key = option_map said_key h.key;
  }

  -- times, repeats, offsets and zones have no strings
  abbrev pub said_tables : Tables S → Tables T
  said_tables t = record {
    emails = map f t.emails;
    phones = map f t.phones;
    connections = map said_media_connection t.connections;
    bandwidths = map said_bandwidth t.bandwidths;
    times = t.times;
    repeats = t.repeats;
    offsets = t.offsets;
    zones = t.zones;
    attributes = map said_attribute t.attributes;
    medias = map said_media t.medias;
  }

  abbrev pub said : Session S → Session T
  said s = record { head = said_head s.head; tables = said_tables s.tables }

  -- ---- while it is read
  abbrev pub said_reading : Reading S → Reading T
  said_reading ρ = record { session = said ρ.session; zoned = ρ.zoned }

  abbrev pub said_step : Stepped S → Stepped T
  said_step (goes ρ) = goes (said_reading ρ)
  said_step (stops w) = stops w

  abbrev pub said_verdict : Verdict S → Verdict T
  said_verdict (accepted s) = accepted (said s)
  said_verdict (refused x) = refused x
