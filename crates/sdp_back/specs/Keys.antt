-- Document 02, P4: "Areas kept from earlier are judged as before, written without their keys, and demand 3's reading back leaves those keys
-- out."
use Rattle.std.specs.Prelude.{◌≡◌, true, List, ◌++◌, map, ℕ, ◌≤◌, length, None}
use Rattle.sdp_numbers.specs.Refusals.{longest_text}
use Rattle.sdp_lines.specs.Strings.{bytes_of}
use Rattle.sdp_lines.specs.declared.Span.{Span}
use Rattle.sdp_area.specs.Session.{Media, Session}
use Rattle.sdp_area.specs.Area.{encode}
use Rattle.sdp_area.specs.Columns.{area_size}
use Rattle.sdp_strings.specs.Strings.{span_at}
use Rattle.sdp_read.specs.Run.{accepted, lines, read_text}
use Rattle.sdp_stamp_valid.specs.Fine.{fine_lines}
use Rattle.sdp_write.specs.Write.{wrote, length_text, fill_text}
use Rattle.sdp_same.specs.Fits.{IfGiven, Each, FitKey}
use Rattle.sdp_same.specs.Said.{said}
use Rattle.sdp_same.specs.Sound.{FineIn}
use Rattle.sdp_back.specs.Back.{SaysAgain}

-- a media without its key
abbrev pub unkeyed : {S : Type 0} → Media S → Media S
unkeyed m = record {
  media = m.media;
  port = m.port;
  num_ports = m.num_ports;
  proto = m.proto;
  fmt = m.fmt;
  media_title = m.media_title;
  key = None;
}

-- a session without its keys
abbrev pub without_keys : {S : Type 0} → Session S → Session S
without_keys s = record {
  head = record {
    origin = s.head.origin;
    name = s.head.name;
    description = s.head.description;
    uri = s.head.uri;
    connection = s.head.connection;
    key = None;
  };
  tables = record {
    emails = s.tables.emails;
    phones = s.tables.phones;
    connections = s.tables.connections;
    bandwidths = s.tables.bandwidths;
    times = s.tables.times;
    repeats = s.tables.repeats;
    offsets = s.tables.offsets;
    zones = s.tables.zones;
    attributes = s.tables.attributes;
    medias = map unkeyed s.tables.medias;
  };
}

-- its keys, where it has any, are strings of the text t
pub record KeysIn (t : List ℕ) (s : Session Span) : Type 0 where
  pub session : IfGiven (FitKey (FineIn t)) s.head.key
  pub medias : Each (λ m. IfGiven (FitKey (FineIn t)) m.key) s.tables.medias

-- an area that a reader which kept keys left of the text t: the session that t says today, and any keys of t. Behind it may stand whatever
-- is judged well: document 02, P9, asks of an area that it has the full size, and no line above the limit
pub record KeptFrom (t a : List ℕ) : Type 0 where
  pub session : Session Span
  pub behind : List ℕ
  pub bytes : a ≡ encode session ++ behind
  pub full : area_size ≤ length a
  pub low : fine_lines a ≡ true
  pub keys : KeysIn t session
  pub today : lines span_at t ≡ accepted (without_keys session)

-- t is within the limit, a was kept of it, and c is any area of full size: a has the length, and is written to the output o, as the area that t
-- is read into today; with room, and read into the area b within the limit, that says again the session without its keys
abbrev pub KeptBack : (t a : List ℕ) → KeptFrom t a → List ℕ → List ℕ → List ℕ → Type 0
KeptBack t a k c o b =
    length t ≤ longest_text
    → area_size ≤ length c
    → (length_text t a ≡ length_text t (read_text t c).area)
    × (fill_text t a o ≡ fill_text t (read_text t c).area o)
    × ((fill_text t a o).answer.number ≡ 0
    → length (wrote (fill_text t a o)) ≤ longest_text
    → area_size ≤ length b
    → SaysAgain (said (bytes_of t) (without_keys k.session)) (wrote (fill_text t a o)) b)
