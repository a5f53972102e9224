-- What a session has become after it was written and read again: the same, except what its written form adds.
use Rattle.std.specs.Prelude.{ℕ, List, [], ◌∷◌, Option, Some, None}
use Rattle.sdp_area.specs.Session.{Origin, Time, Session}

-- "gives the placeholder written `o=- 0 0 IN IP4 0.0.0.0`, equal to a read origin with those values"
abbrev pub placeholder : Origin (List ℕ)
placeholder = record {
  username = None;
  sess_id = 0x30 ∷ [];
  sess_version = 0;
  nettype = 0x49 ∷ 0x4e ∷ [];
  addrtype = 0x49 ∷ 0x50 ∷ 0x34 ∷ [];
  unicast_address = 0x30 ∷ 0x2e ∷ 0x30 ∷ 0x2e ∷ 0x30 ∷ 0x2e ∷ 0x30 ∷ [];
}

-- "a missing `o` is marked absent"
abbrev pub origin_again : Option (Origin (List ℕ)) → Origin (List ℕ)
origin_again None = placeholder
origin_again (Some o) = o

-- "A missing `s` gives an empty name"
abbrev pub name_again : Option (List ℕ) → List ℕ
name_again None = []
name_again (Some x) = x

-- "No times: `t=0 0`."
abbrev pub times_again : List Time → List Time
times_again [] = record { start_time = 0; stop_time = 0 } ∷ []
times_again (t ∷ ts) = t ∷ ts

-- the session that is read again
abbrev pub again : Session (List ℕ) → Session (List ℕ)
again s = record {
  head = record {
    origin = Some (origin_again s.head.origin);
    name = Some (name_again s.head.name);
    description = s.head.description;
    uri = s.head.uri;
    connection = s.head.connection;
    key = s.head.key;
  };
  tables = record {
    emails = s.tables.emails;
    phones = s.tables.phones;
    connections = s.tables.connections;
    bandwidths = s.tables.bandwidths;
    times = times_again s.tables.times;
    repeats = s.tables.repeats;
    offsets = s.tables.offsets;
    zones = s.tables.zones;
    attributes = s.tables.attributes;
    medias = s.tables.medias;
  };
}
