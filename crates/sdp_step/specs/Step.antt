-- Document 01, "Lines", "Fields", "Tables": what one line does to a session. mk makes a string of a piece of the line's value, so nothing
-- here knows the text, nor a line's number.
use Rattle.std.specs.Prelude.{ℕ, ◌+◌, Bool, true, false, cond, List, [], ◌∷◌, ◌++◌, map, length, ltb, leb, eqb, Option, Some, None, option_map, Ok, Err}
use Rattle.sdp_numbers.specs.Refusals as refusals
use Rattle.sdp_numbers.specs.Fields as fields
use Rattle.sdp_numbers.specs.Tables as tables
use Rattle.sdp_numbers.specs.Tables.{most_emails, most_phones, most_media_connections, most_bandwidths, most_times}
use Rattle.sdp_numbers.specs.Tables.{most_repeats, most_offsets, most_zones, most_attributes, most_medias}
use Rattle.sdp_split.specs.declared.Piece.{Piece}
use Rattle.sdp_judge.specs.declared.Wrong.{Wrong}
use Rattle.sdp_lists.specs.declared.Zone as zone
use Rattle.sdp_fields.specs.declared.Origin as origin
use Rattle.sdp_fields.specs.declared.Connection as connection
use Rattle.sdp_fields.specs.declared.Bandwidth as bandwidth
use Rattle.sdp_fields.specs.declared.Time as time
use Rattle.sdp_fields.specs.declared.Attribute as attribute
use Rattle.sdp_media_line.specs.declared.Media as media
use Rattle.sdp_judge.specs.Read.{Read, plain, whole_of}
use Rattle.sdp_fields.specs.Records.{origin_of, connection_of, bandwidth_of, times_of, attribute_of}
use Rattle.sdp_media_line.specs.MediaLine.{media_of}
use Rattle.sdp_lists.specs.Lists.{RepeatLine, repeat_of, zones_of}
use Rattle.sdp_area.specs.Session.{Origin, Connection, MediaConnection, Bandwidth, Time, Repeat, Zone, Attribute, Media, Session, empty}
use Rattle.sdp_area.specs.With.{with_origin, with_name, with_description, with_uri, with_connection, with_medias, with_last, titled}
use Rattle.sdp_area.specs.With.{with_emails, with_phones, with_connections, with_bandwidths, with_times, with_repeats, with_offsets, with_zones, with_attributes}
use Rattle.sdp_area.specs.Latest.{given, last_titled}
use Rattle.sdp_roles.specs.Roles.{role_at}
use Rattle.sdp_roles.specs.declared.Role.{Role}
use Rattle.sdp_roles.specs.declared.Role.TheVariants as role

-- a session while it is read. A z line may be empty, so its being there is kept beside the zones
pub record Reading (S : Type 0) : Type 0 where
  pub session : Session S
  pub zoned : Bool

-- what a line does: the session goes on, or is refused
pub data Stepped (S : Type 0) : Type 0 where
  goes : Reading S → Stepped S
  stops : Wrong → Stepped S

-- refused with number n and field w, for no byte of the value
abbrev pub stop : {S : Type 0} → ℕ → ℕ → Stepped S
stop n w = stops (plain n w)

-- ---- the shapes of a step
-- "at most once, and a second one is refused before its value is read": n is its refusal number
abbrev pub once : {S A : Type 0} → ℕ → Bool → Read A → (A → Stepped S) → Stepped S
once n true r k = stop n 0
once n false (Ok x) k = k x
once n false (Err w) k = stops w

-- "21 is given exactly for a line that the Rust accepts there and whose records no longer fit": a table of c rows with room for cap
unfoldable pub row : {S A : Type 0} → ℕ → ℕ → ℕ → Read A → (A → Reading S) → Stepped S
row table cap c (Ok x) k = cond (ltb c cap) (goes (k x)) (stop refusals.table_full table)
row table cap c (Err w) k = stops w

-- ---- a record's pieces as strings
module _ {S : Type 0} (mk : Piece → S) where
  abbrev pub maybe_in : Option Piece → Option S
  maybe_in m = option_map mk m

  abbrev pub origin_in : origin.Origin → Origin S
  origin_in o =
      record {
        username = maybe_in o.username;
        sess_id = mk o.sess_id;
        sess_version = o.sess_version;
        nettype = mk o.nettype;
        addrtype = mk o.addrtype;
        unicast_address = mk o.unicast_address;
      }

  abbrev pub connection_in : connection.Connection → Connection S
  connection_in c = record { nettype = mk c.nettype; addrtype = mk c.addrtype; connection_address = mk c.connection_address }

  abbrev pub media_connection_in : ℕ → connection.Connection → MediaConnection S
  media_connection_in n c = record { owner = n; connection = connection_in c }

  abbrev pub attribute_in : ℕ → attribute.Attribute → Attribute S
  attribute_in n a = record { owner = n; attribute = mk a.attribute; value = maybe_in a.value }

  abbrev pub bandwidth_in : ℕ → bandwidth.Bandwidth → Bandwidth S
  bandwidth_in n b = record { owner = n; bwtype = mk b.bwtype; bandwidth = b.bandwidth }

  abbrev pub media_in : media.Media → Media S
  media_in m =
      record {
        media = mk m.media;
        port = m.port;
        num_ports = m.num_ports;
        proto = mk m.proto;
        fmt = mk m.fmt;
        media_title = None;
        key = None;
      }

-- records without strings
abbrev pub time_in : time.Time → Time
time_in t = record { start_time = t.start_time; stop_time = t.stop_time }

-- the offset is the 64 bits of a signed number
abbrev pub zone_in : zone.Zone → Zone
zone_in z = record { adjustment_time = z.adjustment_time; offset = z.offset }

-- the owner n is its time
abbrev pub repeat_in : ℕ → RepeatLine → Repeat
repeat_in n r = record { owner = n; repeat_interval = r.interval; active_duration = r.duration }

-- ---- an r line: the session with the repeat q and its offsets ns
abbrev pub with_repeat : {S : Type 0} → Session S → Repeat → List ℕ → Session S
with_repeat s q ns =
    with_offsets (with_repeats s (s.tables.repeats ++ (q ∷ [])))
    (s.tables.offsets ++ map (λ (n : ℕ). record { owner = length s.tables.repeats + 1; offset = n }) ns)

-- of two full tables the lower number is named
abbrev pub repeat_taken : {S : Type 0} → Reading S → Repeat → List ℕ → Stepped S
repeat_taken ρ q ns =
    cond (ltb (length ρ.session.tables.repeats) most_repeats)
    (cond (leb (length ρ.session.tables.offsets + length ns) most_offsets)
    (goes (record { session = with_repeat ρ.session q ns; zoned = ρ.zoned }))
    (stop refusals.table_full tables.offsets))
    (stop refusals.table_full tables.repeats)

-- ---- the rules
module _ {S : Type 0} (mk : Piece → S) (ρ : Reading S) (v : List ℕ) where
  open ρ use {session as s, zoned}
  open s.head use {origin, name, description, uri, connection}
  open s.tables use {emails, phones, connections, bandwidths, times, attributes, medias}

  -- the session that goes on
  abbrev pub keep : Session S → Reading S
  keep x = record { session = x; zoned = zoned }

  -- what is stored where nothing may be yet: of the fields r, f makes it and put stores it
  abbrev pub set : {A X : Type 0} → ℕ → Bool → Read A → (A → X) → (X → Session S) → Stepped S
  set second there r f put = once second there r (λ x. goes (keep (put (f x))))

  -- what is stored as one row more behind the rows xs
  abbrev pub add : {A X : Type 0} → ℕ → ℕ → List X → Read A → (A → X) → (List X → Session S) → Stepped S
  add table most xs r f put = row table most (length xs) r (λ x. keep (put (xs ++ (f x ∷ []))))

  -- an owner: the latest media, counted from 1; 0 before the first
  abbrev pub section : ℕ
  section = length medias

  -- "r belongs to the latest t"
  abbrev pub repeated : Read RepeatLine → Stepped S
  repeated (Err w) = stops w
  repeated (Ok r) = repeat_taken ρ (repeat_in (length times) r) r.offsets

  -- the z line: its being there is kept even where it has no pairs
  abbrev pub zones_taken : List zone.Zone → Stepped S
  zones_taken zs =
      cond (leb (length zs) most_zones)
      (goes (record { session = with_zones s (map zone_in zs); zoned = true }))
      (stop refusals.table_full tables.zones)

  -- one line for each role: the refusal of a second one and whether there is one, or the table with its limit and its rows; the fields; what is
  -- stored of them, and where
  unfoldable pub step_role : Role → Stepped S
  step_role role.Origin = set refusals.second_origin (given origin) (origin_of v) (origin_in mk) (with_origin s)
  step_role role.Name = set refusals.second_name (given name) (whole_of fields.name v) mk (with_name s)
  step_role role.Description = set refusals.second_description (given description) (whole_of fields.description v) mk (with_description s)
  step_role role.Uri = set refusals.second_uri (given uri) (whole_of fields.uri v) mk (with_uri s)
  step_role role.Email = add tables.emails most_emails emails (whole_of fields.email v) mk (with_emails s)
  step_role role.Phone = add tables.phones most_phones phones (whole_of fields.phone v) mk (with_phones s)
  step_role role.Connection = set refusals.second_connection (given connection) (connection_of v) (connection_in mk) (with_connection s)
  step_role role.Bandwidth = add tables.bandwidths most_bandwidths bandwidths (bandwidth_of v) (bandwidth_in mk section) (with_bandwidths s)
  step_role role.Time = add tables.times most_times times (times_of v) time_in (with_times s)
  step_role role.Repeat = cond (eqb (length times) 0) (stop refusals.repeat_without_time 0) (repeated (repeat_of v))
  step_role role.Zone = once refusals.second_zones zoned (zones_of v) zones_taken
  step_role role.Attribute = add tables.attributes most_attributes attributes (attribute_of v) (attribute_in mk section) (with_attributes s)
  step_role role.Media = add tables.medias most_medias medias (media_of v) (media_in mk) (with_medias s)
  step_role role.MediaTitle = set refusals.second_title (last_titled medias) (whole_of fields.media_title v) (λ p. titled (mk p)) (with_last s)
  step_role role.MediaConnection =
      add tables.media_connections most_media_connections connections (connection_of v) (media_connection_in mk section) (with_connections s)
  step_role role.Nothing = goes ρ

  -- a line of good form with the letter l; "every other line is ignored, a later `v=` too"
  abbrev pub step : ℕ → Stepped S
  step l = step_role (role_at section l)

-- before the first line
abbrev pub fresh : {S : Type 0} → Reading S
fresh = record { session = empty; zoned = false }
