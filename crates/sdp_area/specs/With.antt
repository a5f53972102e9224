-- A session with one part replaced: in each line below, x stands in the place of that part.
use Rattle.std.specs.Prelude.{List, [], ◌∷◌, Option, Some}
use Rattle.sdp_area.specs.Session.{Origin, Connection, Key, Session}
use Rattle.sdp_area.specs.Session.{MediaConnection, Bandwidth, Time, Repeat, Offset, Zone, Attribute, Media}

-- the latest row changed
unfoldable pub set_last : {X : Type 0} → (X → X) → List X → List X
set_last g [] = []
set_last g (x ∷ []) = g x ∷ []
set_last g (x ∷ y ∷ ys) = x ∷ set_last g (y ∷ ys)

module _ {S : Type 0} where
  -- the latest media with a title
  abbrev pub titled : S → Media S → Media S
  titled x m = record { media = m.media; port = m.port; num_ports = m.num_ports; proto = m.proto; fmt = m.fmt; media_title = Some x; key = m.key }

module _ {S : Type 0} (s : Session S) where
  open s.head use {origin, name, description, uri, connection, key}
  open s.tables use {emails, phones, connections, bandwidths, times, repeats, offsets, zones, attributes, medias}

  -- ---- what a session has at most once, in the order of `Head`
  abbrev headed : Option (Origin S) → Option S → Option S → Option S → Option (Connection S) → Option (Key S) → Session S
  headed o n d u c k = record { head = record { origin = o; name = n; description = d; uri = u; connection = c; key = k }; tables = s.tables }

  abbrev pub with_origin : Origin S → Session S
  with_origin x = headed (Some x) name description uri connection key

  abbrev pub with_name : S → Session S
  with_name x = headed origin (Some x) description uri connection key

  abbrev pub with_description : S → Session S
  with_description x = headed origin name (Some x) uri connection key

  abbrev pub with_uri : S → Session S
  with_uri x = headed origin name description (Some x) connection key

  abbrev pub with_connection : Connection S → Session S
  with_connection x = headed origin name description uri (Some x) key

  -- ---- the ten tables, in their order
  abbrev tabled : List S → List S → List (MediaConnection S) → List (Bandwidth S) → List Time → List Repeat → List Offset → List Zone
      → List (Attribute S) → List (Media S) → Session S
  tabled e p c b t r o z a m =
      record {
        head = s.head;
        tables = record { emails = e; phones = p; connections = c; bandwidths = b; times = t; repeats = r; offsets = o; zones = z; attributes = a; medias = m };
      }

  abbrev pub with_emails : List S → Session S
  with_emails x = tabled x phones connections bandwidths times repeats offsets zones attributes medias

  abbrev pub with_phones : List S → Session S
  with_phones x = tabled emails x connections bandwidths times repeats offsets zones attributes medias

  abbrev pub with_connections : List (MediaConnection S) → Session S
  with_connections x = tabled emails phones x bandwidths times repeats offsets zones attributes medias

  abbrev pub with_bandwidths : List (Bandwidth S) → Session S
  with_bandwidths x = tabled emails phones connections x times repeats offsets zones attributes medias

  abbrev pub with_times : List Time → Session S
  with_times x = tabled emails phones connections bandwidths x repeats offsets zones attributes medias

  abbrev pub with_repeats : List Repeat → Session S
  with_repeats x = tabled emails phones connections bandwidths times x offsets zones attributes medias

  abbrev pub with_offsets : List Offset → Session S
  with_offsets x = tabled emails phones connections bandwidths times repeats x zones attributes medias

  abbrev pub with_zones : List Zone → Session S
  with_zones x = tabled emails phones connections bandwidths times repeats offsets x attributes medias

  abbrev pub with_attributes : List (Attribute S) → Session S
  with_attributes x = tabled emails phones connections bandwidths times repeats offsets zones x medias

  abbrev pub with_medias : List (Media S) → Session S
  with_medias x = tabled emails phones connections bandwidths times repeats offsets zones attributes x

  -- the latest media changed
  abbrev pub with_last : (Media S → Media S) → Session S
  with_last g = with_medias (set_last g medias)
