-- Document 01, "Writing", and document 02, P4: the written form of a session, a concatenation of lines in the crate's order. Keys are never
-- written. str gives the bytes of a string.
use Rattle.std.specs.Prelude.{ℕ, ◌+◌, ◌-◌, ◌^◌, cond, List, [], ◌∷◌, ◌++◌, length, leb, eqb, Option, Some, None}
use Rattle.sdp_put.specs.Digits.{digits, time_text, offset_text}
use Rattle.sdp_put.specs.Strings.{clean}
use Rattle.sdp_decode.specs.Rows.{each, mine}
use Rattle.sdp_area.specs.Session.{Origin, Connection, MediaConnection, Bandwidth, Time, Repeat, Offset, Zone, Attribute, Media, Head, Tables, Session}

-- "Every line ends CR LF."
abbrev pub ending : List ℕ
ending = 0x0d ∷ 0x0a ∷ []

-- letter=value
unfoldable pub line : ℕ → List ℕ → List ℕ
line letter value = (letter ∷ 0x3d ∷ []) ++ (value ++ ending)

-- a space before a field
abbrev pub spaced : List ℕ → List ℕ
spaced bs = (0x20 ∷ []) ++ bs

-- what is there only where a field is
abbrev pub optional : {X : Type 0} → (X → List ℕ) → Option X → List ℕ
optional f None = []
optional f (Some x) = f x

-- ---- t, r, z: numbers only
-- start-time stop-time
abbrev pub time_value : Time → List ℕ
time_value t = digits t.start_time ++ spaced (digits t.stop_time)

-- the offsets of the r line with number n
abbrev pub offsets_of : List Offset → ℕ → List ℕ
offsets_of os n = each (λ k o. mine n o.owner (spaced (time_text o.offset))) 1 os

-- "Repeat values and zone offsets: 0 as `0`, else the largest of d, h, m that divides, else plain digits"
unfoldable pub repeat_line : List Offset → ℕ → Repeat → List ℕ
repeat_line os n r =
    line 0x72 (time_text r.repeat_interval ++ (spaced (time_text r.active_duration) ++ offsets_of os n))

-- "each t with its r lines"
unfoldable pub time_lines : List Repeat → List Offset → ℕ → Time → List ℕ
time_lines rs os n t = line 0x74 (time_value t) ++ each (λ k r. mine n r.owner (repeat_line os k r)) 1 rs

-- "No times: `t=0 0`."
unfoldable pub times_lines : List Repeat → List Offset → List Time → List ℕ
times_lines rs os [] = line 0x74 (0x30 ∷ 0x20 ∷ 0x30 ∷ [])
times_lines rs os (t ∷ ts) = each (time_lines rs os) 1 (t ∷ ts)

-- "a negative offset has `-` before its magnitude": the 64 bits are those of a signed number
abbrev pub signed_text : ℕ → List ℕ
signed_text n = offset_text (leb (2 ^ 63) n) (cond (leb (2 ^ 63) n) (2 ^ 64 - n) n)

-- a space between the pairs
abbrev pub between : ℕ → List ℕ
between k = cond (eqb k 1) [] (0x20 ∷ [])

-- one pair of the z line
unfoldable pub zone_text : ℕ → Zone → List ℕ
zone_text k z = between k ++ (digits z.adjustment_time ++ spaced (signed_text z.offset))

-- "No zones: no z line."
unfoldable pub zones_line : List Zone → List ℕ
zones_line [] = []
zones_line (z ∷ zs) = line 0x7a (each zone_text 1 (z ∷ zs))

-- ---- lines with strings
-- `-` for no bytes, else what is kept of them
unfoldable pub or_dash : List ℕ → List ℕ
or_dash bs = cond (eqb (length bs) 0) (0x2d ∷ []) (clean bs)

module _ {S : Type 0} (str : S → List ℕ) where
  -- "NUL, CR and LF are dropped from strings"
  abbrev pub text : S → List ℕ
  text x = clean (str x)

  -- a line of one string: s, i, u, e, p
  abbrev pub string_line : ℕ → S → List ℕ
  string_line letter x = line letter (text x)

  -- "an absent or empty username is `-`, judged before the dropping"
  unfoldable pub username_text : Option S → List ℕ
  username_text None = 0x2d ∷ []
  username_text (Some x) = or_dash (str x)

  -- username sess-id sess-version nettype addrtype unicast-address
  unfoldable pub origin_value : Origin S → List ℕ
  origin_value o =
      username_text o.username
      ++ (spaced (text o.sess_id)
      ++ (spaced (digits o.sess_version)
      ++ (spaced (text o.nettype)
      ++ (spaced (text o.addrtype)
      ++ spaced (text o.unicast_address)))))

  -- "a missing `o` .. gives the placeholder written `o=- 0 0 IN IP4 0.0.0.0`"
  unfoldable pub origin_line : Option (Origin S) → List ℕ
  origin_line None =
      line 0x6f (0x2d ∷ 0x20 ∷ 0x30 ∷ 0x20 ∷ 0x30 ∷ 0x20 ∷ 0x49 ∷ 0x4e ∷ 0x20 ∷ 0x49 ∷ 0x50 ∷ 0x34 ∷ 0x20 ∷ 0x30 ∷ 0x2e ∷ 0x30 ∷ 0x2e ∷ 0x30 ∷ 0x2e ∷ 0x30 ∷ [])
  origin_line (Some o) = line 0x6f (origin_value o)

  -- "A missing `s` gives an empty name"
  abbrev pub name_line : Option S → List ℕ
  name_line None = line 0x73 []
  name_line (Some x) = string_line 0x73 x

  -- nettype addrtype connection-address
  unfoldable pub connection_line : Connection S → List ℕ
  connection_line c =
      line 0x63 (text c.nettype ++ (spaced (text c.addrtype) ++ spaced (text c.connection_address)))

  -- bwtype:bandwidth
  unfoldable pub bandwidth_line : Bandwidth S → List ℕ
  bandwidth_line b = line 0x62 (text b.bwtype ++ ((0x3a ∷ []) ++ digits b.bandwidth))

  -- name or name:value; `a=note:` and `a=note` differ
  unfoldable pub attribute_line : Attribute S → List ℕ
  attribute_line a = line 0x61 (text a.attribute ++ optional (λ x. (0x3a ∷ []) ++ text x) a.value)

  -- the lines of the owner n: 0 is the session
  abbrev pub bandwidths_of : List (Bandwidth S) → ℕ → List ℕ
  bandwidths_of bs n = each (λ k b. mine n b.owner (bandwidth_line b)) 1 bs

  -- a lines
  abbrev pub attributes_of : List (Attribute S) → ℕ → List ℕ
  attributes_of xs n = each (λ k x. mine n x.owner (attribute_line x)) 1 xs

  -- c lines of a media
  abbrev pub connections_of : List (MediaConnection S) → ℕ → List ℕ
  connections_of cs n = each (λ k c. mine n c.owner (connection_line c.connection)) 1 cs

  -- media port proto fmt, or media port/num proto fmt
  unfoldable pub media_line : Media S → List ℕ
  media_line m =
      line 0x6d
      (text m.media
      ++ (spaced (digits m.port)
      ++ (optional (λ n. (0x2f ∷ []) ++ digits n) m.num_ports
      ++ (spaced (text m.proto) ++ spaced (text m.fmt)))))

  -- "each media: m, i, c, b, k, a", without its key
  unfoldable pub media_lines : Tables S → ℕ → Media S → List ℕ
  media_lines s n m =
      media_line m
      ++ (optional (string_line 0x69) m.media_title
      ++ (connections_of s.connections n
      ++ (bandwidths_of s.bandwidths n ++ attributes_of s.attributes n)))

  -- v, o, s, i, u
  unfoldable pub head_lines : Head S → List ℕ
  head_lines h =
      line 0x76 (0x30 ∷ [])
      ++ (origin_line h.origin
      ++ (name_line h.name
      ++ (optional (string_line 0x69) h.description ++ optional (string_line 0x75) h.uri)))

  -- e, p, c, b, each t with its r lines
  unfoldable pub contact_lines : Session S → List ℕ
  contact_lines s =
      each (λ k x. string_line 0x65 x) 1 s.tables.emails
      ++ (each (λ k x. string_line 0x70 x) 1 s.tables.phones
      ++ (optional connection_line s.head.connection
      ++ (bandwidths_of s.tables.bandwidths 0
      ++ times_lines s.tables.repeats s.tables.offsets s.tables.times)))

  -- z, a
  unfoldable pub closing_lines : Session S → List ℕ
  closing_lines s = zones_line s.tables.zones ++ attributes_of s.tables.attributes 0

  -- "Order: v, o, s, i, u, e, p, c, b, each t with its r lines, z, k, a; each media", a k line "never written"
  unfoldable pub written : Session S → List ℕ
  written s =
      head_lines s.head
      ++ (contact_lines s
      ++ (closing_lines s
      ++ each (media_lines s.tables) 1 s.tables.medias))
