-- The area loses nothing: what the bytes of a session say is the session, with a name. Assumes nothing.
use mathlib.Core.Path.{◌≡◌, refl, ap, ◌∙◌}
use mathlib.Core.List.{List, [], ◌∷◌, ◌++◌}
use Rattle.std.specs.Prelude.{Option, Some, None}
use Prim.Native.Nat.{ℕ, ◌+◌, ◌<◌}
use lib.Dec.{lit<}
use lib.ListN.{length}
use Rattle.sdp_lines.specs.declared.Span.{Span}
use Rattle.sdp_cells.specs.Bytes as bytes
use Rattle.sdp_cells.specs.Bytes.{le}
use Rattle.sdp_cells.specs.Tables.{flat}
use Rattle.sdp_area.specs.Session.{Session}
use Rattle.sdp_area.specs.Area as area
use Rattle.sdp_area.specs.Area.{span, opt, origin_bytes, name_bytes, connection_bytes, key_bytes, media_connection_row, bandwidth_row, time_row, repeat_row, offset_row, zone_row, attribute_row, media_row, encode, origin_at, name_at, description_at, uri_at, connection_at, key_at}
use Rattle.sdp_decode.specs.Rows as cells
use Rattle.sdp_decode.specs.Rows.{rows_at, table, marked}
use Rattle.sdp_decode.specs.Decode as decoded
use Rattle.sdp_decode.specs.Decode.{num2, span_of, origin_of, connection_of, key_of, media_connection_of, bandwidth_of, time_of, repeat_of, offset_of, zone_of, attribute_of, media_of, decode}
use Rattle.sdp_same.specs.Fits.{FitsSpan, IfGiven, Each, FitOrigin, FitConnection, FitKey, FitMediaConnection, FitBandwidth, FitTime, FitRepeat, FitOffset, FitZone, FitAttribute, FitMedia, Fits, name_of, named}
use Rattle.sdp_same.proofs.StandsLaws.{Stands, num_back, absent-mark, present_mark, first_row, segment}
use Rattle.sdp_same.proofs.TableLaws.{Table, count, rows_here, emails_here, phones_here, connections_here, bandwidths_here, times_here, repeats_here, offsets_here, zones_here, attributes_here, medias_here}
use Rattle.sdp_same.proofs.PartLaws.{span-parts, origin_parts, connection_parts, key-parts, media_connection_parts, bandwidth-parts, time-parts, repeat-parts, offset-parts, zone-parts, attribute-parts, media-parts}

-- what f writes of an x with P is read back by rd
abbrev Back : {X : Type 0} → (X → Type 0) → (X → List ℕ) → (List ℕ → ℕ → X) → Type 0
Back {X} P f rd = (a : List ℕ) (n : ℕ) (x : X) → P x → Stands a n (f x) → rd a n ≡ x

-- ---- what may be absent, and rows
module _ {X : Type 0} (P : X → Type 0) (f : X → List ℕ) (rd : List ℕ → ℕ → X) (back : Back P f rd) where
  marked_back : (k : ℕ) → Back (IfGiven P) (opt k f) (marked rd)
  unfolding cells.marked
  marked_back k a n None h w = rw (absent-mark k f w)
  marked_back k a n (Some x) h w = let q = present_mark k f x w in rw q.0 (ap Some (back a (n + 2) x h q.1))

  module _ (k : ℕ) (wide : (x : X) → length (f x) ≡ k) (a : List ℕ) where
    rows_back : (xs : List X) (n : ℕ) → Each P xs → Stands a n (flat f xs) → rows_at rd k (length xs) a n ≡ xs
    unfolding cells.rows_at
    rows_back [] n h w = refl
    rows_back (x ∷ xs) n h w =
        let q = first_row f k wide x xs w in
        λ i. back a n x h.0 q.0 i ∷ rows_back xs (n + k) h.1 q.1 i

  table_back : {a : List ℕ} {k cap n : ℕ} {xs : List X} → Table a P f k cap n xs → table rd k a n ≡ xs
  table_back {a} {k} {cap} {n} {xs} T = ap (λ (c : ℕ). rows_at rd k c a (n + 2)) (count T) ∙ rows_back k T.wide a xs (n + 2) T.fits.each (rows_here T)

-- ---- records without strings
time_back : Back FitTime time_row time_of
time_back a n t h w = let q = time-parts t w in λ i. record { start_time = num_back 8 t.start_time h.start_time q.0 i; stop_time = num_back 8 t.stop_time h.stop_time q.1 i }

repeat_back : Back FitRepeat repeat_row repeat_of
repeat_back a n r h w =
    let q = repeat-parts r w in
    λ i. record { owner = num_back 2 r.owner h.owner q.0 i; repeat_interval = num_back 8 r.repeat_interval h.repeat_interval q.1 i; active_duration = num_back 8 r.active_duration h.active_duration q.2 i }

offset_back : Back FitOffset offset_row offset_of
offset_back a n o h w = let q = offset-parts o w in λ i. record { owner = num_back 2 o.owner h.owner q.0 i; offset = num_back 8 o.offset h.offset q.1 i }

zone_back : Back FitZone zone_row zone_of
zone_back a n z h w = let q = zone-parts z w in λ i. record { adjustment_time = num_back 8 z.adjustment_time h.adjustment_time q.0 i; offset = num_back 8 z.offset h.offset q.1 i }

-- ---- a string
span_fits : Back FitsSpan span span_of
span_fits a n x h w =
    let q = span-parts x w in
    λ i. record { at = record { 0 = num_back 2 x.at.0 h.at q.0 i }; len = num_back 2 x.len h.len q.1 i }

-- ---- P asks at least for room
module _ (P : Span → Type 0) (room : (x : Span) → P x → FitsSpan x) where
  span_back : Back P span span_of
  span_back a n x h w = span_fits a n x (room x h) w

  maybe_back : Back (IfGiven P) (opt 4 span) (marked span_of)
  maybe_back = marked_back P span span_of span_back 4

  name_back : (a : List ℕ) (n : ℕ) (o : Option Span) → IfGiven P o → Stands a n (name_bytes o) → span_of a n ≡ name_of o
  unfolding area.name_bytes area.span bytes.le bytes.zeros
  name_back a n None h w = span_fits a n (name_of None) (record { at = lit< tt; len = lit< tt }) w
  name_back a n (Some x) h w = span_back a n x h w

  connection_back : Back (FitConnection P) connection_bytes connection_of
  connection_back a n c h w =
      let q = connection_parts c w in
      λ i. record { nettype = span_back a n c.nettype h.nettype q.0 i; addrtype = span_back a (n + 4) c.addrtype h.addrtype q.1 i; connection_address = span_back a (n + 8) c.connection_address h.connection_address q.2 i }

  key_back : Back (FitKey P) key_bytes key_of
  key_back a n k h w =
      let q = key-parts k w in
      λ i. record { method = span_back a n k.method h.method q.0 i; encryption_key = maybe_back a (n + 4) k.encryption_key h.encryption_key q.1 i }

  origin_back : Back (FitOrigin P) origin_bytes origin_of
  origin_back a n o h w =
      let q = origin_parts o w in
      λ i. record {
        username = maybe_back a n o.username h.username q.0 i;
        sess_id = span_back a (n + 6) o.sess_id h.sess_id q.1 i;
        sess_version = num_back 8 o.sess_version h.sess_version q.2 i;
        nettype = span_back a (n + 18) o.nettype h.nettype q.3 i;
        addrtype = span_back a (n + 22) o.addrtype h.addrtype q.4 i;
        unicast_address = span_back a (n + 26) o.unicast_address h.unicast_address q.5 i;
      }

  media_connection_back : Back (FitMediaConnection P) media_connection_row media_connection_of
  media_connection_back a n c h w =
      let q = media_connection_parts c w in
      λ i. record { owner = num_back 2 c.owner h.owner q.0 i; connection = connection_back a (n + 2) c.connection h.connection q.1 i }

  bandwidth_back : Back (FitBandwidth P) bandwidth_row bandwidth_of
  bandwidth_back a n b h w =
      let q = bandwidth-parts b w in
      λ i. record { owner = num_back 2 b.owner h.owner q.0 i; bwtype = span_back a (n + 2) b.bwtype h.bwtype q.1 i; bandwidth = num_back 8 b.bandwidth h.bandwidth q.2 i }

  attribute_back : Back (FitAttribute P) attribute_row attribute_of
  attribute_back a n x h w =
      let q = attribute-parts x w in
      λ i. record { owner = num_back 2 x.owner h.owner q.0 i; attribute = span_back a (n + 2) x.attribute h.attribute q.1 i; value = maybe_back a (n + 6) x.value h.value q.2 i }

  media_back : Back (FitMedia P) media_row media_of
  media_back a n m h w =
      let q = media-parts m w in
      λ i. record {
        media = span_back a n m.media h.media q.0 i;
        port = num_back 2 m.port h.port q.1 i;
        num_ports = marked_back (λ (k : ℕ). k < 65536) (le 2) num2 (λ b j k l u. num_back 2 k l u) 2 a (n + 6) m.num_ports h.num_ports q.2 i;
        proto = span_back a (n + 10) m.proto h.proto q.3 i;
        fmt = span_back a (n + 14) m.fmt h.fmt q.4 i;
        media_title = maybe_back a (n + 18) m.media_title h.media_title q.5 i;
        key = marked_back (FitKey P) key_bytes key_of key_back 10 a (n + 24) m.key h.key q.6 i;
      }

  -- ---- the whole
  pub decode-encode : (s : Session Span) → Fits P s → (x : List ℕ) → decode (encode s ++ x) ≡ named s
  unfolding decoded.decode
  decode-encode s h x =
      let a : List ℕ = encode s ++ x in
      λ i. record {
        head = record {
          origin = marked_back (FitOrigin P) origin_bytes origin_of origin_back 30 a origin_at s.head.origin h.head.origin (segment s x 0 (lit< tt)) i;
          name = Some (name_back a name_at s.head.name h.head.name (segment s x 1 (lit< tt)) i);
          description = maybe_back a description_at s.head.description h.head.description (segment s x 2 (lit< tt)) i;
          uri = maybe_back a uri_at s.head.uri h.head.uri (segment s x 3 (lit< tt)) i;
          connection = marked_back (FitConnection P) connection_bytes connection_of connection_back 12 a connection_at s.head.connection h.head.connection (segment s x 4 (lit< tt)) i;
          key = marked_back (FitKey P) key_bytes key_of key_back 10 a key_at s.head.key h.head.key (segment s x 5 (lit< tt)) i;
        };
        tables = record {
          emails = table_back _ span span_of span_back (emails_here P s h x) i;
          phones = table_back _ span span_of span_back (phones_here P s h x) i;
          connections = table_back _ media_connection_row media_connection_of media_connection_back (connections_here P s h x) i;
          bandwidths = table_back _ bandwidth_row bandwidth_of bandwidth_back (bandwidths_here P s h x) i;
          times = table_back _ time_row time_of time_back (times_here P s h x) i;
          repeats = table_back _ repeat_row repeat_of repeat_back (repeats_here P s h x) i;
          offsets = table_back _ offset_row offset_of offset_back (offsets_here P s h x) i;
          zones = table_back _ zone_row zone_of zone_back (zones_here P s h x) i;
          attributes = table_back _ attribute_row attribute_of attribute_back (attributes_here P s h x) i;
          medias = table_back _ media_row media_of media_back (medias_here P s h x) i;
        };
      }
