-- Laws of a session's ten tables in the area: one row more, and how many rows there are.
-- Assumes nothing.
use mathlib.Core.Path.{◌≡◌, refl, sym, ap, ◌∙◌}
use mathlib.Core.List.{List, [], ◌++◌}
use Prim.Native.Nat.{ℕ, ◌≤◌, ◌<◌}
use native.Mathlib.Omega.{arith}
use lib.Dec.{lit<}
use lib.ListN.{length, get_or, set}
use lib.Seq.{set-get_or}
use Rattle.sdp_lines.specs.declared.Span.{Span}
use Rattle.sdp_cells.specs.Bytes.{num}
use Rattle.sdp_cells.specs.Tables.{tab, add, pushed, grown, told}
use Rattle.sdp_area.specs.Session.{MediaConnection, Bandwidth, Time, Repeat, Offset, Zone, Attribute, Media, Session, Within}
use Rattle.sdp_area.specs.With.{with_emails, with_phones, with_connections, with_bandwidths, with_times, with_repeats, with_offsets, with_zones, with_attributes, with_medias}
use Rattle.sdp_area.specs.Area.{span, media_connection_row, bandwidth_row, time_row, repeat_row, offset_row, zone_row, attribute_row, media_row, cat, segments, encode, emails_at, phones_at, connections_at, bandwidths_at, times_at, repeats_at, offsets_at, zones_at, attributes_at, medias_at}
use Rattle.sdp_cells.proofs.TableLaws.{tab_count, grown_is}
use Rattle.sdp_area.proofs.SegmentLaws.{set_view, cat_view}
use Rattle.sdp_area.proofs.WidthLaws.{start, before, behind, begins, length-span, length_media_connection, length-bandwidth, length-time, length-repeat, length-offset, length-zone, length-attribute, length-media}

module _ (s : Session Span) (t : List ℕ) (ok : Within s) (a : List ℕ) (is : a ≡ encode s ++ t) where
  -- ---- any table, as the k-th segment
  module _ {X : Type 0} (f : X → List ℕ) (cap w : ℕ) (small : cap < 65536) (k : ℕ) (inside : k < length (segments s))
      (xs : List X) (seg : get_or (segments s) k [] ≡ tab cap w f xs) (within : length xs ≤ cap) where
    table_count : num 2 a (start k) ≡ length xs
    unfolding encode
    table_count =
        ap (λ (l : List ℕ). num 2 l (start k)) (is ∙ cat_view (segments s) k inside t)
        ∙ rw seg (tab_count f cap w xs (before s k) (behind s k t) (start k) (omega arith) (begins s k))

    table-grown : ((x : X) → length (f x) ≡ w) → (x : X)
        → (told a (start k) cap ≡ pushed cap xs) × (grown a (start k) cap (f x) ≡ cat (set (segments s) k (tab cap w f (add cap xs x))) ++ t)
    unfolding encode
    table-grown wide =
        grown_is f cap w wide small (λ (ys : List X). cat (set (segments s) k (tab cap w f ys)) ++ t)
        (before s k) (behind s k t) (start k) (begins s k)
        (λ ys. set_view (segments s) k inside t (tab cap w f ys)) xs within a
        (is ∙ ap (λ (l : List (List ℕ)). cat l ++ t) (sym (set-get_or (segments s) k []) ∙ ap (set (segments s) k) seg))

  -- ---- the ten
  pub emails-grown : (x : Span) → (told a emails_at 16 ≡ pushed 16 s.tables.emails) × (grown a emails_at 16 (span x) ≡ encode (with_emails s (add 16 s.tables.emails x)) ++ t)
  unfolding encode
  emails-grown = table-grown span 16 4 (lit< tt) 6 (lit< tt) s.tables.emails refl ok.emails length-span

  pub phones-grown : (x : Span) → (told a phones_at 16 ≡ pushed 16 s.tables.phones) × (grown a phones_at 16 (span x) ≡ encode (with_phones s (add 16 s.tables.phones x)) ++ t)
  unfolding encode
  phones-grown = table-grown span 16 4 (lit< tt) 7 (lit< tt) s.tables.phones refl ok.phones length-span

  pub connections-grown : (x : MediaConnection Span) → (told a connections_at 64 ≡ pushed 64 s.tables.connections) × (grown a connections_at 64 (media_connection_row x) ≡ encode (with_connections s (add 64 s.tables.connections x)) ++ t)
  unfolding encode
  connections-grown = table-grown media_connection_row 64 14 (lit< tt) 8 (lit< tt) s.tables.connections refl ok.connections length_media_connection

  pub bandwidths-grown : (x : Bandwidth Span) → (told a bandwidths_at 64 ≡ pushed 64 s.tables.bandwidths) × (grown a bandwidths_at 64 (bandwidth_row x) ≡ encode (with_bandwidths s (add 64 s.tables.bandwidths x)) ++ t)
  unfolding encode
  bandwidths-grown = table-grown bandwidth_row 64 14 (lit< tt) 9 (lit< tt) s.tables.bandwidths refl ok.bandwidths length-bandwidth

  pub times-grown : (x : Time) → (told a times_at 32 ≡ pushed 32 s.tables.times) × (grown a times_at 32 (time_row x) ≡ encode (with_times s (add 32 s.tables.times x)) ++ t)
  unfolding encode
  times-grown = table-grown time_row 32 16 (lit< tt) 10 (lit< tt) s.tables.times refl ok.times length-time

  pub repeats-grown : (x : Repeat) → (told a repeats_at 64 ≡ pushed 64 s.tables.repeats) × (grown a repeats_at 64 (repeat_row x) ≡ encode (with_repeats s (add 64 s.tables.repeats x)) ++ t)
  unfolding encode
  repeats-grown = table-grown repeat_row 64 18 (lit< tt) 11 (lit< tt) s.tables.repeats refl ok.repeats length-repeat

  pub offsets-grown : (x : Offset) → (told a offsets_at 256 ≡ pushed 256 s.tables.offsets) × (grown a offsets_at 256 (offset_row x) ≡ encode (with_offsets s (add 256 s.tables.offsets x)) ++ t)
  unfolding encode
  offsets-grown = table-grown offset_row 256 10 (lit< tt) 12 (lit< tt) s.tables.offsets refl ok.offsets length-offset

  pub zones-grown : (x : Zone) → (told a zones_at 64 ≡ pushed 64 s.tables.zones) × (grown a zones_at 64 (zone_row x) ≡ encode (with_zones s (add 64 s.tables.zones x)) ++ t)
  unfolding encode
  zones-grown = table-grown zone_row 64 16 (lit< tt) 13 (lit< tt) s.tables.zones refl ok.zones length-zone

  pub attributes-grown : (x : Attribute Span) → (told a attributes_at 512 ≡ pushed 512 s.tables.attributes) × (grown a attributes_at 512 (attribute_row x) ≡ encode (with_attributes s (add 512 s.tables.attributes x)) ++ t)
  unfolding encode
  attributes-grown = table-grown attribute_row 512 12 (lit< tt) 14 (lit< tt) s.tables.attributes refl ok.attributes length-attribute

  pub medias-grown : (x : Media Span) → (told a medias_at 32 ≡ pushed 32 s.tables.medias) × (grown a medias_at 32 (media_row x) ≡ encode (with_medias s (add 32 s.tables.medias x)) ++ t)
  unfolding encode
  medias-grown = table-grown media_row 32 36 (lit< tt) 15 (lit< tt) s.tables.medias refl ok.medias length-media

  -- ---- how many rows there are
  pub emails_count : num 2 a emails_at ≡ length s.tables.emails
  emails_count = table_count span 16 4 (lit< tt) 6 (lit< tt) s.tables.emails refl ok.emails

  pub phones_count : num 2 a phones_at ≡ length s.tables.phones
  phones_count = table_count span 16 4 (lit< tt) 7 (lit< tt) s.tables.phones refl ok.phones

  pub connections_count : num 2 a connections_at ≡ length s.tables.connections
  connections_count = table_count media_connection_row 64 14 (lit< tt) 8 (lit< tt) s.tables.connections refl ok.connections

  pub bandwidths_count : num 2 a bandwidths_at ≡ length s.tables.bandwidths
  bandwidths_count = table_count bandwidth_row 64 14 (lit< tt) 9 (lit< tt) s.tables.bandwidths refl ok.bandwidths

  pub times_count : num 2 a times_at ≡ length s.tables.times
  times_count = table_count time_row 32 16 (lit< tt) 10 (lit< tt) s.tables.times refl ok.times

  pub repeats_count : num 2 a repeats_at ≡ length s.tables.repeats
  repeats_count = table_count repeat_row 64 18 (lit< tt) 11 (lit< tt) s.tables.repeats refl ok.repeats

  pub offsets_count : num 2 a offsets_at ≡ length s.tables.offsets
  offsets_count = table_count offset_row 256 10 (lit< tt) 12 (lit< tt) s.tables.offsets refl ok.offsets

  pub zones_count : num 2 a zones_at ≡ length s.tables.zones
  zones_count = table_count zone_row 64 16 (lit< tt) 13 (lit< tt) s.tables.zones refl ok.zones

  pub attributes_count : num 2 a attributes_at ≡ length s.tables.attributes
  attributes_count = table_count attribute_row 512 12 (lit< tt) 14 (lit< tt) s.tables.attributes refl ok.attributes

  pub medias_count : num 2 a medias_at ≡ length s.tables.medias
  medias_count = table_count media_row 32 36 (lit< tt) 15 (lit< tt) s.tables.medias refl ok.medias
