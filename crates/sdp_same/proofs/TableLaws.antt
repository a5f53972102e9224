-- The ten tables in the area of a session: the count and the rows of each. Assumes nothing.
use mathlib.Core.Path.{◌≡◌, refl, ap, ◌∙◌}
use mathlib.Core.List.{List, ◌++◌}
use Prim.Native.Nat.{ℕ, ◌+◌, ◌*◌, ◌-◌, ◌<◌, ◌≤◌}
use native.Mathlib.Nat.{mul-le-mul_right}
use native.Mathlib.Omega.{arith}
use lib.Dec.{lit<}
use lib.ListN.{length, take}
use lib.Seq.{take-append-add}
use Rattle.sdp_lines.specs.declared.Span.{Span}
use Rattle.sdp_cells.specs.Bytes.{le, num, zeros}
use Rattle.sdp_cells.specs.Tables as tables
use Rattle.sdp_cells.specs.Tables.{flat, fit, tab}
use Rattle.sdp_area.specs.Session.{Session}
use Rattle.sdp_area.specs.Area.{span, media_connection_row, bandwidth_row, time_row, repeat_row, offset_row, zone_row, attribute_row, media_row, encode, emails_at, phones_at, connections_at, bandwidths_at, times_at, repeats_at, offsets_at, zones_at, attributes_at, medias_at}
use Rattle.sdp_cells.proofs.ByteLaws.{length-le}
use Rattle.sdp_cells.proofs.TableLaws.{length-flat}
use Rattle.sdp_area.proofs.WidthLaws.{length-span, length_media_connection, length-bandwidth, length-time, length-repeat, length-offset, length-zone, length-attribute, length-media}
use Rattle.sdp_same.specs.Fits.{Rows, FitMediaConnection, FitBandwidth, FitTime, FitRepeat, FitOffset, FitZone, FitAttribute, FitMedia, Fits}
use Rattle.sdp_same.proofs.StandsLaws.{Stands, front, past, num_back, segment}

-- a table of cap rows of k bytes each, which f writes, stands at place n of a and has the rows xs, each with P
pub record Table {X : Type 0} (a : List ℕ) (P : X → Type 0) (f : X → List ℕ) (k cap n : ℕ) (xs : List X) : Type 0 where
  pub wide : (x : X) → length (f x) ≡ k
  pub small : cap < 65536
  pub fits : Rows cap P xs
  pub here : Stands a n (tab cap k f xs)

module _ {X : Type 0} {a : List ℕ} {P : X → Type 0} {f : X → List ℕ} {k cap n : ℕ} {xs : List X} (T : Table a P f k cap n xs) where
  pub count : num 2 a n ≡ length xs
  unfolding tables.tab
  count = let s = T.small in let h = T.fits.few in num_back 2 (length xs) (omega arith) (front (le 2 (length xs)) _ T.here)

  pub rows_here : Stands a (n + 2) (flat f xs)
  unfolding tables.tab tables.fit
  rows_here =
      let l : length (flat f xs) ≤ cap * k = rw (length-flat f k T.wide xs) (mul-le-mul_right k T.fits.few) in
      let j : cap * k ≡ length (flat f xs) + (cap * k - length (flat f xs)) = omega arith in
      let e : fit (cap * k) (flat f xs) ≡ flat f xs ++ take (cap * k - length (flat f xs)) (zeros (cap * k)) =
      ap (λ (i : ℕ). take i (flat f xs ++ zeros (cap * k))) j ∙ take-append-add (flat f xs) (zeros (cap * k)) (cap * k - length (flat f xs)) in
      front (flat f xs) _ (rw e at (past (le 2 (length xs)) _ T.here (length-le 2 (length xs)) (n + 2) refl))

-- ---- the ten
module _ (P : Span → Type 0) (s : Session Span) (h : Fits P s) (x : List ℕ) where
  pub emails_here : Table (encode s ++ x) P span 4 16 emails_at s.tables.emails
  emails_here = record { wide = length-span; small = lit< tt; fits = h.tables.emails; here = segment s x 6 (lit< tt) }

  pub phones_here : Table (encode s ++ x) P span 4 16 phones_at s.tables.phones
  phones_here = record { wide = length-span; small = lit< tt; fits = h.tables.phones; here = segment s x 7 (lit< tt) }

  pub connections_here : Table (encode s ++ x) (FitMediaConnection P) media_connection_row 14 64 connections_at s.tables.connections
  connections_here = record { wide = length_media_connection; small = lit< tt; fits = h.tables.connections; here = segment s x 8 (lit< tt) }

  pub bandwidths_here : Table (encode s ++ x) (FitBandwidth P) bandwidth_row 14 64 bandwidths_at s.tables.bandwidths
  bandwidths_here = record { wide = length-bandwidth; small = lit< tt; fits = h.tables.bandwidths; here = segment s x 9 (lit< tt) }

  pub times_here : Table (encode s ++ x) FitTime time_row 16 32 times_at s.tables.times
  times_here = record { wide = length-time; small = lit< tt; fits = h.tables.times; here = segment s x 10 (lit< tt) }

  pub repeats_here : Table (encode s ++ x) FitRepeat repeat_row 18 64 repeats_at s.tables.repeats
  repeats_here = record { wide = length-repeat; small = lit< tt; fits = h.tables.repeats; here = segment s x 11 (lit< tt) }

  pub offsets_here : Table (encode s ++ x) FitOffset offset_row 10 256 offsets_at s.tables.offsets
  offsets_here = record { wide = length-offset; small = lit< tt; fits = h.tables.offsets; here = segment s x 12 (lit< tt) }

  pub zones_here : Table (encode s ++ x) FitZone zone_row 16 64 zones_at s.tables.zones
  zones_here = record { wide = length-zone; small = lit< tt; fits = h.tables.zones; here = segment s x 13 (lit< tt) }

  pub attributes_here : Table (encode s ++ x) (FitAttribute P) attribute_row 12 512 attributes_at s.tables.attributes
  attributes_here = record { wide = length-attribute; small = lit< tt; fits = h.tables.attributes; here = segment s x 14 (lit< tt) }

  pub medias_here : Table (encode s ++ x) (FitMedia P) media_row 36 32 medias_at s.tables.medias
  medias_here = record { wide = length-media; small = lit< tt; fits = h.tables.medias; here = segment s x 15 (lit< tt) }
