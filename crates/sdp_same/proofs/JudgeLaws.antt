-- The area of a sound session is well_formed_lem, whatever stands behind it. Assumes nothing.
use Prim.Native.Nat.{ℕ, ◌+◌, ◌≤◌, ◌<◌}
use native.Mathlib.Nat.{add_assoc}
use native.Mathlib.Omega.{arith}
use mathlib.Core.Path.{◌≡◌, refl}
use mathlib.Core.Bool.{Bool, true, ◌&&◌}
use mathlib.Core.List.{List, [], ◌∷◌, ◌++◌}
use Rattle.std.specs.Prelude.{Option, Some, None}
use borrow.Author.Tests.{le-leb}
use lib.Dec.{leb, lit<}
use lib.ListN.{length}
use Rattle.sdp_utf8.specs.Utf8 as utf8
use Rattle.sdp_lines.specs.declared.Span.{Span}
use Rattle.sdp_cells.specs.Bytes as bytes
use Rattle.sdp_cells.specs.Bytes.{le, num}
use Rattle.sdp_cells.specs.Tables.{flat}
use Rattle.sdp_area.specs.Session.{Session}
use Rattle.sdp_area.specs.Area as area
use Rattle.sdp_area.specs.Area.{span, opt, origin_bytes, name_bytes, connection_bytes, key_bytes, attribute_row, media_row, encode, origin_at, name_at, description_at, uri_at, connection_at, key_at, times_at, repeats_at, medias_at}
use Rattle.sdp_valid.specs.Judge as judge
use Rattle.sdp_valid.specs.Judge.{every_at, fine_if, rising, owned, rows, small_counts, large_counts, owners, fine_string, fine_origin, fine_connection, fine_pair, fine_media, fine_head, fine_tables, well_formed}
use Rattle.sdp_same.specs.Fits.{FitsSpan, IfGiven, Each, FitOrigin, FitConnection, FitKey, FitAttribute, FitMedia, Fits, name_of}
use Rattle.sdp_same.specs.Sound.{FineIn, Rising, Sound}
use Rattle.sdp_same.proofs.StandsLaws.{Stands, num_back, absent-mark, present_mark, first_row, segment}
use Rattle.sdp_same.proofs.TableLaws.{Table, count, rows_here, emails_here, phones_here, connections_here, bandwidths_here, times_here, repeats_here, offsets_here, zones_here, attributes_here, medias_here}
use Rattle.sdp_same.proofs.PartLaws.{span-parts, origin_parts, connection_parts, key-parts, media_connection_parts, bandwidth-parts, repeat-parts, offset-parts, attribute-parts, media-parts}

-- a string of a short text has room in its cells
pub fine_room : (t : List ℕ) → length t ≤ 32768 → (x : Span) → FineIn t x → FitsSpan x
fine_room t short x h = let l = h.inside in record { at = omega arith; len = omega arith }

both : {x y : Bool} → x ≡ true → y ≡ true → (x && y) ≡ true
both {x} {y} p q = rw p q

module _ (a : List ℕ) where
  -- what f writes of an x with P passes the test
  abbrev Passes : {X : Type 0} → (X → Type 0) → (X → List ℕ) → (ℕ → Bool) → Type 0
  Passes {X} P f test = (n : ℕ) (x : X) → P x → Stands a n (f x) → test n ≡ true

  -- ---- what may be absent, and rows
  module _ {X : Type 0} (P : X → Type 0) (f : X → List ℕ) (test : ℕ → Bool) (passes : Passes P f test) where
    if_passes : (k : ℕ) → Passes (IfGiven P) (opt k f) (fine_if a test)
    unfolding judge.judged
    if_passes k n None h w = rw (absent-mark k f w)
    if_passes k n (Some x) h w = let q = present_mark k f x w in rw q.0 (passes (n + 2) x h q.1)

    rows_pass : (k : ℕ) → ((x : X) → length (f x) ≡ k) → (xs : List X) (n : ℕ) → Each P xs → Stands a n (flat f xs) → every_at test k (length xs) n ≡ true
    unfolding judge.every_at
    rows_pass k wide [] n h w = refl
    rows_pass k wide (x ∷ xs) n h w = let q = first_row f k wide x xs w in both (passes n x h.0 q.0) (rows_pass k wide xs (n + k) h.1 q.1)

  -- ---- a table: its count, its rows, and owners that never fall
  module _ {X : Type 0} {P : X → Type 0} {f : X → List ℕ} {k cap n : ℕ} {xs : List X} (T : Table a P f k cap n xs) where
    count_fine : leb (num 2 a n) cap ≡ true
    count_fine = rw (count T) (le-leb (length xs) cap T.fits.few)

    table_passes : (test : ℕ → Bool) → Passes P f test → rows a test n k ≡ true
    table_passes test passes = rw (count T) (rows_pass P f test passes k T.wide xs (n + 2) T.fits.each (rows_here T))

    module _ (owner : X → ℕ) (begins : (m : ℕ) (x : X) → P x → Stands a m (f x) → num 2 a m ≡ owner x) (most : ℕ) where
      rise : (ys : List X) (lo m : ℕ) → Each P ys → Rising owner most lo ys → Stands a m (flat f ys) → rising a k most (length ys) lo m ≡ true
      unfolding judge.rising
      rise [] lo m g r v = refl
      rise (y ∷ ys) lo m g r v =
          let q = first_row f k T.wide y ys v in
          let e = begins m y g.0 q.0 in
          rw (e, le-leb lo (owner y) r.0, le-leb (owner y) most r.1) (rise ys (owner y) (m + k) g.1 r.2 q.1)

      owners-rise : (lo base : ℕ) → num 2 a base ≡ most → Rising owner most lo xs → owned a n k lo base ≡ true
      owners-rise lo base e r = rw (e, count T) (rise xs lo (n + 2) T.fits.each r (rows_here T))

  -- ---- the records of a text
  module _ (t : List ℕ) (short : length t ≤ 32768) where
    string_passes : Passes (FineIn t) span (fine_string a t)
    unfolding judge.fine_string
    string_passes n x h w =
        let q = span-parts x w in
        let r = fine_room t short x h in
        rw (num_back 2 x.at.0 r.at q.0, num_back 2 x.len r.len q.1, le-leb (x.at.0 + x.len) (length t) h.inside) h.utf8

    maybe_passes : Passes (IfGiven (FineIn t)) (opt 4 span) (fine_if a (fine_string a t))
    maybe_passes = if_passes (FineIn t) span (fine_string a t) string_passes 4

    connection_passes : Passes (FitConnection (FineIn t)) connection_bytes (fine_connection a t)
    unfolding judge.fine_connection
    connection_passes n c h w =
        let q = connection_parts c w in
        both (string_passes n c.nettype h.nettype q.0) (both (string_passes (n + 4) c.addrtype h.addrtype q.1) (string_passes (n + 8) c.connection_address h.connection_address q.2))

    key_passes : Passes (FitKey (FineIn t)) key_bytes (fine_pair a t)
    unfolding judge.fine_pair
    key_passes n k h w = let q = key-parts k w in both (string_passes n k.method h.method q.0) (maybe_passes (n + 4) k.encryption_key h.encryption_key q.1)

    origin_passes : Passes (FitOrigin (FineIn t)) origin_bytes (fine_origin a t)
    unfolding judge.fine_origin
    origin_passes n o h w =
        let q = origin_parts o w in
        both (maybe_passes n o.username h.username q.0)
        (both (string_passes (n + 6) o.sess_id h.sess_id q.1)
        (both (string_passes (n + 18) o.nettype h.nettype q.3)
        (both (string_passes (n + 22) o.addrtype h.addrtype q.4) (string_passes (n + 26) o.unicast_address h.unicast_address q.5))))

    name_passes : (n : ℕ) (o : Option Span) → IfGiven (FineIn t) o → Stands a n (name_bytes o) → fine_string a t n ≡ true
    unfolding area.name_bytes area.span bytes.le bytes.zeros utf8.is_utf8 utf8.utf8_end utf8.end_from
    name_passes n None h w = string_passes n (name_of None) (record { inside = omega arith; utf8 = refl }) w
    name_passes n (Some x) h w = string_passes n x h w

    attribute_passes : Passes (FitAttribute (FineIn t)) attribute_row (λ p. fine_pair a t (p + 2))
    unfolding judge.fine_pair
    attribute_passes n x h w =
        let q = attribute-parts x w in
        rw (add_assoc n 2 4) (both (string_passes (n + 2) x.attribute h.attribute q.1) (maybe_passes (n + 6) x.value h.value q.2))

    media_passes : Passes (FitMedia (FineIn t)) media_row (fine_media a t)
    unfolding judge.fine_media
    media_passes n m h w =
        let q = media-parts m w in
        both (string_passes n m.media h.media q.0)
        (both (if_passes (λ (k : ℕ). k < 65536) (le 2) (λ p. true) (λ p k l v. refl) 2 (n + 6) m.num_ports h.num_ports q.2)
        (both (string_passes (n + 10) m.proto h.proto q.3)
        (both (string_passes (n + 14) m.fmt h.fmt q.4)
        (both (maybe_passes (n + 18) m.media_title h.media_title q.5)
        (if_passes (FitKey (FineIn t)) key_bytes (fine_pair a t) key_passes 10 (n + 24) m.key h.key q.6)))))

-- ---- the whole
module _ (t : List ℕ) (short : length t ≤ 32768) (s : Session Span) (h : Sound (FineIn t) s) (x : List ℕ) where
  abbrev a : List ℕ
  a = encode s ++ x

  abbrev P : Span → Type 0
  P = FineIn t

  abbrev F : Fits P s
  F = h.fits

  small_fine : small_counts a ≡ true
  unfolding judge.small_counts
  small_fine =
      both (count_fine a (emails_here P s F x))
      (both (count_fine a (phones_here P s F x))
      (both (count_fine a (connections_here P s F x))
      (both (count_fine a (bandwidths_here P s F x)) (count_fine a (times_here P s F x)))))

  large_fine : large_counts a ≡ true
  unfolding judge.large_counts
  large_fine =
      both (count_fine a (repeats_here P s F x))
      (both (count_fine a (offsets_here P s F x))
      (both (count_fine a (zones_here P s F x))
      (both (count_fine a (attributes_here P s F x)) (count_fine a (medias_here P s F x)))))

  owners_fine : owners a ≡ true
  unfolding judge.owners
  owners_fine =
      both (owners-rise a (connections_here P s F x) (λ c. c.owner) (λ m c f w. num_back 2 c.owner f.owner (media_connection_parts c w).0) _ 1 medias_at (count (medias_here P s F x)) h.owned.connections)
      (both (owners-rise a (bandwidths_here P s F x) (λ b. b.owner) (λ m b f w. num_back 2 b.owner f.owner (bandwidth-parts b w).0) _ 0 medias_at (count (medias_here P s F x)) h.owned.bandwidths)
      (both (owners-rise a (repeats_here P s F x) (λ r. r.owner) (λ m r f w. num_back 2 r.owner f.owner (repeat-parts r w).0) _ 1 times_at (count (times_here P s F x)) h.owned.repeats)
      (both (owners-rise a (offsets_here P s F x) (λ o. o.owner) (λ m o f w. num_back 2 o.owner f.owner (offset-parts o w).0) _ 1 repeats_at (count (repeats_here P s F x)) h.owned.offsets)
      (owners-rise a (attributes_here P s F x) (λ y. y.owner) (λ m y f w. num_back 2 y.owner f.owner (attribute-parts y w).0) _ 0 medias_at (count (medias_here P s F x)) h.owned.attributes))))

  head_fine : fine_head a t ≡ true
  unfolding judge.fine_head
  head_fine =
      both (if_passes a (FitOrigin P) origin_bytes (fine_origin a t) (origin_passes a t short) 30 origin_at s.head.origin F.head.origin (segment s x 0 (lit< tt)))
      (both (name_passes a t short name_at s.head.name F.head.name (segment s x 1 (lit< tt)))
      (both (maybe_passes a t short description_at s.head.description F.head.description (segment s x 2 (lit< tt)))
      (both (maybe_passes a t short uri_at s.head.uri F.head.uri (segment s x 3 (lit< tt)))
      (both (if_passes a (FitConnection P) connection_bytes (fine_connection a t) (connection_passes a t short) 12 connection_at s.head.connection F.head.connection (segment s x 4 (lit< tt)))
      (if_passes a (FitKey P) key_bytes (fine_pair a t) (key_passes a t short) 10 key_at s.head.key F.head.key (segment s x 5 (lit< tt)))))))

  tables_fine : fine_tables a t ≡ true
  unfolding judge.fine_tables
  tables_fine =
      both (table_passes a (emails_here P s F x) (fine_string a t) (string_passes a t short))
      (both (table_passes a (phones_here P s F x) (fine_string a t) (string_passes a t short))
      (both (table_passes a (connections_here P s F x) (λ p. fine_connection a t (p + 2)) (λ n c f w. connection_passes a t short (n + 2) c.connection f.connection (media_connection_parts c w).1))
      (both (table_passes a (bandwidths_here P s F x) (λ p. fine_string a t (p + 2)) (λ n b f w. string_passes a t short (n + 2) b.bwtype f.bwtype (bandwidth-parts b w).1))
      (both (table_passes a (attributes_here P s F x) (λ p. fine_pair a t (p + 2)) (attribute_passes a t short)) (table_passes a (medias_here P s F x) (fine_media a t) (media_passes a t short))))))

  pub well_formed_lem : well_formed (encode s ++ x) t ≡ true
  unfolding judge.well_formed
  well_formed_lem = both small_fine (both large_fine (both owners_fine (both head_fine tables_fine)))
