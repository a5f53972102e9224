-- Keys: no reader keeps one, and an area that has some is written without them. Assumes nothing.
use mathlib.Core.Path.{◌≡◌, refl, sym, ap, ap₂, ◌∙◌}
use mathlib.Core.Bool.{true}
use mathlib.Core.List.{List, [], ◌∷◌, ◌++◌, map}
use Rattle.std.specs.Prelude.{Option, Some, None, option_map}
use Prim.Native.Nat.{ℕ, ◌+◌, ◌≤◌}
use native.Mathlib.Omega.{arith}
use lib.ListN.{length, length-map}
use Rattle.sdp_lines.specs.Strings.{bytes_of}
use Rattle.sdp_lines.specs.declared.Span.{Span}
use Rattle.sdp_area.specs.Session.{MediaConnection, Bandwidth, Attribute, Media, Session}
use Rattle.sdp_area.specs.Area.{encode}
use Rattle.sdp_area.specs.Columns.{area_size}
use Rattle.sdp_strings.specs.Strings.{span_at}
use Rattle.sdp_read.specs.Run.{accepted, lines}
use Rattle.sdp_decode.specs.Rows as rows
use Rattle.sdp_decode.specs.Rows.{each}
use Rattle.sdp_row.specs.Written as form
use Rattle.sdp_row.specs.Written.{head_lines, contact_lines, closing_lines, media_lines, written}
use Rattle.sdp_stamp_valid.specs.Fine.{fine_lines}
use Rattle.sdp_write.specs.Write.{answer, length_text, fill, fill_text}
use Rattle.sdp_same.specs.Fits.{IfGiven, Each, FitKey, FitMedia}
use Rattle.sdp_same.specs.Said.{said, said_key, said_media}
use Rattle.sdp_same.specs.Sound.{FineIn, Sound}
use Rattle.sdp_same.proofs.LinesLaws.{accepted_said}
use Rattle.sdp_same.proofs.RowLaws.{rising_more}
use Rattle.sdp_same.proofs.SoundLaws.{read_sound}
use Rattle.sdp_same.proofs.SameLaws.{length_is, write_is}
use Rattle.sdp_back.specs.Keys.{unkeyed, without_keys, KeysIn, KeptFrom}
use Rattle.sdp_back.proofs.PlainLaws.{MediaPlain, read_plain}

-- a media that has none
pub unkeyed_same : {S : Type 0} (m : Media S) → m.key ≡ None → unkeyed m ≡ m
unkeyed_same m e = λ i. record { media = m.media; port = m.port; num_ports = m.num_ports; proto = m.proto; fmt = m.fmt; media_title = m.media_title; key = sym e i }

-- ---- what is read has none
keyless : {X Y : Type 0} (f : X → Y) (o : Option X) → option_map f o ≡ None → o ≡ None
keyless f None e = refl
keyless f (Some x) e = absurd (let z : ◌≡◌ {A = ℕ} 0 1 = cc in omega arith)

module _ (f : Span → List ℕ) where
  medias_keyless : (ms : List (Media Span)) → Each MediaPlain (map (said_media f) ms) → map unkeyed ms ≡ ms
  medias_keyless [] h = refl
  medias_keyless (m ∷ ms) h = ap₂ ◌∷◌ (unkeyed_same m (keyless (said_key f) m.key h.0.key)) (medias_keyless ms h.1)

pub read_keyless : (t : List ℕ) (s : Session Span) → lines span_at t ≡ accepted s → without_keys s ≡ s
read_keyless t s e =
    let p = read_plain t (said (bytes_of t) s) (accepted_said t s e) in
    let h = keyless (said_key (bytes_of t)) s.head.key p.head.key in
    let ms = medias_keyless (bytes_of t) s.tables.medias p.tables.medias in
    λ i. record {
      head = record { origin = s.head.origin; name = s.head.name; description = s.head.description; uri = s.head.uri; connection = s.head.connection; key = sym h i };
      tables = record { emails = s.tables.emails; phones = s.tables.phones; connections = s.tables.connections; bandwidths = s.tables.bandwidths; times = s.tables.times; repeats = s.tables.repeats; offsets = s.tables.offsets; zones = s.tables.zones; attributes = s.tables.attributes; medias = ms i };
    }

-- ---- keys are not written
module _ {S : Type 0} (str : S → List ℕ) (s : Session S) where
  medias-unkeyed : (ms : List (Media S)) (k : ℕ) → each (media_lines str s.tables) k (map unkeyed ms) ≡ each (media_lines str s.tables) k ms
  unfolding rows.each form.media_lines form.media_line
  medias-unkeyed [] k = refl
  medias-unkeyed (m ∷ ms) k = ap (λ (l : List ℕ). media_lines str s.tables k m ++ l) (medias-unkeyed ms (k + 1))

  pub written_keyless : written str (without_keys s) ≡ written str s
  unfolding form.written form.head_lines form.contact_lines form.closing_lines form.media_lines
  written_keyless = ap (λ (l : List ℕ). head_lines str s.head ++ (contact_lines str s ++ (closing_lines str s ++ l))) (medias-unkeyed s.tables.medias 1)

-- ---- a session is sound if it is without its keys, and they are sound
module _ (t : List ℕ) (s : Session Span) (k : KeysIn t s) (h : Sound (FineIn t) (without_keys s)) where
  medias-fit : (ms : List (Media Span)) → Each (λ m. IfGiven (FitKey (FineIn t)) m.key) ms → Each (FitMedia (FineIn t)) (map unkeyed ms) → Each (FitMedia (FineIn t)) ms
  medias-fit [] a b = tt
  medias-fit (m ∷ ms) a b =
      let f = b.0 in
      (record { media = f.media; port = f.port; num_ports = f.num_ports; proto = f.proto; fmt = f.fmt; media_title = f.media_title; key = a.0 }, medias-fit ms a.1 b.1)

  keyed_sound : Sound (FineIn t) s
  keyed_sound =
      let H = h.fits.head in
      let T = h.fits.tables in
      let O = h.owned in
      let n : length (map unkeyed s.tables.medias) ≡ length s.tables.medias = length-map s.tables.medias unkeyed in
      record {
        fits = record {
          head = record { origin = H.origin; name = H.name; description = H.description; uri = H.uri; connection = H.connection; key = k.session };
          tables = record { emails = T.emails; phones = T.phones; connections = T.connections; bandwidths = T.bandwidths; times = T.times; repeats = T.repeats; offsets = T.offsets; zones = T.zones; attributes = T.attributes; medias = record { few = omega (arith, T.medias.few); each = medias-fit s.tables.medias k.medias T.medias.each } };
        };
        owned = record {
          connections = rising_more (λ (c : MediaConnection Span). c.owner) _ _ (omega arith) s.tables.connections 1 O.connections;
          bandwidths = rising_more (λ (b : Bandwidth Span). b.owner) _ _ (omega arith) s.tables.bandwidths 0 O.bandwidths;
          repeats = O.repeats;
          offsets = O.offsets;
          attributes = rising_more (λ (a : Attribute Span). a.owner) _ _ (omega arith) s.tables.attributes 0 O.attributes;
        };
      }

-- ---- so a kept area is written as today's is
module _ (t a : List ℕ) (k : KeptFrom t a) (short : length t ≤ 32768) where
  sound : Sound (FineIn t) k.session
  sound = keyed_sound t k.session k.keys (read_sound t (without_keys k.session) k.today)

  full : area_size ≤ length (encode k.session ++ k.behind)
  full = rw k.bytes at k.full

  fine : fine_lines (encode k.session ++ k.behind) ≡ true
  fine = rw k.bytes at k.low

  pub kept-length : length_text t a ≡ answer 0 (length (written (bytes_of t) (without_keys k.session)))
  kept-length =
      ap (length_text t) k.bytes
      ∙ length_is t short k.session sound k.behind full fine
      ∙ ap (λ (w : List ℕ). answer 0 (length w)) (sym (written_keyless (bytes_of t) k.session))

  pub kept-written : (o : List ℕ) → fill_text t a o ≡ fill (written (bytes_of t) (without_keys k.session)) o
  kept-written o =
      ap (λ (x : List ℕ). fill_text t x o) k.bytes
      ∙ write_is t short k.session sound k.behind full fine o
      ∙ ap (λ (w : List ℕ). fill w o) (sym (written_keyless (bytes_of t) k.session))
