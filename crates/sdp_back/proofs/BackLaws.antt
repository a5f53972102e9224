-- What was read, written and read again is the same session. Assumes nothing.
use mathlib.Core.Path.{◌≡◌, refl, sym, ap, ◌∙◌}
use mathlib.Core.List.{List, [], ◌∷◌, map}
use Prim.Native.Nat.{ℕ, ◌≤◌}
use native.Mathlib.Omega.{arith}
use lib.ListN.{length, drop, length-map}
use Rattle.sdp_lines.specs.Strings.{bytes_of}
use Rattle.sdp_lines.specs.declared.Span.{Span}
use Rattle.sdp_area.specs.Session.{MediaConnection, Bandwidth, Attribute, Session}
use Rattle.sdp_area.specs.Columns.{area_size}
use Rattle.sdp_strings.specs.Strings.{span_at}
use Rattle.sdp_read.specs.Run.{Verdict, accepted, refused, lines, read_text}
use Rattle.sdp_row.specs.Written.{written}
use Rattle.sdp_write.specs.Write as writer
use Rattle.sdp_write.specs.Write.{answer, wrote, length_text, fill, fill_text}
use Rattle.sdp_write.proofs.WriteLaws.{wrote-fill}
use Rattle.sdp_same.specs.Said.{said_media_connection, said_bandwidth, said_attribute, said_media, said, bytes_at}
use Rattle.sdp_same.specs.Sound.{FineIn, Rising, Sound}
use Rattle.sdp_same.proofs.LinesLaws.{accepted_said, refused-said}
use Rattle.sdp_same.proofs.SoundLaws.{read_sound}
use Rattle.sdp_same.proofs.SameLaws.{read_is, read_fits, left_length, left_written, read_then_write}
use Rattle.sdp_same.proofs.WrittenLaws.{id, written-said}
use Rattle.sdp_back.specs.Again.{again}
use Rattle.sdp_back.specs.Back.{SaysAgain, ReadBack}
use Rattle.sdp_back.specs.Keys.{without_keys, KeptFrom, KeptBack}
use Rattle.sdp_back.proofs.PlainLaws.{read_plain}
use Rattle.sdp_back.proofs.WholeLaws.{Ordered, written_back}
use Rattle.sdp_back.proofs.KeyLaws.{kept-length, kept-written}

-- ---- counts, numbers and owners of what is said
rising-map : {X Y : Type 0} (h : X → Y) (owner : Y → ℕ) (most lo : ℕ) (xs : List X) → Rising (λ x. owner (h x)) most lo xs → Rising owner most lo (map h xs)
rising-map h owner most lo [] r = tt
rising-map h owner most lo (x ∷ xs) r = (r.0, r.1, rising-map h owner most (owner (h x)) xs r.2)

module _ (f : Span → List ℕ) (P : Span → Type 0) (s : Session Span) (sound : Sound P s) where
  few : {X Y : Type 0} (h : X → Y) (xs : List X) (n : ℕ) → length xs ≤ n → length (map h xs) ≤ n
  few h xs n l = omega (arith, length-map xs h)

  said_ordered : Ordered (said f s)
  said_ordered =
      let T = sound.fits.tables in
      let m : length (map (said_media f) s.tables.medias) ≡ length s.tables.medias = length-map s.tables.medias (said_media f) in
      record {
        within = record {
          emails = few f s.tables.emails 16 T.emails.few;
          phones = few f s.tables.phones 16 T.phones.few;
          connections = few (said_media_connection f) s.tables.connections 64 T.connections.few;
          bandwidths = few (said_bandwidth f) s.tables.bandwidths 64 T.bandwidths.few;
          times = T.times.few;
          repeats = T.repeats.few;
          offsets = T.offsets.few;
          zones = T.zones.few;
          attributes = few (said_attribute f) s.tables.attributes 512 T.attributes.few;
          medias = few (said_media f) s.tables.medias 32 T.medias.few;
        };
        times = T.times.each;
        repeats = T.repeats.each;
        offsets = T.offsets.each;
        zones = T.zones.each;
        owned_connections = rw m (rising-map (said_media_connection f) (λ (c : MediaConnection (List ℕ)). c.owner) _ 1 s.tables.connections sound.owned.connections);
        owned_bandwidths = rw m (rising-map (said_bandwidth f) (λ (b : Bandwidth (List ℕ)). b.owner) _ 0 s.tables.bandwidths sound.owned.bandwidths);
        owned_repeats = sound.owned.repeats;
        owned_offsets = sound.owned.offsets;
        owned_attributes = rw m (rising-map (said_attribute f) (λ (a : Attribute (List ℕ)). a.owner) _ 0 s.tables.attributes sound.owned.attributes);
      }

-- ---- over texts
module _ (t : List ℕ) (s : Session Span) (e : lines span_at t ≡ accepted s) where
  back : lines bytes_at (written (bytes_of t) s) ≡ accepted (again (said (bytes_of t) s))
  back =
      ap (lines bytes_at) (written-said (bytes_of t) s)
      ∙ written_back (said (bytes_of t) s) (read_plain t (said (bytes_of t) s) (accepted_said t s e)) (said_ordered (bytes_of t) (FineIn t) s (read_sound t s e))

-- a session whose strings are bytes, as the session with places
at_places : (A : Type 0) (t : List ℕ) (s : Session (List ℕ)) → lines bytes_at t ≡ accepted s → ((r : Session Span) → lines span_at t ≡ accepted r → said (bytes_of t) r ≡ s → A) → A
at_places A t s e next = go (lines span_at t) refl
  where
    go : (r : Verdict Span) → lines span_at t ≡ r → A
    go (accepted r) q = next r q (let z : accepted (said (bytes_of t) r) ≡ accepted s = sym (accepted_said t r q) ∙ e in cc)
    go (refused x) q = absurd (let z : refused x ≡ accepted s = sym (refused-said t x q) ∙ e in let y : ◌≡◌ {A = ℕ} 0 1 = cc in omega arith)

-- reading again what is written of a text's session
pub text_back : (t : List ℕ) (s : Session (List ℕ)) → lines bytes_at t ≡ accepted s → lines bytes_at (written id s) ≡ accepted (again s)
text_back t s e =
    at_places (lines bytes_at (written id s) ≡ accepted (again s)) t s e (λ r q z.
    rw (← z) (ap (lines bytes_at) (sym (written-said (bytes_of t) r)) ∙ back t r q))

-- ---- over the promises of read and write
-- what is written of what t says, read again
module _ (t : List ℕ) (s : Session Span) (e : lines span_at t ≡ accepted s) (o b : List ℕ) where
  says_again : (r : writer.Outcome) → r ≡ fill (written (bytes_of t) s) o → r.answer.number ≡ 0 → length (wrote r) ≤ 32768 → area_size ≤ length b → SaysAgain (said (bytes_of t) s) (wrote r) b
  says_again r f n l m =
      let w : wrote r ≡ written (bytes_of t) s = ap wrote f ∙ wrote-fill (written (bytes_of t) s) o (rw f at n) in
      let q : lines bytes_at (wrote r) ≡ accepted (again (said (bytes_of t) s)) = ap (lines bytes_at) w ∙ back t s e in
      at_places (SaysAgain (said (bytes_of t) s) (wrote r) b) (wrote r) _ q (λ x p y. record { session = x; says = p; read = read_is (wrote r) b l m _ p; same = y })

-- "a session that the reader accepted, written with room and read back within the limit, is the same session"
pub read_back : (t a o b : List ℕ) → ReadBack t a o b
read_back t a o b h k l m =
    let r = read_then_write t a o h in
    let f = read_fits t a h in
    record {
      session = r.session;
      says = r.read;
      read = read_is t a f.0 f.1 _ r.read;
      again = says_again t r.session r.read o b _ r.outcome k l m;
    }

-- document 02, P4: "written without their keys, and demand 3's reading back leaves those keys out"
pub kept_back : (t a : List ℕ) (k : KeptFrom t a) (c o b : List ℕ) → KeptBack t a k c o b
kept_back t a k c o b short full =
    let s : Session Span = without_keys k.session in
    let w = kept-written t a k short o in
    let left = read_is t c short full (accepted s) k.today in
    let sound = read_sound t s k.today in
    let long : length_text t (read_text t c).area ≡ answer 0 (length (written (bytes_of t) s)) = ap (λ r. length_text t r.area) left ∙ left_length t short s sound (drop area_size c) in
    let today : fill_text t (read_text t c).area o ≡ fill (written (bytes_of t) s) o = ap (λ r. fill_text t r.area o) left ∙ left_written t short s sound (drop area_size c) o in
    (kept-length t a k short ∙ sym long, w ∙ sym today, says_again t s k.today o b _ w)
