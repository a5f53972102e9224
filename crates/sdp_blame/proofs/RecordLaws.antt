-- The readers of all records: a refusal with 8 names the bad byte of a field of the value, and any other none.
-- Assumes nothing.
use Prim.Native.Nat.{ℕ, suc, ◌+◌}
use native.Mathlib.Omega.{arith}
use mathlib.Core.Path.{◌≡◌, refl, ap, ◌∙◌}
use mathlib.Core.Bool.{Bool, true, false, cond}
use mathlib.Core.List.{List, [], ◌∷◌}
use lib.Dec.{ltb}
use lib.ListN.{length, take, drop}
use lib.Seq.{take-length}
use Rattle.sdp_bytes.specs.Runs.{index_of}
use Rattle.sdp_utf8.specs.Utf8.{is_utf8}
use Rattle.sdp_number.specs.Number.{Number, whole_number, typed_time}
use Rattle.sdp_number.specs.declared.NumberError.TheVariants.{Encoding, Format}
use Rattle.sdp_split.specs.Split.{Field, part, words, next_word, later, first_piece, piece_after, rest_after}
use Rattle.sdp_split.specs.declared.Piece.{Piece}
use Rattle.sdp_judge.specs.Read as judge
use Rattle.sdp_judge.specs.Read.{Read, encoding, and_then, after, entire, whole_of}
use Rattle.sdp_judge.specs.Offset.{zone_offset}
use Rattle.sdp_fields.specs.Records as records
use Rattle.sdp_fields.specs.Records.{address_of, origin_of, connection_of, bandwidth_of, times_of, attribute_of}
use Rattle.sdp_media_line.specs.MediaLine as line
use Rattle.sdp_media_line.specs.MediaLine.{port_number, num_ports, ports_of, port_field, media_of}
use Rattle.sdp_media_line.specs.declared.Port.{Port}
use Rattle.sdp_lists.specs.Lists as lists
use Rattle.sdp_lists.specs.Lists.{offsets_of, repeat_of, pairs_of, zones_of}
use Rattle.sdp_blame.specs.Field as fields
use Rattle.sdp_blame.specs.Field.{word_of, FieldOf}
use Rattle.sdp_blame.proofs.NumberLaws.{number_honest, time_honest, offset_honest}
use Rattle.sdp_blame.proofs.ValueLaws.{Stands, Past, past_field, entire_stands, first_stands, after_stands, rest_stands, Ready, words_ready, word_stands, later_ready}
use Rattle.sdp_blame.proofs.FieldLaws.{plain_blames, byte_blames, Fair, Knows, fair_cond, fair_then, fair_end, fair_text, fair_token, fair_choice, fair_number, fair_time, fair_numbered}
use Rattle.std.specs.Prelude.{Some, None, Ok, Err}

-- ---- a value that is one field
pub whole_fair : (l w : ℕ) (v : List ℕ) → FieldOf v l w (entire v) → Fair l v (whole_of w v)
unfolding judge.whole_of
whole_fair l w v h =
    fair_cond l v (is_utf8 v) _ _ (λ q. tt)
    (λ q. byte_blames l v w (entire v) (record { field = h; stands = entire_stands v }) (ap is_utf8 (take-length v) ∙ q))

-- ---- words
module _ (v : List ℕ) where
  -- the next word is known
  word_known : (l : ℕ) (ws : List Piece) → Ready v ws → (w : ℕ) → ((p : Piece) (e : ℕ) → next_word ws ≡ Some (p, e) → FieldOf v l w p) → Knows l v w (next_word ws)
  word_known l ws r w h p e q = record { field = h p e q; stands = word_stands v ws r p e q }

  -- how o and c end: only the address can be refused with 8
  address_fair : (l w : ℕ) (ws : List Piece) → Ready v ws → ((p : Piece) (e : ℕ) → word_of 2 ws ≡ Some (p, e) → FieldOf v l (w + 2) p) → Fair l v (address_of w v ws)
  unfolding records.address_of judge.next_token judge.next_text
  address_fair l w ws r h =
      fair_token l v w (next_word ws) _ (λ net i n t.
      let r₁ = later_ready v ws r net i n t in
      fair_token l v (w + 1) (next_word (later ws)) _ (λ kind j k t.
      fair_text l v (w + 2) (next_word (later (later ws))) (word_known l (later (later ws)) (later_ready v (later ws) r₁ kind j k t) (w + 2) h) _ (λ address e q t.
      fair_end l v (w + 3) (next_word (later (later (later ws)))) (Ok _) tt)))

  pub connection_fair : Fair 0x63 v (connection_of v)
  unfolding records.connection_of
  connection_fair = address_fair 0x63 8 (words v) (words_ready v) (λ p e q. fields.connection 2 p e (omega arith) q)

  pub origin_fair : Fair 0x6f v (origin_of v)
  unfolding records.origin_of judge.next_text judge.next_number
  origin_fair =
      let ws = words v in
      let r = words_ready v in
      fair_text 0x6f v 1 (next_word ws) (word_known 0x6f ws r 1 (λ p e q. fields.origin 0 p e (omega arith) q)) _ (λ user i u t.
      let r₁ = later_ready v ws r user i u t in
      fair_text 0x6f v 2 (next_word (later ws)) (word_known 0x6f (later ws) r₁ 2 (λ p e q. fields.origin 1 p e (omega arith) q)) _ (λ id j d t.
      let r₂ = later_ready v (later ws) r₁ id j d t in
      fair_number 0x6f v 3 (next_word (later (later ws))) (word_known 0x6f (later (later ws)) r₂ 3 (λ p e q. fields.origin 2 p e (omega arith) q)) _ (λ version e p q t.
      fair_then 0x6f v (address_of 4 v (later (later (later ws)))) (address_fair 0x6f 4 (later (later (later ws))) (later_ready v (later (later ws)) r₂ p e q t) (λ p e q. fields.origin 5 p e (omega arith) q)) _ (λ c. tt))))

  pub times_fair : Fair 0x74 v (times_of v)
  unfolding records.times_of judge.next_number
  times_fair =
      let ws = words v in
      fair_number 0x74 v 15 (next_word ws) (word_known 0x74 ws (words_ready v) 15 (λ p e q. fields.time 0 p e (omega arith) q)) _ (λ start i p q t.
      fair_number 0x74 v 16 (next_word (later ws)) (word_known 0x74 (later ws) (later_ready v ws (words_ready v) p i q t) 16 (λ p e q. fields.time 1 p e (omega arith) q)) _ (λ stop e p q t.
      fair_end 0x74 v 17 (next_word (later (later ws))) (Ok _) tt))

  -- ---- lists of words
  offsets_fair : (ws : List Piece) → Ready v ws → ((k : ℕ) (p : Piece) (e : ℕ) → word_of k ws ≡ Some (p, e) → FieldOf v 0x72 20 p) → Fair 0x72 v (offsets_of v ws)
  unfolding lists.offsets_of
  offsets_fair [] r h = tt
  offsets_fair (p ∷ ws) r h =
      fair_numbered 0x72 v typed_time time_honest 20 p (word_known 0x72 (p ∷ ws) r 20 (h 0) p _ refl) _ (λ n t.
      fair_then 0x72 v (offsets_of v ws) (offsets_fair ws (later_ready v (p ∷ ws) r p _ refl t) (λ k. h (suc k))) _ (λ ns. tt))

  pub repeat_fair : Fair 0x72 v (repeat_of v)
  unfolding lists.repeat_of judge.next_time
  repeat_fair =
      let ws = words v in
      fair_time 0x72 v 18 (next_word ws) (word_known 0x72 ws (words_ready v) 18 (λ p e q. fields.repeat 0 p e (omega arith) q)) _ (λ interval i p q t.
      let r₁ = later_ready v ws (words_ready v) p i q t in
      fair_time 0x72 v 19 (next_word (later ws)) (word_known 0x72 (later ws) r₁ 19 (λ p e q. fields.repeat 1 p e (omega arith) q)) _ (λ duration e p q t.
      fair_then 0x72 v (offsets_of v (later (later ws))) (offsets_fair (later (later ws)) (later_ready v (later ws) r₁ p e q t) fields.offset) _ (λ os. tt)))

  pairs_fair : (ws : List Piece) → Ready v ws → ((k : ℕ) (p : Piece) (e : ℕ) → word_of (k + k) ws ≡ Some (p, e) → FieldOf v 0x7a 21 p)
      → ((k : ℕ) (p : Piece) (e : ℕ) → word_of (suc (k + k)) ws ≡ Some (p, e) → FieldOf v 0x7a 22 p) → Fair 0x7a v (pairs_of v ws)
  unfolding lists.pairs_of
  pairs_fair [] r h g = tt
  pairs_fair (a ∷ []) r h g =
      fair_numbered 0x7a v (whole_number 64) (number_honest 64) 21 a (word_known 0x7a (a ∷ []) r 21 (h 0) a _ refl) _ (λ n t. plain_blames 0x7a v 10 22 (λ e. omega arith))
  pairs_fair (a ∷ o ∷ ws) r h g =
      fair_numbered 0x7a v (whole_number 64) (number_honest 64) 21 a (word_known 0x7a (a ∷ o ∷ ws) r 21 (h 0) a _ refl) _ (λ n t.
      let r₁ = later_ready v (a ∷ o ∷ ws) r a _ refl t in
      fair_numbered 0x7a v zone_offset offset_honest 22 o (word_known 0x7a (o ∷ ws) r₁ 22 (g 0) o _ refl) _ (λ m t.
      fair_then 0x7a v (pairs_of v ws)
      (pairs_fair ws (later_ready v (o ∷ ws) r₁ o _ refl t)
      (λ k p e q. h (suc k) p e (ap (λ (n : ℕ). word_of n (a ∷ o ∷ ws)) (two k) ∙ q))
      (λ k p e q. g (suc k) p e (ap (λ (n : ℕ). word_of (suc n) (a ∷ o ∷ ws)) (two k) ∙ q)))
      _ (λ zs. tt)))
    where
      two : (k : ℕ) → suc k + suc k ≡ suc (suc (k + k))
      two k = omega arith

  pub zones_fair : Fair 0x7a v (zones_of v)
  unfolding lists.zones_of
  zones_fair = pairs_fair (words v) (words_ready v) fields.adjustment fields.zone_offset

  -- ---- pieces
  -- behind a piece that is UTF-8
  behind : (p : Piece) (e : ℕ) → Stands v p × (e ≡ p.at + p.len) → is_utf8 (part v p) ≡ true → Past v e
  behind p e s t = rw s.1 (past_field v p s.0 t)

  -- before a colon, and behind it
  abbrev colon : ℕ
  colon = 0x3a

  pub bandwidth_fair : Fair 0x62 v (bandwidth_of v)
  unfolding records.bandwidth_of
  bandwidth_fair =
      fair_text 0x62 v 12 (first_piece colon v) (λ p e q. record { field = fields.bwtype p e q; stands = (first_stands colon (omega arith) v p e q).0 }) _ (λ kind i k t.
      let b = behind kind i (first_stands colon (omega arith) v kind i k) t in
      fair_number 0x62 v 13 (piece_after colon v i) (λ p e q. record { field = fields.bandwidth kind p i e k q; stands = (after_stands colon (omega arith) v i b p e q).0 }) _ (λ n e p q t.
      fair_end 0x62 v 14 (piece_after colon v e) (Ok _) tt))

  pub attribute_fair : Fair 0x61 v (attribute_of v)
  unfolding records.attribute_of
  attribute_fair =
      fair_text 0x61 v 23 (first_piece colon v) (λ p e q. record { field = fields.attribute p e q; stands = (first_stands colon (omega arith) v p e q).0 }) _ (λ name i n t.
      let b = behind name i (first_stands colon (omega arith) v name i n) t in
      fair_choice 0x61 v 24 (rest_after v i) (λ p e q. record { field = fields.value name p i e n q; stands = rest_stands v i b p e q }) _ (λ value. tt))

  -- a number of the port's field, which is UTF-8, is never refused with 8
  port_number_lem : {A : Type 0} (w : ℕ) (x : Number) (k : ℕ → Read A) → ((n : ℕ) → Fair 0x6d v (k n)) → Fair 0x6d v (and_then (port_number w x) k)
  port_number_lem w (Ok n) k h = h n
  port_number_lem w (Err x) k h = plain_blames 0x6d v 9 w (λ e. omega arith)

  ports_fair : (s : List ℕ) → Fair 0x6d v (ports_of s)
  ports_fair s =
      port_number_lem 28 (whole_number 16 (take (index_of 0x2f s) s)) _ (λ port.
      fair_then 0x6d v (num_ports s (index_of 0x2f s))
      (fair_cond 0x6d v (ltb (index_of 0x2f s) (length s)) _ (Ok _)
      (λ q. port_number_lem 30 (whole_number 16 (drop (index_of 0x2f s + 1) s)) _ (λ n. tt)) (λ q. tt)) _ (λ num. tt))

  after-port : {A : Type 0} (f : Field) → Knows 0x6d v 29 f → (k : Port → ℕ → Read A) → ((port : Port) (p : Piece) (e : ℕ) → f ≡ Some (p, e) → is_utf8 (part v p) ≡ true → Fair 0x6d v (k port e))
      → Fair 0x6d v (after (port_field v f) k)
  unfolding line.port_of
  after-port None g k h = plain_blames 0x6d v 10 28 (λ e. omega arith)
  after-port (Some (p, e)) g k h = go (is_utf8 (part v p)) refl
    where
      read : is_utf8 (part v p) ≡ true → (r : Read Port) → Fair 0x6d v r → Fair 0x6d v (after (and_then r (λ port. Ok (port, e))) k)
      read t (Ok port) g = h port p e refl t
      read t (Err w) g = g

      go : (b : Bool) → is_utf8 (part v p) ≡ b → Fair 0x6d v (after (and_then (cond b (ports_of (part v p)) (Err (encoding 29 v p))) (λ port. Ok (port, e))) k)
      go true t = read t (ports_of (part v p)) (ports_fair (part v p))
      go false t = byte_blames 0x6d v 29 p (g p e refl) t

  abbrev space : ℕ
  space = 0x20

  pub media_fair : Fair 0x6d v (media_of v)
  unfolding line.media_of
  media_fair =
      fair_text 0x6d v 27 (first_piece space v) (λ p e q. record { field = fields.media_name p e q; stands = (first_stands space (omega arith) v p e q).0 }) _ (λ name i n t.
      let b = behind name i (first_stands space (omega arith) v name i n) t in
      after-port (piece_after space v i) (λ p e q. record { field = fields.port name p i e n q; stands = (after_stands space (omega arith) v i b p e q).0 }) _ (λ port x j m t.
      let c = behind x j (after_stands space (omega arith) v i b x j m) t in
      fair_text 0x6d v 31 (piece_after space v j) (λ p e q. record { field = fields.proto name x p i j e n m q; stands = (after_stands space (omega arith) v j c p e q).0 }) _ (λ proto l r t.
      let d = behind proto l (after_stands space (omega arith) v j c proto l r) t in
      fair_text 0x6d v 32 (rest_after v l) (λ p e q. record { field = fields.fmt name x proto p i j l e n m r q; stands = rest_stands v l d p e q }) _ (λ fmt e q t. tt))))
