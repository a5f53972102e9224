-- What a line's value gives: a record whose strings are UTF-8 pieces of the value and whose numbers fit their cells, or a refusal with a number.
-- Assumes nothing.
use Prim.Native.Nat.{ℕ, ◌+◌, ◌*◌, ◌^◌, ◌-◌, ◌<◌}
use native.Mathlib.Omega.{arith}
use mathlib.Core.Path.{◌≡◌, refl, ap, ◌∙◌}
use mathlib.Core.Bool.{Bool, true, false, ◌&&◌, cond, false≢true}
use mathlib.Core.List.{List, [], ◌∷◌, map}
use Rattle.std.specs.Prelude.{Some, None, Option, Ok, Err, IfSome}
use borrow.Author.Tests.{ltb-true, eqb-false}
use lib.Dec.{ltb, leb, eqb, lit<}
use lib.ListN.{length, get_or, take, drop}
use lib.Seq.{take-length}
use Rattle.sdp_bytes.specs.Runs.{index_of}
use Rattle.sdp_utf8.specs.Utf8.{is_utf8}
use Rattle.sdp_bytes.specs.Token.{is_token}
use Rattle.sdp_number.specs.Number as number
use Rattle.sdp_number.specs.Number.{Number, unit_of, scaled, whole_number, typed_time}
use Rattle.sdp_number.specs.declared.NumberError.TheVariants.{Encoding, Format}
use Rattle.sdp_lines.specs.declared.Span.{Span}
use Rattle.sdp_split.specs.Split.{Field, part, words, next_word, later, first_piece, piece_after, rest_after, Inside, Within}
use Rattle.sdp_judge.specs.Read as field-read
use Rattle.sdp_judge.specs.Read.{Read, and_then, encoding, format, text_of, token_of, amount_of, number_of, time_of, choice_of, after, ending, entire, whole_of}
use Rattle.sdp_fields.specs.Records as records
use Rattle.sdp_fields.specs.Records.{username_of, address_of, origin_of, connection_of, bandwidth_of, times_of, attribute_of}
use Rattle.sdp_media_line.specs.MediaLine
use Rattle.sdp_media_line.specs.MediaLine.{port_number, num_ports, port_of, port_field, media_of}
use Rattle.sdp_judge.specs.Offset as signed-offset
use Rattle.sdp_judge.specs.Offset.{signed, signed_of, zone_offset}
use Rattle.sdp_lists.specs.Lists as lists
use Rattle.sdp_lists.specs.Lists.{RepeatLine, numbered, offsets_of, repeat_of, pairs_of, zones_of}
use Rattle.sdp_split.specs.declared.Piece.{Piece}
use Rattle.sdp_media_line.specs.declared.Port.{Port}
use Rattle.sdp_judge.specs.declared.Wrong.{Wrong}
use Rattle.sdp_split.proofs.SplitLaws.{first_within, after-within, rest_within}
use Rattle.sdp_split.proofs.WordLaws.{AllInside, words_inside, next_inside, later_inside}
use Rattle.sdp_number.proofs.NumberLaws.{number_below}
use Rattle.sdp_step.specs.Step.{maybe_in, origin_in, connection_in, attribute_in, bandwidth_in, media_in, time_in, zone_in}
use Rattle.sdp_same.specs.Fits.{IfGiven, Each, FitOrigin, FitConnection, FitBandwidth, FitAttribute, FitMedia, FitTime, FitZone}
use Rattle.sdp_utf8.proofs.TokenLaws.{token_utf8}

-- a piece of v that is UTF-8
pub record Fine (v : List ℕ) (p : Piece) : Type 0 where
  pub inside : Inside v p
  pub utf8 : is_utf8 (part v p) ≡ true

-- where it is there
abbrev pub MaybeFine : List ℕ → Option Piece → Type 0
MaybeFine v m = IfSome m (Fine v)

-- what is read has P, and a refusal has a number that is not 0
abbrev pub Gives : {A : Type 0} → (A → Type 0) → Read A → Type 0
Gives P (Ok a) = P a
Gives P (Err w) = 0 < w.number

-- ---- numbers of 64 bits
scaled_below : (k : ℕ) (x : Number) (n : ℕ) → scaled k x ≡ Ok n → n < 2 ^ 64
scaled_below k (Ok m) n = go (ltb (m * k) (2 ^ 64)) refl
  where
    go : (b : Bool) → ltb (m * k) (2 ^ 64) ≡ b → cond b (Ok (m * k)) (Err Format) ≡ Ok n → n < 2 ^ 64
    go true q e = let z : m * k ≡ n = cc in rw z at (ltb-true (m * k) (2 ^ 64) q)
    go false q e = absurd (let z : ◌≡◌ {A = ℕ} 0 1 = cc in omega arith)
scaled_below k (Err Encoding) n = λ e. absurd (let z : ◌≡◌ {A = ℕ} 0 1 = cc in omega arith)
scaled_below k (Err Format) n = λ e. absurd (let z : ◌≡◌ {A = ℕ} 0 1 = cc in omega arith)

typed_below : (s : List ℕ) (n : ℕ) → typed_time s ≡ Ok n → n < 2 ^ 64
unfolding number.typed_time
typed_below s n = go (eqb (unit_of (get_or s (length s - 1) 0)) 0)
  where
    go : (b : Bool) → cond b (whole_number 64 s) (scaled (unit_of (get_or s (length s - 1) 0)) (whole_number 64 (take (length s - 1) s))) ≡ Ok n → n < 2 ^ 64
    go true e = number_below 64 s n e
    go false e = scaled_below (unit_of (get_or s (length s - 1) 0)) (whole_number 64 (take (length s - 1) s)) n e

-- as a number of a list
numbered_below : (w : ℕ) (v : List ℕ) (p : Piece) (x : Number) → ((m : ℕ) → x ≡ Ok m → m < 2 ^ 64) → Gives (λ n. n < 2 ^ 64) (numbered w v p x)
numbered_below w v p (Ok n) below = below n refl
numbered_below w v p (Err Encoding) below = lit< tt
numbered_below w v p (Err Format) below = lit< tt

-- ---- each field on the way to a record with Q
module _ {A : Type 0} (Q : A → Type 0) where
  gives_cond : (b : Bool) (r s : Read A) → Gives Q r → Gives Q s → Gives Q (cond b r s)
  gives_cond true r s h k = h
  gives_cond false r s h k = k

  gives_then : {B : Type 0} (P : B → Type 0) (r : Read B) → Gives P r → (k : B → Read A) → ((b : B) → P b → Gives Q (k b)) → Gives Q (and_then r k)
  gives_then P (Ok b) g k h = h b g
  gives_then P (Err x) g k h = g

  gives_end : (w : ℕ) (f : Field) (r : Read A) → Gives Q r → Gives Q (ending w f r)
  gives_end w (Some (p, e)) r h = lit< tt
  gives_end w None r h = h

  -- a test of the piece's bytes that only UTF-8 passes
  tested : (test : List ℕ → Bool) → ((s : List ℕ) → test s ≡ true → is_utf8 s ≡ true) → (v : List ℕ) (p : Piece) (e : ℕ) (x : Wrong) → 0 < x.number → Inside v p → (k : Piece → ℕ → Read A)
      → ((p : Piece) (e : ℕ) → Fine v p → Gives Q (k p e)) → Gives Q (after (cond (test (part v p)) (Ok (p, e)) (Err x)) k)
  tested test sure v p e x told l k h = go (test (part v p)) refl
    where
      go : (b : Bool) → test (part v p) ≡ b → Gives Q (after (cond b (Ok (p, e)) (Err x)) k)
      go true q = h p e (record { inside = l; utf8 = sure (part v p) q })
      go false q = told

  module _ (w : ℕ) where
    of_amount : (v : List ℕ) (p : Piece) (x : Number) → ((m : ℕ) → x ≡ Ok m → m < 2 ^ 64) → (e : ℕ) (k : ℕ → ℕ → Read A) → ((n e : ℕ) → n < 2 ^ 64 → Gives Q (k n e)) → Gives Q (after (amount_of w v p e x) k)
    of_amount v p (Ok n) below e k h = h n e (below n refl)
    of_amount v p (Err Encoding) below e k h = lit< tt
    of_amount v p (Err Format) below e k h = lit< tt

    of_port : (s : List ℕ) (k : ℕ → Read A) → ((n : ℕ) → n < 65536 → Gives Q (k n)) → Gives Q (and_then (port_number w (whole_number 16 s)) k)
    of_port s k h = go (whole_number 16 s) refl
      where
        go : (x : Number) → whole_number 16 s ≡ x → Gives Q (and_then (port_number w x) k)
        go (Ok n) q = h n (number_below 16 s n q)
        go (Err e) q = lit< tt

    module _ (v : List ℕ) where
      of_text : (f : Field) → Within v f → (k : Piece → ℕ → Read A) → ((p : Piece) (e : ℕ) → Fine v p → Gives Q (k p e)) → Gives Q (after (text_of w v f) k)
      of_text (Some (p, e)) l k h = tested is_utf8 (λ s q. q) v p e (encoding w v p) (lit< tt) (l p e refl).0 k h
      of_text None l k h = lit< tt

      of_token : (f : Field) → Within v f → (k : Piece → ℕ → Read A) → ((p : Piece) (e : ℕ) → Fine v p → Gives Q (k p e)) → Gives Q (after (token_of w v f) k)
      of_token (Some (p, e)) l k h = tested is_token token_utf8 v p e (format w) (lit< tt) (l p e refl).0 k h
      of_token None l k h = lit< tt

      of_choice : (f : Field) → Within v f → (k : Option Piece → Read A) → ((m : Option Piece) → MaybeFine v m → Gives Q (k m)) → Gives Q (and_then (choice_of w v f) k)
      of_choice (Some (p, e)) l k h = go (is_utf8 (part v p)) refl
        where
          go : (b : Bool) → is_utf8 (part v p) ≡ b → Gives Q (and_then (cond b (Ok (Some p)) (Err (encoding w v p))) k)
          go true q = h (Some p) (record { inside = (l p e refl).0; utf8 = q })
          go false q = lit< tt
      of_choice None l k h = h None tt

      of_number : (f : Field) (k : ℕ → ℕ → Read A) → ((n e : ℕ) → n < 2 ^ 64 → Gives Q (k n e)) → Gives Q (after (number_of w v f) k)
      of_number (Some (p, e)) k h = of_amount v p (whole_number 64 (part v p)) (number_below 64 (part v p)) e k h
      of_number None k h = lit< tt

      of_time_lem : (f : Field) (k : ℕ → ℕ → Read A) → ((n e : ℕ) → n < 2 ^ 64 → Gives Q (k n e)) → Gives Q (after (time_of w v f) k)
      of_time_lem (Some (p, e)) k h = of_amount v p (typed_time (part v p)) (typed_below (part v p)) e k h
      of_time_lem None k h = lit< tt

-- ---- the 64 bits of a signed number
signed_below : (neg : Bool) (m n : ℕ) → signed neg m ≡ Ok n → n < 2 ^ 64
signed_below true m n = go (leb m (2 ^ 63)) (eqb m 0) refl
  where
    go : (b c : Bool) → eqb m 0 ≡ c → cond b (Ok (cond c 0 (2 ^ 64 - m))) (Err Format) ≡ Ok n → n < 2 ^ 64
    go true true q e = let z : ◌≡◌ {A = ℕ} 0 n = cc in omega arith
    go true false q e = let y = eqb-false m 0 q in let z : 2 ^ 64 - m ≡ n = cc in omega arith
    go false c q e = absurd (let z : ◌≡◌ {A = ℕ} 0 1 = cc in omega arith)
signed_below false m n = go (ltb m (2 ^ 63)) refl
  where
    go : (b : Bool) → ltb m (2 ^ 63) ≡ b → cond b (Ok m) (Err Format) ≡ Ok n → n < 2 ^ 64
    go true q e = let y : m < 2 ^ 63 = ltb-true m (2 ^ 63) q in let z : m ≡ n = cc in omega arith
    go false q e = absurd (let z : ◌≡◌ {A = ℕ} 0 1 = cc in omega arith)

offset_below : (s : List ℕ) (n : ℕ) → zone_offset s ≡ Ok n → n < 2 ^ 64
unfolding signed-offset.zone_offset
offset_below s n = go (ltb 0 (length s) && eqb (get_or s 0 0) 0x2d)
  where
    of : (neg : Bool) (x : Number) → signed_of neg x ≡ Ok n → n < 2 ^ 64
    of neg (Ok m) = signed_below neg m n
    of neg (Err Encoding) = λ e. absurd (let z : ◌≡◌ {A = ℕ} 0 1 = cc in omega arith)
    of neg (Err Format) = λ e. absurd (let z : ◌≡◌ {A = ℕ} 0 1 = cc in omega arith)

    go : (b : Bool) → cond b (signed_of true (typed_time (drop 1 s))) (signed_of false (typed_time s)) ≡ Ok n → n < 2 ^ 64
    go true = of true (typed_time (drop 1 s))
    go false = of false (typed_time s)

-- ---- records without strings
pub time-fit : (v : List ℕ) → Gives (λ t. FitTime (time_in t)) (times_of v)
unfolding records.times_of field-read.next_number
time-fit v =
    of_number _ 15 v (next_word (words v)) _ (λ start i a.
    of_number _ 16 v (next_word (later (words v))) _ (λ stop e b. gives_end _ 17 (next_word (later (later (words v)))) (Ok _) (record { start_time = a; stop_time = b })))

pub record FitLine (r : RepeatLine) : Type 0 where
  pub interval : r.interval < 2 ^ 64
  pub duration : r.duration < 2 ^ 64
  pub offsets : Each (λ n. n < 2 ^ 64) r.offsets

module _ (v : List ℕ) where
  offsets_below : (ws : List Piece) → Gives (Each (λ n. n < 2 ^ 64)) (offsets_of v ws)
  unfolding lists.offsets_of
  offsets_below [] = tt
  offsets_below (p ∷ ws) =
      gives_then _ (λ n. n < 2 ^ 64) (numbered 20 v p (typed_time (part v p))) (numbered_below 20 v p (typed_time (part v p)) (typed_below (part v p))) _ (λ n l.
      gives_then _ (Each (λ n. n < 2 ^ 64)) (offsets_of v ws) (offsets_below ws) _ (λ ns h. (l, h)))

  pub repeat-fit : Gives FitLine (repeat_of v)
  unfolding lists.repeat_of field-read.next_time
  repeat-fit =
      of_time_lem _ 18 v (next_word (words v)) _ (λ n i a.
      of_time_lem _ 19 v (next_word (later (words v))) _ (λ m e b.
      gives_then _ _ (offsets_of v (later (later (words v)))) (offsets_below (later (later (words v)))) _ (λ os c. record { interval = a; duration = b; offsets = c })))

  pairs-fit : (ws : List Piece) → Gives (λ zs. Each FitZone (map zone_in zs)) (pairs_of v ws)
  unfolding lists.pairs_of
  pairs-fit [] = tt
  pairs-fit (a ∷ []) =
      gives_then _ (λ n. n < 2 ^ 64) (numbered 21 v a (whole_number 64 (part v a))) (numbered_below 21 v a (whole_number 64 (part v a)) (number_below 64 (part v a))) _ (λ n l. lit< tt)
  pairs-fit (a ∷ o ∷ ws) =
      gives_then _ (λ n. n < 2 ^ 64) (numbered 21 v a (whole_number 64 (part v a))) (numbered_below 21 v a (whole_number 64 (part v a)) (number_below 64 (part v a))) _ (λ n l.
      gives_then _ (λ n. n < 2 ^ 64) (numbered 22 v o (zone_offset (part v o))) (numbered_below 22 v o (zone_offset (part v o)) (offset_below (part v o))) _ (λ m k.
      gives_then _ (λ zs. Each FitZone (map zone_in zs)) (pairs_of v ws) (pairs-fit ws) _ (λ zs h. (record { adjustment_time = l; offset = k }, h))))

  pub zones-fit : Gives (λ zs. Each FitZone (map zone_in zs)) (zones_of v)
  unfolding lists.zones_of
  zones-fit = pairs-fit (words v)

-- both numbers of a port's field have 16 bits
port-fit : (v : List ℕ) (x : Piece) → Gives (λ p. (p.port < 65536) × IfSome p.num_ports (λ n. n < 65536)) (port_of v x)
unfolding MediaLine.port_of
port-fit v x =
    let s = part v x in
    gives_cond _ (is_utf8 s) _ (Err (encoding 29 v x))
    (of_port _ 28 (take (index_of 0x2f s) s) _ (λ p l.
    gives_then _ (λ num. IfSome num (λ n. n < 65536)) (num_ports s (index_of 0x2f s))
    (gives_cond _ (ltb (index_of 0x2f s) (length s)) _ (Ok None) (of_port _ 30 (drop (index_of 0x2f s + 1) s) _ (λ n m. m)) tt) _ (λ num m. (l, m))))
    (lit< tt)

-- ---- strings
pub whole_fine : (w : ℕ) (v : List ℕ) → Gives (Fine v) (whole_of w v)
unfolding field-read.whole_of
whole_fine w v = go (is_utf8 v) refl
  where
    go : (b : Bool) → is_utf8 v ≡ b → Gives (Fine v) (cond b (Ok (entire v)) (Err (encoding w v (entire v))))
    go true q = record { inside = omega arith; utf8 = ap is_utf8 (take-length v) ∙ q }
    go false q = lit< tt

-- ---- records with strings: mk makes them, with P of each
module _ (v : List ℕ) (mk : Piece → Span) (P : Span → Type 0) (fine : (p : Piece) → Fine v p → P (mk p)) where
  maybe-fit : (m : Option Piece) → MaybeFine v m → IfGiven P (maybe_in mk m)
  maybe-fit (Some p) h = fine p h
  maybe-fit None h = tt

  username_fine : (p : Piece) → Fine v p → MaybeFine v (username_of v p)
  username_fine p h = go (eqb p.len 1 && eqb (get_or v p.at 0) 0x2d)
    where
      go : (b : Bool) → MaybeFine v (cond b None (Some p))
      go true = tt
      go false = h

  -- how o and c end
  address_fit : (w : ℕ) (ws : List Piece) → AllInside v ws → Gives (λ c. FitConnection P (connection_in mk c)) (address_of w v ws)
  unfolding records.address_of field-read.next_token field-read.next_text
  address_fit w ws all =
      let all₁ = later_inside v ws all in
      let all₂ = later_inside v (later ws) all₁ in
      of_token _ w v (next_word ws) (next_inside v ws all) _ (λ net j n.
      of_token _ (w + 1) v (next_word (later ws)) (next_inside v (later ws) all₁) _ (λ kind l k.
      of_text _ (w + 2) v (next_word (later (later ws))) (next_inside v (later (later ws)) all₂) _ (λ address e a.
      gives_end _ (w + 3) (next_word (later (later (later ws)))) (Ok _) (record { nettype = fine net n; addrtype = fine kind k; connection_address = fine address a }))))

  pub origin_fit : Gives (λ o. FitOrigin P (origin_in mk o)) (origin_of v)
  unfolding records.origin_of field-read.next_text field-read.next_number
  origin_fit =
      let all = words_inside v in
      let all₁ = later_inside v (words v) all in
      let all₃ = later_inside v (later (later (words v))) (later_inside v (later (words v)) all₁) in
      of_text _ 1 v (next_word (words v)) (next_inside v (words v) all) _ (λ user i u.
      of_text _ 2 v (next_word (later (words v))) (next_inside v (later (words v)) all₁) _ (λ id j d.
      of_number _ 3 v (next_word (later (later (words v)))) _ (λ version l r.
      gives_then _ (λ c. FitConnection P (connection_in mk c)) (address_of 4 v (later (later (later (words v))))) (address_fit 4 (later (later (later (words v)))) all₃) _ (λ c f.
      record { username = maybe-fit (username_of v user) (username_fine user u); sess_id = fine id d; sess_version = r; nettype = f.nettype; addrtype = f.addrtype; unicast_address = f.connection_address }))))

  pub connection_fit : Gives (λ c. FitConnection P (connection_in mk c)) (connection_of v)
  unfolding records.connection_of
  connection_fit = address_fit 8 (words v) (words_inside v)

  pub bandwidth-fit : (owner : ℕ) → owner < 65536 → Gives (λ b. FitBandwidth P (bandwidth_in mk owner b)) (bandwidth_of v)
  unfolding records.bandwidth_of
  bandwidth-fit owner small =
      of_text _ 12 v (first_piece 0x3a v) (first_within 0x3a v) _ (λ kind i k.
      of_number _ 13 v (piece_after 0x3a v i) _ (λ n e l. gives_end _ 14 (piece_after 0x3a v e) (Ok _) (record { owner = small; bwtype = fine kind k; bandwidth = l })))

  pub attribute-fit : (owner : ℕ) → owner < 65536 → Gives (λ a. FitAttribute P (attribute_in mk owner a)) (attribute_of v)
  unfolding records.attribute_of
  attribute-fit owner small =
      of_text _ 23 v (first_piece 0x3a v) (first_within 0x3a v) _ (λ name e n.
      of_choice _ 24 v (rest_after v e) (rest_within v e) _ (λ value m. record { owner = small; attribute = fine name n; value = maybe-fit value m }))

  ports_fit : (m : Option ℕ) → IfSome m (λ n. n < 65536) → IfGiven (λ n. n < 65536) m
  ports_fit (Some n) h = h
  ports_fit None h = tt

  pub media-fit : Gives (λ m. FitMedia P (media_in mk m)) (media_of v)
  unfolding MediaLine.media_of
  media-fit =
      of_text _ 27 v (first_piece 0x20 v) (first_within 0x20 v) _ (λ name i n.
      port _ (piece_after 0x20 v i) _ (λ port j b.
      of_text _ 31 v (piece_after 0x20 v j) (after-within 0x20 v j) _ (λ proto e p.
      of_text _ 32 v (rest_after v e) (rest_within v e) _ (λ fmt e f.
      record { media = fine name n; port = b.0; num_ports = ports_fit port.num_ports b.1; proto = fine proto p; fmt = fine fmt f; media_title = tt; key = tt }))))
    where
      port : {A : Type 0} (Q : A → Type 0) (f : Field) (k : Port → ℕ → Read A) → ((p : Port) (e : ℕ) → (p.port < 65536) × IfSome p.num_ports (λ n. n < 65536) → Gives Q (k p e)) → Gives Q (after (port_field v f) k)
      port Q (Some (p, e)) k h = go (port_of v p) (port-fit v p)
        where
          go : (r : Read Port) → Gives (λ p. (p.port < 65536) × IfSome p.num_ports (λ n. n < 65536)) r → Gives Q (after (and_then r (λ port. Ok (port, e))) k)
          go (Ok x) b = h x e b
          go (Err w) b = b
      port Q None k h = lit< tt
