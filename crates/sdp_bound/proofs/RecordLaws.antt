-- What is written of a line's record is no longer than the line: its value, letter, equals sign, CR and LF. Assumes nothing.
use mathlib.Core.Path.{◌≡◌, refl}
use mathlib.Core.Bool.{Bool, true, false, cond, ◌&&◌}
use mathlib.Core.List.{List, [], ◌∷◌, ◌++◌, map}
use Rattle.std.specs.Prelude.{Some, None, Ok, Err}
use Prim.Native.Nat.{ℕ, ◌+◌, ◌≤◌, ◌<◌}
use native.Mathlib.Omega.{arith}
use lib.ListN.{length, get_or, take, drop, length-take, length-drop, length-append}
use lib.Dec.{ltb, eqb}
use borrow.Author.Tests.{ltb-true, ne_eqb}
use Rattle.sdp_bytes.specs.Runs.{index_of}
use Rattle.sdp_utf8.specs.Utf8.{is_utf8}
use Rattle.sdp_number.specs.Number.{Number, whole_number, typed_time}
use Rattle.sdp_number.specs.declared.NumberError.TheVariants.{Encoding, Format}
use Rattle.sdp_split.specs.Split.{part, words, next_word, later, first_piece, piece_after, rest_after}
use Rattle.sdp_judge.specs.Read
use Rattle.sdp_judge.specs.Read.{Read, encoding, and_then, whole_of}
use Rattle.sdp_fields.specs.Records
use Rattle.sdp_fields.specs.Records.{username_of, address_of, origin_of, connection_of, bandwidth_of, times_of, attribute_of}
use Rattle.sdp_media_line.specs.MediaLine
use Rattle.sdp_media_line.specs.MediaLine.{port_number, port_of, media_of}
use Rattle.sdp_judge.specs.Offset.{zone_offset}
use Rattle.sdp_lists.specs.Lists
use Rattle.sdp_lists.specs.Lists.{numbered, RepeatLine, offsets_of, repeat_of, pairs_of, zones_of}
use Rattle.sdp_split.specs.declared.Piece.{Piece}
use Rattle.sdp_fields.specs.declared.Origin.{Origin}
use Rattle.sdp_fields.specs.declared.Connection.{Connection}
use Rattle.sdp_fields.specs.declared.Bandwidth.{Bandwidth}
use Rattle.sdp_fields.specs.declared.Time.{Time}
use Rattle.sdp_fields.specs.declared.Attribute.{Attribute}
use Rattle.sdp_media_line.specs.declared.Port.{Port}
use Rattle.sdp_media_line.specs.declared.Media.{Media}
use Rattle.sdp_lists.specs.declared.Zone.{Zone}
use Rattle.sdp_judge.proofs.EveryLaws.{Every, every_got, never, every_then, every_some, every_end, every_text, every_token, every_choice, whole-within}
use Rattle.sdp_media_line.proofs.BoundLaws.{every_number, every_port}
use Rattle.sdp_step.specs.Step.{maybe_in, origin_in, connection_in, attribute_in, bandwidth_in, media_in, time_in, zone_in}
use Rattle.sdp_put.specs.Digits.{digits, time_text}
use Rattle.sdp_put.specs.Strings.{clean}
use Rattle.sdp_decode.specs.Rows as rows
use Rattle.sdp_decode.specs.Rows.{each}
use Rattle.sdp_row.specs.Written
use Rattle.sdp_row.specs.Written.{line, optional, string_line, username_text, origin_line, connection_line, bandwidth_line, attribute_line, media_line, time_value, signed_text, zone_text, zones_line}
use Rattle.sdp_put.proofs.StringLaws.{length-clean}
use Rattle.sdp_room.proofs.LengthLaws.{length-line}
use Rattle.sdp_same.proofs.WrittenLaws.{id}
use Rattle.sdp_bound.proofs.NumberLaws.{number_short, time-short, offset-short}
use Rattle.sdp_room.proofs.SumLaws
use Rattle.sdp_room.proofs.SumLaws.{sum}
use Rattle.sdp_bound.proofs.FieldLaws.{part_len, weight, next_weight, words_weight, first_some, first_piece_lem, next_piece, rest_piece, past_number, past-time}

-- ---- one string
pub whole-short : (letter w : ℕ) (v : List ℕ) (p : Piece) → whole_of w v ≡ Ok p → length (string_line id letter (part v p)) ≤ length v + 4
whole-short letter w v p e = omega (arith, length-line letter (clean (part v p)), length-clean (part v p), part_len v p, whole-within w v p e)

-- ---- records of words
module _ (v : List ℕ) where
  -- what is written of a word
  short : (p : Piece) → length (clean (part v p)) ≤ p.len
  short p = omega (arith, length-clean (part v p), part_len v p)

  -- how o and c end: three words, each with the space before it
  address_short : (w : ℕ) (ws : List Piece) → Every (λ c. length (clean (part v c.nettype)) + length (clean (part v c.addrtype)) + length (clean (part v c.connection_address)) + 3 ≤ weight ws) (address_of w v ws)
  unfolding Records.address_of Read.next_token Read.next_text
  address_short w ws =
      every_token _ w v _ (next_word ws) (λ net j n.
      every_token _ (w + 1) v _ (next_word (later ws)) (λ kind l k.
      every_text _ (w + 2) v _ (next_word (later (later ws))) (λ address e a.
      every_end _ (w + 3) (next_word (later (later (later ws)))) _ (every_got _ _
      (omega (arith, next_weight ws net j n, next_weight (later ws) kind l k, next_weight (later (later ws)) address e a, short net, short kind, short address))))))

  pub connection_short : (c : Connection) → connection_of v ≡ Ok c → length (connection_line id (connection_in (part v) c)) ≤ length v + 4
  unfolding Records.connection_of Written.connection_line Written.line
  connection_short c h = simp length-append (omega (arith, address_short 8 (words v) c h, words_weight v))

  -- "Username `-` means absent", and is written again; a word has one byte at least
  username-short : (p : Piece) → 0 < length (part v p) → length (username_text id (maybe_in (part v) (username_of v p))) ≤ length (part v p)
  unfolding Written.username_text Written.or_dash
  username-short p l = go (eqb p.len 1 && eqb (get_or v p.at 0) 0x2d)
    where
      some_name : (b : Bool) → length (cond b (0x2d ∷ []) (clean (part v p))) ≤ length (part v p)
      some_name true = omega arith
      some_name false = length-clean (part v p)

      go : (b : Bool) → length (username_text id (maybe_in (part v) (cond b None (Some p)))) ≤ length (part v p)
      go true = omega arith
      go false = some_name (eqb (length (part v p)) 0)

  pub origin_short : (o : Origin) → origin_of v ≡ Ok o → length (origin_line id (Some (origin_in (part v) o))) ≤ length v + 4
  unfolding Records.origin_of Read.next_text Read.next_number Written.origin_line Written.origin_value Written.line
  origin_short =
      let ws = words v in
      every_text _ 1 v _ (next_word ws) (λ user i u.
      every_text _ 2 v _ (next_word (later ws)) (λ sess j s.
      past_number _ 3 v _ (next_word (later (later ws))) (λ version k x n m.
      every_then _ _ (address_of 4 v (later (later (later ws)))) _ (address_short 4 (later (later (later ws)))) (λ c a. every_got _ _
      (simp length-append
      (omega (
        arith,
        next_weight ws user i u,
        next_weight (later ws) sess j s,
        next_weight (later (later ws)) x k n,
        a,
        words_weight v,
        username-short user (first_some v user i u),
        part_len v user,
        short sess,
        m,
        part_len v x,
      )))))))

  pub times-short : (t : Time) → times_of v ≡ Ok t → length (line 0x74 (time_value (time_in t))) ≤ length v + 4
  unfolding Records.times_of Read.next_number Written.line
  times-short =
      let ws = words v in
      past_number _ 15 v _ (next_word ws) (λ start i p n m.
      past_number _ 16 v _ (next_word (later ws)) (λ stop e q o k.
      every_end _ 17 (next_word (later (later ws))) _ (every_got _ _
      (simp length-append (omega (arith, next_weight ws p i n, next_weight (later ws) q e o, words_weight v, m, k, part_len v p, part_len v q))))))

-- ---- records of pieces
module _ (v : List ℕ) where
  pub bandwidth-short : (n : ℕ) (b : Bandwidth) → bandwidth_of v ≡ Ok b → length (bandwidth_line id (bandwidth_in (part v) n b)) ≤ length v + 4
  unfolding Records.bandwidth_of Written.bandwidth_line Written.line
  bandwidth-short n =
      every_text _ 12 v _ (first_piece 0x3a v) (λ kind i k.
      past_number _ 13 v _ (piece_after 0x3a v i) (λ m e p q l.
      every_end _ 14 (piece_after 0x3a v e) _ (every_got _ _
      (simp length-append
      (omega (arith, (first_piece_lem v 0x3a kind i k).0, (next_piece v i p e 0x3a q).0, (next_piece v i p e 0x3a q).1, l, length-clean (part v kind), part_len v kind, part_len v p))))))

  pub attribute-short : (n : ℕ) (a : Attribute) → attribute_of v ≡ Ok a → length (attribute_line id (attribute_in (part v) n a)) ≤ length v + 4
  unfolding Records.attribute_of Written.attribute_line Written.line
  attribute-short n =
      every_text _ 23 v _ (first_piece 0x3a v) (λ name i n.
      every_choice _ 24 v _ (rest_after v i)
      (λ value e q. every_got _ _
      (simp length-append
      (omega (arith, (first_piece_lem v 0x3a name i n).0, rest_piece v i value e q, length-clean (part v name), part_len v name, length-clean (part v value), part_len v value))))
      (every_got _ _
      (simp length-append (omega (arith, (first_piece_lem v 0x3a name i n).0, (first_piece_lem v 0x3a name i n).1, length-clean (part v name), part_len v name)))))

-- ---- the media, and its ports
-- port or port/num
abbrev port_text : Port → List ℕ
port_text p = digits p.port ++ optional (λ n. (0x2f ∷ []) ++ digits n) p.num_ports

port-short : (v : List ℕ) (x : Piece) (p : Port) → port_of v x ≡ Ok p → length (port_text p) ≤ length (part v x)
unfolding MediaLine.port_of
port-short v x = go (is_utf8 s) (ltb (index_of 0x2f s) (length s)) refl
  where
    s : List ℕ
    s = part v x

    go : (b c : Bool) → ltb (index_of 0x2f s) (length s) ≡ c
        → Every (λ p. length (port_text p) ≤ length s)
        (cond b
        (and_then (port_number 28 (whole_number 16 (take (index_of 0x2f s) s))) (λ port.
        and_then (cond c
        (and_then (port_number 30 (whole_number 16 (drop (index_of 0x2f s + 1) s))) (λ n. Ok (Some n)))
        (Ok None)) (λ num. Ok (record { port = port; num_ports = num }))))
        (Err (encoding 29 v x)))
    go false c q = never _ _
    go true true q =
        every_number _ 28 (whole_number 16 (take (index_of 0x2f s) s)) _ (λ port h.
        every_some _ (port_number 30 (whole_number 16 (drop (index_of 0x2f s + 1) s))) (λ num. Ok (record { port = port; num_ports = num }))
        (every_number _ 30 (whole_number 16 (drop (index_of 0x2f s + 1) s)) _ (λ n l.
        every_got _ _ (simp length-append
        (omega (arith, number_short 16 (take (index_of 0x2f s) s) port h, number_short 16 (drop (index_of 0x2f s + 1) s) n l, ltb-true (index_of 0x2f s) (length s) q, length-take (index_of 0x2f s) s, length-drop (index_of 0x2f s + 1) s))))))
    go true false q =
        every_number _ 28 (whole_number 16 (take (index_of 0x2f s) s)) _ (λ port h.
        every_got _ _ (simp length-append (omega (arith, number_short 16 (take (index_of 0x2f s) s) port h, length-take (index_of 0x2f s) s))))

pub media-short : (v : List ℕ) (m : Media) → media_of v ≡ Ok m → length (media_line id (media_in (part v) m)) ≤ length v + 4
unfolding MediaLine.media_of Written.media_line Written.line
media-short v =
    every_text _ 27 v _ (first_piece 0x20 v) (λ name i n.
    every_port _ v _ (piece_after 0x20 v i) (λ port j x q l.
    every_text _ 31 v _ (piece_after 0x20 v j) (λ proto k p.
    every_text _ 32 v _ (rest_after v k) (λ fmt e f.
    every_got _ _ (simp length-append
    (omega (
      arith,
      (first_piece_lem v 0x20 name i n).0,
      (next_piece v i x j 0x20 q).0,
      (next_piece v j proto k 0x20 p).0,
      rest_piece v k fmt e f,
      simp length-append at (port-short v x port l),
      part_len v x,
      length-clean (part v name),
      part_len v name,
      length-clean (part v proto),
      part_len v proto,
      length-clean (part v fmt),
      part_len v fmt,
    )))))))

-- ---- lists of words
-- a number that was read in the word p
module _ {A : Type 0} (P : A → Type 0) (w : ℕ) (v : List ℕ) (p : Piece) (k : ℕ → Read A) where
  past-numbered : (x : Number) → ((n : ℕ) → x ≡ Ok n → Every P (k n)) → Every P (and_then (numbered w v p x) k)
  past-numbered (Ok n) h = h n refl
  past-numbered (Err Encoding) h = never _ _
  past-numbered (Err Format) h = never _ _

-- the offsets, each with a space
unfoldable pub offsets_size : List ℕ → ℕ
offsets_size ns = sum (λ n. length (time_text n) + 1) ns

-- interval, duration and offsets, with spaces between them
unfoldable pub repeat_size : RepeatLine → ℕ
repeat_size r = length (time_text r.interval) + 1 + length (time_text r.duration) + offsets_size r.offsets

-- a pair of the z line, with a space before or after it
unfoldable pub zone_size : Zone → ℕ
zone_size z = length (digits z.adjustment_time) + 1 + length (signed_text z.offset) + 1

module _ (v : List ℕ) where
  offsets-short : (ws : List Piece) (ns : List ℕ) → offsets_of v ws ≡ Ok ns → offsets_size ns ≤ weight ws
  unfolding Lists.offsets_of SumLaws.sum offsets_size
  offsets-short [] = every_got _ _ (omega arith)
  offsets-short (p ∷ ws) =
      past-numbered _ 20 v p _ (typed_time (part v p)) (λ n q.
      every_then _ _ (offsets_of v ws) _ (offsets-short ws) (λ ns h.
      every_got _ _ (omega (arith, time-short (part v p) n q, part_len v p, h))))

  pub repeat_short : (r : RepeatLine) → repeat_of v ≡ Ok r → repeat_size r ≤ length v
  unfolding Lists.repeat_of Read.next_time repeat_size
  repeat_short =
      let ws = words v in
      past-time _ 18 v _ (next_word ws) (λ interval i p n m.
      past-time _ 19 v _ (next_word (later ws)) (λ duration e q o k.
      every_then _ _ (offsets_of v (later (later ws))) _ (offsets-short (later (later ws))) (λ ns b.
      every_got _ _ (omega (arith, next_weight ws p i n, next_weight (later ws) q e o, words_weight v, m, k, part_len v p, part_len v q, b)))))

  pairs-short : (ws : List Piece) (zs : List Zone) → pairs_of v ws ≡ Ok zs → sum zone_size zs ≤ weight ws
  unfolding Lists.pairs_of SumLaws.sum zone_size
  pairs-short [] = every_got _ _ (omega arith)
  pairs-short (a ∷ []) = past-numbered _ 21 v a _ (whole_number 64 (part v a)) (λ n q. never _ _)
  pairs-short (a ∷ o ∷ ws) =
      past-numbered _ 21 v a _ (whole_number 64 (part v a)) (λ n q.
      past-numbered _ 22 v o _ (zone_offset (part v o)) (λ m l.
      every_then _ _ (pairs_of v ws) _ (pairs-short ws) (λ zs h.
      every_got _ _ (omega (arith, number_short 64 (part v a) n q, part_len v a, offset-short (part v o) m l, part_len v o, h)))))

-- the pairs after the first
later-short : (zs : List Zone) (k : ℕ) → 1 < k → length (each zone_text k (map zone_in zs)) ≤ sum zone_size zs
unfolding SumLaws.sum zone_size rows.each Written.zone_text
later-short [] k h = omega arith
later-short (z ∷ zs) k h = rw (ne_eqb k 1 (λ e. omega arith)) (simp length-append (omega (arith, later-short zs (k + 1) (omega arith))))

pub zones-short : (v : List ℕ) (zs : List Zone) → zones_of v ≡ Ok zs → length (zones_line (map zone_in zs)) ≤ length v + 4
unfolding Lists.zones_of SumLaws.sum zone_size Written.zones_line rows.each Written.zone_text Written.line
zones-short v zs e = go zs (pairs-short v (words v) zs e)
  where
    go : (zs : List Zone) → sum zone_size zs ≤ weight (words v) → length (zones_line (map zone_in zs)) ≤ length v + 4
    go [] h = omega arith
    go (z ∷ zs) h = simp length-append (omega (arith, later-short zs 2 (omega arith), words_weight v))
