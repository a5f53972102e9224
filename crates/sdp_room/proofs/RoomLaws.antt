-- What is written of an area takes no more than `room_for`. Assumes nothing.
use mathlib.Core.Path.{◌≡◌, refl, ap}
use mathlib.Core.Bool.{Bool, true, false, cond}
use mathlib.Core.List.{List, [], ◌∷◌, ◌++◌}
use Rattle.std.specs.Prelude.{Some, None}
use Prim.Native.Nat.{ℕ, zero, suc, ◌+◌, ◌*◌, ◌≤◌, ◌<◌, ◌^◌}
use native.Mathlib.Nat.{suc-mul}
use native.Mathlib.Omega.{arith}
use lib.ListN.{length, drop, get_or, length-append, length-take}
use lib.Dec.{eqb}
use Rattle.sdp_put.specs.Digits.{digits}
use Rattle.sdp_put.specs.Strings.{clean}
use Rattle.sdp_lines.specs.Strings.{bytes_of}
use Rattle.sdp_cells.specs.Bytes.{num}
use Rattle.sdp_cells.proofs.ByteLaws.{num_below}
use Rattle.sdp_area.specs.Session.{Time, Zone}
use Rattle.sdp_area.specs.Area.{origin_at, name_at, description_at, uri_at, connection_at, emails_at, phones_at, connections_at, bandwidths_at, times_at, repeats_at, offsets_at, zones_at, attributes_at, medias_at}
use Rattle.sdp_decode.specs.Rows as rows
use Rattle.sdp_decode.specs.Rows.{rows_at, marked, each}
use Rattle.sdp_decode.specs.Decode
use Rattle.sdp_decode.specs.Decode.{num2, span_of, origin_of, connection_of, media_connection_of, bandwidth_of, time_of, repeat_of, offset_of, zone_of, attribute_of, media_of, times_in, zones_in, decode}
use Rattle.sdp_row.specs.Written
use Rattle.sdp_row.specs.Written.{optional, signed_text, zone_text, zones_line, username_text, origin_value, origin_line, connection_line, bandwidth_line, attribute_line, string_line, media_line, written}
use Rattle.sdp_room.specs.Room.{sum_at, connection_room, media_room, contact_room, bandwidth_room, attribute_room, origin_room, head_room, times_room, tables_room, room_for}
use Rattle.sdp_room.proofs.SumLaws.{sum, rows_short}
use Rattle.sdp_put.proofs.StringLaws.{length-clean}
use Rattle.sdp_room.proofs.LengthLaws.{digits_20, time_21, signed_22, length-line}
use Rattle.sdp_room.proofs.CostLaws.{time_cost, times_cost, repeat_cost, offset_cost, connection_cost, bandwidth_cost, attribute_cost, media_cost, cost, written_cost}

-- ---- tables: f of each row is no more than g at its place, or than k
module _ {X : Type 0} (f : X → ℕ) (rd : List ℕ → ℕ → X) (a : List ℕ) (w : ℕ) where
  rows_room_lem : (g : ℕ → ℕ) → ((p : ℕ) → f (rd a p) ≤ g p) → (n p : ℕ) → sum f (rows_at rd w n a p) ≤ sum_at g w n p
  unfolding sum rows.rows_at sum_at
  rows_room_lem g h zero p = omega arith
  rows_room_lem g h (suc n) p = omega (arith, h p, rows_room_lem g h n (p + w))

  rows_most : (k : ℕ) → ((p : ℕ) → f (rd a p) ≤ k) → (n p : ℕ) → sum f (rows_at rd w n a p) ≤ n * k
  unfolding sum rows.rows_at
  rows_most k h zero p = omega arith
  rows_most k h (suc n) p = omega (arith, h p, rows_most k h n (p + w), suc-mul n k)

times_most : (ts : List Time) → times_cost ts ≤ 7 + sum time_cost ts
unfolding times_cost sum
times_most [] = omega arith
times_most (t ∷ ts) = omega arith

-- a pair of the z line
abbrev zone_cost : Zone → ℕ
zone_cost z = length (digits z.adjustment_time) + length (signed_text z.offset) + 2

zone_most : (k : ℕ) (z : Zone) → length (zone_text k z) ≤ zone_cost z
unfolding Written.zone_text
zone_most k z = go (eqb k 1)
  where
    go : (b : Bool) → length (cond b [] (0x20 ∷ []) ++ (digits z.adjustment_time ++ ((0x20 ∷ []) ++ signed_text z.offset))) ≤ zone_cost z
    go true = simp length-append (omega arith)
    go false = simp length-append (omega arith)

zones_most : (zs : List Zone) → length (zones_line zs) ≤ 4 + sum zone_cost zs
unfolding Written.zones_line
zones_most [] = omega arith
zones_most (z ∷ zs) = omega (arith, length-line 0x7a (each zone_text 1 (z ∷ zs)), rows_short zone_text zone_cost zone_most 1 (z ∷ zs))

-- ---- lines, of an area of bytes
module _ (t a : List ℕ) (byte : (i : ℕ) → get_or a i 0 < 256) where
  num8_below : (p : ℕ) → num 8 a p < 2 ^ 64
  num8_below p = num_below a byte 8 p

  digits_of : (p : ℕ) → length (digits (num 8 a p)) ≤ 20
  digits_of p = digits_20 (num 8 a p) (num8_below p)

  -- the length of a string stands at q
  string : (p q : ℕ) → q ≡ p + 2 → length (clean (bytes_of t (span_of a p))) ≤ num 2 a q
  string p q e =
      omega (arith, length-clean (bytes_of t (span_of a p)), length-take (num 2 a (p + 2)) (drop (num 2 a p) t), ap (num 2 a) e)

  -- what may be absent
  if_marked : {X : Type 0} (f : X → List ℕ) (rd : List ℕ → ℕ → X) (k p : ℕ) → length (f (rd a (p + 2))) ≤ k → length (optional f (marked rd a p)) ≤ k
  unfolding rows.marked
  if_marked f rd k p h = go (eqb (num 2 a p) 0)
    where
      go : (b : Bool) → length (optional f (cond b None (Some (rd a (p + 2))))) ≤ k
      go true = omega arith
      go false = h

  user : (p : ℕ) → length (username_text (bytes_of t) (marked span_of a p)) ≤ 1 + num 2 a (p + 4)
  unfolding Written.username_text Written.or_dash rows.marked
  user p = go (eqb (num 2 a p) 0)
    where
      dash : (b : Bool) → length (cond b (0x2d ∷ []) (clean (bytes_of t (span_of a (p + 2))))) ≤ 1 + num 2 a (p + 4)
      dash true = omega arith
      dash false = omega (arith, string (p + 2) (p + 4) (omega arith))

      go : (b : Bool) → length (username_text (bytes_of t) (cond b None (Some (span_of a (p + 2))))) ≤ 1 + num 2 a (p + 4)
      go true = omega arith
      go false = dash (eqb (length (bytes_of t (span_of a (p + 2)))) 0)

  origin_value_lem : (p : ℕ) → length (origin_value (bytes_of t) (origin_of a p)) + 4 ≤ origin_room a p
  unfolding Written.origin_value origin_room
  origin_value_lem p =
      simp length-append
      (omega (arith, user p, string (p + 6) (p + 8) (omega arith), digits_of (p + 10), string (p + 18) (p + 20) (omega arith), string (p + 22) (p + 24) (omega arith), string (p + 26) (p + 28) (omega arith)))

  origin_line_lem : (p : ℕ) → length (origin_line (bytes_of t) (marked origin_of a p)) ≤ origin_room a (p + 2)
  unfolding Written.origin_line rows.marked origin_room
  origin_line_lem p = go (eqb (num 2 a p) 0)
    where
      go : (b : Bool) → length (origin_line (bytes_of t) (cond b None (Some (origin_of a (p + 2))))) ≤ origin_room a (p + 2)
      go true = rw length-line (omega arith)
      go false = rw length-line (origin_value_lem (p + 2))

  string_line_lem : (l p : ℕ) → length (string_line (bytes_of t) l (span_of a p)) ≤ 4 + num 2 a (p + 2)
  string_line_lem l p = omega (arith, length-line l (clean (bytes_of t (span_of a p))), string p (p + 2) refl)

  string_if : (l p q : ℕ) → q ≡ p + 4 → length (optional (string_line (bytes_of t) l) (marked span_of a p)) ≤ 4 + num 2 a q
  string_if l p q e =
      if_marked (string_line (bytes_of t) l) span_of (4 + num 2 a q) p
      (omega (arith, length-line l (clean (bytes_of t (span_of a (p + 2)))), string (p + 2) q (omega arith)))

  connection_line_lem : (p : ℕ) → length (connection_line (bytes_of t) (connection_of a p)) ≤ connection_room a p
  unfolding Written.connection_line connection_room
  connection_line_lem p =
      rw length-line
      (simp length-append (omega (arith, string p (p + 2) refl, string (p + 4) (p + 6) (omega arith), string (p + 8) (p + 10) (omega arith))))

  bandwidth-line : (p : ℕ) → length (bandwidth_line (bytes_of t) (bandwidth_of a p)) ≤ 25 + num 2 a (p + 4)
  unfolding Written.bandwidth_line
  bandwidth-line p = rw length-line (simp length-append (omega (arith, string (p + 2) (p + 4) (omega arith), digits_of (p + 6))))

  attribute-line : (p : ℕ) → length (attribute_line (bytes_of t) (attribute_of a p)) ≤ 5 + (num 2 a (p + 4) + num 2 a (p + 10))
  unfolding Written.attribute_line
  attribute-line p =
      rw length-line
      (simp length-append
      (omega (arith, string (p + 2) (p + 4) (omega arith), if_marked (λ x. (0x3a ∷ []) ++ clean (bytes_of t x)) span_of (1 + num 2 a (p + 10)) (p + 6) (omega (arith, string (p + 6 + 2) (p + 10) (omega arith))))))

  port : (p : ℕ) → length (digits (num 2 a p)) ≤ 20
  port p = digits_20 (num 2 a p) (omega (arith, num_below a byte 2 p))

  media-line : (p : ℕ) → length (media_line (bytes_of t) (media_of a p)) ≤ 48 + (num 2 a (p + 2) + num 2 a (p + 12) + num 2 a (p + 16))
  unfolding Written.media_line
  media-line p =
      rw length-line
      (simp length-append
      (omega (
        arith,
        string p (p + 2) refl,
        port (p + 4),
        if_marked (λ n. (0x2f ∷ []) ++ digits n) num2 21 (p + 6) (omega (arith, port (p + 6 + 2))),
        string (p + 10) (p + 12) (omega arith),
        string (p + 14) (p + 16) (omega arith),
      )))

  media-lines : (p : ℕ) → media_cost (bytes_of t) (media_of a p) ≤ media_room a p
  unfolding media_room
  media-lines p = omega (arith, media-line p, string_if 0x69 (p + 18) (p + 22) (omega arith))

  -- ---- the whole
  connection_if : (p : ℕ) → length (optional (connection_line (bytes_of t)) (marked connection_of a p)) ≤ connection_room a (p + 2)
  connection_if p = if_marked (connection_line (bytes_of t)) connection_of (connection_room a (p + 2)) p (connection_line_lem (p + 2))

  time-line : (p : ℕ) → time_cost (time_of a p) ≤ 45
  time-line p = rw length-line (simp length-append (omega (arith, digits_of p, digits_of (p + 8))))

  repeat-line : (p : ℕ) → repeat_cost (repeat_of a p) ≤ 47
  repeat-line p = omega (arith, time_21 (num 8 a (p + 2)) (num8_below (p + 2)), time_21 (num 8 a (p + 10)) (num8_below (p + 10)))

  offset-text : (p : ℕ) → offset_cost (offset_of a p) ≤ 22
  offset-text p = omega (arith, time_21 (num 8 a (p + 2)) (num8_below (p + 2)))

  zone-text : (p : ℕ) → zone_cost (zone_of a p) ≤ 44
  zone-text p = omega (arith, digits_of p, signed_22 (num 8 a (p + 8)) (num8_below (p + 8)))

  cost_room : cost (bytes_of t) (decode a) ≤ room_for a
  unfolding cost Decode.decode room_for head_room times_room tables_room
  cost_room =
      omega (
        arith,
        origin_line_lem origin_at,
        string_line_lem 0x73 name_at,
        string_if 0x69 description_at (description_at + 4) refl,
        string_if 0x75 uri_at (uri_at + 4) refl,
        connection_if connection_at,
        times_most (times_in a),
        rows_most time_cost time_of a 16 45 time-line (num 2 a times_at) (times_at + 2),
        rows_most repeat_cost repeat_of a 18 47 repeat-line (num 2 a repeats_at) (repeats_at + 2),
        rows_most offset_cost offset_of a 10 22 offset-text (num 2 a offsets_at) (offsets_at + 2),
        zones_most (zones_in a),
        rows_most zone_cost zone_of a 16 44 zone-text (num 2 a zones_at) (zones_at + 2),
        rows_room_lem (λ x. length (string_line (bytes_of t) 0x65 x)) span_of a 4 (contact_room a) (string_line_lem 0x65) (num 2 a emails_at) (emails_at + 2),
        rows_room_lem (λ x. length (string_line (bytes_of t) 0x70 x)) span_of a 4 (contact_room a) (string_line_lem 0x70) (num 2 a phones_at) (phones_at + 2),
        rows_room_lem (connection_cost (bytes_of t)) media_connection_of a 14 (λ p. connection_room a (p + 2)) (λ p. connection_line_lem (p + 2)) (num 2 a connections_at) (connections_at + 2),
        rows_room_lem (bandwidth_cost (bytes_of t)) bandwidth_of a 14 (bandwidth_room a) bandwidth-line (num 2 a bandwidths_at) (bandwidths_at + 2),
        rows_room_lem (attribute_cost (bytes_of t)) attribute_of a 12 (attribute_room a) attribute-line (num 2 a attributes_at) (attributes_at + 2),
        rows_room_lem (media_cost (bytes_of t)) media_of a 36 (media_room a) media-lines (num 2 a medias_at) (medias_at + 2),
      )

  pub written_room : length (written (bytes_of t) (decode a)) ≤ room_for a
  written_room = omega (arith, written_cost (bytes_of t) (decode a), cost_room)
