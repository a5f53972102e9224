-- What a session takes when it is written, as a sum over its fields and rows. str gives the bytes of a string. Assumes nothing.
use mathlib.Core.Path.{◌≡◌, refl}
use mathlib.Core.List.{List, [], ◌∷◌}
use Prim.Native.Nat.{ℕ, ◌+◌, ◌≤◌}
use native.Mathlib.Omega.{arith}
use lib.ListN.{length, length-append}
use Rattle.sdp_area.specs.Session.{MediaConnection, Bandwidth, Time, Repeat, Offset, Attribute, Media, Tables, Session}
use Rattle.sdp_put.specs.Digits.{time_text}
use Rattle.sdp_decode.specs.Rows.{each}
use Rattle.sdp_row.specs.Written
use Rattle.sdp_row.specs.Written.{line, optional, spaced, time_value, repeat_line, time_lines, times_lines, zones_line, string_line, origin_line, name_line, connection_line, bandwidth_line, attribute_line, media_line, media_lines, written}
use Rattle.sdp_room.proofs.SumLaws.{sum, Rows, each_sum, rows_sum, of_owner, from_owner, stray, owner_next, owner_all, owner_sum}
use Rattle.sdp_room.proofs.LengthLaws.{length-line}

-- ---- rows
abbrev pub time_cost : Time → ℕ
time_cost t = length (line 0x74 (time_value t))

-- no times: `t=0 0`
unfoldable pub times_cost : List Time → ℕ
times_cost [] = 7
times_cost (t ∷ ts) = sum time_cost (t ∷ ts)

-- a repeat without its offsets
abbrev pub repeat_cost : Repeat → ℕ
repeat_cost r = length (time_text r.repeat_interval) + 1 + length (time_text r.active_duration) + 4

abbrev pub offset_cost : Offset → ℕ
offset_cost o = length (time_text o.offset) + 1

-- ---- repeats and times
abbrev pub offset_rows : Rows Offset
offset_rows = record { owner = λ o. o.owner; bytes = λ k o. spaced (time_text o.offset) }

module _ (os : List Offset) where
  abbrev pub repeat_rows : Rows Repeat
  repeat_rows = record { owner = λ r. r.owner; bytes = repeat_line os }

  repeats_sum : (rs : List Repeat) → length (each (repeat_line os) 1 rs) + stray offset_rows 1 (length rs) os ≡ sum repeat_cost rs + sum offset_cost os
  unfolding Written.repeat_line Written.line
  repeats_sum rs =
      omega (
        arith,
        owner_sum offset_rows offset_cost (λ k o. omega arith) 1 (length rs) os,
        each_sum (repeat_line os) repeat_cost (of_owner offset_rows os) (from_owner offset_rows os) (owner_next offset_rows os) (λ n r. simp length-append (omega arith)) 1 rs,
      )

  -- without times every repeat is a stray
  times_sum : (rs : List Repeat) (ts : List Time)
      → length (times_lines rs os ts) + (stray repeat_rows 1 (length ts) rs + stray offset_rows 1 (length rs) os) ≡ times_cost ts + (sum repeat_cost rs + sum offset_cost os)
  unfolding Written.times_lines Written.time_lines Written.line times_cost
  times_sum rs [] = omega (arith, owner_all repeat_rows 1 0 rs, repeats_sum rs)
  times_sum rs (t ∷ ts) =
      omega (
        arith,
        owner_all repeat_rows 1 (length (t ∷ ts)) rs,
        repeats_sum rs,
        each_sum (time_lines rs os) time_cost (of_owner repeat_rows rs) (from_owner repeat_rows rs) (owner_next repeat_rows rs) (λ n t. simp length-append (omega arith)) 1 (t ∷ ts),
      )

-- ---- lines with strings
module _ {S : Type 0} (str : S → List ℕ) where
  abbrev pub connection_cost : MediaConnection S → ℕ
  connection_cost c = length (connection_line str c.connection)

  abbrev pub bandwidth_cost : Bandwidth S → ℕ
  bandwidth_cost b = length (bandwidth_line str b)

  abbrev pub attribute_cost : Attribute S → ℕ
  attribute_cost a = length (attribute_line str a)

  -- a media with its i line
  abbrev pub media_cost : Media S → ℕ
  media_cost m = length (media_line str m) + length (optional (string_line str 0x69) m.media_title)

  -- ---- the whole; the version line has 5 bytes
  unfoldable pub cost : Session S → ℕ
  cost s =
      5
      + length (origin_line str s.head.origin)
      + length (name_line str s.head.name)
      + length (optional (string_line str 0x69) s.head.description)
      + length (optional (string_line str 0x75) s.head.uri)
      + sum (λ x. length (string_line str 0x65 x)) s.tables.emails
      + sum (λ x. length (string_line str 0x70 x)) s.tables.phones
      + length (optional (connection_line str) s.head.connection)
      + sum bandwidth_cost s.tables.bandwidths
      + times_cost s.tables.times
      + sum repeat_cost s.tables.repeats
      + sum offset_cost s.tables.offsets
      + length (zones_line s.tables.zones)
      + sum attribute_cost s.tables.attributes
      + sum connection_cost s.tables.connections
      + sum media_cost s.tables.medias

  -- ---- medias
  abbrev pub connection_rows : Rows (MediaConnection S)
  connection_rows = record { owner = λ c. c.owner; bytes = λ k c. connection_line str c.connection }

  abbrev pub bandwidth_rows : Rows (Bandwidth S)
  bandwidth_rows = record { owner = λ b. b.owner; bytes = λ k b. bandwidth_line str b }

  abbrev pub attribute_rows : Rows (Attribute S)
  attribute_rows = record { owner = λ a. a.owner; bytes = λ k a. attribute_line str a }

  module _ (t : Tables S) where
    -- the c, b and a lines of the media n, and of all from n on
    abbrev owned : ℕ → ℕ
    owned n = of_owner connection_rows t.connections n + of_owner bandwidth_rows t.bandwidths n + of_owner attribute_rows t.attributes n

    abbrev rest : ℕ → ℕ
    rest n = from_owner connection_rows t.connections n + from_owner bandwidth_rows t.bandwidths n + from_owner attribute_rows t.attributes n

    rest_next : (n : ℕ) → rest n ≡ owned n + rest (n + 1)
    rest_next n = omega (arith, owner_next connection_rows t.connections n, owner_next bandwidth_rows t.bandwidths n, owner_next attribute_rows t.attributes n)

    -- rows that no media has, and of the b and a lines not the session either
    abbrev astray : ℕ → ℕ
    astray n = stray connection_rows 1 n t.connections + stray bandwidth_rows 0 n t.bandwidths + stray attribute_rows 0 n t.attributes

    -- c lines of all medias, b and a lines of the session too
    rest_sum : (n : ℕ)
        → from_owner connection_rows t.connections 1 + from_owner bandwidth_rows t.bandwidths 0 + from_owner attribute_rows t.attributes 0 + astray n
        ≡ sum connection_cost t.connections + sum bandwidth_cost t.bandwidths + sum attribute_cost t.attributes + rest (1 + n)
    rest_sum n =
        omega (
          arith,
          owner_sum connection_rows connection_cost (λ k x. refl) 1 n t.connections,
          owner_sum bandwidth_rows bandwidth_cost (λ k x. refl) 0 n t.bandwidths,
          owner_sum attribute_rows attribute_cost (λ k x. refl) 0 n t.attributes,
        )

    medias_sum : (ms : List (Media S)) → length (each (media_lines str t) 1 ms) + rest (1 + length ms) ≡ sum media_cost ms + rest 1
    unfolding Written.media_lines
    medias_sum = each_sum (media_lines str t) media_cost owned rest rest_next (λ n m. simp length-append (omega arith)) 1

  -- the rows that have no owner: they are not written
  unfoldable pub lost : Session S → ℕ
  lost s =
      astray s.tables (length s.tables.medias)
      + (stray (repeat_rows s.tables.offsets) 1 (length s.tables.times) s.tables.repeats + stray offset_rows 1 (length s.tables.repeats) s.tables.offsets)

  pub written_sum : (s : Session S) → length (written str s) + lost s ≡ cost s
  unfolding Written.written Written.head_lines Written.contact_lines Written.closing_lines cost lost
  written_sum s =
      let m = medias_sum s.tables s.tables.medias in
      let r = rest_sum s.tables (length s.tables.medias) in
      let t = times_sum s.tables.offsets s.tables.repeats s.tables.times in
      simp length-append
      (omega (
        arith,
        m,
        r,
        t,
        owner_next bandwidth_rows s.tables.bandwidths 0,
        owner_next attribute_rows s.tables.attributes 0,
        length-line 0x76 (0x30 ∷ []),
        rows_sum (λ k x. string_line str 0x65 x) (λ x. length (string_line str 0x65 x)) (λ k x. refl) 1 s.tables.emails,
        rows_sum (λ k x. string_line str 0x70 x) (λ x. length (string_line str 0x70 x)) (λ k x. refl) 1 s.tables.phones,
      ))

  -- what is written is no more than the sum
  pub written_cost : (s : Session S) → length (written str s) ≤ cost s
  written_cost s = omega (arith, written_sum s)
