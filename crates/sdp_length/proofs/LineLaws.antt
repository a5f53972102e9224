-- The length of each line, as a sum over its fields. Assumes nothing.
use mathlib.Core.Path.{◌≡◌, sym, ap}
use mathlib.Core.List.{List, [], ◌∷◌, ◌++◌}
use Prim.Native.Nat.{ℕ, ◌+◌}
use native.Mathlib.Omega.{arith}
use lib.ListN.{length, length-append}
use Rattle.sdp_cells.specs.Bytes.{num}
use Rattle.sdp_area.specs.Area.{origin_at, name_at, description_at, uri_at, connection_at}
use Rattle.sdp_put.specs.Digits.{digits, time_text}
use Rattle.sdp_put.specs.Strings.{clean}
use Rattle.sdp_lines.specs.Strings.{bytes_of}
use Rattle.sdp_decode.specs.Rows as rows
use Rattle.sdp_decode.specs.Rows.{marked}
use Rattle.sdp_decode.specs.Decode
use Rattle.sdp_decode.specs.Decode.{num2, span_of, origin_of, connection_of, bandwidth_of, attribute_of}
use Rattle.sdp_decode.proofs.CellLaws.{marked_none, marked_some}
use Rattle.sdp_row.specs.Written
use Rattle.sdp_row.specs.Written.{optional, signed_text, username_text, or_dash, origin_value, origin_line, string_line, connection_line, bandwidth_line, attribute_line, media_line}
use Rattle.sdp_room.proofs.LengthLaws.{length-line}
use Rattle.sdp_length.specs.Length.{media_length, time_length, repeat_length, zone_length, head_length}

-- ---- numbers
module _ (a : List ℕ) (p : ℕ) where
  pub time-line : time_length a p ≡ 5 + length (digits (num 8 a p)) + length (digits (num 8 a (p + 8)))
  time-line = rw length-line (simp length-append (omega arith))

  pub repeat-line : repeat_length a p ≡ 5 + length (time_text (num 8 a (p + 2))) + length (time_text (num 8 a (p + 10)))
  unfolding Written.repeat_line rows.each
  repeat-line = rw length-line (simp length-append (omega arith))

  pub zone-text : zone_length a p ≡ 2 + length (digits (num 8 a p)) + length (signed_text (num 8 a (p + 8)))
  unfolding Written.zone_text
  zone-text = simp length-append (omega arith)

-- ---- strings
module _ (t a : List ℕ) where
  -- the string at p
  abbrev len : ℕ → ℕ
  len p = length (clean (bytes_of t (span_of a p)))

  pub string_line_lem : (l p : ℕ) → length (string_line (bytes_of t) l (span_of a p)) ≡ 4 + len p
  string_line_lem l p = omega (arith, length-line l (clean (bytes_of t (span_of a p))))

  pub connection_line_lem : (p : ℕ) → length (connection_line (bytes_of t) (connection_of a p)) ≡ 6 + len p + len (p + 4) + len (p + 8)
  unfolding Written.connection_line
  connection_line_lem p = rw length-line (simp length-append (omega arith))

  pub bandwidth-line : (p : ℕ) → length (bandwidth_line (bytes_of t) (bandwidth_of a p)) ≡ 5 + len (p + 2) + length (digits (num 8 a (p + 6)))
  unfolding Written.bandwidth_line
  bandwidth-line p = rw length-line (simp length-append (omega arith))

  pub attribute-line : (p : ℕ)
      → length (attribute_line (bytes_of t) (attribute_of a p)) ≡ 4 + len (p + 2) + length (optional (λ x. (0x3a ∷ []) ++ clean (bytes_of t x)) (marked span_of a (p + 6)))
  unfolding Written.attribute_line
  attribute-line p = rw length-line (simp length-append (omega arith))

  pub media-lines : (p : ℕ)
      → media_length t a p
      ≡ 7 + len p + length (digits (num 2 a (p + 4))) + length (optional (λ n. (0x2f ∷ []) ++ digits n) (marked num2 a (p + 6))) + len (p + 10) + len (p + 14) + length (optional (string_line (bytes_of t) 0x69) (marked span_of a (p + 18)))
  unfolding Written.media_line
  media-lines p = rw length-line (simp length-append (omega arith))

  pub origin_value_lem : (p : ℕ)
      → length (origin_value (bytes_of t) (origin_of a p))
      ≡ 5 + length (username_text (bytes_of t) (marked span_of a p)) + len (p + 6) + length (digits (num 8 a (p + 10))) + len (p + 18) + len (p + 22) + len (p + 26)
  unfolding Written.origin_value
  origin_value_lem p = simp length-append (omega arith)

  -- ---- what may be absent; n is its mark
  module _ (p n : ℕ) (e : n ≡ num 2 a p) where
    pub no_name_lem : n ≡ 0 → 1 ≡ length (username_text (bytes_of t) (marked span_of a p))
    unfolding Written.username_text
    no_name_lem z = sym (ap (λ x. length (username_text (bytes_of t) x)) (marked_none span_of a p n e z))

    pub some_name : (n ≡ 0 → ⊥) → length (or_dash (bytes_of t (span_of a (p + 2)))) ≡ length (username_text (bytes_of t) (marked span_of a p))
    unfolding Written.username_text
    some_name z = sym (ap (λ x. length (username_text (bytes_of t) x)) (marked_some span_of a p n e z))

    pub no_origin : n ≡ 0 → 24 ≡ length (origin_line (bytes_of t) (marked origin_of a p))
    unfolding Written.origin_line Written.line
    no_origin z = sym (ap (λ x. length (origin_line (bytes_of t) x)) (marked_none origin_of a p n e z))

    pub some_origin_lem : (n ≡ 0 → ⊥) → 4 + length (origin_value (bytes_of t) (origin_of a (p + 2))) ≡ length (origin_line (bytes_of t) (marked origin_of a p))
    unfolding Written.origin_line
    some_origin_lem z =
        omega (
          arith,
          length-line 0x6f (origin_value (bytes_of t) (origin_of a (p + 2))),
          ap (λ x. length (origin_line (bytes_of t) x)) (marked_some origin_of a p n e z),
        )

  -- ---- v, o, s, i, u, c
  pub head_lines_lem : head_length t a
      ≡ 5 + length (origin_line (bytes_of t) (marked origin_of a origin_at)) + length (string_line (bytes_of t) 0x73 (span_of a name_at)) + length (optional (string_line (bytes_of t) 0x69) (marked span_of a description_at)) + length (optional (string_line (bytes_of t) 0x75) (marked span_of a uri_at)) + length (optional (connection_line (bytes_of t)) (marked connection_of a connection_at))
  unfolding head_length Written.head_lines Decode.decode
  head_lines_lem = simp length-append (omega (arith, length-line 0x76 (0x30 ∷ [])))
