-- Document 01, "Samples": those marked P, over what read and write promise. A text is a list of bytes; the text itself stands above it.
use Rattle.std.specs.Prelude.{ℕ, ◌≤◌, ◌-◌, ◌^◌, ◌≡◌, List, [], ◌∷◌, ◌++◌, length, drop, Some, None}
use Rattle.sdp_lines.specs.declared.Answer.{Answer}
use Rattle.sdp_lines.specs.declared.Span.{Span}
use Rattle.sdp_cells.specs.Bytes.{over, zeros}
use Rattle.sdp_area.specs.Session.{Session, empty}
use Rattle.sdp_area.specs.With.{with_zones, with_attributes}
use Rattle.sdp_area.specs.Columns.{zones_cell, attributes_cell, area_size, area_of}
use Rattle.sdp_stamp.specs.Stamp.{no_stamps}
use Rattle.sdp_counts.specs.Count.{counts_of, no_counts}
use Rattle.sdp_read.specs.Run.{read_text}
use Rattle.sdp_write.specs.Write.{length_text, fill_text}

-- ---- the lines
-- `v=0`
abbrev pub «V» : List ℕ
«V» = 0x76 ∷ 0x3d ∷ 0x30 ∷ []

-- `t=0 0`
abbrev pub T : List ℕ
T = 0x74 ∷ 0x3d ∷ 0x30 ∷ 0x20 ∷ 0x30 ∷ []

-- `v=0 `
abbrev pub space_after : List ℕ
space_after = 0x76 ∷ 0x3d ∷ 0x30 ∷ 0x20 ∷ []

-- `v=0` with CR
abbrev pub cr_at_end : List ℕ
cr_at_end = 0x76 ∷ 0x3d ∷ 0x30 ∷ 0x0d ∷ []

-- `=x`
abbrev pub nothing_before : List ℕ
nothing_before = 0x3d ∷ 0x78 ∷ []

-- `abc`
abbrev pub no_equals : List ℕ
no_equals = 0x61 ∷ 0x62 ∷ 0x63 ∷ []

-- `r=d 1`
abbrev pub no_interval : List ℕ
no_interval = 0x72 ∷ 0x3d ∷ 0x64 ∷ 0x20 ∷ 0x31 ∷ []

-- `z=0 -9223372036854775808`
abbrev pub lowest : List ℕ
lowest =
    0x7a ∷ 0x3d ∷ 0x30 ∷ 0x20 ∷ 0x2d ∷ 0x39 ∷ 0x32 ∷ 0x32 ∷ 0x33 ∷ 0x33 ∷ 0x37 ∷ 0x32 ∷ 0x30 ∷ 0x33 ∷ 0x36 ∷ 0x38 ∷ 0x35 ∷ 0x34 ∷
    0x37 ∷ 0x37 ∷ 0x35 ∷ 0x38 ∷ 0x30 ∷ 0x38 ∷ []

-- `z=0 9223372036854775808`
abbrev pub too_high : List ℕ
too_high =
    0x7a ∷ 0x3d ∷ 0x30 ∷ 0x20 ∷ 0x39 ∷ 0x32 ∷ 0x32 ∷ 0x33 ∷ 0x33 ∷ 0x37 ∷ 0x32 ∷ 0x30 ∷ 0x33 ∷ 0x36 ∷ 0x38 ∷ 0x35 ∷ 0x34 ∷ 0x37 ∷
    0x37 ∷ 0x35 ∷ 0x38 ∷ 0x30 ∷ 0x38 ∷ []

-- `z=0 -+5`
abbrev pub minus_plus : List ℕ
minus_plus = 0x7a ∷ 0x3d ∷ 0x30 ∷ 0x20 ∷ 0x2d ∷ 0x2b ∷ 0x35 ∷ []

-- `z=`
abbrev pub no_zones : List ℕ
no_zones = 0x7a ∷ 0x3d ∷ []

-- `o=- 0 0 IN IP4 0.0.0.0`
abbrev pub some_origin : List ℕ
some_origin =
    0x6f ∷ 0x3d ∷ 0x2d ∷ 0x20 ∷ 0x30 ∷ 0x20 ∷ 0x30 ∷ 0x20 ∷ 0x49 ∷ 0x4e ∷ 0x20 ∷ 0x49 ∷ 0x50 ∷ 0x34 ∷ 0x20 ∷ 0x30 ∷ 0x2e ∷ 0x30 ∷
    0x2e ∷ 0x30 ∷ 0x2e ∷ 0x30 ∷ []

-- `o=junk`
abbrev pub junk_origin : List ℕ
junk_origin = 0x6f ∷ 0x3d ∷ 0x6a ∷ 0x75 ∷ 0x6e ∷ 0x6b ∷ []

-- `a=x:`
abbrev pub empty_value : List ℕ
empty_value = 0x61 ∷ 0x3d ∷ 0x78 ∷ 0x3a ∷ []

-- `a=x`
abbrev pub no_value : List ℕ
no_value = 0x61 ∷ 0x3d ∷ 0x78 ∷ []

infixr 50 ◌next◌
-- "Lines are joined by LF"
abbrev pub ◌next◌ : List ℕ → List ℕ → List ℕ
x next y = x ++ (0x0a ∷ y)

-- what is written of `V`: `v=0`, `o=- 0 0 IN IP4 0.0.0.0`, `s=`, `t=0 0`, each ended by CR LF
abbrev pub of_v : List ℕ
of_v =
    0x76 ∷ 0x3d ∷ 0x30 ∷ 0x0d ∷ 0x0a ∷
    0x6f ∷ 0x3d ∷ 0x2d ∷ 0x20 ∷ 0x30 ∷ 0x20 ∷ 0x30 ∷ 0x20 ∷ 0x49 ∷ 0x4e ∷ 0x20 ∷ 0x49 ∷ 0x50 ∷ 0x34 ∷ 0x20 ∷ 0x30 ∷ 0x2e ∷ 0x30 ∷
    0x2e ∷ 0x30 ∷ 0x2e ∷ 0x30 ∷ 0x0d ∷ 0x0a ∷
    0x73 ∷ 0x3d ∷ 0x0d ∷ 0x0a ∷ 0x74 ∷ 0x3d ∷ 0x30 ∷ 0x20 ∷ 0x30 ∷ 0x0d ∷ 0x0a ∷ []

-- ---- what a sample says
-- number, line, field, place, length; the numbers stand here as the paper says them, so the samples hold their names to it too
abbrev pub five : ℕ → ℕ → ℕ → ℕ → ℕ → Answer
five number line field place len = record { number = number; line = line; field = field; place = place; len = len }

-- the text t is refused with x in every area of full size: the area is then all zero, and the bytes behind it are as found
abbrev pub Refuses : List ℕ → Answer → Type 0
Refuses t x =
    (a : List ℕ) → area_size ≤ length a → read_text t a ≡ record { answer = x; counts = no_counts; area = zeros area_size ++ drop area_size a }

-- the text t is accepted in every area of full size: the area then holds the session s and the lines ls of what it has, and the bytes behind
-- them are as found
abbrev pub Accepts : List ℕ → Session Span → List ℕ → Type 0
Accepts t s ls =
    (a : List ℕ) → area_size ≤ length a
    → read_text t a ≡ record { answer = five 0 0 0 0 0; counts = counts_of t; area = area_of s ls (drop area_size a) }

-- the line n in the cell c, and 0 in all others
abbrev pub only_in : ℕ → ℕ → List ℕ
only_in c n = over no_stamps c (n ∷ [])

-- the area that reading t leaves has the length of w, and is written as w in every output that has room for it; the bytes behind it are as found
abbrev pub Writes : List ℕ → List ℕ → Type 0
Writes t w =
    (a o : List ℕ) → area_size ≤ length a → length w ≤ length o
    → (length_text t (read_text t a).area ≡ five 0 0 0 0 (length w))
    × (fill_text t (read_text t a).area o ≡ record { answer = five 0 0 0 0 (length w); out = w ++ drop (length w) o })

-- a session with one zone at adjustment time 0 and nothing else; the offset is the 64 bits of a signed number
abbrev pub zoned : ℕ → Session Span
zoned offset = with_zones empty (record { adjustment_time = 0; offset = offset } ∷ [])

-- place and length in the text
abbrev pub span : ℕ → ℕ → Span
span place len = record { at = record { 0 = place }; len = len }

-- ---- "Proved together as a single statement: those marked P."
pub record Samples : Type 0 where
  -- "empty text: 6"
  pub empty_text : Refuses [] (five 6 0 0 0 0)
  -- "`V`: accepted, writes 40 bytes"
  pub v_accepted : Accepts «V» empty no_stamps
  pub v_written : Writes «V» of_v
  pub v_forty : length of_v ≡ 40
  -- "`v=0 `: 7 line 1", with place and length of the value
  pub v_space : Refuses space_after (five 7 1 0 2 2)
  -- "`V` with CR and no LF: 3 line 1"
  pub v_cr : Refuses cr_at_end (five 3 1 0 0 0)
  -- "`V`,`=x`: 5 line 2"
  pub no_letter : Refuses («V» next nothing_before) (five 5 2 0 0 0)
  -- "`V`,`abc`: 4"
  pub no_equals_lem : Refuses («V» next no_equals) (five 4 2 0 0 0)
  -- "`V`,`T`,`r=d 1`: 9 line 3 field 18"
  pub no_interval_lem : Refuses («V» next T next no_interval) (five 9 3 18 0 0)
  -- "`z=0 -9223372036854775808` accepted"
  pub lowest_offset : Accepts («V» next lowest) (zoned (2 ^ 64 - 9223372036854775808)) (only_in zones_cell 2)
  -- "without the `-`: 9 field 22"
  pub too_high_lem : Refuses («V» next too_high) (five 9 2 22 0 0)
  -- "`z=0 -+5` is -5"
  pub minus_plus_lem : Accepts («V» next minus_plus) (zoned (2 ^ 64 - 5)) (only_in zones_cell 2)
  -- "`z=`,`z=`: 17 at the second"
  pub two_zones_lem : Refuses («V» next no_zones next no_zones) (five 17 3 0 0 0)
  -- "two o lines, the second junk: 12"
  pub two_origins : Refuses («V» next some_origin next junk_origin) (five 12 3 0 0 0)
  -- "`a=x:` has an empty value, `a=x` none"
  pub empty_value_lem : Accepts («V» next empty_value) (with_attributes empty (record { owner = 0; attribute = span 6 1; value = Some (span 8 0) } ∷ []))
      (only_in attributes_cell 2)
  pub no_value_lem : Accepts («V» next no_value) (with_attributes empty (record { owner = 0; attribute = span 6 1; value = None } ∷ []))
      (only_in attributes_cell 2)
