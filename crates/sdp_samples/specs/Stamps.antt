-- Document 02, P9: the line that each record and each field of a text was read from.
use Rattle.std.specs.Prelude.{ℕ, ◌≤◌, ◌≡◌, List, [], ◌∷◌, ◌++◌, length, drop}
use Rattle.sdp_cells.specs.Tables.{fit, pairs}
use Rattle.sdp_area.specs.Area.{size}
use Rattle.sdp_area.specs.Columns.{area_size}
use Rattle.sdp_read.specs.Run.{read_text}
use Rattle.sdp_samples.specs.Samples.{«V», T, some_origin, no_value, ◌next◌}
use Rattle.sdp_samples.specs.Places.{no_name, R}
use Rattle.sdp_samples.specs.Counts.{key, media}

-- the letter l, `=` and `x`
abbrev pub short : ℕ → List ℕ
short l = l ∷ 0x3d ∷ 0x78 ∷ []

-- `c=IN IP4 h`
abbrev pub C : List ℕ
C = 0x63 ∷ 0x3d ∷ 0x49 ∷ 0x4e ∷ 0x20 ∷ 0x49 ∷ 0x50 ∷ 0x34 ∷ 0x20 ∷ 0x68 ∷ []

-- `b=AS:1`
abbrev pub B : List ℕ
B = 0x62 ∷ 0x3d ∷ 0x41 ∷ 0x53 ∷ 0x3a ∷ 0x31 ∷ []

-- `r=1 1 0 5`
abbrev pub two_offsets : List ℕ
two_offsets = 0x72 ∷ 0x3d ∷ 0x31 ∷ 0x20 ∷ 0x31 ∷ 0x20 ∷ 0x30 ∷ 0x20 ∷ 0x35 ∷ []

-- `r=1 1 7`
abbrev pub one_offset : List ℕ
one_offset = 0x72 ∷ 0x3d ∷ 0x31 ∷ 0x20 ∷ 0x31 ∷ 0x20 ∷ 0x37 ∷ []

-- `z=0 1 2 3`
abbrev pub two_zones : List ℕ
two_zones = 0x7a ∷ 0x3d ∷ 0x30 ∷ 0x20 ∷ 0x31 ∷ 0x20 ∷ 0x32 ∷ 0x20 ∷ 0x33 ∷ []

-- the lines 1 to 16: v, o, s, i, u, e, p, c, b, t, an empty one, three of r, z, a
abbrev pub before : List ℕ
before =
    «V» next some_origin next no_name next short 0x69 next short 0x75 next short 0x65 next short 0x70 next C next B next T next []
    next two_offsets next R next one_offset next two_zones next no_value

-- the lines 17 to 24: `k=x`, which is ignored, m, a, m, i, c, b, a
abbrev pub behind : List ℕ
behind = key next media next no_value next media next short 0x69 next C next B next no_value

-- o, s, i, u, c and k; then each table with all that it has room for; then the medias' titles and keys
abbrev pub columns : List ℕ
columns =
    (2 ∷ 3 ∷ 4 ∷ 5 ∷ 8 ∷ 0 ∷ [])
    ++ (fit 16 (6 ∷ [])
    ++ (fit 16 (7 ∷ [])
    ++ (fit 64 (22 ∷ [])
    ++ (fit 64 (9 ∷ 23 ∷ [])
    ++ (fit 32 (10 ∷ [])
    ++ (fit 64 (12 ∷ 13 ∷ 14 ∷ [])
    ++ (fit 256 (12 ∷ 12 ∷ 14 ∷ [])
    ++ (fit 64 (15 ∷ 15 ∷ [])
    ++ (fit 512 (16 ∷ 19 ∷ 24 ∷ [])
    ++ (fit 32 (18 ∷ 20 ∷ [])
    ++ (fit 32 (0 ∷ 21 ∷ [])
    ++ fit 32 [])))))))))))

-- the text t is accepted in every area of full size, and the lines ls stand behind the session
abbrev pub Stamped : List ℕ → List ℕ → Type 0
Stamped t ls =
    (a : List ℕ) → area_size ≤ length a
    → ((read_text t a).answer.number ≡ 0) × (drop size (read_text t a).area ≡ pairs ls ++ drop area_size a)

-- "Each record in every table, offsets and zones too, and each single field, carries the line it was read from"
pub record RecordLines : Type 0 where
  pub each_line : Stamped (before next behind) columns
  -- "0 for .. the placeholder": no line was read
  pub no_line : Stamped «V» (fit 1190 [])
