-- Document 02, P11: how many lines of a text are empty, ignored and kept.
use Rattle.std.specs.Prelude.{ℕ, ◌≤◌, ◌≡◌, List, [], ◌∷◌, length}
use Rattle.sdp_area.specs.Columns.{area_size}
use Rattle.sdp_counts.specs.Count.{line_count}
use Rattle.sdp_counts.specs.declared.Counts.{Counts}
use Rattle.sdp_read.specs.Run.{read_text}
use Rattle.sdp_samples.specs.Samples.{«V», T, no_value, ◌next◌}

-- CR
abbrev pub cr : List ℕ
cr = 0x0d ∷ []

-- `v=1`
abbrev pub later_version : List ℕ
later_version = 0x76 ∷ 0x3d ∷ 0x31 ∷ []

-- `k=x`
abbrev pub key : List ℕ
key = 0x6b ∷ 0x3d ∷ 0x78 ∷ []

-- `m=a 1 b c`
abbrev pub media : List ℕ
media = 0x6d ∷ 0x3d ∷ 0x61 ∷ 0x20 ∷ 0x31 ∷ 0x20 ∷ 0x62 ∷ 0x20 ∷ 0x63 ∷ []

-- `t=`, which has no use after an m line
abbrev pub no_time : List ℕ
no_time = 0x74 ∷ 0x3d ∷ []

-- empty lines before the version line and behind it; a later `v=`, `k=x` and `t=` without use; a last line without LF
abbrev pub nine : List ℕ
nine = cr next «V» next [] next later_version next key next T next media next no_time next no_value

-- the counts in the paper's order
abbrev pub three : ℕ → ℕ → ℕ → Counts
three empty ignored kept = record { empty = empty; ignored = ignored; kept = kept }

-- the text t is accepted in every area of full size, and has the counts c
abbrev pub Counted : List ℕ → Counts → Type 0
Counted t c = (a : List ℕ) → area_size ≤ length a → ((read_text t a).answer.number ≡ 0) × ((read_text t a).counts ≡ c)

-- texts with their counts and their lines
pub record LineCounts : Type 0 where
  pub v_counts : Counted «V» (three 0 0 1)
  pub v_lines : line_count «V» ≡ 1
  pub nine_counts : Counted nine (three 2 3 4)
  pub nine_lines : line_count nine ≡ 9
