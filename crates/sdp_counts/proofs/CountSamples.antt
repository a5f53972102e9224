-- The counts of a sample. Assumes nothing.
use mathlib.Core.Path.{◌≡◌, refl}
use mathlib.Core.List.{List, [], ◌∷◌}
use Prim.Native.Nat.{ℕ}
use Rattle.sdp_bytes.specs.Runs
use Rattle.sdp_lines.specs.Lines
use Rattle.sdp_roles.specs.Roles
use Rattle.sdp_counts.specs.Count.{empty_lines, sum_from, ignored_lines, kept_lines, counts_of}

-- the input of `canon`: nine lines, of which x=new has no use
abbrev canon : List ℕ
canon =
    118 ∷ 61 ∷ 48 ∷ 10 ∷ 115 ∷ 61 ∷ 68 ∷ 101 ∷ 115 ∷ 107 ∷ 32 ∷ 52 ∷ 10 ∷ 120 ∷ 61 ∷ 110 ∷ 101 ∷ 119 ∷ 10 ∷ 116 ∷ 61 ∷ 43 ∷ 54 ∷ 48 ∷ 32 ∷ 48 ∷ 10 ∷ 114 ∷ 61 ∷ 49 ∷ 54 ∷ 56 ∷ 104 ∷ 32 ∷ 51 ∷ 54 ∷ 48 ∷ 48 ∷ 32 ∷ 48 ∷ 32 ∷ 57 ∷ 48 ∷ 10 ∷ 122 ∷ 61 ∷ 54 ∷ 48 ∷ 32 ∷ 45 ∷ 49 ∷ 104 ∷ 32 ∷ 54 ∷ 49 ∷ 32 ∷ 43 ∷ 48 ∷ 10 ∷ 97 ∷ 61 ∷ 114 ∷ 101 ∷ 99 ∷ 118 ∷ 111 ∷ 110 ∷ 108 ∷ 121 ∷ 10 ∷ 109 ∷ 61 ∷ 97 ∷ 117 ∷ 100 ∷ 105 ∷ 111 ∷ 32 ∷ 53 ∷ 48 ∷ 48 ∷ 52 ∷ 47 ∷ 50 ∷ 32 ∷ 82 ∷ 84 ∷ 80 ∷ 47 ∷ 65 ∷ 86 ∷ 80 ∷ 32 ∷ 57 ∷ 54 ∷ 10 ∷ 97 ∷ 61 ∷ 110 ∷ 111 ∷ 116 ∷ 101 ∷ 58 ∷ 10 ∷ []

pub canon_counts : counts_of canon ≡ record { empty = 0; ignored = 1; kept = 8 }
unfolding empty_lines ignored_lines sum_from kept_lines Lines.split Lines.content Lines.chop Lines.form_of Lines.has_nul_or_cr Lines.plain_form Runs.index_of Roles.before_media Roles.from_media
canon_counts = refl
