-- Document 02, P11: "three counts: empty lines, ignored lines, kept lines. Each is defined from the text alone". Document 01, "Lines": "every
-- other line is ignored, a later `v=` too"; "Writing": "its kept lines (v= and all with a use)".
use Rattle.std.specs.Prelude.{ℕ, ◌+◌, cond, List, [], ◌∷◌, eqb, Some, None, Ok, Err}
use Rattle.sdp_lines.specs.Lines.{Raw, split, content, form_of, Form}
use Rattle.sdp_roles.specs.Roles.{role_at}
use Rattle.sdp_roles.specs.Kinds.{kind_of, by_kind}
use Rattle.sdp_roles.specs.declared.Role.{Role}
use Rattle.sdp_roles.specs.declared.Role.TheVariants.{Nothing}
use Rattle.sdp_counts.specs.declared.Counts.{Counts}

-- ---- one line, by its form
-- the role of a line, after that many medias; a line that is empty or of bad form has none
abbrev pub role_of : ℕ → Form → Role
role_of medias (Ok None) = Nothing
role_of medias (Ok (Some l)) = role_at medias l
role_of medias (Err f) = Nothing

-- 1 for a use
abbrev pub uses : Role → ℕ
uses x = by_kind (kind_of x) 0 1 1

-- 1 for an m line
abbrev pub opens : Role → ℕ
opens x = by_kind (kind_of x) 0 1 0

-- 1 for an empty line
abbrev pub blanks : Form → ℕ
blanks (Ok None) = 1
blanks (Ok (Some l)) = 0
blanks (Err f) = 0

-- 1 for a well_formed_lem line without use, after that many medias
abbrev pub idles : ℕ → Form → ℕ
idles medias (Ok None) = 0
idles medias (Ok (Some l)) = by_kind (kind_of (role_at medias l)) 1 0 0
idles medias (Err f) = 0

-- ---- lines
-- the empty ones
unfoldable pub empty_lines : List Raw → ℕ
empty_lines [] = 0
empty_lines (r ∷ rs) = blanks (form_of (content r)) + empty_lines rs

-- the sum of what w says of each, after the version line and that many medias; an m line is one media more
unfoldable pub sum_from : (ℕ → Form → ℕ) → ℕ → List Raw → ℕ
sum_from w medias [] = 0
sum_from w medias (r ∷ rs) = w medias (form_of (content r)) + sum_from w (medias + opens (role_of medias (form_of (content r)))) rs

-- those with a use
abbrev pub used_from : ℕ → List Raw → ℕ
used_from medias rs = sum_from (λ m f. uses (role_of m f)) medias rs

-- and those without
abbrev pub ignored_from : ℕ → List Raw → ℕ
ignored_from medias rs = sum_from (λ m f. idles m f) medias rs

-- a choice by the form of a line: past an empty one, or here
abbrev pub from_version : {A : Type 0} → Form → A → A → A
from_version (Ok None) skip here = skip
from_version (Ok (Some l)) skip here = here
from_version (Err f) skip here = here

-- the version line, which is the first that is not empty, and the lines with a use after it
unfoldable pub kept_lines : List Raw → ℕ
kept_lines [] = 0
kept_lines (r ∷ rs) = from_version (form_of (content r)) (kept_lines rs) (1 + used_from 0 rs)

-- the lines without use after the version line
unfoldable pub ignored_lines : List Raw → ℕ
ignored_lines [] = 0
ignored_lines (r ∷ rs) = from_version (form_of (content r)) (ignored_lines rs) (ignored_from 0 rs)

-- the three counts
abbrev pub count_lines : List Raw → Counts
count_lines rs = record { empty = empty_lines rs; ignored = ignored_lines rs; kept = kept_lines rs }

-- ---- a text
-- "Each is defined from the text alone"
abbrev pub counts_of : List ℕ → Counts
counts_of t = count_lines (split t)

-- "its kept lines (v= and all with a use)"
abbrev pub kept : List ℕ → ℕ
kept t = (counts_of t).kept

-- "A refusal returns zeros."
abbrev pub no_counts : Counts
no_counts = record { empty = 0; ignored = 0; kept = 0 }

-- ---- the number of lines
-- the LFs of a text
unfoldable pub lfs : List ℕ → ℕ
lfs [] = 0
lfs (b ∷ t) = cond (eqb b 10) 1 0 + lfs t

-- 1 for a text whose last byte is no LF
unfoldable pub unended : List ℕ → ℕ
unended [] = 0
unended (b ∷ []) = cond (eqb b 10) 0 1
unended (b ∷ (c ∷ t)) = unended (c ∷ t)

-- "the number of lines, which is the LFs plus one if the text doesn't end in LF and isn't empty"
abbrev pub line_count : List ℕ → ℕ
line_count t = lfs t + unended t
