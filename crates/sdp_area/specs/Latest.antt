-- The latest media's row: its title's mark stands at 18 of the row's 36 bytes.
use Rattle.std.specs.Prelude.{Bool, true, false, ◌&&◌, cond, List, [], ◌∷◌, ℕ, ◌+◌, ◌*◌, ◌-◌, ltb, leb, eqb, Option, Some, None}
use Rattle.sdp_numbers.specs.Tables.{most_medias}
use Rattle.sdp_cells.specs.Bytes.{num, over}
use Rattle.sdp_area.specs.Area.{medias_at}
use Rattle.sdp_area.specs.Session.{Media}

-- there is a latest media: the count is 1 to the most
abbrev pub any_media : List ℕ → Bool
any_media a = ltb 0 (num 2 a medias_at) && leb (num 2 a medias_at) most_medias

-- the place of its title's mark
abbrev pub title_at : List ℕ → ℕ
title_at a = medias_at + (2 + ((num 2 a medias_at - 1) * 36 + 18))

-- bs written over its title, mark and all
unfoldable pub over_title : List ℕ → List ℕ → List ℕ
over_title a bs = cond (any_media a) (over a (title_at a) bs) a

-- the mark says present
unfoldable pub mark_title : List ℕ → Bool
mark_title a = cond (any_media a) (eqb (num 2 a (title_at a)) 1) false

-- ---- the same of the session
-- present or absent
abbrev pub given : {X : Type 0} → Option X → Bool
given None = false
given (Some x) = true

-- whether o is present in the latest row
unfoldable pub last_given : {X Y : Type 0} → (X → Option Y) → List X → Bool
last_given o [] = false
last_given o (x ∷ []) = given (o x)
last_given o (x ∷ y ∷ ys) = last_given o (y ∷ ys)

-- whether the latest media has a title
abbrev pub last_titled : {S : Type 0} → List (Media S) → Bool
last_titled {S} ms = last_given (λ (m : Media S). m.media_title) ms
