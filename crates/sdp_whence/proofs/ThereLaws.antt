-- A line of a session, cell by cell: what the cell stands for, before and after.
-- Assumes nothing.
use Prim.Native.Nat.{ℕ, zero, suc, ◌+◌, ◌-◌, ◌≤◌, ◌<◌}
use native.Mathlib.Omega.{arith}
use native.Mathlib.Decide.{dec_lt, ℕ_discrete}
use mathlib.Core.Path.{◌≡◌, refl, ap, ◌∙◌}
use mathlib.Core.Logic.{◌⊎◌, inl, inr}
use mathlib.Core.Bool.{Bool, true, false, ◌||◌}
use mathlib.Core.List.{List, [], ◌∷◌, ◌++◌, map}
use Rattle.std.specs.Prelude.{Option, None}
use borrow.Author.Tests.{le-leb, lt-leb}
use lib.ListN.{length, get_or, length-map, get_or-eq_default}
use Rattle.sdp_lines.specs.declared.Span.{Span}
use Rattle.sdp_area.specs.Session.{Media, Session, Within}
use Rattle.sdp_area.specs.With as with-spec
use Rattle.sdp_area.specs.With.{titled, set_last}
use Rattle.sdp_area.specs.Columns.{cells}
use Rattle.sdp_area.specs.Latest as latest
use Rattle.sdp_area.specs.Latest.{given, last_titled}
use Rattle.sdp_area.proofs.LatestLaws.{last_given_lem}
use Rattle.sdp_step.proofs.OnceLaws.{length_last}
use Rattle.sdp_stamp.specs.Stamp as stamps
use Rattle.sdp_stamp.specs.Stamp.{stamp_rows, stamp_all, begins, one, rows_in, title_rows, title_cell, stamped}
use Rattle.sdp_stamp.proofs.CellLaws.{rows_none, rows-length, one-le}
use Rattle.sdp_stamp.proofs.StampLaws.{title_there}
use Rattle.sdp_whence.specs.Whence as cell
use Rattle.sdp_whence.specs.Whence.{in_media, in_any, there}
use Rattle.sdp_whence.proofs.PointLaws.{Moves, Side, rows_new, rows_away, behind_all, all_moves}
use Rattle.sdp_whence.proofs.GrowLaws.{Up, Grew, stay, added, entitled}

-- ---- a field of the medias, by the number of the media
abbrev pub marks : {X : Type 0} → (Media Span → Option X) → List (Media Span) → ℕ → Bool
marks f ms j = get_or (map (λ m. given (f m)) ms) j false

-- a media that has not the field changes nothing
marks_more : {X : Type 0} (f : Media Span → Option X) (ms : List (Media Span)) (m : Media Span) (j : ℕ) → f m ≡ None → marks f (ms ++ (m ∷ [])) j ≡ marks f ms j
marks_more f [] m zero e = ap given e
marks_more f [] m (suc j) e = refl
marks_more f (x ∷ ms) m zero e = refl
marks_more f (x ∷ ms) m (suc j) e = marks_more f ms m j e

-- nor does a title change the keys
keys_same : (x : Span) (ms : List (Media Span)) (j : ℕ) → marks (λ m. m.key) (set_last (titled x) ms) j ≡ marks (λ m. m.key) ms j
unfolding with-spec.set_last
keys_same x [] j = refl
keys_same x (m ∷ []) zero = refl
keys_same x (m ∷ []) (suc j) = refl
keys_same x (m ∷ n ∷ ms) zero = refl
keys_same x (m ∷ n ∷ ms) (suc j) = keys_same x (n ∷ ms) j

-- it changes that of the latest media
titles_other : (x : Span) (ms : List (Media Span)) (j : ℕ) → (j + 1 ≡ length ms → ⊥) → marks (λ m. m.media_title) (set_last (titled x) ms) j ≡ marks (λ m. m.media_title) ms j
unfolding with-spec.set_last
titles_other x [] j h = refl
titles_other x (m ∷ []) zero h = absurd (h refl)
titles_other x (m ∷ []) (suc j) h = refl
titles_other x (m ∷ n ∷ ms) zero h = refl
titles_other x (m ∷ n ∷ ms) (suc j) h = titles_other x (n ∷ ms) j (λ e. h (omega arith))

titles_latest : (x : Span) (ms : List (Media Span)) (j : ℕ) → j + 1 ≡ length ms → last_titled ms ≡ false
    → (marks (λ m. m.media_title) ms j ≡ false) × (marks (λ m. m.media_title) (set_last (titled x) ms) j ≡ true)
unfolding with-spec.set_last latest.last_given
titles_latest x [] j h e = absurd (omega arith)
titles_latest x (m ∷ []) zero h e = (e, refl)
titles_latest x (m ∷ []) (suc j) h e = absurd (omega arith)
titles_latest x (m ∷ n ∷ ms) zero h e = absurd (omega arith)
titles_latest x (m ∷ n ∷ ms) (suc j) h e = titles_latest x (n ∷ ms) j (omega arith) e

-- there is no title without a media
title_le : (ms : List (Media Span)) → one (last_titled ms) ≤ length ms
unfolding latest.last_given
title_le [] = omega arith
title_le (m ∷ ms) = omega (arith, one-le (last_titled (m ∷ ms)))

or_false : (b : Bool) → b || false ≡ b
or_false true = refl
or_false false = refl

module _ (n : ℕ) (s s' : Session Span) (g : Grew s.tables.medias s'.tables.medias) (w : Within s) (w' : Within s') (l : List ℕ) (all : length l ≡ cells) (i : ℕ) where
  abbrev ms : List (Media Span)
  ms = s.tables.medias

  abbrev ms' : List (Media Span)
  ms' = s'.tables.medias

  abbrev title_of : Media Span → Option Span
  title_of m = m.media_title

  -- past the title
  abbrev l₁ : List ℕ
  l₁ = stamp_rows n (title_cell s') (title_rows s) (title_rows s') l

  title_fits : title_cell s' + title_rows s' ≤ 1158
  title_fits = omega (arith, w'.medias, one-le (last_titled ms'))

  long : length l₁ ≡ cells
  long = rows-length n (title_cell s') (title_rows s) l (title_rows s') (omega (arith, title_fits, all)) ∙ all

  away : (i < title_cell s' + title_rows s) ⊎ (title_cell s' + title_rows s' ≤ i) → get_or l₁ i 0 ≡ get_or l i 0
  away = rows_away n (title_cell s') (title_rows s) (title_rows s') i l (omega (arith, title_fits, all))

  unmoved : title_rows s' ≤ title_rows s → get_or l₁ i 0 ≡ get_or l i 0
  unmoved h = ap (λ (x : List ℕ). get_or x i 0) (rows_none n (title_cell s') (title_rows s) l (title_rows s') h)

  title_moves : 1126 ≤ i → Moves (marks title_of ms (i - 1126)) (marks title_of ms' (i - 1126)) (get_or l i 0) (get_or l₁ i 0) n
  title_moves h = go g
    where
      j : ℕ
      j = i - 1126

      count : (x : Span) → ms' ≡ set_last (titled x) ms → length ms' ≡ length ms
      count x e = ap length e ∙ length_last (titled x) ms

      has : (x : Span) → ms' ≡ set_last (titled x) ms → 0 < length ms → last_titled ms' ≡ true
      has x e k = ap (λ (y : List (Media Span)). last_titled y) e ∙ some ms k
        where
          some : (ys : List (Media Span)) → 0 < length ys → last_titled (set_last (titled x) ys) ≡ true
          some [] k = absurd (omega arith)
          some (y ∷ ys) k = title_there x y ys

      -- the latest media, or another
      gets : (x : Span) → ms' ≡ set_last (titled x) ms → last_titled ms ≡ false → Dec (j + 1 ≡ length ms) → Dec (i < title_cell s') → Dec (title_cell s' < i)
          → Moves (marks title_of ms j) (marks title_of ms' j) (get_or l i 0) (get_or l₁ i 0) n
      gets x e bare (yes q) a b =
          let m = titles_latest x ms j q bare in
          let c = count x e in
          let r : title_rows s ≡ 0 = ap one bare in
          let r' : title_rows s' ≡ 1 = ap one (has x e (omega arith)) in
          inr (m.0, rw e m.1, rows_new n (title_cell s') (title_rows s) (title_rows s') i l (omega (arith, title_fits, all)) (omega arith) (omega arith))
      gets x e bare (no q) (yes a) b = inl (rw e (titles_other x ms j q), away (inl (omega arith)))
      gets x e bare (no q) (no a) (yes b) = inl (rw e (titles_other x ms j q), away (inr (omega (arith, one-le (last_titled ms')))))
      gets x e bare (no q) (no a) (no b) = inl (rw e (titles_other x ms j q), away (inr (none (dec_lt 0 (length ms)))))
        where
          none : Dec (0 < length ms) → title_cell s' + title_rows s' ≤ i
          none (yes k) = absurd (q (omega (arith, count x e)))
          none (no k) = omega (arith, title_le ms', count x e)

      go : Grew ms ms' → Moves (marks title_of ms j) (marks title_of ms' j) (get_or l i 0) (get_or l₁ i 0) n
      go (stay e) = inl (rw e refl, unmoved (rw e (omega arith)))
      go (added m e t k) = inl (rw e (marks_more title_of ms m j t), unmoved (rw (e, last_given_lem title_of ms m, t) (omega arith)))
      go (entitled x e bare) = gets x e bare (ℕ_discrete (j + 1) (length ms)) (dec_lt i (title_cell s')) (dec_lt (title_cell s') i)

  keys_stay : (j : ℕ) → marks (λ m. m.key) ms' j ≡ marks (λ m. m.key) ms j
  keys_stay j = go g
    where
      go : Grew ms ms' → marks (λ m. m.key) ms' j ≡ marks (λ m. m.key) ms j
      go (stay e) = rw e refl
      go (added m e t k) = rw e (marks_more (λ m. m.key) ms m j k)
      go (entitled x e bare) = rw e (keys_same x ms j)

-- the columns of a session stand side by side, up to the titles
columns : (s s' : Session Span) → Up (rows_in s) (rows_in s') → Within s' → Side 0 1126 begins (rows_in s) (rows_in s')
columns s s' u w' = (
  omega arith,
  u.0,
  omega (arith, one-le (given s'.head.origin)),
  (
    omega (arith, one-le (given s'.head.origin)),
    u.1.0,
    omega (arith, one-le (given s'.head.name)),
    (
      omega (arith, one-le (given s'.head.name)),
      u.1.1.0,
      omega (arith, one-le (given s'.head.description)),
      (
        omega (arith, one-le (given s'.head.description)),
        u.1.1.1.0,
        omega (arith, one-le (given s'.head.uri)),
        (
          omega (arith, one-le (given s'.head.uri)),
          u.1.1.1.1.0,
          omega (arith, one-le (given s'.head.connection)),
          (
            omega (arith, one-le (given s'.head.connection)),
            u.1.1.1.1.1.0,
            omega (arith, one-le (given s'.head.key)),
            (
              omega (arith, one-le (given s'.head.key)),
              u.1.1.1.1.1.1.0,
              omega (arith, w'.emails),
              (
                omega (arith, w'.emails),
                u.1.1.1.1.1.1.1.0,
                omega (arith, w'.phones),
                (
                  omega (arith, w'.phones),
                  u.1.1.1.1.1.1.1.1.0,
                  omega (arith, w'.connections),
                  (
                    omega (arith, w'.connections),
                    u.1.1.1.1.1.1.1.1.1.0,
                    omega (arith, w'.bandwidths),
                    (
                      omega (arith, w'.bandwidths),
                      u.1.1.1.1.1.1.1.1.1.1.0,
                      omega (arith, w'.times),
                      (
                        omega (arith, w'.times),
                        u.1.1.1.1.1.1.1.1.1.1.1.0,
                        omega (arith, w'.repeats),
                        (
                          omega (arith, w'.repeats),
                          u.1.1.1.1.1.1.1.1.1.1.1.1.0,
                          omega (arith, w'.offsets),
                          (
                            omega (arith, w'.offsets),
                            u.1.1.1.1.1.1.1.1.1.1.1.1.1.0,
                            omega (arith, w'.zones),
                            (
                              omega (arith, w'.zones),
                              u.1.1.1.1.1.1.1.1.1.1.1.1.1.1.0,
                              omega (arith, w'.attributes),
                              (
                                omega (arith, w'.attributes),
                                u.1.1.1.1.1.1.1.1.1.1.1.1.1.1.1.0,
                                omega (arith, w'.medias),
                                tt,
                              ),
                            ),
                          ),
                        ),
                      ),
                    ),
                  ),
                ),
              ),
            ),
          ),
        ),
      ),
    ),
  ),
)

-- every cell, past a line with the number n
pub there_moves : (n : ℕ) (s s' : Session Span) → Up (rows_in s) (rows_in s') → Grew s.tables.medias s'.tables.medias → Within s → Within s'
    → (l : List ℕ) → length l ≡ cells → (i : ℕ) → Moves (there s i) (there s' i) (get_or l i 0) (get_or (stamped n s s' l) i 0) n
unfolding cell.there stamps.stamped
there_moves n s s' u g w w' l all i = go (dec_lt i 1126) (dec_lt i 1158)
  where
    past : List ℕ
    past = stamp_rows n (title_cell s') (title_rows s) (title_rows s') l

    wide : length past ≡ cells
    wide = long n s s' g w w' l all i

    -- behind all columns but the last two
    apart : 1126 ≤ i → (in_any begins (rows_in s) i ≡ false) × (in_any begins (rows_in s') i ≡ false) × (get_or (stamp_all n begins (rows_in s) (rows_in s') past) i 0 ≡ get_or past i 0)
    apart h = behind_all n i 1126 begins (rows_in s) (rows_in s') past 0 (omega (arith, wide)) h (columns s s' u w')

    -- no more than 32 medias have a title
    none : (x : Session Span) → Within x → 1158 ≤ i → marks (λ m. m.media_title) x.tables.medias (i - 1126) ≡ false
    none x v h =
        get_or-eq_default (map (λ m. given m.media_title) x.tables.medias) false
        (rw (length-map x.tables.medias (λ (m : Media Span). given m.media_title)) (omega (arith, v.medias)))

    go : Dec (i < 1126) → Dec (i < 1158)
        → Moves (in_media (λ m. m.media_title) s.tables.medias 1126 i || (in_media (λ m. m.key) s.tables.medias 1158 i || in_any begins (rows_in s) i))
        (in_media (λ m. m.media_title) s'.tables.medias 1126 i || (in_media (λ m. m.key) s'.tables.medias 1158 i || in_any begins (rows_in s') i))
        (get_or l i 0) (get_or (stamp_all n begins (rows_in s) (rows_in s') past) i 0) n
    go (yes a) b =
        rw (lt-leb 1126 i a, lt-leb 1158 i (omega arith), ← (away n s s' g w w' l all i (inl (omega arith))))
        (all_moves n i 1126 begins (rows_in s) (rows_in s') past 0 (omega (arith, wide)) (columns s s' u w'))
    go (no a) (yes b) =
        let x = apart (omega arith) in
        let m : Moves _ _ _ _ n = title_moves n s s' g w w' l all i (omega arith) in
        rw (le-leb 1126 i (omega arith), lt-leb 1158 i b, x.0, x.1, x.2, or_false (marks (λ m. m.media_title) s.tables.medias (i - 1126)), or_false (marks (λ m. m.media_title) s'.tables.medias (i - 1126))) m
    go (no a) (no b) =
        let x = apart (omega arith) in
        inl (
          rw (le-leb 1126 i (omega arith), none s w (omega arith), none s' w' (omega arith), x.0, x.1, keys_stay n s s' g w w' l all i (i - 1158)) refl,
          x.2 ∙ away n s s' g w w' l all i (inr (omega (arith, title_fits n s s' g w w' l all i))),
        )
