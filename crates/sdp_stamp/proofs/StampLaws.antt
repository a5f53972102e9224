-- After a line was taken, what is put into the cells is what the line stamped: by the shape of the line's records, and for each role.
-- Assumes nothing.
use mathlib.Core.Path.{◌≡◌, refl, sym, ap, ◌∙◌}
use mathlib.Core.Bool.{true, false}
use mathlib.Core.List.{List, [], ◌∷◌, ◌++◌}
use Prim.Native.Nat.{ℕ, ◌+◌, ◌*◌, ◌-◌, ◌≤◌, ◌<◌}
use native.Mathlib.Omega.{arith}
use native.Mathlib.Numerals.{add-one}
use lib.Dec.{ltb, leb, eqb, lit<}
use lib.ListN.{length, get_or, set, replicate, length-append, length-replicate}
use Rattle.sdp_lines.specs.declared.Span.{Span}
use Rattle.sdp_split.specs.declared.Piece.{Piece}
use Rattle.sdp_judge.specs.Read.{Read, whole_of}
use Rattle.sdp_fields.specs.Records.{origin_of, connection_of, bandwidth_of, times_of, attribute_of}
use Rattle.sdp_media_line.specs.MediaLine.{media_of}
use Rattle.sdp_lists.specs.Lists.{RepeatLine, repeat_of, zones_of}
use Rattle.sdp_cells.specs.Bytes.{num, over}
use Rattle.sdp_cells.specs.Tables.{pairs}
use Rattle.sdp_area.specs.Session.{Media, Session, Within}
use Rattle.sdp_area.specs.With
use Rattle.sdp_area.specs.With.{titled, set_last, with_medias, with_last}
use Rattle.sdp_area.specs.Area.{offsets_at, repeats_at, medias_at}
use Rattle.sdp_area.specs.Columns.{cells, cell_at, area_of}
use Rattle.sdp_area.specs.Latest
use Rattle.sdp_area.specs.Latest.{given, last_titled}
use Rattle.sdp_area.proofs.GrownLaws.{emails_count, phones_count, connections_count, bandwidths_count, times_count, repeats_count, offsets_count, zones_count, attributes_count, medias_count}
use Rattle.sdp_area.proofs.LatestLaws.{last_given_lem}
use Rattle.sdp_step.specs.Step
use Rattle.sdp_step.specs.Step.{Reading, repeated, step_role, media_connection_in, bandwidth_in, time_in, attribute_in, media_in, repeat_in}
use Rattle.sdp_media_line.specs.declared.Media as media
use Rattle.sdp_step.proofs.OnceLaws.{length_last}
use Rattle.sdp_step.proofs.GoingLaws.{Going, on, off, past-cond, past_first, past_row}
use Rattle.sdp_roles.specs.declared.Role.{Role}
use Rattle.sdp_roles.specs.declared.Role.TheVariants as role
use Rattle.sdp_stamp.specs.Stamp
use Rattle.sdp_stamp.specs.Stamp.{stamp_rows, begins, one, rows_in, title_rows, stamped}
use Rattle.sdp_stamp.specs.Put.{put_latest, put_since, column_of, put_column}
use Rattle.sdp_stamp.proofs.CellLaws.{cells_over, rows_none, rows-one, rows-length, stamped-one, stamped_two, stamped_title, stamped_none}
use Rattle.sdp_stamp.proofs.PutLaws.{latest_none, since_put}
use Rattle.std.specs.Prelude.{Ok, Err}

-- ---- in the bytes
module _ (s : Session Span) (l t : List ℕ) (all : length l ≡ cells) (n : ℕ) where
  -- the rows from i on, j in all
  rows-filled : (base most c i j : ℕ) → num 2 (area_of s l t) base ≡ j → i ≤ j → j ≤ most → c + most ≤ cells
      → put_since base most (cell_at c) i n (area_of s l t) ≡ area_of s (stamp_rows n c i j l) t
  unfolding Stamp.stamp_rows
  rows-filled base most c i j count up fits inside =
      let here : cell_at c + i * 2 ≡ cell_at (c + i) = omega arith in
      since_put (area_of s l t) base most (cell_at c) n j count i fits
      ∙ ap (λ (p : ℕ). over (area_of s l t) p (pairs (replicate (j - i) n))) here
      ∙ cells_over s l t (c + i) (replicate (j - i) n) (omega (arith, all, length-replicate (j - i) n))

  -- the latest of i + 1 rows
  row-filled : (base most c i : ℕ) → num 2 (area_of s l t) base ≡ i + 1 → i + 1 ≤ most → c + most ≤ cells
      → put_latest base most (cell_at c) n (area_of s l t) ≡ area_of s (stamp_rows n c i (i + 1) l) t
  row-filled base most c i count fits inside =
      let before : num 2 (area_of s l t) base - 1 ≡ i = omega (arith, count) in
      ap (λ (k : ℕ). put_since base most (cell_at c) k n (area_of s l t)) before
      ∙ rows-filled base most c i (i + 1) count (omega arith) fits inside

-- the latest media has the title that it Ok
pub title_there : (x : Span) (m : Media Span) (ms : List (Media Span)) → last_titled (set_last (titled x) (m ∷ ms)) ≡ true
unfolding With.set_last Latest.last_given
title_there x m [] = refl
title_there x m (y ∷ []) = refl
title_there x m (y ∷ z ∷ ms) = title_there x y (z ∷ ms)

-- ---- in a session
module _ (ρ : Reading Span) (n : ℕ) (l t : List ℕ) (all : length l ≡ cells) where
  open ρ use {session as s}

  -- a line of the role x that made s' of the session
  abbrev Put : Role → Session Span → Type 0
  Put x s' = Within s' → put_column (column_of x) (length s.tables.offsets) n (area_of s' l t) ≡ area_of s' (stamped n s s' l) t

  module _ (s' : Session Span) where
    -- a field that was not there
    field_put : (k c : ℕ) → k < 16 → get_or begins k 0 ≡ c → get_or (rows_in s) k 0 ≡ 0 → c < cells → rows_in s' ≡ set (rows_in s) k 1 → title_rows s' ≤ title_rows s
        → over (area_of s' l t) (cell_at c) (pairs (n ∷ [])) ≡ area_of s' (stamped n s s' l) t
    field_put k c h b z inside e u =
        let c0 : c + 0 ≡ c = omega arith in
        ap (λ (i : ℕ). over (area_of s' l t) (cell_at i) (pairs (n ∷ []))) (sym c0)
        ∙ cells_over s' l t (c + 0) (n ∷ []) (omega (arith, all))
        ∙ ap (λ (m : List ℕ). area_of s' m t) (sym (rw (b, z) at (stamped-one n s s' l k 1 h e u) ∙ rows-one n c 0 l))

    -- a row behind the rows xs
    row_put : {X : Type 0} (xs : List X) (x : X) (k base most c : ℕ) → k < 16 → get_or begins k 0 ≡ c → get_or (rows_in s) k 0 ≡ length xs → c + most ≤ cells
        → rows_in s' ≡ set (rows_in s) k (length (xs ++ (x ∷ []))) → title_rows s' ≤ title_rows s
        → num 2 (area_of s' l t) base ≡ length (xs ++ (x ∷ [])) → length (xs ++ (x ∷ [])) ≤ most
        → put_latest base most (cell_at c) n (area_of s' l t) ≡ area_of s' (stamped n s s' l) t
    row_put xs x k base most c h b i inside e u count fits =
        let more : length (xs ++ (x ∷ [])) ≡ length xs + 1 = length-append xs (x ∷ []) in
        row-filled s' l t all n base most c (length xs) (count ∙ more) (rw more at fits) inside
        ∙ ap (λ (m : List ℕ). area_of s' m t) (sym (rw (b, i, more) at (stamped-one n s s' l k (length (xs ++ (x ∷ []))) h e u)))

  -- ---- an r line: a repeat, and offsets behind the offsets
  repeat-put : (s' : Session Span) → rows_in s' ≡ set (set (rows_in s) 11 (length s'.tables.repeats)) 12 (length s'.tables.offsets) → title_rows s' ≤ title_rows s
      → length s'.tables.repeats ≡ length s.tables.repeats + 1 → length s.tables.offsets ≤ length s'.tables.offsets → Put role.Repeat s'
  repeat-put s' e u more up w =
      let r = length s.tables.repeats in
      let m : List ℕ = stamp_rows n 198 r (r + 1) l in
      let long : length m ≡ cells = rows-length n 198 r l (r + 1) (omega (arith, all, w.repeats, more)) ∙ all in
      ap (put_since offsets_at 256 (cell_at 262) (length s.tables.offsets) n)
      (row-filled s' l t all n repeats_at 64 198 r (repeats_count s' (pairs l ++ t) w (area_of s' l t) refl ∙ more) (rw more at w.repeats) (omega arith))
      ∙ rows-filled s' m t long n offsets_at 256 262 (length s.tables.offsets) (length s'.tables.offsets) (offsets_count s' (pairs m ++ t) w (area_of s' m t) refl) up w.offsets (omega arith)
      ∙ ap (λ (x : List ℕ). area_of s' x t) (sym (rw more at (stamped_two n s s' l 11 (length s'.tables.repeats) (length s'.tables.offsets) (lit< tt) e u)))

  -- ---- a z line, which is the first
  zones-put : (s' : Session Span) → s.tables.zones ≡ [] → rows_in s' ≡ set (rows_in s) 13 (length s'.tables.zones) → title_rows s' ≤ title_rows s → Put role.Zone s'
  zones-put s' z e u w =
      let none : length s.tables.zones ≡ 0 = ap length z in
      rows-filled s' l t all n 6232 64 518 0 (length s'.tables.zones) (zones_count s' (pairs l ++ t) w (area_of s' l t) refl) (omega arith) w.zones (omega arith)
      ∙ ap (λ (x : List ℕ). area_of s' x t) (sym (rw none at (stamped-one n s s' l 13 (length s'.tables.zones) (lit< tt) e u)))

  -- ---- an i line of the latest media, which has no title yet
  title_put : (s' : Session Span) (x : Span) → s'.tables.medias ≡ set_last (titled x) s.tables.medias → rows_in s' ≡ rows_in s → last_titled s.tables.medias ≡ false → Put role.MediaTitle s'
  unfolding With.set_last Latest.last_given
  title_put s' x is e bare w = go s.tables.medias refl
    where
      count : num 2 (area_of s' l t) medias_at ≡ length s'.tables.medias
      count = medias_count s' (pairs l ++ t) w (area_of s' l t) refl

      go : (ms : List (Media Span)) → s.tables.medias ≡ ms → put_latest medias_at 32 (cell_at 1126) n (area_of s' l t) ≡ area_of s' (stamped n s s' l) t
      go [] q =
          let empty : s'.tables.medias ≡ [] = is ∙ ap (set_last (titled x)) q in
          let k : length s'.tables.medias ≡ 0 = ap length empty in
          let less : title_rows s' ≤ title_rows s = rw empty (omega arith) in
          sym (latest_none (area_of s' l t) medias_at 32 (cell_at 1126) n (length s'.tables.medias) count k)
          ∙ ap (λ (y : List ℕ). area_of s' y t) (sym (stamped_title n s s' l e ∙ rows_none n _ (title_rows s) l (title_rows s') less))
      go (m ∷ ms) q =
          let i = length ms in
          let k : length s'.tables.medias ≡ i + 1 = ap length is ∙ length_last (titled x) s.tables.medias ∙ ap length q ∙ sym (add-one (length ms)) in
          let now : last_titled s'.tables.medias ≡ true = ap (λ (y : List (Media Span)). last_titled y) (is ∙ ap (set_last (titled x)) q) ∙ title_there x m ms in
          let c0 : 1126 + (i + 1 - 1) + 0 ≡ 1126 + i = omega arith in
          row-filled s' l t all n medias_at 32 1126 i (count ∙ k) (rw k at w.medias) (omega arith)
          ∙ ap (λ (y : List ℕ). area_of s' y t)
          (rows-one n 1126 i l ∙ ap (λ (p : ℕ). over l p (n ∷ [])) (sym c0) ∙ sym (rw (bare, now, k) at (stamped_title n s s' l e) ∙ rows-one n (1126 + (i + 1 - 1)) 0 l))

-- ---- each role
module _ (mk : Piece → Span) (ρ : Reading Span) (v : List ℕ) (n : ℕ) (l t : List ℕ) (all : length l ≡ cells) where
  open ρ use {session as s}

  abbrev PutIn : Role → Reading Span → Type 0
  PutIn x τ = Put ρ n l t all x τ.session

  -- a new media has no title
  untitled : (m : media.Media) → title_rows (with_medias s (s.tables.medias ++ (media_in mk m ∷ []))) ≤ title_rows s
  untitled m = rw (last_given_lem (λ (x : Media Span). x.media_title) s.tables.medias (media_in mk m)) (omega arith)

  same_rows : (p : Piece) → rows_in (with_last s (titled (mk p))) ≡ rows_in s
  same_rows p = ap (set (rows_in s) 15) (length_last (titled (mk p)) s.tables.medias)

  repeat_stamps : (x : Read RepeatLine) → Going (PutIn role.Repeat) (repeated mk ρ v x)
  repeat_stamps (Err w) = off _ _
  repeat_stamps (Ok r) =
      past-cond _ (ltb (length s.tables.repeats) 64) _ _
      (past-cond _ (leb (length s.tables.offsets + length r.offsets) 256) _ _
      (on _ _ (repeat-put ρ n l t all _ refl (omega arith) more (rw length-append (omega arith)))) (off _ _)) (off _ _)
    where
      more : length (s.tables.repeats ++ (repeat_in (length s.tables.times) r ∷ [])) ≡ length s.tables.repeats + 1
      more = length-append s.tables.repeats (repeat_in (length s.tables.times) r ∷ [])

  pub step_stamps : (ρ.zoned ≡ false → s.tables.zones ≡ []) → (x : Role) → Going (PutIn x) (step_role mk ρ v x)
  unfolding Step.step_role
  step_stamps z role.Origin = past_first _ 12 (given s.head.origin) (origin_of v) _ (λ e o q. on _ _ (λ w. field_put ρ n l t all _ 0 0 (lit< tt) refl (ap one e) (lit< tt) refl (omega arith)))
  step_stamps z role.Name = past_first _ 13 (given s.head.name) (whole_of 34 v) _ (λ e p q. on _ _ (λ w. field_put ρ n l t all _ 1 1 (lit< tt) refl (ap one e) (lit< tt) refl (omega arith)))
  step_stamps z role.Description = past_first _ 14 (given s.head.description) (whole_of 35 v) _ (λ e p q. on _ _ (λ w. field_put ρ n l t all _ 2 2 (lit< tt) refl (ap one e) (lit< tt) refl (omega arith)))
  step_stamps z role.Uri = past_first _ 15 (given s.head.uri) (whole_of 36 v) _ (λ e p q. on _ _ (λ w. field_put ρ n l t all _ 3 3 (lit< tt) refl (ap one e) (lit< tt) refl (omega arith)))
  step_stamps z role.Connection = past_first _ 16 (given s.head.connection) (connection_of v) _ (λ e c q. on _ _ (λ w. field_put ρ n l t all _ 4 4 (lit< tt) refl (ap one e) (lit< tt) refl (omega arith)))
  step_stamps z role.Email = past_row _ 1 16 _ (whole_of 37 v) _ (λ p q w. row_put ρ n l t all _ s.tables.emails (mk p) 6 74 16 6 (lit< tt) refl refl (omega arith) refl (omega arith) (emails_count _ _ w _ refl) w.emails)
  step_stamps z role.Phone = past_row _ 2 16 _ (whole_of 38 v) _ (λ p q w. row_put ρ n l t all _ s.tables.phones (mk p) 7 140 16 22 (lit< tt) refl refl (omega arith) refl (omega arith) (phones_count _ _ w _ refl) w.phones)
  step_stamps z role.MediaConnection = past_row _ 3 64 _ (connection_of v) _ (λ c q w. row_put ρ n l t all _ s.tables.connections (media_connection_in mk (length s.tables.medias) c) 8 206 64 38 (lit< tt) refl refl (omega arith) refl (omega arith) (connections_count _ _ w _ refl) w.connections)
  step_stamps z role.Bandwidth = past_row _ 4 64 _ (bandwidth_of v) _ (λ b q w. row_put ρ n l t all _ s.tables.bandwidths (bandwidth_in mk (length s.tables.medias) b) 9 1104 64 102 (lit< tt) refl refl (omega arith) refl (omega arith) (bandwidths_count _ _ w _ refl) w.bandwidths)
  step_stamps z role.Time = past_row _ 5 32 _ (times_of v) _ (λ x q w. row_put ρ n l t all _ s.tables.times (time_in x) 10 2002 32 166 (lit< tt) refl refl (omega arith) refl (omega arith) (times_count _ _ w _ refl) w.times)
  step_stamps z role.Attribute = past_row _ 9 512 _ (attribute_of v) _ (λ a q w. row_put ρ n l t all _ s.tables.attributes (attribute_in mk (length s.tables.medias) a) 14 7258 512 582 (lit< tt) refl refl (omega arith) refl (omega arith) (attributes_count _ _ w _ refl) w.attributes)
  step_stamps z role.Media =
      past_row _ 10 32 _ (media_of v) _ (λ m q w. row_put ρ n l t all _ s.tables.medias (media_in mk m) 15 13404 32 1094 (lit< tt) refl refl (omega arith) refl (untitled m) (medias_count _ _ w _ refl) w.medias)
  step_stamps z role.MediaTitle =
      past_first _ 18 (last_titled s.tables.medias) (whole_of 33 v) _ (λ e p q. on _ _ (title_put ρ n l t all _ (mk p) refl (same_rows p) e))
  step_stamps z role.Zone =
      past_first _ 17 ρ.zoned (zones_of v) _ (λ e zs q. past-cond _ (leb (length zs) 64) _ _ (on _ _ (zones-put ρ n l t all _ (z e) refl (omega arith))) (off _ _))
  step_stamps z role.Repeat = past-cond _ (eqb (length s.tables.times) 0) _ _ (off _ _) (repeat_stamps (repeat_of v))
  step_stamps z role.Nothing = on _ ρ (λ w. ap (λ (y : List ℕ). area_of s y t) (sym (stamped_none n s l)))
