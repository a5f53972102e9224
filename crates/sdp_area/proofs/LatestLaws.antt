-- Laws of the latest media: whether there is one, and its title.
-- Assumes nothing.
use mathlib.Core.Path.{◌≡◌, refl, sym, ap, ◌∙◌}
use mathlib.Core.Bool.{true, false, and-false}
use mathlib.Core.List.{List, [], ◌∷◌, ◌++◌, append_assoc}
use Rattle.std.specs.Prelude.{Option, Some}
use Prim.Native.Nat.{ℕ, ◌+◌, ◌*◌, ◌≤◌, ◌<◌}
use native.Mathlib.Omega.{arith}
use borrow.Author.Tests.{lt-ltb, le-ltb, le-leb, lt-leb}
use lib.Dec.{lit<}
use lib.ListN.{length, length-append}
use Rattle.sdp_lines.specs.declared.Span.{Span}
use Rattle.sdp_cells.specs.Bytes.{le, num}
use Rattle.sdp_cells.specs.Tables.{tab}
use Rattle.sdp_area.specs.Session.{Media, Session, Within}
use Rattle.sdp_area.specs.With.{with_last, set_last, with_medias, titled}
use Rattle.sdp_area.specs.Area.{span, opt, key_bytes, media_row, cat, segments, encode, medias_at}
use Rattle.sdp_area.specs.Latest.{any_media, title_at, over_title, mark_title, given, last_given, last_titled}
use Rattle.sdp_cells.proofs.ByteLaws.{over_at, length-le}
use Rattle.sdp_cells.proofs.TableLaws.{front, back, tab_count, length_front, last_view}
use Rattle.sdp_area.proofs.SegmentLaws.{cat_view}
use Rattle.sdp_area.proofs.WidthLaws.{length-span, length-opt, length-maybe, length-media, begins}
use Rattle.sdp_area.proofs.WidthLaws as area
use Rattle.sdp_area.proofs.HeadLaws.{mark_at}

-- ---- whether there is one, by the count n
module _ (a : List ℕ) (n : ℕ) (count : n ≡ num 2 a medias_at) where
  pub none_there : n ≡ 0 → any_media a ≡ false
  none_there h = rw (← count, le-ltb 0 n (omega arith))

  pub too_many : 32 < n → any_media a ≡ false
  too_many h = rw (← count, lt-leb n 32 h, and-false)

  pub one-there : 0 < n → n ≤ 32 → any_media a ≡ true
  one-there h l = rw (← count, lt-ltb 0 n h, le-leb n 32 l)

-- ---- the last of a list
record Last {X : Type 0} (l : List X) : Type 0 where
  before : List X
  last : X
  is : l ≡ before ++ (last ∷ [])
  count : length before + 1 ≡ length l

last_of : {X : Type 0} (x : X) (xs : List X) → Last (x ∷ xs)
last_of x [] = record { before = []; last = x; is = refl; count = refl }
last_of x (y ∷ ys) =
    let r = last_of y ys in
    record { before = x ∷ r.before; last = r.last; is = ap (λ l. x ∷ l) r.is; count = omega arith }

pub set_last_lem : {X : Type 0} (g : X → X) (us : List X) (x : X) → set_last g (us ++ (x ∷ [])) ≡ us ++ (g x ∷ [])
unfolding set_last
set_last_lem g [] x = refl
set_last_lem g (u ∷ []) x = refl
set_last_lem g (u ∷ v ∷ us) x = ap (λ l. u ∷ l) (set_last_lem g (v ∷ us) x)

pub last_given_lem : {X Y : Type 0} (o : X → Option Y) (us : List X) (x : X) → last_given o (us ++ (x ∷ [])) ≡ given (o x)
unfolding last_given
last_given_lem o [] x = refl
last_given_lem o (u ∷ []) x = refl
last_given_lem o (u ∷ v ∷ us) x = last_given_lem o (v ∷ us) x

-- ---- the title in a media's row, what stands before it and what behind it
abbrev before_title : Media Span → List ℕ
before_title m = span m.media ++ (le 2 m.port ++ (opt 2 (le 2) m.num_ports ++ (span m.proto ++ span m.fmt)))

abbrev behind_title : Media Span → List ℕ
behind_title m = opt 10 key_bytes m.key

title_row : (m : Media Span) → media_row m ≡ before_title m ++ (opt 4 span m.media_title ++ behind_title m)
unfolding media_row
title_row m = simp append_assoc

title_long : (m : Media Span) → length (before_title m) ≡ 18
title_long m = simp (length-append, length-le, length-span, length-opt 2 (le 2) (length-le 2))

-- p stands before the table of medias, q behind it
abbrev all : List ℕ → List ℕ → List (Media Span) → List ℕ
all p q ms = p ++ (tab 32 36 media_row ms ++ q)

module _ (p q : List ℕ) (here : length p ≡ medias_at) where
  count : (ms : List (Media Span)) → length ms ≤ 32 → num 2 (all p q ms) medias_at ≡ length ms
  count ms within = tab_count media_row 32 36 ms p q medias_at (omega arith) here

  no_media : any_media (all p q []) ≡ false
  no_media = none_there (all p q []) 0 (sym (count [] (omega arith))) refl

  module _ (us : List (Media Span)) (room : length us < 32) (x : Media Span) where
    count_last : num 2 (all p q (us ++ (x ∷ []))) medias_at ≡ length us + 1
    count_last = count (us ++ (x ∷ [])) (rw length-append (omega arith)) ∙ length-append us (x ∷ [])

    there : any_media (all p q (us ++ (x ∷ []))) ≡ true
    there = one-there (all p q (us ++ (x ∷ []))) (length us + 1) (sym count_last) (omega arith) (omega arith)

    title_at_lem : title_at (all p q (us ++ (x ∷ []))) ≡ medias_at + (2 + (length us * 36 + length (before_title x)))
    title_at_lem = rw (count_last, title_long x) (omega arith)

    -- what stands before the title and what behind it
    before : List ℕ
    before = front media_row p us (before_title x)

    behind : List ℕ
    behind = back 32 36 us q (behind_title x)

    long : length before ≡ medias_at + (2 + (length us * 36 + length (before_title x)))
    unfolding before
    long = length_front media_row 32 36 length-media p q medias_at here us room (before_title x)

    view : (y : Media Span) (m : List ℕ) → media_row y ≡ before_title x ++ (m ++ behind_title x) → all p q (us ++ (y ∷ [])) ≡ before ++ (m ++ behind)
    unfolding before behind
    view y m e = last_view media_row 32 36 length-media p q medias_at here us room y (before_title x) m (behind_title x) e

    latest-mark : mark_title (all p q (us ++ (x ∷ []))) ≡ given x.media_title
    unfolding mark_title
    latest-mark = rw (there, title_at_lem, view x (opt 4 span x.media_title) (title_row x)) (mark_at 4 span x.media_title before behind _ long)

    latest-set : (t : Span) → over_title (all p q (us ++ (x ∷ []))) (le 2 1 ++ span t) ≡ all p q (us ++ (titled t x ∷ []))
    unfolding over_title opt
    latest-set t =
        rw (there, title_at_lem, view x (opt 4 span x.media_title) (title_row x), view (titled t x) (le 2 1 ++ span t) (title_row (titled t x)))
        (over_at before (opt 4 span x.media_title) behind (le 2 1 ++ span t) _ long (length-maybe x.media_title ∙ sym (length-maybe (Some t))))

  -- ---- the same of any list of medias
  any_mark : (ms : List (Media Span)) → length ms ≤ 32 → mark_title (all p q ms) ≡ last_titled ms
  unfolding mark_title last_given
  any_mark [] within = rw no_media
  any_mark (m ∷ ms) within =
      let r = last_of m ms in
      ap (λ (l : List (Media Span)). mark_title (all p q l)) r.is
      ∙ latest-mark r.before (omega arith) r.last
      ∙ sym (ap last_titled r.is ∙ last_given_lem (λ (n : Media Span). n.media_title) r.before r.last)

  any_set : (t : Span) (ms : List (Media Span)) → length ms ≤ 32 → over_title (all p q ms) (le 2 1 ++ span t) ≡ all p q (set_last (titled t) ms)
  unfolding over_title set_last
  any_set t [] within = rw no_media
  any_set t (m ∷ ms) within =
      let r = last_of m ms in
      ap (λ (l : List (Media Span)). over_title (all p q l) (le 2 1 ++ span t)) r.is
      ∙ latest-set r.before (omega arith) r.last t
      ∙ ap (all p q) (sym (ap (set_last (titled t)) r.is ∙ set_last_lem (titled t) r.before r.last))

-- ---- of a session
module _ (s : Session Span) (t : List ℕ) (ok : Within s) (a : List ℕ) (is : a ≡ encode s ++ t) where
  with_medias_lem : (ms : List (Media Span)) → encode (with_medias s ms) ++ t ≡ all (area.before s 15) t ms
  unfolding encode cat
  with_medias_lem ms = cat_view (segments (with_medias s ms)) 15 (lit< tt) t

  pub title_mark : mark_title a ≡ last_titled s.tables.medias
  title_mark = rw (is, with_medias_lem s.tables.medias) (any_mark (area.before s 15) t (begins s 15) s.tables.medias ok.medias)

  pub title_set : (x : Span) → over_title a (le 2 1 ++ span x) ≡ encode (with_last s (titled x)) ++ t
  title_set x =
      rw (is, with_medias_lem s.tables.medias, with_medias_lem (set_last (titled x) s.tables.medias))
      (any_set (area.before s 15) t (begins s 15) x s.tables.medias ok.medias)
