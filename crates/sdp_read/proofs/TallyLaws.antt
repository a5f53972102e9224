-- The counts of lines, one line at a time.
-- Assumes nothing.
use Prim.Native.Nat.{ℕ, ◌+◌}
use native.Mathlib.Omega.{arith}
use mathlib.Core.Path.{◌≡◌, refl, ap}
use mathlib.Core.List.{List, [], ◌∷◌}
use Rattle.sdp_lines.specs.Lines.{Raw, content, form_of}
use Rattle.std.specs.Prelude.{Some, None, Ok}
use Rattle.sdp_roles.specs.Roles.{role_at}
use Rattle.sdp_roles.specs.Kinds.{Kind, unused, media, other, kind_of, by_kind}
use Rattle.sdp_counts.specs.Count
use Rattle.sdp_counts.specs.Count.{opens, empty_lines, used_from, ignored_from, ignored_lines, kept_lines, count_lines, no_counts}
use Rattle.sdp_counts.specs.declared.Counts.{Counts}
use Rattle.sdp_turn.specs.Turn.{one_empty, one_kept, one_of}

-- both together
abbrev pub plus : Counts → Counts → Counts
plus k c = record { empty = k.empty + c.empty; ignored = k.ignored + c.ignored; kept = k.kept + c.kept }

-- the lines after the version line and that many medias
abbrev pub count_from : ℕ → List Raw → Counts
count_from medias rs = record { empty = empty_lines rs; ignored = ignored_from medias rs; kept = used_from medias rs }

counts_are : {a a' b b' c c' : ℕ} → a ≡ a' → b ≡ b' → c ≡ c' → ◌≡◌ {A = Counts} (record { empty = a; ignored = b; kept = c }) (record { empty = a'; ignored = b'; kept = c' })
counts_are p q r = λ d. record { empty = p d; ignored = q d; kept = r d }

pub plus_none : (c : Counts) → c ≡ plus no_counts c
plus_none c = counts_are (omega arith) (omega arith) (omega arith)

pub none_left : (k : Counts) (medias : ℕ) → plus k (count_from medias []) ≡ k
unfolding Count.empty_lines Count.sum_from
none_left k medias = counts_are (omega arith) (omega arith) (omega arith)

module _ (k : Counts) (r : Raw) (rs : List Raw) where
  pub blank_above : form_of (content r) ≡ Ok None → plus k (count_lines (r ∷ rs)) ≡ plus (one_empty k) (count_lines rs)
  unfolding Count.empty_lines Count.ignored_lines Count.kept_lines
  blank_above e = rw e (counts_are (omega arith) refl refl)

  pub version_first : (l : ℕ) → form_of (content r) ≡ Ok (Some l) → plus k (count_lines (r ∷ rs)) ≡ plus (one_kept k) (count_from 0 rs)
  unfolding Count.empty_lines Count.ignored_lines Count.kept_lines
  version_first l e = rw e (counts_are (omega arith) refl (omega arith))

  module _ (medias : ℕ) where
    pub blank_next : form_of (content r) ≡ Ok None → plus k (count_from medias (r ∷ rs)) ≡ plus (one_empty k) (count_from medias rs)
    unfolding Count.empty_lines Count.sum_from
    blank_next e =
        let m : medias + 0 ≡ medias = omega arith in
        rw e (counts_are (omega arith) (omega (arith, ap (λ (n : ℕ). ignored_from n rs) m)) (omega (arith, ap (λ (n : ℕ). used_from n rs) m)))

    pub good_next : (l : ℕ) → form_of (content r) ≡ Ok (Some l) → plus k (count_from medias (r ∷ rs)) ≡ plus (one_of (kind_of (role_at medias l)) k) (count_from (medias + opens (role_at medias l)) rs)
    unfolding Count.empty_lines Count.sum_from
    good_next l e = rw e (go (kind_of (role_at medias l)))
      where
        go : (x : Kind) → plus k (record { empty = 0 + empty_lines rs; ignored = by_kind x 1 0 0 + ignored_from (medias + by_kind x 0 1 0) rs; kept = by_kind x 0 1 1 + used_from (medias + by_kind x 0 1 0) rs })
            ≡ plus (one_of x k) (count_from (medias + by_kind x 0 1 0) rs)
        go unused = counts_are (omega arith) (omega arith) (omega arith)
        go media = counts_are (omega arith) (omega arith) (omega arith)
        go other = counts_are (omega arith) (omega arith) (omega arith)
