-- Lines put in raise the empty and the ignored lines of a text, each line by one; the kept ones stay. Assumes nothing.
use mathlib.Core.Path.{◌≡◌, refl, ap}
use mathlib.Core.List.{List}
use Prim.Native.Nat.{ℕ, ◌+◌}
use native.Mathlib.Omega.{arith}
use Rattle.sdp_bytes.specs.Runs
use Rattle.sdp_lines.specs.Lines
use Rattle.sdp_lines.specs.Lines.{split, form_of, Form}
use Rattle.std.specs.Prelude.{Some, None, Ok, Err}
use Rattle.sdp_roles.specs.Kinds.{kind_of, by_kind}
use Rattle.sdp_roles.specs.declared.Role.{Role}
use Rattle.sdp_counts.specs.Count
use Rattle.sdp_counts.specs.Count.{role_of, uses, opens, blanks, idles, empty_lines, used_from, ignored_from, counts_of}
use Rattle.sdp_insert.specs.Insert.{ended_form, Idle, InsertedFrom, same, keep, put, Inserted, blank, begun, alone, put_from, Rise}
use Rattle.sdp_insert.proofs.SplitLaws.{split-line}

-- a line that may be put in: it is empty or without use, never both, and opens no media
record Unused (medias : ℕ) (f : Form) : Type 0 where
  used : uses (role_of medias f) ≡ 0
  opened : opens (role_of medias f) ≡ 0
  once : blanks f + idles medias f ≡ 1

unused : (medias : ℕ) (f : Form) → Idle medias f → Unused medias f
unused medias (Ok None) u = record { used = refl; opened = refl; once = refl }
unused medias (Ok (Some c)) u =
    let e : idles medias (Ok (Some c)) ≡ 1 = ap (λ (x : Role). by_kind {A = ℕ} (kind_of x) 1 0 0) u in
    record { used = ap uses u; opened = ap opens u; once = omega (arith, e) }
unused medias (Err f) u = absurd u

-- ---- after the version line
record RiseFrom {medias : ℕ} {t t' : List ℕ} (i : InsertedFrom medias t t') : Type 0 where
  empty : empty_lines (split t') ≡ empty_lines (split t) + put_from (λ m f. blanks f) i
  ignored : ignored_from medias (split t') ≡ ignored_from medias (split t) + put_from (λ m f. idles m f) i
  used : used_from medias (split t') ≡ used_from medias (split t)
  exactly : put_from (λ m f. blanks f) i + put_from (λ m f. idles m f) i ≡ put_from (λ m f. 1) i

from_rise : {medias : ℕ} {t t' : List ℕ} (i : InsertedFrom medias t t') → RiseFrom i
unfolding Count.empty_lines Count.sum_from
from_rise (same medias t) = record { empty = omega arith; ignored = omega arith; used = refl; exactly = refl }
from_rise (keep {t = t} {t' = t'} l h i) =
    let ih = from_rise i in
    record {
      empty = rw (split-line l t h, split-line l t' h) (omega (arith, ih.empty));
      ignored = rw (split-line l t h, split-line l t' h) (omega (arith, ih.ignored));
      used = rw (split-line l t h, split-line l t' h) (omega (arith, ih.used));
      exactly = ih.exactly;
    }
from_rise (put {medias = medias} {t' = t'} l h u i) =
    let ih = from_rise i in
    let x = unused medias (ended_form l) u in
    let m : medias + opens (role_of medias (ended_form l)) ≡ medias = omega (arith, x.opened) in
    record {
      empty = rw (split-line l t' h) (omega (arith, ih.empty));
      ignored = rw (split-line l t' h, m) (omega (arith, ih.ignored));
      used = rw (split-line l t' h, m) (omega (arith, x.used, ih.used));
      exactly = omega (arith, x.once, ih.exactly);
    }

-- ---- a text
pub text-rise : {t t' : List ℕ} (i : Inserted t t') → Rise i (counts_of t) (counts_of t')
unfolding Count.empty_lines Count.ignored_lines Count.kept_lines Lines.form_of Lines.has_nul_or_cr Lines.plain_form Runs.index_of
text-rise (blank {t = t} {t' = t'} l h e i) =
    let ih = text-rise i in
    let f : ended_form l ≡ Ok None = ap form_of e in
    record {
      empty = rw (split-line l t h, split-line l t' h) (omega (arith, ih.empty));
      ignored = rw (split-line l t h, split-line l t' h, f) ih.ignored;
      kept = rw (split-line l t h, split-line l t' h, f) ih.kept;
      exactly = ih.exactly;
    }
text-rise (begun {t = t} {t' = t'} l h e i) =
    let r = from_rise i in
    let f : ended_form l ≡ Ok (Some 0x76) = ap form_of e in
    record {
      empty = rw (split-line l t h, split-line l t' h) (omega (arith, r.empty));
      ignored = rw (split-line l t h, split-line l t' h, f) r.ignored;
      kept = rw (split-line l t h, split-line l t' h, f) (omega (arith, r.used));
      exactly = r.exactly;
    }
text-rise alone = record { empty = omega arith; ignored = omega arith; kept = refl; exactly = refl }
