-- Each line of an accepted text is empty, ignored or kept, and only one of these. Assumes nothing.
use Prim.Native.Nat.{ℕ, suc, ◌+◌, ◌<◌}
use native.Mathlib.Omega.{arith}
use mathlib.Core.Path.{◌≡◌, refl, ap, ◌∙◌}
use mathlib.Core.Bool.{Bool, true, false, cond}
use mathlib.Core.List.{List, [], ◌∷◌}
use lib.Dec.{ltb, eqb}
use lib.ListN.{length, drop}
use Rattle.sdp_numbers.specs.Refusals.{longest_text}
use Rattle.sdp_lines.specs.Lines.{Raw, split, content, width, form_of, Form}
use Rattle.sdp_lines.specs.declared.Span.{Span}
use Rattle.std.specs.Prelude.{Some, None, Ok, Err}
use Rattle.sdp_area.specs.Session.{Session}
use Rattle.sdp_area.specs.Columns.{area_size}
use Rattle.sdp_roles.specs.Roles.{role_at}
use Rattle.sdp_roles.specs.Kinds.{Kind, unused, media, other, kind_of, by_kind}
use Rattle.sdp_strings.specs.Strings.{span_at}
use Rattle.sdp_step.specs.Step.{Reading, Stepped, goes, stops, fresh}
use Rattle.sdp_counts.specs.Count
use Rattle.sdp_counts.specs.Count.{role_of, uses, opens, blanks, idles, empty_lines, used_from, ignored_from, from_version, kept_lines, ignored_lines, counts_of, no_counts, line_count}
use Rattle.sdp_counts.proofs.CountLaws.{split_count}
use Rattle.sdp_read.specs.Run
use Rattle.sdp_read.specs.Run.{Verdict, accepted, refused, no_version, bad_version, is_zero, Outcome, outcome_of, untouched, after, step_form, run, version, begin_form, begin, lines, read_text}
use Rattle.sdp_same.proofs.SameLaws.{read_is, read_fits, read_then_write}
use Rattle.sdp_account.specs.Account.{all_of, Accounts}

-- ---- the lines after the version
kind_once : (k : Kind) → by_kind k 1 0 0 + by_kind k 0 1 1 ≡ 1
kind_once unused = refl
kind_once media = refl
kind_once other = refl

-- an accepted line is not of bad form
module _ (s : Session Span) (ρ : Reading Span) (n p : ℕ) (l : List ℕ) (k : Reading Span → Verdict Span) where
  line-once : (m : ℕ) (f : Form) → after span_at (step_form span_at ρ p l f) n (p + 2) k ≡ accepted s → blanks f + idles m f + uses (role_of m f) ≡ 1
  line-once m (Ok None) e = refl
  line-once m (Ok (Some c)) e = omega (arith, kind_once (kind_of (role_at m c)))
  line-once m (Err f) e = absurd (let z : ◌≡◌ {A = ℕ} 0 1 = cc in omega arith)

goes_on : (s : Session Span) (n p : ℕ) (k : Reading Span → Verdict Span) (σ : Stepped Span) → after span_at σ n p k ≡ accepted s → (τ : Reading Span) × (k τ ≡ accepted s)
goes_on s n p k (goes τ) e = (τ, e)
goes_on s n p k (stops w) e = absurd (let z : ◌≡◌ {A = ℕ} 0 1 = cc in omega arith)

run-once : (rs : List Raw) (m : ℕ) (s : Session Span) (ρ : Reading Span) (n p : ℕ) → run span_at ρ n p rs ≡ accepted s
    → empty_lines rs + ignored_from m rs + used_from m rs ≡ length rs
unfolding Run.run Count.empty_lines Count.sum_from
run-once [] m s ρ n p e = refl
run-once (r ∷ rs) m s ρ n p e =
    let k : Reading Span → Verdict Span = λ τ. run span_at τ (n + 1) (p + width r) rs in
    let f = form_of (content r) in
    let g = goes_on s n (p + 2) k (step_form span_at ρ p (content r) f) e in
    omega (arith, line-once s ρ n p (content r) k m f e, run-once rs (m + opens (role_of m f)) s g.0 (n + 1) (p + width r) g.1)

-- ---- and from the first line on: the version line is kept
version_on : (s : Session Span) (n p : ℕ) (v : List ℕ) (c : ℕ) (k : Verdict Span) → version span_at n p v c k ≡ accepted s → k ≡ accepted s
version_on s n p v c k = go (eqb c 0x76) (is_zero v)
  where
    go : (a b : Bool) → cond a (cond b k (refused (bad_version n p (length v)))) (refused no_version) ≡ accepted s → k ≡ accepted s
    go true true e = e
    go true false e = absurd (let z : ◌≡◌ {A = ℕ} 0 1 = cc in omega arith)
    go false b e = absurd (let z : ◌≡◌ {A = ℕ} 0 1 = cc in omega arith)

begin-once : (rs : List Raw) (s : Session Span) (n p : ℕ) → begin span_at n p rs ≡ accepted s → empty_lines rs + ignored_lines rs + kept_lines rs ≡ length rs
unfolding Run.begin Count.empty_lines Count.ignored_lines Count.kept_lines
begin-once [] s n p e = refl
begin-once (r ∷ rs) s n p e = form (form_of (content r)) (begin-once rs s (n + 1) (p + width r)) e
  where
    later : Verdict Span
    later = run span_at fresh (n + 1) (p + width r) rs

    form : (f : Form) → (begin span_at (n + 1) (p + width r) rs ≡ accepted s → empty_lines rs + ignored_lines rs + kept_lines rs ≡ length rs)
        → begin_form span_at n p (content r) f (begin span_at (n + 1) (p + width r) rs) later ≡ accepted s
        → blanks f + empty_lines rs + from_version f (ignored_lines rs) (ignored_from 0 rs) + from_version f (kept_lines rs) (1 + used_from 0 rs) ≡ suc (length rs)
    form (Ok None) ih e = omega (arith, ih e)
    form (Ok (Some c)) ih e = omega (arith, run-once rs 0 s fresh (n + 1) (p + width r) (version_on s n (p + 2) (drop 2 (content r)) c later e))
    form (Err f) ih e = absurd (let z : ◌≡◌ {A = ℕ} 0 1 = cc in omega arith)

lines-once : (t : List ℕ) (s : Session Span) → lines span_at t ≡ accepted s → all_of (counts_of t) ≡ line_count t
unfolding Run.lines
lines-once t s e = begin-once (split t) s 1 0 e ∙ split_count t

-- ---- over the promise of read
module _ (t a : List ℕ) where
  refused_none : 0 < (read_text t a).answer.number → (read_text t a).counts ≡ no_counts
  unfolding Run.read_text
  refused_none = go (ltb (length a) area_size) (ltb longest_text (length t)) (lines span_at t)
    where
      result : Bool → Bool → Verdict Span → Outcome
      result b c v = cond b (untouched a 2) (cond c (untouched a 1) (outcome_of t a v))

      go : (b c : Bool) (v : Verdict Span) → 0 < (result b c v).answer.number → (result b c v).counts ≡ no_counts
      go true c v h = refl
      go false true v h = refl
      go false false (refused x) h = refl
      go false false (accepted s) h = absurd (omega arith)

  -- "together they make the number of lines"; "A refusal returns zeros"
  pub counted : Accounts t a
  counted = record {
    accepted = λ h.
        let r = read_then_write t a [] h in
        let f = read_fits t a h in
        let c : (read_text t a).counts ≡ counts_of t = ap (λ o. o.counts) (read_is t a f.0 f.1 _ r.read) in
        (c, ap all_of c ∙ lines-once t r.session r.read);
    refused = refused_none;
  }
