-- The answers of `unfit` by cases, and what a session that fits has. Assumes nothing.
use mathlib.Core.Path.{◌≡◌, refl, sym, ap, ◌∙◌}
use mathlib.Core.Bool.{Bool, true, false, ◌&&◌, and-false, cond}
use mathlib.Core.List.{List}
use Prim.Native.Nat.{ℕ, ◌≤◌, ◌<◌}
use native.Mathlib.Omega.{arith}
use lib.ListN.{length}
use lib.Dec.{ltb, eqb}
use borrow.Author.Tests.{lt-ltb, le-ltb, ltb-false}
use Rattle.sdp_bytes.proofs.ScanLaws.{and_left, and_right}
use Rattle.std.specs.Prelude.{Result, Ok, Err}
use Rattle.sdp_numbers.specs.Refusals.{longest_text}
use Rattle.sdp_area.specs.Area.{size}
use Rattle.sdp_area.specs.Columns.{area_size}
use Rattle.sdp_valid.specs.Judge as judge
use Rattle.sdp_valid.specs.Judge.{small_counts, large_counts, owners, fine_head, fine_tables, well_formed}
use Rattle.sdp_valid.specs.Counted.{Counted}
use Rattle.sdp_valid.proofs.JudgeLaws.{counts_known}
use Rattle.sdp_stamp_valid.specs.Fine.{fine_lines}
use Rattle.sdp_unfit.specs.Unfit.{unfit}
use Rattle.sdp_unfit.specs.Number.{number_of, refusal}
use Rattle.sdp_unfit.specs.declared.Misfit.{Misfit}
use Rattle.sdp_unfit.specs.declared.Misfit.TheVariants.{AreaTooShort, TextTooLong, BadSession}

-- no refusal has the number 0
pub numbered : (n : ℕ) (why : Misfit) → n ≡ number_of why → n ≡ 0 → ⊥
numbered n AreaTooShort e z = omega (arith, e, z)
numbered n TextTooLong e z = omega (arith, e, z)
numbered n BadSession e z = omega (arith, e, z)

-- the number tells a refusal
refused_by : ℕ → Result Unit Misfit
refused_by n = cond (eqb n 2) (Err AreaTooShort) (cond (eqb n 1) (Err TextTooLong) (cond (eqb n 23) (Err BadSession) (Ok tt)))

refused_by-refusal : (r : Result Unit Misfit) → refused_by (refusal r) ≡ r
unfolding refused_by
refused_by-refusal (Ok u) = refl
refused_by-refusal (Err AreaTooShort) = refl
refused_by-refusal (Err TextTooLong) = refl
refused_by-refusal (Err BadSession) = refl

pub refusal_tells : (r r' : Result Unit Misfit) → refusal r ≡ refusal r' → r ≡ r'
refusal_tells r r' e = sym (refused_by-refusal r) ∙ ap refused_by e ∙ refused_by-refusal r'

module _ (t a : List ℕ) where
  -- the rows of a session that is well formed lie in the area
  pub formed_counted : size ≤ length a → well_formed a t ≡ true → Counted a
  unfolding judge.well_formed
  formed_counted p h = counts_known a p (and_left (small_counts a) _ h) (and_left (large_counts a) _ (and_right (small_counts a) _ h))

  pub area_short : length a < area_size → unfit t a ≡ 2
  unfolding unfit
  area_short h = rw (lt-ltb (length a) area_size h)

  module _ (p : area_size ≤ length a) where
    pub text_long : longest_text < length t → unfit t a ≡ 1
    unfolding unfit
    text_long h = rw (le-ltb (length a) area_size p, lt-ltb longest_text (length t) h)

    module _ (q : length t ≤ longest_text) where
      pub bad_session_lem : well_formed a t ≡ false → unfit t a ≡ 23
      unfolding unfit
      bad_session_lem h = rw (le-ltb (length a) area_size p, le-ltb longest_text (length t) q, h)

      pub bad_lines : fine_lines a ≡ false → unfit t a ≡ 23
      unfolding unfit
      bad_lines h = rw (le-ltb (length a) area_size p, le-ltb longest_text (length t) q, h, and-false)

      pub fit : well_formed a t ≡ true → fine_lines a ≡ true → unfit t a ≡ 0
      unfolding unfit
      fit h l = rw (le-ltb (length a) area_size p, le-ltb longest_text (length t) q, h, l)

  -- a session that fits: the area is long enough, and the session is well formed
  fit_both : unfit t a ≡ 0 → (ltb (length a) area_size ≡ false) × (well_formed a t ≡ true)
  unfolding unfit
  fit_both = go (ltb (length a) area_size) (ltb longest_text (length t)) (well_formed a t) (fine_lines a)
    where
      go : (s l f g : Bool) → ◌≡◌ {A = ℕ} (cond s 2 (cond l 1 (cond (f && g) 0 23))) 0 → (s ≡ false) × (f ≡ true)
      go true l f g e = absurd (omega (arith, e))
      go false true f g e = absurd (omega (arith, e))
      go false false true g e = (refl, refl)
      go false false false g e = absurd (omega (arith, e))

  pub fit_formed : unfit t a ≡ 0 → well_formed a t ≡ true
  fit_formed e = (fit_both e).1

  -- its rows lie in the area
  pub fit-counted : unfit t a ≡ 0 → Counted a
  fit-counted e =
      let h = fit_both e in
      let p = ltb-false (length a) area_size h.0 in
      formed_counted (omega arith) h.1

  -- its owners never fall
  pub fit-owned : unfit t a ≡ 0 → owners a ≡ true
  unfolding judge.well_formed
  fit-owned e = and_left (owners a) (fine_head a t && fine_tables a t) (and_right (large_counts a) _ (and_right (small_counts a) _ (fit_formed e)))
