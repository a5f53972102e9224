-- Laws of cut_at: what the cursor's code has at hand, and what it is to show.
-- Assumes nothing.
use Prim.Native.Nat.{ℕ, ◌+◌, ◌-◌, ◌≤◌, ◌<◌}
use mathlib.Core.Path.{◌≡◌, refl, sym, ap, ◌∙◌}
use mathlib.Core.List.{List}
use mathlib.Core.Bool.{Bool, true, false, cond}
use native.Mathlib.Omega.{arith}
use lib.ListN.{length, take, drop, length-drop, drop_of_length-le}
use Rattle.sdp_bytes.proofs.ScanLaws.{rest_from}
use Rattle.sdp_lines.specs.Lines.{Raw, split, content, width, has_nul_or_cr, plain_form, form_of, next_line, cut_form, cut_at, Form}
use Rattle.sdp_lines.specs.Quick.{first_raw, first_of}
use Rattle.sdp_lines.specs.declared.Cursor.{Cursor}
use Rattle.sdp_lines.specs.declared.Fault.{Fault}
use Rattle.sdp_lines.specs.declared.Fault.TheVariants.{NulOrCr}
use Rattle.std.specs.Prelude.{Some, None, Result, Ok, Err}
use Rattle.sdp_lines.specs.declared.Cut.TheVariants.{Line, Empty, Refused, End}
use Rattle.sdp_lines.proofs.LineLaws.{content-le, width-le, split_at_place, content-front, good_long}

pub cut_end : (s : List ℕ) (c : Cursor) → length s ≤ c.at.0 → End ≡ cut_at s c
unfolding cut_at split
cut_end s c h = rw (drop_of_length-le s h)

-- what first_of's two answers say
first_clear : (s : List ℕ) (n w : ℕ) → first_of s ≡ Ok (n, w) → (has_nul_or_cr (content (first_raw s)) ≡ false) × (n ≡ length (content (first_raw s))) × (w ≡ width (first_raw s))
unfolding first_of
first_clear s n w = go (has_nul_or_cr (content (first_raw s))) refl
  where
    go : (t : Bool) → has_nul_or_cr (content (first_raw s)) ≡ t → cond {A = Result (ℕ × ℕ) Fault} t (Err NulOrCr) (Ok (length (content (first_raw s)), width (first_raw s))) ≡ Ok (n, w)
        → (has_nul_or_cr (content (first_raw s)) ≡ false) × (n ≡ length (content (first_raw s))) × (w ≡ width (first_raw s))
    go true p e = absurd (let z : ◌≡◌ {A = ℕ} 0 1 = cc in omega arith)
    go false p e =
        let q : ◌≡◌ {A = ℕ × ℕ} (length (content (first_raw s)), width (first_raw s)) (n, w) = cc in
        (p, sym (ap (λ (u : ℕ × ℕ). u.0) q), sym (ap (λ (u : ℕ × ℕ). u.1) q))

first_spoilt : (s : List ℕ) (f : Fault) → first_of s ≡ Err f → (has_nul_or_cr (content (first_raw s)) ≡ true) × (f ≡ NulOrCr)
unfolding first_of
first_spoilt s f = go (has_nul_or_cr (content (first_raw s)))
  where
    go : (t : Bool) → cond {A = Result (ℕ × ℕ) Fault} t (Err NulOrCr) (Ok (length (content (first_raw s)), width (first_raw s))) ≡ Err f → (t ≡ true) × (f ≡ NulOrCr)
    go true e = (refl, (cc))
    go false e = absurd (let z : ◌≡◌ {A = ℕ} 0 1 = cc in omega arith)

-- x is what first_line answers for the part of the text from the cursor on
module _ (s : List ℕ) (c : Cursor) (h : c.at.0 < length s) (x : Result (ℕ × ℕ) Fault) (e : x ≡ first_of (take (length s - c.at.0) (drop c.at.0 s))) where
  abbrev raw : Raw
  raw = first_raw (drop c.at.0 s)

  x_is : x ≡ first_of (drop c.at.0 s)
  x_is = rw (rest_from s c.at.0) at e

  cut_is : cut_at s c ≡ cut_form c raw (form_of (content raw))
  unfolding cut_at
  cut_is = rw (split_at_place s c.at.0 h)

  pub cut_spoilt : (f : Fault) → x ≡ Err f → Refused f c.line ≡ cut_at s c
  unfolding form_of
  cut_spoilt f q = let e = first_spoilt (drop c.at.0 s) f (sym x_is ∙ q) in rw (cut_is, e.0, e.1)

  module _ (n w : ℕ) (q : x ≡ Ok (n, w)) where
    facts : (has_nul_or_cr (content raw) ≡ false) × (n ≡ length (content raw)) × (w ≡ width raw)
    facts = first_clear (drop c.at.0 s) n w (sym x_is ∙ q)

    pub whole-fits : (c.at.0 + w ≤ length s) × (n ≤ w)
    whole-fits =
        omega (arith, facts.1, facts.2, content-le raw, width-le (drop c.at.0 s), length-drop c.at.0 s)

    -- f is the form of the part that is judged
    module _ (f : Form) (j : f ≡ plain_form (take (c.at.0 + n - c.at.0) (drop c.at.0 s))) where
      judged_is : f ≡ form_of (content raw)
      unfolding form_of
      judged_is =
          let k : c.at.0 + n - c.at.0 ≡ length (content raw) = omega (arith, facts.1) in
          (rw (k, content-front (drop c.at.0 s)) at j) ∙ rw facts.0

      by_form : (g : Form) → f ≡ g → cut_form c raw g ≡ cut_at s c
      by_form g p = ap (λ (k : Form). cut_form c raw k) (sym p ∙ judged_is) ∙ sym cut_is

      pub good_has_two : (l : ℕ) → f ≡ Ok (Some l) → 2 ≤ n
      good_has_two l g =
          let k : c.at.0 + n - c.at.0 ≡ length (content raw) = omega (arith, facts.1) in
          omega (arith, facts.1, good_long (content raw) l (sym (rw (k, content-front (drop c.at.0 s)) at j) ∙ g))

      -- m is the next line's number
      module _ (m : ℕ) (z : m ≡ next_line c.line.0) where
        abbrev next : Cursor
        next = record { at = record { 0 = c.at.0 + w }; line = record { 0 = m } }

        pub cut_blank : f ≡ Ok None → Empty next ≡ cut_at s c
        cut_blank p = rw (z, facts.2) (by_form (Ok None) p)

        pub cut_good : (l : ℕ) → f ≡ Ok (Some l) → Line l (record { at = record { 0 = c.at.0 + 2 }; len = n - 2 }) next ≡ cut_at s c
        cut_good l p = rw (z, facts.2, facts.1) (by_form (Ok (Some l)) p)

      pub cut_bad : (k : Fault) → f ≡ Err k → Refused k c.line ≡ cut_at s c
      cut_bad k p = by_form (Err k) p
