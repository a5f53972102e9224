-- The next line with a letter: what the recognisers rest on.
-- Assumes nothing.
use Prim.Native.Nat.{ℕ, ◌≤◌}
use native.Mathlib.Omega.{arith}
use mathlib.Core.Path.{◌≡◌, refl, sym, ap, ◌∙◌}
use mathlib.Core.Bool.{Bool, true, false, ◌&&◌, and-false}
use mathlib.Core.List.{List}
use lib.ListN.{drop}
use lib.Dec.{eqb}
use borrow.Author.Tests.{eqb-true}
use Rattle.std.specs.Bool.{then_some}
use Rattle.std.specs.Prelude.{Some, None, Result, Ok, Err, Option}
use Rattle.sdp_lines.specs.Lines.{split}
use Rattle.sdp_lines.specs.declared.Cursor.{Cursor}
use Rattle.sdp_lines.specs.declared.Fault.{Fault}
use Rattle.sdp_lines.specs.declared.Span.{Span}
use Rattle.sdp_lines.specs.declared.Cut.TheVariants as cut
use Rattle.sdp_order.specs.Expression.{Expr, empty, ◌·◌, maybe_empty, after}
use Rattle.sdp_order.specs.Order.{letters, run}
use Rattle.sdp_order.specs.From.{run_from, begins, Follows, Finds}
use Rattle.sdp_order.proofs.ExpressionLaws.{matches_nothing, passed_over}
use Rattle.sdp_order.proofs.SeenLaws.{Seen}

-- only empty lines stand between from and c
pub record Skips (s : List ℕ) (from c : Cursor) : Type 0 where
  pub onward : from.at.0 ≤ c.at.0
  pub same : (x : Expr) → run_from s from x ≡ run_from s c x

module _ (s : List ℕ) (from c : Cursor) (w : Skips s from c) where
  pub skips_empty : (d : Cursor) → Seen s c (cut.Empty d) → Skips s from d
  skips_empty d h = record { onward = omega (arith, w.onward, h.0.moved); same = λ x. w.same x ∙ h.1 x }

  pub follows_line : (l : ℕ) (v : Span) (d : Cursor) → Seen s c (cut.Line l v d) → Follows s from (Ok (Some (l, d)))
  follows_line l v d h =
      (record { stands = omega (arith, w.onward, h.0.stands); moved = omega (arith, w.onward, h.0.moved) }, λ x. w.same x ∙ h.1 x)

module _ (s : List ℕ) (c : Cursor) where
  pub good_more : (l : ℕ) (d : Cursor) → Follows s c (Ok (Some (l, d))) → run_from s c empty ≡ false
  unfolding after run_from
  good_more l d h = h.1 empty ∙ go (letters (split (drop d.at.0 s)))
    where
      go : (ls : Option (List ℕ)) → run (after l empty) ls ≡ false
      go None = refl
      go (Some ls) = matches_nothing ls

  module _ (l : ℕ) where
    pub finds_one : (k : ℕ) (d : Cursor) → Follows s c (Ok (Some (k, d))) → Finds s l c (then_some (eqb k l) d)
    unfolding run_from
    finds_one k d h = go (eqb k l) refl
      where
        passed : (x y : Expr) → begins k x ≡ false → (ls : Option (List ℕ)) → run (after k (x · y)) ls ≡ maybe_empty x && run (after k y) ls
        passed x y e None = sym (and-false (maybe_empty x))
        passed x y e (Some ls) = passed_over k x y e ls

        go : (t : Bool) → eqb k l ≡ t → Finds s l c (then_some t d)
        go true e = (h.0, λ x. h.1 x ∙ ap (λ (j : ℕ). run_from s d (after j x)) (eqb-true k l e))
        go false e = λ x y only. h.1 (x · y) ∙ rw (h.1 y) (passed x y (only k e) (letters (split (drop d.at.0 s))))

    pub finds_bad : (f : Fault) → Follows s c (Err f) → Finds s l c None
    finds_bad f h x y only = h (x · y) ∙ rw (h y) (sym (and-false (maybe_empty x)))

    pub finds_end : Follows s c (Ok None) → Finds s l c None
    unfolding maybe_empty
    finds_end h x y only = h (x · y) ∙ rw (h y)
