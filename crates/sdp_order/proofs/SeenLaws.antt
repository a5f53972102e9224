-- The letters from a cursor on, by what the cutter finds there.
-- Assumes nothing.
use Prim.Native.Nat.{ℕ, ◌+◌, ◌≤◌, ◌<◌}
use native.Mathlib.Decide.{dec_lt}
use native.Mathlib.Omega.{arith}
use mathlib.Core.Path.{◌≡◌, refl, ◌∙◌}
use mathlib.Core.Bool.{false}
use mathlib.Core.List.{List}
use Rattle.std.specs.Prelude.{Option, Some, None, Ok, Err}
use lib.ListN.{length, drop, length-drop, drop_of_length-le}
use Rattle.sdp_lines.specs.Lines
use Rattle.sdp_lines.specs.Lines.{Raw, split, content, width, form_of, past, cut_form, cut_at, Form}
use Rattle.sdp_lines.specs.Quick.{first_raw}
use Rattle.sdp_lines.specs.declared.Cursor.{Cursor}
use Rattle.sdp_lines.specs.declared.Cut.{Cut}
use Rattle.sdp_lines.specs.declared.Cut.TheVariants.{Line, Empty, Refused, End}
use Rattle.sdp_lines.proofs.LineLaws.{split_at_place, width_pos}
use Rattle.sdp_order.specs.Expression.{Expr, maybe_empty, after, matches}
use Rattle.sdp_order.specs.Order.{before, letters, run}
use Rattle.sdp_order.specs.From.{run_from, Behind}
use Rattle.sdp_order.proofs.ExpressionLaws.{Same}

-- what describes the same lists runs the same
pub run_same : (s : List ℕ) (c : Cursor) (x y : Expr) → Same x y → run_from s c x ≡ run_from s c y
unfolding run_from
run_same s c x y h = go (letters (split (drop c.at.0 s)))
  where
    go : (ls : Option (List ℕ)) → run x ls ≡ run y ls
    go None = refl
    go (Some ls) = h ls

-- what was cut at c says of the lines from there on
abbrev pub Seen : List ℕ → Cursor → Cut → Type 0
Seen s c End = (x : Expr) → run_from s c x ≡ maybe_empty x
Seen s c (Refused f n) = (x : Expr) → run_from s c x ≡ false
Seen s c (Empty d) = Behind s c d × ((x : Expr) → run_from s c x ≡ run_from s d x)
Seen s c (Line l v d) = Behind s c d × ((x : Expr) → run_from s c x ≡ run_from s d (after l x))

module _ (s : List ℕ) (c : Cursor) where
  at_end : length s ≤ c.at.0 → Seen s c (cut_at s c)
  unfolding run_from letters matches Lines.cut_at Lines.split
  at_end h = rw (drop_of_length-le s h) (λ x. rw (drop_of_length-le s h))

  module _ (h : c.at.0 < length s) where
    abbrev raw : Raw
    raw = first_raw (drop c.at.0 s)

    behind : Behind s c (past c raw)
    behind = record { stands = h; moved = omega (arith, width_pos (drop c.at.0 s) (omega (arith, length-drop c.at.0 s))) }

    runs : (x : Expr) → run_from s c x ≡ run x (before (form_of (content raw)) (letters (split (drop (c.at.0 + width raw) s))))
    unfolding run_from letters
    runs x = rw (split_at_place s c.at.0 h)

    by_form : (f : Form) → form_of (content raw) ≡ f → Seen s c (cut_form c raw f)
    unfolding run_from matches
    by_form (Ok None) e = (behind, λ x. runs x ∙ rw e)
    by_form (Err f) e = λ x. runs x ∙ rw e
    by_form (Ok (Some l)) e = (behind, λ x. runs x ∙ rw e (go x (letters (split (drop (c.at.0 + width raw) s)))))
      where
        go : (x : Expr) (ls : Option (List ℕ)) → run x (before (Ok (Some l)) ls) ≡ run (after l x) ls
        go x None = refl
        go x (Some ls) = refl

    at_line : Seen s c (cut_at s c)
    unfolding Lines.cut_at
    at_line = rw (split_at_place s c.at.0 h) (by_form (form_of (content raw)) refl)

  pub seen : (x : Cut) → cut_at s c ≡ x → Seen s c x
  seen x e = rw e at (go (dec_lt c.at.0 (length s)))
    where
      go : Dec (c.at.0 < length s) → Seen s c (cut_at s c)
      go (yes h) = at_line h
      go (no h) = at_end (omega arith)
