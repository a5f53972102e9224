-- Parts of an expression by what was found of their first letter.
-- Assumes nothing.
use Prim.Native.Nat.{ℕ}
use native.Mathlib.Omega.{arith}
use mathlib.Core.Path.{◌≡◌, sym, ◌∙◌}
use mathlib.Core.Bool.{false}
use mathlib.Core.List.{List}
use Rattle.std.specs.Prelude.{Option, Some, None}
use Rattle.std.specs.Option.{unwrap_or}
use Rattle.sdp_lines.specs.declared.Cursor.{Cursor}
use Rattle.sdp_order.specs.Expression.{Expr, empty, letter, ◌·◌, ◌*, ◌⁇, ◌+, maybe_empty, after}
use Rattle.sdp_order.specs.From.{run_from, begins, Finds, Passes, Leads, Halts}
use Rattle.sdp_order.specs.declared.Stop.{Stop}
use Rattle.sdp_order.specs.declared.Stop.TheVariants.{Through, AtRepeats}
use Rattle.sdp_order.proofs.ExpressionLaws.{Same, empty_then, then_empty, then_assoc, after_then, after_letter, after_one, after-maybe, after_many}
use Rattle.sdp_order.proofs.SeenLaws.{run_same}

pub passes_on : (s : List ℕ) (x y z : Expr) (c d e : Cursor) → Passes s x y c d → Passes s y z d e → Passes s x z c e
passes_on s x y z c d e f g = record { onward = omega (arith, f.onward, g.onward); rest = f.rest ∙ g.rest }

pub passes_as : (s : List ℕ) (x x' y : Expr) (c d : Cursor) → Same x x' → Passes s x' y c d → Passes s x y c d
passes_as s x x' y c d f g = record { onward = g.onward; rest = run_same s c x x' f ∙ g.rest }

pub leads_on : (s : List ℕ) (x y z : Expr) (c d : Cursor) (r : Option Cursor) → run_from s c x ≡ run_from s d y → Leads s y z d r → Leads s x z c r
leads_on s x y z c d (Some e) f g = f ∙ g
leads_on s x y z c d None f g = f ∙ g

pub halts_on : (s : List ℕ) (x y w z : Expr) (c d : Cursor) (r : Stop) → Passes s x y c d → Halts s y w z d r → Halts s x w z c r
halts_on s x y w z c d (Through e) f g = f.rest ∙ g
halts_on s x y w z c d (AtRepeats e) f g =
    (record { stands = omega (arith, f.onward, g.0.stands); moved = omega (arith, f.onward, g.0.moved) }, f.rest ∙ g.1)

module _ (s : List ℕ) (c : Cursor) (l : ℕ) where
  -- one line must come
  pub must_come : (y : Expr) (r : Option Cursor) → Finds s l c r → Leads s (letter l · y) y c r
  unfolding begins maybe_empty
  must_come y (Some d) h = h.1 (letter l · y) ∙ run_same s d _ _ (after_one l y)
  must_come y None h = h (letter l) y (λ k e. e)

  -- it came, and y is what may follow it where x is due
  pub came : (x y : Expr) → Same (after l x) y → (d : Cursor) → Finds s l c (Some d) → Passes s x y c d
  came x y f d h = record { onward = omega (arith, h.0.moved); rest = h.1 x ∙ run_same s d _ _ f }

  module _ (y : Expr) (b : begins l y ≡ false) where
    -- one line may come
    pub maybe_came : (d : Cursor) → Finds s l c (Some d) → Passes s (letter l ⁇ · y) y c d
    maybe_came = came _ _ (λ ls. after_then l (letter l ⁇) empty y (after-maybe l (letter l) empty (after_letter l)) b ls ∙ empty_then y ls)

    -- any number of lines may come
    pub many_came : (d : Cursor) → Finds s l c (Some d) → Passes s (letter l * · y) (letter l * · y) c d
    many_came = came _ _ (after_then l (letter l *) (letter l *) y (λ ls. after_many l (letter l) empty (after_letter l) ls ∙ empty_then (letter l *) ls) b)

    -- any number of runs of lines that begin with this letter
    pub run_came : (x : Expr) (d : Cursor) → Finds s l c (Some d) → Passes s ((letter l · x) * · y) (x · ((letter l · x) * · y)) c d
    run_came x = came _ _ (λ ls. after_then l ((letter l · x) *) (x · (letter l · x) *) y (after_many l (letter l · x) x (after_one l x)) b ls ∙ then_assoc x ((letter l · x) *) y ls)

  -- none of them came
  module _ (h : Finds s l c None) where
    pub maybe_none : (y : Expr) → Passes s (letter l ⁇ · y) y c c
    unfolding begins maybe_empty
    maybe_none y = record { onward = omega arith; rest = h (letter l ⁇) y (λ k e. rw e) }

    pub some_none : (x y : Expr) → Passes s (((letter l +) · x) ⁇ · y) y c c
    unfolding begins maybe_empty
    some_none x y = record { onward = omega arith; rest = h (((letter l +) · x) ⁇) y (λ k e. rw e) }

    pub many_none : (y : Expr) → Passes s (letter l * · y) y c c
    unfolding begins maybe_empty
    many_none y = record { onward = omega arith; rest = h (letter l *) y (λ k e. e) }

    pub run_none : (x y : Expr) → run_from s c ((letter l · x) * · y) ≡ run_from s c y
    unfolding begins maybe_empty
    run_none x y = h ((letter l · x) *) y (λ k e. e)

  -- one line came, or none
  pub maybe_or : (y : Expr) → begins l y ≡ false → (r : Option Cursor) → Finds s l c r → Passes s (letter l ⁇ · y) y c (unwrap_or r c)
  maybe_or y b (Some d) h = maybe_came y b d h
  maybe_or y b None h = maybe_none h y

  -- the same where nothing is due after them
  pub last_came : (x : Expr) (d : Cursor) → Finds s l c (Some d) → run_from s c ((letter l · x) *) ≡ run_from s d (x · (letter l · x) *)
  last_came x d h = h.1 ((letter l · x) *) ∙ run_same s d _ _ (after_many l (letter l · x) x (after_one l x))

  pub last_none : (x : Expr) → Finds s l c None → run_from s c ((letter l · x) *) ≡ run_from s c empty
  last_none x h = sym (run_same s c _ _ (then_empty ((letter l · x) *))) ∙ run_none h x empty
