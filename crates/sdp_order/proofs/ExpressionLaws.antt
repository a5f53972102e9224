-- Laws of expressions: which describe the same lists, and what may follow a letter.
-- Assumes nothing.
use Prim.Native.Nat.{ℕ}
use mathlib.Core.Path.{◌≡◌, refl, sym, ◌∙◌}
use mathlib.Core.Bool.{Bool, true, false, ◌&&◌, ◌||◌, cond, true≢false, or-false, or_assoc, and_assoc, and-true, and-false, and-or_distrib_right}
use mathlib.Core.List.{List, [], ◌∷◌}
use borrow.Author.Tests.{eq-eqb}
use Rattle.sdp_order.specs.Expression.{Expr, nothing, empty, letter, ◌·◌, ◌or◌, ◌*, ◌⁇, maybe_empty, after, matches}
use Rattle.sdp_order.specs.From.{begins}

-- x and y describe the same lists
abbrev pub Same : Expr → Expr → Type 0
Same x y = (ls : List ℕ) → matches x ls ≡ matches y ls

-- ---- truth values
pub neither : (a b : Bool) → a || b ≡ false → (a ≡ false) × (b ≡ false)
neither true b h = absurd (true≢false h)
neither false b h = (refl, h)

crosswise : (a b c d : Bool) → a || b || (c || d) ≡ a || c || (b || d)
crosswise true b c d = refl
crosswise false true true d = refl
crosswise false true false d = refl
crosswise false false c d = refl

-- ---- one or the other, and nothing
pub matches-or : (x y : Expr) → (ls : List ℕ) → matches (x or y) ls ≡ matches x ls || matches y ls
unfolding matches maybe_empty after
matches-or x y [] = refl
matches-or x y (l ∷ ls) = matches-or (after l x) (after l y) ls

pub matches_nothing : (ls : List ℕ) → matches nothing ls ≡ false
unfolding matches maybe_empty after
matches_nothing [] = refl
matches_nothing (l ∷ ls) = matches_nothing ls

-- ---- one and then the other
pub then_cons : (x y : Expr) (l : ℕ) (ls : List ℕ) → matches (x · y) (l ∷ ls) ≡ matches (after l x · y) ls || maybe_empty x && matches y (l ∷ ls)
unfolding matches after
then_cons x y l ls = go (maybe_empty x)
  where
    go : (t : Bool) → matches (cond t (after l x · y or after l y) (after l x · y)) ls ≡ matches (after l x · y) ls || t && matches (after l y) ls
    go true = matches-or (after l x · y) (after l y) ls
    go false = sym (or-false (matches (after l x · y) ls))

-- what describes the same lists may stand for the other
pub then_same : (x x' y y' : Expr) → Same x x' → Same y y' → Same (x · y) (x' · y')
unfolding matches maybe_empty
then_same x x' y y' f g [] = rw (f [], g [])
then_same x x' y y' f g (l ∷ ls) =
    then_cons x y l ls
    ∙ rw (then_same (after l x) (after l x') y y' (λ k. f (l ∷ k)) g ls, f [], g (l ∷ ls)) (sym (then_cons x' y' l ls))

nothing_then : (y : Expr) → Same (nothing · y) nothing
unfolding matches maybe_empty after
nothing_then y [] = refl
nothing_then y (l ∷ ls) = nothing_then y ls

pub empty_then : (y : Expr) → Same (empty · y) y
unfolding matches maybe_empty after
empty_then y [] = refl
empty_then y (l ∷ ls) = matches-or (nothing · y) (after l y) ls ∙ rw (nothing_then y ls, matches_nothing ls)

pub then_empty : (x : Expr) → Same (x · empty) x
unfolding matches maybe_empty after
then_empty x [] = and-true (maybe_empty x)
then_empty x (l ∷ ls) =
    then_cons x empty l ls
    ∙ rw (matches_nothing ls, and-false (maybe_empty x), or-false (matches (after l x · empty) ls)) (then_empty (after l x) ls)

or_then : (x y w : Expr) (ls : List ℕ) → matches ((x or y) · w) ls ≡ matches (x · w) ls || matches (y · w) ls
unfolding matches maybe_empty after
or_then x y w [] = and-or_distrib_right (maybe_empty x) (maybe_empty y) (maybe_empty w)
or_then x y w (l ∷ ls) =
    then_cons (x or y) w l ls
    ∙ rw (or_then (after l x) (after l y) w ls, and-or_distrib_right (maybe_empty x) (maybe_empty y) (matches (after l w) ls))
    (crosswise (matches (after l x · w) ls) (matches (after l y · w) ls) (maybe_empty x && matches (after l w) ls) (maybe_empty y && matches (after l w) ls)
    ∙ rw (← then_cons x w l ls, ← then_cons y w l ls))

pub then_assoc : (x y w : Expr) → Same ((x · y) · w) (x · (y · w))
unfolding matches maybe_empty after
then_assoc x y w [] = and_assoc (maybe_empty x) (maybe_empty y) (maybe_empty w)
then_assoc x y w (l ∷ ls) = then_cons (x · y) w l ls ∙ go (maybe_empty x) (then_assoc (after l x) y w ls) ∙ sym (then_cons x (y · w) l ls)
  where
    go : (t : Bool) → matches ((after l x · y) · w) ls ≡ matches (after l x · (y · w)) ls
        → matches (cond t (after l x · y or after l y) (after l x · y) · w) ls || t && maybe_empty y && matches (after l w) ls
        ≡ matches (after l x · (y · w)) ls || t && matches (y · w) (l ∷ ls)
    go true ih =
        rw (or_then (after l x · y) (after l y) w ls, ih, then_cons y w l ls)
        (or_assoc (matches (after l x · (y · w)) ls) (matches (after l y · w) ls) (maybe_empty y && matches (after l w) ls))
    go false ih = rw ih

-- what follows x · y follows y
pub then_in : (x y w z : Expr) → Same (y · w) z → Same ((x · y) · w) (x · z)
then_in x y w z f ls = then_assoc x y w ls ∙ then_same x x (y · w) z (λ k. refl) f ls

-- ---- what may follow a letter
-- nothing, where x does not begin with it
pub not_first : (l : ℕ) (x : Expr) → begins l x ≡ false → Same (after l x) nothing
unfolding begins after matches
not_first l nothing h ls = refl
not_first l empty h ls = refl
not_first l (letter k) h ls = rw h
not_first l (x · y) h ls = go (maybe_empty x) (λ f. not_first l x f) (λ f. not_first l y f ls) h
  where
    front : Same (after l x) nothing → matches (after l x · y) ls ≡ matches nothing ls
    front f = then_same (after l x) nothing y y f (λ k. refl) ls ∙ nothing_then y ls

    go : (t : Bool) → (begins l x ≡ false → Same (after l x) nothing) → (begins l y ≡ false → matches (after l y) ls ≡ matches nothing ls)
        → cond t (begins l x || begins l y) (begins l x) ≡ false → matches (cond t (after l x · y or after l y) (after l x · y)) ls ≡ matches nothing ls
    go true f g e =
        let n = neither (begins l x) (begins l y) e in
        matches-or (after l x · y) (after l y) ls ∙ rw (front (f n.0), g n.1, matches_nothing ls)
    go false f g e = front (f e)
not_first l (x or y) h ls =
    let n = neither (begins l x) (begins l y) h in
    matches-or (after l x) (after l y) ls ∙ rw (not_first l x n.0 ls, not_first l y n.1 ls, matches_nothing ls)
not_first l (x *) h ls = then_same (after l x) nothing (x *) (x *) (not_first l x h) (λ k. refl) ls ∙ nothing_then (x *) ls

-- x is not due where the letter does not begin it
pub passed_over : (l : ℕ) (x y : Expr) → begins l x ≡ false → (ls : List ℕ) → matches (after l (x · y)) ls ≡ maybe_empty x && matches (after l y) ls
unfolding matches
passed_over l x y h ls =
    then_cons x y l ls
    ∙ rw (then_same (after l x) nothing y y (not_first l x h) (λ k. refl) ls, nothing_then y ls, matches_nothing ls)

-- x is due, and y is not, where the letter does not begin y
pub after_then : (l : ℕ) (x x' y : Expr) → Same (after l x) x' → begins l y ≡ false → Same (after l (x · y)) (x' · y)
unfolding matches
after_then l x x' y f h ls =
    then_cons x y l ls
    ∙ rw (then_same (after l x) x' y y f (λ k. refl) ls, not_first l y h ls, matches_nothing ls, and-false (maybe_empty x))
    (or-false (matches (x' · y) ls))

module _ (l : ℕ) where
  pub after_letter : Same (after l (letter l)) empty
  unfolding after
  after_letter ls = rw (eq-eqb l l refl)

  -- a letter that must come needs nothing of what follows it
  pub after_one : (y : Expr) → Same (after l (letter l · y)) y
  unfolding after maybe_empty
  after_one y ls = then_same (after l (letter l)) empty y y after_letter (λ k. refl) ls ∙ empty_then y ls

  -- what may be absent is there
  pub after-maybe : (x x' : Expr) → Same (after l x) x' → Same (after l (x ⁇)) x'
  unfolding after
  after-maybe x x' f ls = matches-or (after l x) nothing ls ∙ rw (f ls, matches_nothing ls) (or-false (matches x' ls))

  pub after_many : (x x' : Expr) → Same (after l x) x' → Same (after l (x *)) (x' · x *)
  unfolding after
  after_many x x' f = then_same (after l x) x' (x *) (x *) f (λ k. refl)
