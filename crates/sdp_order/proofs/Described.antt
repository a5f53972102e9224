-- `matches` says yes to exactly the lists that an expression describes by its parts.
-- Assumes nothing.
use Prim.Native.Nat.{ℕ, zero, suc, ◌≤◌}
use native.Mathlib.Omega.{arith}
use mathlib.Core.Path.{◌≡◌, refl, sym, ap, ◌∙◌}
use mathlib.Core.Logic.{◌↔◌}
use mathlib.Core.Bool.{Bool, true, false, ◌&&◌, ◌||◌, cond, false≢true, or-true}
use mathlib.Core.List.{List, [], ◌∷◌, ◌++◌}
use lib.Dec.{eqb}
use lib.ListN.{length, length-append}
use borrow.Author.Tests.{eqb-true}
use Rattle.sdp_order.specs.Expression.{Expr, nothing, empty, letter, ◌·◌, ◌or◌, ◌*, maybe_empty, after, matches, Describes, no_letter, one_letter, one_then, left, right, no_more, one_more}
use Rattle.sdp_order.proofs.ExpressionLaws.{matches-or, matches_nothing, then_cons, after_letter}

-- ---- what is described is matched
then_yes : (x y : Expr) (ls ms : List ℕ) → matches x ls ≡ true → matches y ms ≡ true → matches (x · y) (ls ++ ms) ≡ true
unfolding matches maybe_empty
then_yes x y [] [] f g = rw (f, g)
then_yes x y [] (m ∷ ms) f g = then_cons x y m ms ∙ rw (f, g) (or-true (matches (after m x · y) ms))
then_yes x y (l ∷ ls) ms f g = then_cons x y l (ls ++ ms) ∙ rw (then_yes (after l x) y ls ms f g)

many_yes : (x : Expr) (ls ms : List ℕ) → matches x ls ≡ true → matches (x *) ms ≡ true → matches (x *) (ls ++ ms) ≡ true
unfolding matches after
many_yes x [] ms f g = g
many_yes x (l ∷ ls) ms f g = then_yes (after l x) (x *) ls ms f g

matched : {e : Expr} {ls : List ℕ} → Describes e ls → matches e ls ≡ true
unfolding matches maybe_empty
matched no_letter = refl
matched (one_letter k) = after_letter k []
matched (one_then {x} {y} ls ms f g) = then_yes x y ls ms (matched f) (matched g)
matched (left {x} {y} ls f) = matches-or x y ls ∙ rw (matched f)
matched (right {x} {y} ls f) = matches-or x y ls ∙ rw (matched f) (or-true (matches x ls))
matched no_more = refl
matched (one_more {x} ls ms f g) = many_yes x ls ms (matched f) (matched g)

-- ---- what is matched is described
-- a list cut in two, the first part for x and the second for y
record Halves (x y : Expr) (ls : List ℕ) : Type 0 where
  front : List ℕ
  back : List ℕ
  whole : ls ≡ front ++ back
  first : matches x front ≡ true
  second : matches y back ≡ true

both : (a b : Bool) → a && b ≡ true → (a ≡ true) × (b ≡ true)
both true b h = (refl, h)
both false b h = absurd (false≢true h)

halves : (x y : Expr) (ls : List ℕ) → matches (x · y) ls ≡ true → Halves x y ls
unfolding matches maybe_empty
halves x y [] h =
    let p = both (maybe_empty x) (maybe_empty y) h in
    record { front = []; back = []; whole = refl; first = p.0; second = p.1 }
halves x y (l ∷ ls) h = go (matches (after l x · y) ls) refl (λ e. halves (after l x) y ls e) (sym (then_cons x y l ls) ∙ h)
  where
    go : (t : Bool) → matches (after l x · y) ls ≡ t → (matches (after l x · y) ls ≡ true → Halves (after l x) y ls)
        → matches (after l x · y) ls || maybe_empty x && matches y (l ∷ ls) ≡ true → Halves x y (l ∷ ls)
    go true e ih g =
        let p = ih e in
        record { front = l ∷ p.front; back = p.back; whole = ap (λ (k : List ℕ). l ∷ k) p.whole; first = p.first; second = p.second }
    go false e ih g =
        let p = both (maybe_empty x) (matches y (l ∷ ls)) ((rw e at g)) in
        record { front = []; back = l ∷ ls; whole = refl; first = p.0; second = p.1 }

-- the lists of x*, shorter ones first
many_described : (x : Expr) → ((ls : List ℕ) → matches x ls ≡ true → Describes x ls)
    → (n : ℕ) (ls : List ℕ) → length ls ≤ n → matches (x *) ls ≡ true → Describes (x *) ls
unfolding matches after
many_described x f zero [] n h = no_more
many_described x f zero (l ∷ ls) n h = absurd (omega arith)
many_described x f (suc n) [] m h = no_more
many_described x f (suc n) (l ∷ ls) m h =
    let p = halves (after l x) (x *) ls h in
    let s : length p.back ≤ n = omega (arith, ap length p.whole, length-append p.front p.back) in
    rw p.whole (one_more (l ∷ p.front) p.back (f (l ∷ p.front) p.first) (many_described x f n p.back s p.second))

letter_described : (k : ℕ) (ls : List ℕ) → matches (letter k) ls ≡ true → Describes (letter k) ls
unfolding matches maybe_empty after
letter_described k [] h = absurd (false≢true h)
letter_described k (l ∷ ls) h = go (eqb l k) refl ls h
  where
    go : (t : Bool) → eqb l k ≡ t → (ms : List ℕ) → matches (cond t empty nothing) ms ≡ true → Describes (letter k) (l ∷ ms)
    go true e [] g = rw (eqb-true l k e) (one_letter k)
    go true e (m ∷ ms) g = absurd (false≢true (sym (matches_nothing ms) ∙ g))
    go false e ms g = absurd (false≢true (sym (matches_nothing ms) ∙ g))

is_described : (e : Expr) (ls : List ℕ) → matches e ls ≡ true → Describes e ls
unfolding matches maybe_empty after
is_described nothing ls h = absurd (false≢true (sym (matches_nothing ls) ∙ h))
is_described empty [] h = no_letter
is_described empty (l ∷ ls) h = absurd (false≢true (sym (matches_nothing ls) ∙ h))
is_described (letter k) ls h = letter_described k ls h
is_described (x · y) ls h =
    let p = halves x y ls h in
    rw p.whole (one_then p.front p.back (is_described x p.front p.first) (is_described y p.back p.second))
is_described (x or y) ls h = go (matches x ls) refl (λ f. is_described x ls f) (λ f. is_described y ls f) (sym (matches-or x y ls) ∙ h)
  where
    go : (t : Bool) → matches x ls ≡ t → (matches x ls ≡ true → Describes x ls) → (matches y ls ≡ true → Describes y ls)
        → matches x ls || matches y ls ≡ true → Describes (x or y) ls
    go true e f g k = left ls (f e)
    go false e f g k = right ls (g (rw e at k))
is_described (x *) ls h = many_described x (λ ms f. is_described x ms f) (length ls) ls (omega arith) h

pub described : (e : Expr) (ls : List ℕ) → (matches e ls ≡ true) ↔ Describes e ls
described e ls = (is_described e ls, matched)
