-- A letter that never stands directly behind another in the lists of an expression. Assumes nothing.
use Prim.Native.Nat.{ℕ}
use mathlib.Core.Path.{◌≡◌, refl, sym, ◌∙◌}
use mathlib.Core.Bool.{Bool, true, false, ◌&&◌, ◌||◌, cond, and_comm, and-true}
use mathlib.Core.List.{List, [], ◌∷◌, ◌++◌}
use lib.Dec.{eqb}
use Rattle.sdp_order.specs.Expression as expression
use Rattle.sdp_order.specs.Expression.{Expr, nothing, empty, letter, ◌·◌, ◌or◌, ◌*, maybe_empty, after, matches}
use Rattle.sdp_order.specs.From as from
use Rattle.sdp_order.specs.From.{begins}
use Rattle.sdp_order.proofs.ExpressionLaws.{neither, not_first, matches_nothing}

-- a list that x describes may end with l
unfoldable pub ends : ℕ → Expr → Bool
ends l nothing = false
ends l empty = false
ends l (letter k) = eqb l k
ends l (x · y) = ends l y || (maybe_empty y && ends l x)
ends l (x or y) = ends l x || ends l y
ends l (x *) = ends l x

-- in a list that x describes, j may stand directly behind l
unfoldable pub next : ℕ → ℕ → Expr → Bool
next l j nothing = false
next l j empty = false
next l j (letter k) = false
next l j (x · y) = next l j x || (next l j y || (begins j y && ends l x))
next l j (x or y) = next l j x || next l j y
next l j (x *) = next l j x || (begins j x && ends l x)

-- ---- truth values
join : {a b : Bool} → a ≡ false → b ≡ false → a || b ≡ false
join f g = rw (f, g)

keep : (b a a' : Bool) → (a ≡ false → a' ≡ false) → b && a ≡ false → b && a' ≡ false
keep true a a' f h = f h
keep false a a' f h = refl

either : {A : Type 0} (P : A → Type 0) {x y : A} (c : Bool) → P x → P y → P (cond c x y)
either P true f g = f
either P false f g = g

-- ---- what may follow a letter ends as the whole does, and is more than nothing where the whole does not end with it
module _ (l : ℕ) where
  ends_after : (k : ℕ) (x : Expr) → ends l x ≡ false → ends l (after k x) ≡ false
  unfolding ends expression.after expression.maybe_empty
  ends_after k nothing h = refl
  ends_after k empty h = refl
  ends_after k (letter m) h = either (λ e. ends l e ≡ false) (eqb k m) refl refl
  ends_after k (x · y) h =
      let n = neither (ends l y) (maybe_empty y && ends l x) h in
      let t : ends l (after k x · y) ≡ false = join n.0 (keep (maybe_empty y) (ends l x) (ends l (after k x)) (ends_after k x) n.1) in
      either (λ e. ends l e ≡ false) (maybe_empty x) (join t (ends_after k y n.0)) t
  ends_after k (x or y) h = let n = neither (ends l x) (ends l y) h in join (ends_after k x n.0) (ends_after k y n.1)
  ends_after k (x *) h = join h (ends_after k x h)

  last_ends : (x : Expr) → ends l x ≡ false → maybe_empty (after l x) ≡ false
  unfolding ends expression.after expression.maybe_empty
  last_ends nothing h = refl
  last_ends empty h = refl
  last_ends (letter m) h = rw h
  last_ends (x · y) h =
      let n = neither (ends l y) (maybe_empty y && ends l x) h in
      let t : maybe_empty (after l x · y) ≡ false = and_comm (maybe_empty (after l x)) (maybe_empty y) ∙ keep (maybe_empty y) (ends l x) (maybe_empty (after l x)) (last_ends x) n.1 in
      either (λ e. maybe_empty e ≡ false) (maybe_empty x) (join t (last_ends y n.0)) t
  last_ends (x or y) h = let n = neither (ends l x) (ends l y) h in join (last_ends x n.0) (last_ends y n.1)
  last_ends (x *) h = rw (last_ends x h)

  -- ---- so j is not next to l later on, and not the first behind l
  module _ (j : ℕ) where
    next_then : (x x' y : Expr) → (ends l x ≡ false → ends l x' ≡ false) → next l j x' ≡ false → next l j y ≡ false → begins j y && ends l x ≡ false → next l j (x' · y) ≡ false
    unfolding next
    next_then x x' y e f g h = join f (join g (keep (begins j y) (ends l x) (ends l x') e h))

    next_after : (k : ℕ) (x : Expr) → next l j x ≡ false → next l j (after k x) ≡ false
    unfolding next expression.after from.begins
    next_after k nothing h = refl
    next_after k empty h = refl
    next_after k (letter m) h = either (λ e. next l j e ≡ false) (eqb k m) refl refl
    next_after k (x · y) h =
        let n = neither (next l j x) (next l j y || (begins j y && ends l x)) h in
        let m = neither (next l j y) (begins j y && ends l x) n.1 in
        let t = next_then x (after k x) y (ends_after k x) (next_after k x n.0) m.0 m.1 in
        either (λ e. next l j e ≡ false) (maybe_empty x) (join t (next_after k y m.0)) t
    next_after k (x or y) h = let n = neither (next l j x) (next l j y) h in join (next_after k x n.0) (next_after k y n.1)
    next_after k (x *) h =
        let n = neither (next l j x) (begins j x && ends l x) h in
        next_then x (after k x) (x *) (ends_after k x) (next_after k x n.0) h n.1

    first_then : (x y : Expr) → begins j (after l x) ≡ false → begins j y && ends l x ≡ false → begins j (after l x · y) ≡ false
    unfolding from.begins
    first_then x y f h = go (ends l x) refl h
      where
        go : (t : Bool) → ends l x ≡ t → begins j y && t ≡ false → begins j (after l x · y) ≡ false
        go true e g = either (λ b. b ≡ false) (maybe_empty (after l x)) (join f (sym (and-true (begins j y)) ∙ g)) f
        go false e g = rw (last_ends x e) f

    not_next : (x : Expr) → next l j x ≡ false → begins j (after l x) ≡ false
    unfolding next expression.after from.begins
    not_next nothing h = refl
    not_next empty h = refl
    not_next (letter m) h = either (λ e. begins j e ≡ false) (eqb l m) refl refl
    not_next (x · y) h =
        let n = neither (next l j x) (next l j y || (begins j y && ends l x)) h in
        let m = neither (next l j y) (begins j y && ends l x) n.1 in
        let t = first_then x y (not_next x n.0) m.1 in
        either (λ e. begins j e ≡ false) (maybe_empty x) (join t (not_next y m.0)) t
    not_next (x or y) h = let n = neither (next l j x) (next l j y) h in join (not_next x n.0) (not_next y n.1)
    not_next (x *) h =
        let n = neither (next l j x) (begins j x && ends l x) h in
        first_then x (x *) (not_next x n.0) n.1

    pub never_next : (x : Expr) → next l j x ≡ false → (ls ms : List ℕ) → matches x (ls ++ (l ∷ j ∷ ms)) ≡ false
    unfolding expression.matches
    never_next x h [] ms = not_first j (after l x) (not_next x h) ms ∙ matches_nothing ms
    never_next x h (k ∷ ls) ms = never_next (after k x) (next_after k x h) ls ms
