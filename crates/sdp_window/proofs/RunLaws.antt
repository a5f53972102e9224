-- The closed form of a progression in a window. Assumes nothing.
use Prim.Native.Nat.{ℕ, zero, suc, ◌+◌, ◌*◌, ◌-◌, ◌/◌, ◌%◌, ◌≤◌, ◌<◌}
use mathlib.Core.Path.{◌≡◌, refl, sym, ap, ◌∙◌}
use mathlib.Core.Bool.{Bool, true, false, cond, ◌&&◌}
use mathlib.Core.List.{List, [], ◌∷◌}
use native.Mathlib.Nat.{mod-eq_of_lt, mod-eq-sub-mod, mod_self, zero-mod, add-mod, div-eq_of_lt, div-mul-le_self, add-div_right, suc-mul}
use native.Mathlib.Numerals.{add-one}
use native.Mathlib.Omega.{arith}
use lib.Dec.{leb, ltb, eqb}
use borrow.Author.Tests.{ltb-true, ltb-false, leb-true, leb-false, lt-ltb, le-ltb, le-leb, lt-leb, eqb-true, eqb-false, eq-eqb, ne_eqb}
use Rattle.sdp_window.specs.Run.{numbers, of_run, no_run, gap, first_of, counted, run_of}

numbers_more : (d c v : ℕ) → numbers d (c + 1) v ≡ v ∷ numbers d c (v + d)
unfolding numbers
numbers_more d c v = rw (add-one c) refl

-- ---- the first number
module _ (d w lo : ℕ) where
  pub first_at : (x : ℕ) → lo + w ≤ x → first_of d w lo x ≡ x - w
  unfolding first_of
  first_at x h = rw (le-leb (lo + w) x h) refl

  -- it is not below lo
  pub first_least : (x : ℕ) → lo ≤ first_of d w lo x
  unfolding first_of
  first_least x = go (leb (lo + w) x) refl
    where
      go : (t : Bool) → leb (lo + w) x ≡ t → lo ≤ cond t (x - w) (lo + gap d ((lo + w - x) % d))
      go true e = omega (arith, leb-true (lo + w) x e)
      go false e = omega arith

  pub first_after : (x : ℕ) → x < lo + w → first_of d w lo x ≡ lo + gap d ((lo + w - x) % d)
  unfolding first_of
  first_after x h = rw (lt-leb (lo + w) x h) refl

  -- a number below lo is passed
  first_next : (x : ℕ) → 0 < d → x < lo + w → first_of d w lo x ≡ first_of d w lo (x + d)
  first_next x p h = first_after x h ∙ go (leb (lo + w) (x + d)) refl
    where
      reach : (t : Bool) → eqb (lo + w - x) d ≡ t → lo + w ≤ x + d → lo + gap d ((lo + w - x) % d) ≡ first_of d w lo (x + d)
      reach true q l =
          rw (first_at (x + d) l, eqb-true (lo + w - x) d q, mod_self d) (omega (arith, eqb-true (lo + w - x) d q))
      reach false q l =
          let m : lo + w - x < d = omega (arith, eqb-false (lo + w - x) d q) in
          rw (first_at (x + d) l, mod-eq_of_lt m, ne_eqb (lo + w - x) 0 (λ e. omega (arith, e)))
          (omega (arith, eqb-false (lo + w - x) d q))

      go : (t : Bool) → leb (lo + w) (x + d) ≡ t → lo + gap d ((lo + w - x) % d) ≡ first_of d w lo (x + d)
      go true q = reach (eqb (lo + w - x) d) refl (leb-true (lo + w) (x + d) q)
      go false q =
          let l = leb-false (lo + w) (x + d) q in
          let m : d ≤ lo + w - x = omega arith in
          rw (first_after (x + d) l, mod-eq-sub-mod m)
          (ap (λ (k : ℕ). lo + gap d (k % d)) (let e : lo + w - x - d ≡ lo + w - (x + d) = omega arith in e))

-- ---- the count
module _ (d hi : ℕ) where
  pub counted_none : (f : ℕ) → hi ≤ f → counted d hi f ≡ no_run
  unfolding counted
  counted_none f h = rw (le-ltb f hi h) refl

  pub counted_some : (f : ℕ) → f < hi → counted d hi f ≡ record { first = f; count = (hi - 1 - f) / d + 1 }
  unfolding counted
  counted_some f h = rw (lt-ltb f hi h) refl

  -- all of them lie below hi
  pub counted_below : (f : ℕ) → 0 < (counted d hi f).count → (counted d hi f).first + ((counted d hi f).count - 1) * d < hi
  counted_below f = go (ltb f hi) refl
    where
      go : (t : Bool) → ltb f hi ≡ t → 0 < (counted d hi f).count → (counted d hi f).first + ((counted d hi f).count - 1) * d < hi
      go true e =
          let l = ltb-true f hi e in
          let q : (hi - 1 - f) / d + 1 - 1 ≡ (hi - 1 - f) / d = omega arith in
          rw (counted_some f l) (λ h. rw q (omega (arith, div-mul-le_self (hi - 1 - f) d)))
      go false e = rw (counted_none f (ltb-false f hi e)) (λ h. absurd (omega arith))

  -- one number more
  counted_step : (f : ℕ) → 0 < d → f < hi → of_run d (counted d hi f) ≡ f ∷ of_run d (counted d hi (f + d))
  unfolding numbers
  counted_step f p h = rw (counted_some f h) (go (ltb (f + d) hi) refl)
    where
      go : (t : Bool) → ltb (f + d) hi ≡ t → numbers d ((hi - 1 - f) / d + 1) f ≡ f ∷ of_run d (counted d hi (f + d))
      go true q =
          let l : f + d < hi = ltb-true (f + d) hi q in
          let e : hi - 1 - f ≡ hi - 1 - (f + d) + d = omega arith in
          rw (counted_some (f + d) l, e, add-div_right (hi - 1 - (f + d)) p) (numbers_more d ((hi - 1 - (f + d)) / d + 1) f)
      go false q =
          let l : hi ≤ f + d = ltb-false (f + d) hi q in
          let m : hi - 1 - f < d = omega arith in
          rw (counted_none (f + d) l, div-eq_of_lt m) refl

-- ---- all numbers of the progression in the window
module _ (d w lo hi : ℕ) where
  -- of x, x + d, .., n of them, those with lo ≤ x - w < hi, less w
  unfoldable pub members : ℕ → ℕ → List ℕ
  members zero x = []
  members (suc n) x = cond (leb (lo + w) x && ltb x (hi + w)) ((x - w) ∷ members n (x + d)) (members n (x + d))

module _ (d w lo hi : ℕ) (p : 0 < d) where
  pub members_run : (n x : ℕ) → hi + w ≤ x + n * d → members d w lo hi n x ≡ of_run d (run_of d w lo hi x)
  unfolding members numbers
  members_run zero x h = go (leb (lo + w) x) refl
    where
      go : (t : Bool) → leb (lo + w) x ≡ t → [] ≡ of_run d (run_of d w lo hi x)
      go true q = rw (first_at d w lo x (leb-true (lo + w) x q), counted_none d hi (x - w) (omega arith)) refl
      go false q =
          let l : x < lo + w = leb-false (lo + w) x q in
          rw (first_after d w lo x l, counted_none d hi (lo + gap d ((lo + w - x) % d)) (omega arith)) refl
  members_run (suc n) x h =
      go (leb (lo + w) x) refl (ltb x (hi + w)) refl (members_run n (x + d) (omega (arith, suc-mul n d)))
    where
      go : (t : Bool) → leb (lo + w) x ≡ t → (u : Bool) → ltb x (hi + w) ≡ u
          → members d w lo hi n (x + d) ≡ of_run d (run_of d w lo hi (x + d))
          → cond (t && u) ((x - w) ∷ members d w lo hi n (x + d)) (members d w lo hi n (x + d)) ≡ of_run d (run_of d w lo hi x)
      go true q true r ih =
          let l : lo + w ≤ x = leb-true (lo + w) x q in
          let e : x + d - w ≡ x - w + d = omega arith in
          let m : x - w < hi = omega (arith, ltb-true x (hi + w) r) in
          rw (ih, first_at d w lo x l, first_at d w lo (x + d) (omega arith), e, counted_step d hi (x - w) p m) refl
      go true q false r ih =
          let l : lo + w ≤ x = leb-true (lo + w) x q in
          let m : hi + w ≤ x = ltb-false x (hi + w) r in
          rw (ih, first_at d w lo x l, first_at d w lo (x + d) (omega arith))
          (rw (counted_none d hi (x - w) (omega arith), counted_none d hi (x + d - w) (omega arith)) refl)
      go false q u r ih = rw (ih, first_next d w lo x p (leb-false (lo + w) x q)) refl

-- only the difference of x and w counts
pub run_same : (d w lo hi x v y : ℕ) → x + v ≡ y + w → run_of d w lo hi x ≡ run_of d v lo hi y
unfolding first_of
run_same d w lo hi x v y e = ap (counted d hi) (go (leb (lo + w) x) refl)
  where
    go : (t : Bool) → leb (lo + w) x ≡ t → cond t (x - w) (lo + gap d ((lo + w - x) % d)) ≡ first_of d v lo y
    go true q =
        let l = leb-true (lo + w) x q in
        let f : x - w ≡ y - v = omega arith in
        f ∙ sym (first_at d v lo y (omega arith))
    go false q =
        let l = leb-false (lo + w) x q in
        let f : lo + w - x ≡ lo + v - y = omega arith in
        ap (λ (k : ℕ). lo + gap d (k % d)) f ∙ sym (first_after d v lo y (omega arith))

-- ---- as the code goes
-- two remainders
pub mod_under : (a b d : ℕ) → a + b < d → a + b ≡ (a + b) % d
mod_under a b d h = sym (mod-eq_of_lt h)

pub mod_over : (a b d : ℕ) → a < d → b < d → d ≤ a + b → a - (d - b) ≡ (a + b) % d
mod_over a b d p q h =
    let e : a - (d - b) ≡ a + b - d = omega arith in
    e ∙ sym (mod-eq-sub-mod h ∙ mod-eq_of_lt (let l : a + b - d < d = omega arith in l))

module _ (d lo hi : ℕ) where
  -- lo is a number of the progression
  pub after_none : (r : ℕ) → r ≡ 0 → counted d hi lo ≡ counted d hi (lo + gap d r)
  after_none r e = rw (eq-eqb r 0 e) (ap (counted d hi) (let q : lo ≡ lo + 0 = omega arith in q))

  -- it is not
  pub after_some : (r : ℕ) → (r ≡ 0 → ⊥) → counted d hi (lo + (d - r)) ≡ counted d hi (lo + gap d r)
  after_some r e = rw (ne_eqb r 0 e) refl

  -- and the next one is past the window
  pub after-past : (r : ℕ) → (r ≡ 0 → ⊥) → hi ≤ lo + (d - r) → no_run ≡ counted d hi (lo + gap d r)
  after-past r e h = sym (counted_none d hi (lo + (d - r)) h) ∙ after_some r e

  pub at_here : (a : ℕ) → lo ≤ a → counted d hi a ≡ run_of d 0 lo hi a
  at_here a h = rw (first_at d 0 lo a (omega arith)) (ap (counted d hi) (let q : a ≡ a - 0 = omega arith in q))

  pub at_after : (a : ℕ) → a < lo → counted d hi (lo + gap d ((lo - a) % d)) ≡ run_of d 0 lo hi a
  at_after a h =
      rw (first_after d 0 lo a (omega arith))
      (ap (λ (k : ℕ). counted d hi (lo + gap d (k % d))) (let q : lo - a ≡ lo + 0 - a = omega arith in q))

  pub below_after : (b r : ℕ) → r ≡ (lo % d + b % d) % d → counted d hi (lo + gap d r) ≡ run_of d b lo hi 0
  below_after b r e =
      go (leb (lo + b) 0) refl (e ∙ sym (add-mod lo b d) ∙ ap (λ (k : ℕ). k % d) (let q : lo + b ≡ lo + b - 0 = omega arith in q))
    where
      go : (t : Bool) → leb (lo + b) 0 ≡ t → r ≡ (lo + b - 0) % d → counted d hi (lo + gap d r) ≡ run_of d b lo hi 0
      go true q m =
          let l = leb-true (lo + b) 0 q in
          let o : lo + b - 0 ≡ 0 = omega arith in
          let n : r ≡ 0 = m ∙ ap (λ (k : ℕ). k % d) o ∙ zero-mod d in
          rw (first_at d b lo 0 l) (sym (after_none r n) ∙ ap (counted d hi) (let f : lo ≡ 0 - b = omega arith in f))
      go false q m = rw (first_after d b lo 0 (leb-false (lo + b) 0 q), m) refl
