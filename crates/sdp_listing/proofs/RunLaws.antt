-- A whole run of starts put in, one after the other. Assumes nothing.
use Prim.Native.Nat.{ℕ, suc, ◌≤◌, ◌<◌, ◌+◌, ◌-◌, ◌*◌, ◌^◌}
use mathlib.Core.Path.{◌≡◌, refl, ap, ◌∙◌}
use mathlib.Core.Bool.{Bool, true, false}
use mathlib.Core.List.{List}
use native.Mathlib.Nat.{suc-mul}
use native.Mathlib.Omega.{arith}
use lib.ListN.{length}
use lib.Dec.{ltb}
use borrow.Author.Tests.{ltb-true, ltb-false}
use Rattle.sdp_hours.specs.Listing.{Start}
use Rattle.sdp_hours.specs.Starts as starts
use Rattle.sdp_hours.specs.Starts.{numbered}
use Rattle.sdp_window.specs.Run as run
use Rattle.sdp_window.specs.Run.{numbers}
use Rattle.sdp_listing.specs.Columns as held
use Rattle.sdp_listing.specs.Columns.{Columns, columns, rows_from, place_of, shift_in, put_in, put_all, start_at}
use Rattle.sdp_listing.proofs.LengthLaws.{put_in_lengths}

-- one start, as the code puts it in
pub put_in_is : (a t r a' t' r' : List ℕ) (p n : ℕ) (x : Start) → p ≡ place_of x (rows_from (columns a t r) 0 n) → a' ≡ shift_in p (n - p) x.at a
    → t' ≡ shift_in p (n - p) x.time t → r' ≡ shift_in p (n - p) x.repeat r → columns a' t' r' ≡ put_in (columns a t r) n x
unfolding held.put_in
put_in_is a t r a' t' r' p n x e f g h = rw (f, g, h, e) refl

-- v, v + d, .., c of them, of time i and repeat j, put into o₀ and its n rows
module _ (o₀ : Columns) (n i j d c v : ℕ) where
  -- what is left of them, from x on, after k
  abbrev left : ℕ → ℕ → List Start
  left k x = numbered i j (numbers d (c - k) x)

  -- all that is left has 64 bits
  abbrev Fits : ℕ → ℕ → Type 0
  Fits k x = k < c → x + (c - 1 - k) * d < 2 ^ 64

  -- where k of them are put in, and the columns are o with m rows, and x is the next
  pub record Filled (o : Columns) (k m x : ℕ) : Type 0 where
    pub within : k ≤ c
    pub rows : m ≡ n + k
    pub ats : length o.ats ≡ length o₀.ats
    pub times : length o.times ≡ length o₀.times
    pub repeats : length o.repeats ≡ length o₀.repeats
    pub fits : Fits k x
    pub gives : put_all o m (left k x) ≡ put_all o₀ n (numbered i j (numbers d c v))

  pub none_filled : (0 < c → v + (c - 1) * d < 2 ^ 64) → Filled o₀ 0 n v
  none_filled f =
      let e : c - 1 - 0 ≡ c - 1 = omega arith in
      let z : c - 0 ≡ c = omega arith in
      record {
        within = omega arith;
        rows = omega arith;
        ats = refl;
        times = refl;
        repeats = refl;
        fits = λ h. rw e (f h);
        gives = ap (λ (k : ℕ). put_all o₀ n (numbered i j (numbers d k v))) z;
      }

  -- the next number, where it counts, is x + d
  next_fits : (k x y : ℕ) → Fits k x → (x + d < 2 ^ 64 → y ≡ x + d) → k + 1 < c → (y + (c - 1 - (k + 1)) * d < 2 ^ 64) × (y ≡ x + d)
  next_fits k x y f g h =
      let s : c - 1 - k ≡ suc (c - 1 - (k + 1)) = omega arith in
      let l : x + suc (c - 1 - (k + 1)) * d < 2 ^ 64 = rw (← s) (f (omega arith)) in
      let e : y ≡ x + d = g (omega (arith, suc-mul (c - 1 - (k + 1)) d, l)) in
      (omega (arith, suc-mul (c - 1 - (k + 1)) d, l, e), e)

  -- and where it doesn't count, nothing is left
  next_same : (k x y : ℕ) → (k + 1 < c → y ≡ x + d) → left (k + 1) y ≡ left (k + 1) (x + d)
  unfolding run.numbers
  next_same k x y f = go (ltb (k + 1) c) refl
    where
      go : (t : Bool) → ltb (k + 1) c ≡ t → left (k + 1) y ≡ left (k + 1) (x + d)
      go true e = ap (left (k + 1)) (f (ltb-true (k + 1) c e))
      go false e = let z : c - (k + 1) ≡ 0 = omega (arith, ltb-false (k + 1) c e) in rw z refl

  left_one : (o : Columns) (k m x : ℕ) → k < c → put_all (put_in o m (start_at x i j)) (m + 1) (left (k + 1) (x + d)) ≡ put_all o m (left k x)
  unfolding run.numbers starts.numbered held.put_all
  left_one o k m x h =
      ap (λ (u : ℕ). put_all o m (numbered i j (numbers d u x))) (let e : suc (c - (k + 1)) ≡ c - k = omega arith in e)

  pub one-filled : (o o' : Columns) (k m x y : ℕ) → Filled o k m x → k < c → o' ≡ put_in o m (start_at x i j) → (x + d < 2 ^ 64 → y ≡ x + d)
      → Filled o' (k + 1) (m + 1) y
  one-filled o o' k m x y w h e g =
      let l = put_in_lengths o m (start_at x i j) in
      let f = next_fits k x y w.fits g in
      record {
        within = omega arith;
        rows = omega (arith, w.rows);
        ats = rw e (l.0 ∙ w.ats);
        times = rw e (l.1 ∙ w.times);
        repeats = rw e (l.2 ∙ w.repeats);
        fits = λ u. (f u).0;
        gives = rw (e, next_same k x y (λ u. (f u).1)) (left_one o k m x h ∙ w.gives);
      }

  pub all_filled : (o : Columns) (k m x : ℕ) → Filled o k m x → c ≤ k → o ≡ put_all o₀ n (numbered i j (numbers d c v))
  unfolding run.numbers starts.numbered held.put_all
  all_filled o k m x w h = ap (λ (u : ℕ). put_all o m (numbered i j (numbers d u x))) (let e : 0 ≡ c - k = omega arith in e) ∙ w.gives
