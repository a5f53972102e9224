-- What is listed of one repeat and one offset is what its parts between adjustment times list, one after the other. Assumes nothing.
use Prim.Native.Nat.{ℕ, zero, suc, ◌+◌, ◌*◌, ◌^◌, ◌≤◌, ◌<◌}
use mathlib.Core.Path.{◌≡◌, refl, sym, ap, ◌∙◌}
use mathlib.Core.Bool.{Bool, true, false, cond, and-eq-true_iff}
use mathlib.Core.List.{List, [], ◌∷◌, ◌++◌, append_assoc, append-nil}
use native.Mathlib.Nat.{add-mul}
use native.Mathlib.Omega.{arith}
use lib.Dec.{leb, eqb}
use borrow.Author.Tests.{leb-true, leb-false, le-leb, lt-leb, eqb-true, eqb-false, ne_eqb}
use Rattle.sdp_area.specs.Session.{Zone}
use Rattle.sdp_hours.specs.Hours.{west, latest, unshifted, rise, dropped, listed, most_west, starts_from, repeated}
use Rattle.sdp_hours.proofs.HoursLaws.{every_k}
use Rattle.sdp_window.specs.Parts.{until, steps_for, segment_from, parts}
use Rattle.sdp_window.proofs.SegmentLaws.{west_most}

-- ---- the latest adjustment, where they rise
-- those past b are passed over
latest_early : (y : Zone) (a : ℕ) (zs : List Zone) (b : ℕ) → rise a zs ≡ true → b < a → latest y zs b ≡ y
unfolding rise latest
latest_early y a [] b r h = refl
latest_early y a (z ∷ zs) b r h =
    let q = (and-eq-true_iff (leb a z.adjustment_time) (rise z.adjustment_time zs)).0 r in
    let l = leb-true a z.adjustment_time q.0 in
    rw (lt-leb z.adjustment_time b (omega arith)) (latest_early y z.adjustment_time zs b q.1 (omega arith))

latest-before : (y a : Zone) (zs : List Zone) (b : ℕ) → rise a.adjustment_time zs ≡ true → b < a.adjustment_time
    → latest y (a ∷ zs) b ≡ y
unfolding latest
latest-before y a zs b r h = rw (lt-leb a.adjustment_time b h) (latest_early y a.adjustment_time zs b r h)

-- a later one takes the place
latest_next : (y a : Zone) (zs : List Zone) (b : ℕ) → y.adjustment_time ≤ a.adjustment_time → a.adjustment_time ≤ b
    → latest y (a ∷ zs) b ≡ latest a zs b
unfolding latest
latest_next y a zs b l h = rw (le-leb a.adjustment_time b h, le-leb y.adjustment_time a.adjustment_time l) refl

-- ---- an end that is not past a
until-past : (stop a b : ℕ) → 0 < a → a ≤ b → dropped (until stop a) b ≡ true
until-past stop a b p h = go (eqb stop 0) refl (leb a stop) refl
  where
    go : (t : Bool) → eqb stop 0 ≡ t → (u : Bool) → leb a stop ≡ u → dropped (cond t a (cond u a stop)) b ≡ true
    go true e u f = rw (ne_eqb a 0 (λ q. omega (arith, q)), le-leb a b h) refl
    go false e true f = rw (ne_eqb a 0 (λ q. omega (arith, q)), le-leb a b h) refl
    go false e false f = rw (e, le-leb stop b (omega (arith, leb-false a stop f))) refl

until_early : (stop a b : ℕ) → b < a → dropped (until stop a) b ≡ dropped stop b
until_early stop a b h = go (eqb stop 0) refl (leb a stop) refl
  where
    go : (t : Bool) → eqb stop 0 ≡ t → (u : Bool) → leb a stop ≡ u → dropped (cond t a (cond u a stop)) b ≡ dropped stop b
    go true e u f = rw (e, ne_eqb a 0 (λ q. omega (arith, q)), lt-leb a b h) refl
    go false e true f =
        rw (e, ne_eqb a 0 (λ q. omega (arith, q)), lt-leb a b h, lt-leb stop b (omega (arith, leb-true a stop f))) refl
    go false e false f = refl

none_either : (t : Bool) → cond {A = List ℕ} t [] [] ≡ []
none_either true = refl
none_either false = refl

module _ (d stop from to : ℕ) where
  -- of b, b + d, .., n of them, those not before the adjustment y, each with the zone offset of the latest of y and zs
  unfoldable zoned_from : Zone → List Zone → ℕ → ℕ → List ℕ
  zoned_from y zs zero b = []
  zoned_from y zs (suc n) b =
      cond (leb y.adjustment_time b) (listed stop from to (latest y zs b).offset b) [] ++ zoned_from y zs n (b + d)

module _ (d stop from to : ℕ) where
  -- the part between two adjustments
  abbrev between : Zone → Zone → ℕ → ℕ → List ℕ
  between y a n b = segment_from d y.adjustment_time (until stop a.adjustment_time) y.offset from to n b

  -- nothing of it lies past its end
  past : (y a : Zone) → 0 < a.adjustment_time → (n b : ℕ) → a.adjustment_time ≤ b → between y a n b ≡ []
  unfolding segment_from listed
  past y a p zero b h = refl
  past y a p (suc n) b h =
      rw (until-past stop a.adjustment_time b p h, none_either (leb y.adjustment_time b)) (past y a p n (b + d) (omega arith))

  -- the part before the first of the zones, and the rest
  split : (y a : Zone) (zs : List Zone) → y.adjustment_time ≤ a.adjustment_time → rise a.adjustment_time zs ≡ true
      → 0 < a.adjustment_time → (n b : ℕ)
      → zoned_from d stop from to y (a ∷ zs) n b ≡ between y a n b ++ zoned_from d stop from to a zs n b
  unfolding zoned_from segment_from listed
  split y a zs l r p zero b = refl
  split y a zs l r p (suc n) b = go (leb a.adjustment_time b) refl (split y a zs l r p n (b + d))
    where
      go : (t : Bool) → leb a.adjustment_time b ≡ t
          → zoned_from d stop from to y (a ∷ zs) n (b + d) ≡ between y a n (b + d) ++ zoned_from d stop from to a zs n (b + d)
          → cond (leb y.adjustment_time b) (listed stop from to (latest y (a ∷ zs) b).offset b) []
          ++ zoned_from d stop from to y (a ∷ zs) n (b + d)
          ≡ (cond (leb y.adjustment_time b) (listed (until stop a.adjustment_time) from to y.offset b) [] ++ between y a n (b + d))
          ++ (cond t (listed stop from to (latest a zs b).offset b) [] ++ zoned_from d stop from to a zs n (b + d))
      go true e ih =
          let h = leb-true a.adjustment_time b e in
          rw (ih, past y a p n (b + d) (omega arith), latest_next y a zs b l h)
          (rw (until-past stop a.adjustment_time b p h, le-leb y.adjustment_time b (omega arith)) refl)
      go false e ih =
          let h = leb-false a.adjustment_time b e in
          rw (ih, latest-before y a zs b r h, until_early stop a.adjustment_time b h)
          (sym (append_assoc (cond (leb y.adjustment_time b) (listed stop from to y.offset b) []) _ _))

  -- an adjustment at 0: nothing lies before it
  zero_first : (y a : Zone) (zs : List Zone) → y.adjustment_time ≡ 0 → a.adjustment_time ≡ 0 → (n b : ℕ)
      → zoned_from d stop from to y (a ∷ zs) n b ≡ zoned_from d stop from to a zs n b
  unfolding zoned_from
  zero_first y a zs f e zero b = refl
  zero_first y a zs f e (suc n) b =
      rw (zero_first y a zs f e n (b + d), latest_next y a zs b (omega arith) (omega arith))
      (rw (le-leb y.adjustment_time b (omega arith), le-leb a.adjustment_time b (omega arith)) refl)

  -- the last part
  last : (y : Zone) (n b : ℕ) → zoned_from d stop from to y [] n b ≡ segment_from d y.adjustment_time stop y.offset from to n b
  unfolding zoned_from segment_from latest
  last y zero b = refl
  last y (suc n) b = rw (last y n (b + d)) refl

  by_parts : (y : Zone) (zs : List Zone) → rise y.adjustment_time zs ≡ true → (n b : ℕ)
      → zoned_from d stop from to y zs n b ≡ parts d stop from to y.offset zs y.adjustment_time n b
  unfolding parts rise
  by_parts y [] r n b = last y n b
  by_parts y (a ∷ zs) r n b =
      let q = (and-eq-true_iff (leb y.adjustment_time a.adjustment_time) (rise a.adjustment_time zs)).0 r in
      go (eqb a.adjustment_time 0) refl (leb-true y.adjustment_time a.adjustment_time q.0) q.1 (by_parts a zs q.1 n b)
    where
      go : (t : Bool) → eqb a.adjustment_time 0 ≡ t → y.adjustment_time ≤ a.adjustment_time → rise a.adjustment_time zs ≡ true
          → zoned_from d stop from to a zs n b ≡ parts d stop from to a.offset zs a.adjustment_time n b
          → zoned_from d stop from to y (a ∷ zs) n b
          ≡ cond t [] (between y a n b) ++ parts d stop from to a.offset zs a.adjustment_time n b
      go true e l r ih =
          let o : a.adjustment_time ≡ 0 = eqb-true a.adjustment_time 0 e in
          zero_first y a zs (omega arith) o n b ∙ ih
      go false e l r ih =
          split y a zs l r (omega (arith, eqb-false a.adjustment_time 0 e)) n b ∙ ap (λ (m : List ℕ). between y a n b ++ m) ih

-- ---- the definition
most_west_lem : (zs : List Zone) → most_west zs ≤ 2 ^ 63
unfolding most_west
most_west_lem [] = omega arith
most_west_lem (a ∷ zs) = go (leb (most_west zs) (west a.offset)) (most_west_lem zs)
  where
    go : (t : Bool) → most_west zs ≤ 2 ^ 63 → cond t (west a.offset) (most_west zs) ≤ 2 ^ 63
    go true h = west_most a.offset
    go false h = h

module _ (start stop interval offset : ℕ) (zones : List Zone) (from to : ℕ) where
  walked : (n k b : ℕ) → b ≡ start + k * interval + offset
      → starts_from start stop interval offset zones from to n k ≡ zoned_from interval stop from to unshifted zones n b
  unfolding starts_from zoned_from
  walked zero k b e = refl
  walked (suc n) k b e =
      rw (← e, le-leb 0 b (omega arith), walked n (k + 1) (b + interval) (omega (arith, add-mul k 1 interval))) refl

  pub series_parts : rise 0 zones ≡ true
      → repeated start stop interval offset zones from to ≡ parts interval stop from to 0 zones 0 (steps_for interval to) (start + offset)
  unfolding repeated
  series_parts r =
      go (eqb interval 0) refl
      ∙ walked (steps_for interval to) 0 (start + offset) (omega arith)
      ∙ by_parts interval stop from to unshifted zones r (steps_for interval to) (start + offset)
    where
      go : (t : Bool) → eqb interval 0 ≡ t
          → repeated start stop interval offset zones from to
          ≡ starts_from start stop interval offset zones from to (cond t 1 (to + 2 ^ 63)) 0
      go true e = rw e refl
      go false e =
          let p : 0 < interval = omega (arith, eqb-false interval 0 e) in
          sym (every_k start stop interval offset zones from to p (to + 2 ^ 63) (omega (arith, most_west_lem zones)))

-- a time without repeats is one part
pub once-part : (stop from to start : ℕ)
    → listed stop from to 0 start ≡ segment_from 0 0 stop 0 from to (steps_for 0 to) (start + 0)
unfolding segment_from
once-part stop from to start =
    let e : start + 0 ≡ start = omega arith in
    rw (e, le-leb 0 start (omega arith)) (sym (append-nil (listed stop from to 0 start)))
