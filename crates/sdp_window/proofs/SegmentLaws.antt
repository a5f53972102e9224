-- A part of the line of time with one zone offset is a window on the progression. Assumes nothing.
use Prim.Native.Nat.{ℕ, zero, suc, ◌+◌, ◌*◌, ◌-◌, ◌%◌, ◌^◌, ◌≤◌, ◌<◌}
use mathlib.Core.Path.{◌≡◌, refl, sym, ap, ◌∙◌}
use mathlib.Core.Bool.{Bool, true, false, cond, not, ◌&&◌, and-eq-true_iff, and-false}
use mathlib.Core.List.{List, [], ◌∷◌, ◌++◌}
use native.Mathlib.Nat.{le-mul_of_pos_right}
use native.Mathlib.Omega.{arith}
use lib.Dec.{leb, ltb, eqb}
use borrow.Author.Tests.{not-true, ltb-true, ltb-false, leb-true, leb-false, lt-ltb, le-ltb, le-leb, lt-leb, eqb-false, eq-eqb, ne_eqb}
use Rattle.sdp_hours.specs.Hours.{east, west, dropped, in_window, listed}
use Rattle.sdp_window.specs.Run.{numbers, of_run, no_run, gap, first_of, run_of, sum_of, run_in, once_in, lowest, highest, end_of, part_run}
use Rattle.sdp_window.specs.Parts.{segment_from, steps_for}
use Rattle.sdp_window.specs.declared.Run.{Run}
use Rattle.sdp_window.specs.declared.Series.{Series}
use Rattle.sdp_window.specs.declared.Part.{Part}
use Rattle.sdp_window.specs.declared.Window.{Window}
use Rattle.sdp_window.specs.declared.Sum.{Sum}
use Rattle.sdp_window.specs.declared.Sum.TheVariants.{Below, At, Above}
use Rattle.sdp_window.proofs.RunLaws.{first_at, first_least, first_after, counted_none, counted_below, run_same, members, members_run}

-- ---- tests
same_test : (p q : Bool) → (p ≡ true → q ≡ true) → (q ≡ true → p ≡ true) → p ≡ q
same_test true q f g = sym (f refl)
same_test false true f g = g refl
same_test false false f g = refl

-- ---- the greater and the less of two
over : (p v : ℕ) → (p ≤ cond (leb p v) v p) × (v ≤ cond (leb p v) v p)
over p v = go (leb p v) refl
  where
    go : (t : Bool) → leb p v ≡ t → (p ≤ cond t v p) × (v ≤ cond t v p)
    go true q = (leb-true p v q, omega arith)
    go false q = (omega arith, omega (arith, leb-false p v q))

least : (t : Bool) (p v m : ℕ) → p ≤ m → v ≤ m → cond t v p ≤ m
least true p v m h l = l
least false p v m h l = h

under : (v p : ℕ) → (cond (leb v p) v p ≤ v) × (cond (leb v p) v p ≤ p)
under v p = go (leb v p) refl
  where
    go : (t : Bool) → leb v p ≡ t → (cond t v p ≤ v) × (cond t v p ≤ p)
    go true q = (omega arith, leb-true v p q)
    go false q = (omega (arith, leb-false v p q), omega arith)

most : (t : Bool) (v p m : ℕ) → m < v → m < p → m < cond t v p
most true v p m h l = h
most false v p m h l = l

-- ---- both ends of the window. a is a time, e and w what a zone offset adds and takes away, x a start with both
module _ (from a e w x : ℕ) (small : x < 2 ^ 64 - 1 + w) where
  low_to : lowest from (sum_of (a + 0 + e) w) + w ≤ x → (from + w ≤ x) × (a + e ≤ x)
  unfolding sum_of lowest
  low_to = go (ltb (a + 0 + e) w) refl (ltb (a + 0 + e - w) (2 ^ 64)) refl
    where
      go : (t : Bool) → ltb (a + 0 + e) w ≡ t → (u : Bool) → ltb (a + 0 + e - w) (2 ^ 64) ≡ u
          → lowest from (cond t (Below (w - (a + 0 + e))) (cond u (At (a + 0 + e - w)) Above)) + w ≤ x → (from + w ≤ x) × (a + e ≤ x)
      go true p u q h = (h, omega (arith, ltb-true (a + 0 + e) w p))
      go false p true q h =
          let l : cond (leb from (a + 0 + e - w)) (a + 0 + e - w) from + w ≤ x = h in
          let m = over from (a + 0 + e - w) in
          (omega (arith, m.0), omega (arith, m.1))
      go false p false q h = let l : 2 ^ 64 - 1 + w ≤ x = h in absurd (omega arith)

  low_from : from + w ≤ x → a + e ≤ x → lowest from (sum_of (a + 0 + e) w) + w ≤ x
  unfolding sum_of lowest
  low_from h k = go (ltb (a + 0 + e) w) refl (ltb (a + 0 + e - w) (2 ^ 64)) refl
    where
      go : (t : Bool) → ltb (a + 0 + e) w ≡ t → (u : Bool) → ltb (a + 0 + e - w) (2 ^ 64) ≡ u
          → lowest from (cond t (Below (w - (a + 0 + e))) (cond u (At (a + 0 + e - w)) Above)) + w ≤ x
      go true p u q = h
      go false p true q =
          let v = a + 0 + e - w in
          let l : cond (leb from v) v from ≤ x - w = least (leb from v) from v (x - w) (omega arith) (omega arith) in
          let m : cond (leb from v) v from + w ≤ x = omega arith in
          m
      go false p false q = absurd (omega (arith, ltb-false (a + 0 + e - w) (2 ^ 64) q))

module _ (to a e w x : ℕ) (limit : to < 2 ^ 64) (there : w ≤ x) where
  high_to : x < highest to (sum_of (a + 0 + e) w) + w → (x < to + w) × (x < a + e)
  unfolding sum_of highest
  high_to = go (ltb (a + 0 + e) w) refl (ltb (a + 0 + e - w) (2 ^ 64)) refl
    where
      go : (t : Bool) → ltb (a + 0 + e) w ≡ t → (u : Bool) → ltb (a + 0 + e - w) (2 ^ 64) ≡ u
          → x < highest to (cond t (Below (w - (a + 0 + e))) (cond u (At (a + 0 + e - w)) Above)) + w → (x < to + w) × (x < a + e)
      go true p u q h = let l : x < 0 + w = h in absurd (omega arith)
      go false p true q h =
          let l : x < cond (leb (a + 0 + e - w) to) (a + 0 + e - w) to + w = h in
          let m = under (a + 0 + e - w) to in
          let n = ltb-false (a + 0 + e) w p in
          (omega (arith, m.1), omega (arith, m.0))
      go false p false q h = let l : x < to + w = h in (l, omega (arith, ltb-false (a + 0 + e - w) (2 ^ 64) q))

  high_from : x < to + w → x < a + e → x < highest to (sum_of (a + 0 + e) w) + w
  unfolding sum_of highest
  high_from h k = go (ltb (a + 0 + e) w) refl (ltb (a + 0 + e - w) (2 ^ 64)) refl
    where
      go : (t : Bool) → ltb (a + 0 + e) w ≡ t → (u : Bool) → ltb (a + 0 + e - w) (2 ^ 64) ≡ u
          → x < highest to (cond t (Below (w - (a + 0 + e))) (cond u (At (a + 0 + e - w)) Above)) + w
      go true p u q = absurd (omega (arith, ltb-true (a + 0 + e) w p))
      go false p true q =
          let v = a + 0 + e - w in
          let l : x - w < cond (leb v to) v to = most (leb v to) v to (x - w) (omega arith) (omega arith) in
          let m : x < cond (leb v to) v to + w = omega arith in
          m
      go false p false q = h

-- the end is not moved past the window
highest_most : (to : ℕ) (s : Sum) → highest to s ≤ to
unfolding highest
highest_most to (Below b) = omega arith
highest_most to (At v) = (under v to).1
highest_most to Above = omega arith

end_most : (end e w to : ℕ) → end_of end e w to ≤ to
end_most end e w to = go (eqb end 0)
  where
    go : (t : Bool) → cond t to (highest to (sum_of (end + 0 + e) w)) ≤ to
    go true = omega arith
    go false = highest_most to (sum_of (end + 0 + e) w)

-- ---- the definition's test, and the code's; t says that there is no end
module _ (after end e w from to b : ℕ) (limit : to < 2 ^ 64) where
  abbrev asked : Bool → Bool
  asked t = leb after b && (not (not t && leb end b) && (leb (from + w) (b + e) && ltb (b + e) (to + w)))

  abbrev found : Bool → Bool
  found t =
      leb (lowest from (sum_of (after + 0 + e) w) + w) (b + e)
      && ltb (b + e) (cond t to (highest to (sum_of (end + 0 + e) w)) + w)

  free_to : asked true ≡ true → found true ≡ true
  free_to h =
      let p = (and-eq-true_iff (leb after b) (leb (from + w) (b + e) && ltb (b + e) (to + w))).0 h in
      let q = (and-eq-true_iff (leb (from + w) (b + e)) (ltb (b + e) (to + w))).0 p.1 in
      let u = ltb-true (b + e) (to + w) q.1 in
      let f = leb-true (from + w) (b + e) q.0 in
      let l = low_from from after e w (b + e) (omega arith) f (omega (arith, leb-true after b p.0)) in
      rw (le-leb (lowest from (sum_of (after + 0 + e) w) + w) (b + e) l) q.1

  free_from : found true ≡ true → asked true ≡ true
  free_from h =
      let lo = lowest from (sum_of (after + 0 + e) w) in
      let p = (and-eq-true_iff (leb (lo + w) (b + e)) (ltb (b + e) (to + w))).0 h in
      let u = ltb-true (b + e) (to + w) p.1 in
      let l = low_to from after e w (b + e) (omega arith) (leb-true (lo + w) (b + e) p.0) in
      rw (le-leb after b (omega (arith, l.1)), le-leb (from + w) (b + e) l.0) p.1

  ended_to : asked false ≡ true → found false ≡ true
  ended_to h =
      let p = (and-eq-true_iff (leb after b) (not (leb end b) && (leb (from + w) (b + e) && ltb (b + e) (to + w)))).0 h in
      let r = (and-eq-true_iff (not (leb end b)) (leb (from + w) (b + e) && ltb (b + e) (to + w))).0 p.1 in
      let q = (and-eq-true_iff (leb (from + w) (b + e)) (ltb (b + e) (to + w))).0 r.1 in
      let u = ltb-true (b + e) (to + w) q.1 in
      let f = leb-true (from + w) (b + e) q.0 in
      let s = leb-false end b (not-true (leb end b) r.0) in
      let l = low_from from after e w (b + e) (omega arith) f (omega (arith, leb-true after b p.0)) in
      let m = high_from to end e w (b + e) limit (omega arith) u (omega arith) in
      rw (le-leb (lowest from (sum_of (after + 0 + e) w) + w) (b + e) l)
      (lt-ltb (b + e) (highest to (sum_of (end + 0 + e) w) + w) m)

  ended_from : found false ≡ true → asked false ≡ true
  ended_from h =
      let lo = lowest from (sum_of (after + 0 + e) w) in
      let hi = highest to (sum_of (end + 0 + e) w) in
      let p = (and-eq-true_iff (leb (lo + w) (b + e)) (ltb (b + e) (hi + w))).0 h in
      let v = ltb-true (b + e) (hi + w) p.1 in
      let t = highest_most to (sum_of (end + 0 + e) w) in
      let l = low_to from after e w (b + e) (omega (arith, t, v)) (leb-true (lo + w) (b + e) p.0) in
      let m = high_to to end e w (b + e) limit (omega (arith, l.0)) v in
      rw (le-leb after b (omega (arith, l.1)), lt-leb end b (omega (arith, m.1)), le-leb (from + w) (b + e) l.0)
      (lt-ltb (b + e) (to + w) m.0)

  same_window : asked (eqb end 0) ≡ found (eqb end 0)
  same_window = go (eqb end 0)
    where
      go : (t : Bool) → asked t ≡ found t
      go true = same_test (asked true) (found true) free_to free_from
      go false = same_test (asked false) (found false) ended_to ended_from

-- ---- what a part lists
one_more : (p q : Bool) (v : ℕ) (l : List ℕ) → cond p (cond q (v ∷ []) []) [] ++ l ≡ cond (p && q) (v ∷ l) l
one_more true true v l = refl
one_more true false v l = refl
one_more false q v l = refl

module _ (d after end z from to : ℕ) (limit : to < 2 ^ 64) where
  segment_members : (n b : ℕ)
      → segment_from d after end z from to n b
      ≡ members d (west z) (lowest from (sum_of (after + 0 + east z) (west z))) (end_of end (east z) (west z) to) n (b + east z)
  unfolding segment_from members listed
  segment_members zero b = refl
  segment_members (suc n) b =
      let e : b + d + east z ≡ b + east z + d = omega arith in
      one_more (leb after b) (not (dropped end b) && in_window from to z b) (b + east z - west z) (segment_from d after end z from to n (b + d))
      ∙ rw (same_window after end (east z) (west z) from to b limit, segment_members n (b + d), e) refl

-- a progression from a sum on
run_in_sum : (d lo hi x w : ℕ) → hi < 2 ^ 64 → run_in (sum_of x w) d lo hi ≡ run_of d w lo hi x
unfolding sum_of run_in
run_in_sum d lo hi x w h = go (ltb x w) refl
  where
    past : (t : Bool) → leb (lo + w) x ≡ t → 2 ^ 64 + w ≤ x → no_run ≡ run_of d w lo hi x
    past true q l = rw (first_at d w lo x (leb-true (lo + w) x q)) (sym (counted_none d hi (x - w) (omega arith)))
    past false q l =
        let m = leb-false (lo + w) x q in
        rw (first_after d w lo x m) (sym (counted_none d hi (lo + gap d ((lo + w - x) % d)) (omega arith)))

    at : (t : Bool) → ltb (x - w) (2 ^ 64) ≡ t → w ≤ x → run_in (cond t (At (x - w)) Above) d lo hi ≡ run_of d w lo hi x
    at true q l = run_same d 0 lo hi (x - w) w x (omega arith)
    at false q l = past (leb (lo + w) x) refl (omega (arith, ltb-false (x - w) (2 ^ 64) q))

    go : (t : Bool) → ltb x w ≡ t
        → run_in (cond t (Below (w - x)) (cond (ltb (x - w) (2 ^ 64)) (At (x - w)) Above)) d lo hi ≡ run_of d w lo hi x
    go true q = let l = ltb-true x w q in run_same d (w - x) lo hi 0 w x (omega arith)
    go false q = at (ltb (x - w) (2 ^ 64)) refl (ltb-false x w q)

-- one number alone
le_same : (lo w x : ℕ) → w ≤ x → leb (lo + w) x ≡ leb lo (x - w)
le_same lo w x h =
    same_test (leb (lo + w) x) (leb lo (x - w)) (λ e. le-leb lo (x - w) (omega (arith, leb-true (lo + w) x e)))
    (λ e. le-leb (lo + w) x (omega (arith, leb-true lo (x - w) e)))

lt_same : (x hi w : ℕ) → w ≤ x → ltb x (hi + w) ≡ ltb (x - w) hi
lt_same x hi w h =
    same_test (ltb x (hi + w)) (ltb (x - w) hi) (λ e. lt-ltb (x - w) hi (omega (arith, ltb-true x (hi + w) e)))
    (λ e. lt-ltb x (hi + w) (omega (arith, ltb-true (x - w) hi e)))

once_sum : (d lo hi x w : ℕ) → hi < 2 ^ 64 → members d w lo hi 1 x ≡ of_run d (once_in (sum_of x w) lo hi)
unfolding sum_of once_in members numbers
once_sum d lo hi x w h = go (ltb x w) refl
  where
    one : (t : Bool) → cond t ((x - w) ∷ []) [] ≡ of_run d (cond t (record { first = x - w; count = 1 }) no_run)
    one true = refl
    one false = refl

    at : (t : Bool) → ltb (x - w) (2 ^ 64) ≡ t → w ≤ x
        → cond (leb (lo + w) x && ltb x (hi + w)) ((x - w) ∷ []) [] ≡ of_run d (once_in (cond t (At (x - w)) Above) lo hi)
    at true q l = rw (le_same lo w x l, lt_same x hi w l) (one (leb lo (x - w) && ltb (x - w) hi))
    at false q l =
        rw (le-ltb x (hi + w) (omega (arith, ltb-false (x - w) (2 ^ 64) q)), and-false (leb (lo + w) x)) refl

    go : (t : Bool) → ltb x w ≡ t
        → cond (leb (lo + w) x && ltb x (hi + w)) ((x - w) ∷ []) []
        ≡ of_run d (once_in (cond t (Below (w - x)) (cond (ltb (x - w) (2 ^ 64)) (At (x - w)) Above)) lo hi)
    go true q = rw (lt-leb (lo + w) x (omega (arith, ltb-true x w q))) refl
    go false q = at (ltb (x - w) (2 ^ 64)) refl (ltb-false x w q)

pub west_most : (z : ℕ) → west z ≤ 2 ^ 63
west_most z = go (leb (2 ^ 63) z) refl
  where
    go : (t : Bool) → leb (2 ^ 63) z ≡ t → cond t (2 ^ 64 - z) 0 ≤ 2 ^ 63
    go true e = omega (arith, leb-true (2 ^ 63) z e)
    go false e = omega arith

-- one number alone lies below hi, too
once_below : (s : Sum) (d lo hi : ℕ) → 0 < (once_in s lo hi).count → (once_in s lo hi).first + ((once_in s lo hi).count - 1) * d < hi
unfolding once_in
once_below (Below b) d lo hi = λ h. absurd (omega arith)
once_below (At a) d lo hi = go (leb lo a) (ltb a hi) refl
  where
    go : (t u : Bool) → ltb a hi ≡ u → 0 < (cond (t && u) (record { first = a; count = 1 }) no_run).count
        → (cond (t && u) (record { first = a; count = 1 }) no_run).first
        + ((cond (t && u) (record { first = a; count = 1 }) no_run).count - 1) * d < hi
    go true true e h = omega (arith, ltb-true a hi e)
    go true false e h = absurd (omega (arith, h))
    go false u e h = absurd (omega (arith, h))
once_below Above d lo hi = λ h. absurd (omega arith)

run_below : (s : Sum) (d lo hi : ℕ) → 0 < (run_in s d lo hi).count → (run_in s d lo hi).first + ((run_in s d lo hi).count - 1) * d < hi
unfolding run_in
run_below (Below b) d lo hi = counted_below d hi (first_of d b lo 0)
run_below (At a) d lo hi = counted_below d hi (first_of d 0 lo a)
run_below Above d lo hi = λ h. absurd (omega arith)

module _ (s : Series) (p : Part) (w : Window) (limit : w.to < 2 ^ 64) where
  abbrev x : ℕ
  x = s.start + s.offset + east p.zone

  abbrev lo : ℕ
  lo = lowest w.from (sum_of (p.after + 0 + east p.zone) (west p.zone))

  abbrev hi : ℕ
  hi = end_of p.end (east p.zone) (west p.zone) w.to

  abbrev found_run : Bool → Run
  found_run t = cond t (once_in (sum_of x (west p.zone)) lo hi) (run_in (sum_of x (west p.zone)) s.interval lo hi)

  hi_most : hi ≤ w.to
  hi_most = end_most p.end (east p.zone) (west p.zone) w.to

  abbrev listing : ℕ → List ℕ
  listing n = segment_from s.interval p.after p.end p.zone w.from w.to n (s.start + s.offset)

  listing_members : (n : ℕ) → listing n ≡ members s.interval (west p.zone) lo hi n x
  listing_members n = segment_members s.interval p.after p.end p.zone w.from w.to limit n (s.start + s.offset)

  -- what a part lists of a series is the run that is found
  pub part-run :
      segment_from s.interval p.after p.end p.zone w.from w.to (steps_for s.interval w.to) (s.start + s.offset)
      ≡ of_run s.interval (part_run s p w)
  unfolding part_run
  part-run = go (eqb s.interval 0) refl
    where
      go : (t : Bool) → eqb s.interval 0 ≡ t → listing (cond t 1 (w.to + 2 ^ 63)) ≡ of_run s.interval (found_run t)
      go true e = listing_members 1 ∙ once_sum s.interval lo hi x (west p.zone) (omega (arith, hi_most))
      go false e =
          let n = w.to + 2 ^ 63 in
          let l : 0 < s.interval = omega (arith, eqb-false s.interval 0 e) in
          listing_members n
          ∙ members_run s.interval (west p.zone) lo hi l n x
          (omega (arith, le-mul_of_pos_right n l, hi_most, west_most p.zone))
          ∙ sym (ap (of_run s.interval) (run_in_sum s.interval lo hi x (west p.zone) (omega (arith, hi_most))))

  -- its last number has 64 bits
  pub part-fits : 0 < (part_run s p w).count
      → (part_run s p w).first + ((part_run s p w).count - 1) * s.interval < 2 ^ 64
  unfolding part_run
  part-fits = go (eqb s.interval 0)
    where
      go : (t : Bool) → 0 < (found_run t).count → (found_run t).first + ((found_run t).count - 1) * s.interval < 2 ^ 64
      go true h = omega (arith, once_below (sum_of x (west p.zone)) s.interval lo hi h, hi_most)
      go false h = omega (arith, run_below (sum_of x (west p.zone)) s.interval lo hi h, hi_most)

-- ---- a window of nothing
run_none : (x : Sum) (d lo hi : ℕ) → hi ≤ lo → run_in x d lo hi ≡ no_run
unfolding run_in
run_none (Below b) d lo hi h = counted_none d hi _ (omega (arith, first_least d b lo 0))
run_none (At a) d lo hi h = counted_none d hi _ (omega (arith, first_least d 0 lo a))
run_none Above d lo hi h = refl

once_none : (x : Sum) (lo hi : ℕ) → hi ≤ lo → once_in x lo hi ≡ no_run
unfolding once_in
once_none (Below b) lo hi h = refl
once_none (At a) lo hi h = go (leb lo a) refl
  where
    go : (t : Bool) → leb lo a ≡ t → cond (t && ltb a hi) (record { first = a; count = 1 }) no_run ≡ no_run
    go true q = rw (le-ltb a hi (omega (arith, leb-true lo a q))) refl
    go false q = refl
once_none Above lo hi h = refl

-- ---- as the code goes
pub part_none : (s : Series) (p : Part) (w : Window) (lo hi : ℕ) (a : Sum) → hi ≡ end_of p.end (east p.zone) (west p.zone) w.to
    → a ≡ sum_of (p.after + 0 + east p.zone) (west p.zone) → lo ≡ lowest w.from a → hi ≤ lo → no_run ≡ part_run s p w
unfolding part_run
part_none s p w lo hi a h b l n = rw (← b, ← l, ← h) (go (eqb s.interval 0))
  where
    go : (t : Bool)
        → no_run
        ≡ cond t (once_in (sum_of (s.start + s.offset + east p.zone) (west p.zone)) lo hi)
        (run_in (sum_of (s.start + s.offset + east p.zone) (west p.zone)) s.interval lo hi)
    go true = sym (once_none _ lo hi n)
    go false = sym (run_none _ s.interval lo hi n)

module _ (s : Series) (p : Part) (w : Window) (lo hi : ℕ) (x a : Sum) (h : hi ≡ end_of p.end (east p.zone) (west p.zone) w.to)
    (b : a ≡ sum_of (p.after + 0 + east p.zone) (west p.zone)) (l : lo ≡ lowest w.from a)
    (e : x ≡ sum_of (s.start + s.offset + east p.zone) (west p.zone)) (r : Run) where
  pub part-once : s.interval ≡ 0 → r ≡ once_in x lo hi → r ≡ part_run s p w
  unfolding part_run
  part-once n q = rw (eq-eqb s.interval 0 n, ← b, ← l, ← e, ← h) q

  pub part_more : (s.interval ≡ 0 → ⊥) → r ≡ run_in x s.interval lo hi → r ≡ part_run s p w
  unfolding part_run
  part_more n q = rw (ne_eqb s.interval 0 n, ← b, ← l, ← e, ← h) q
