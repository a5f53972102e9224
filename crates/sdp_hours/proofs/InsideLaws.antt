-- All that is listed lies in the window. Assumes nothing.
use Prim.Native.Nat.{ℕ, zero, suc, ◌+◌, ◌-◌}
use mathlib.Core.Path.{◌≡◌, refl}
use mathlib.Core.Bool.{Bool, true, false, cond, not, ◌&&◌}
use mathlib.Core.List.{List, [], ◌∷◌, ◌++◌}
use native.Mathlib.Omega.{arith}
use lib.Dec.{leb, ltb, eqb}
use borrow.Author.Tests.{leb-true, ltb-true}
use Rattle.sdp_area.specs.Session.{Time, Repeat, Offset, Zone}
use Rattle.sdp_hours.specs.Hours as hours
use Rattle.sdp_hours.specs.Hours.{east, west, dropped, listed, start_of, starts_from, repeated}
use Rattle.sdp_hours.specs.Listing as listing
use Rattle.sdp_hours.specs.Listing.{Start, before, insert, into, sorted}
use Rattle.sdp_decode.specs.Rows as rows
use Rattle.sdp_decode.specs.Rows.{each, mine}
use Rattle.sdp_hours.specs.Starts as starts
use Rattle.sdp_hours.specs.Starts.{owns, numbered, of_offset, of_repeat, of_time, starts_of}
use Rattle.sdp_hours.specs.Rises as rising
use Rattle.sdp_hours.specs.Rises.{InWindow}
use Rattle.sdp_hours.proofs.NumberedLaws.{numbered-parts}

module _ (from to : ℕ) where
  -- ---- lists put together
  inside_parts : (xs ys : List Start) → InWindow from to xs → InWindow from to ys → InWindow from to (xs ++ ys)
  unfolding rising.InWindow
  inside_parts [] ys p q = q
  inside_parts (x ∷ xs) ys p q = (p.0, inside_parts xs ys p.1 q)

  inside_cond : (t : Bool) (xs ys : List Start) → InWindow from to xs → InWindow from to ys → InWindow from to (cond t xs ys)
  inside_cond true xs ys p q = p
  inside_cond false xs ys p q = q

  inside_each : {X : Type 0} (f : ℕ → X → List Start) → ((n : ℕ) (x : X) → InWindow from to (f n x)) → (n : ℕ) (xs : List X)
      → InWindow from to (each f n xs)
  unfolding rows.each rising.InWindow
  inside_each f p n [] = tt
  inside_each f p n (x ∷ xs) = inside_parts (f n x) (each f (n + 1) xs) (p n x) (inside_each f p (n + 1) xs)

  inside_insert : (x : Start) (l : List Start) → InWindow from to (x ∷ l) → InWindow from to (insert x l)
  unfolding rising.InWindow listing.insert
  inside_insert x [] p = p
  inside_insert x (y ∷ l) p =
      inside_cond (before x y) (x ∷ y ∷ l) (y ∷ insert x l) p (p.1.0, inside_insert x l (p.0, p.1.1))

  inside_into : (l xs : List Start) → InWindow from to l → InWindow from to xs → InWindow from to (into l xs)
  unfolding rising.InWindow listing.into
  inside_into l [] p q = p
  inside_into l (x ∷ xs) p q = inside_into (insert x l) xs (inside_insert x l (q.0, p)) q.1

  pub inside_sorted : (xs : List Start) → InWindow from to xs → InWindow from to (sorted xs)
  unfolding rising.InWindow
  inside_sorted xs p = inside_into [] xs tt p

  -- ---- one start with a zone offset that adds e and takes w away
  one_inside : (i j b e w : ℕ) (d : Bool)
      → InWindow from to (numbered i j (cond (d && (leb (from + w) (b + e) && ltb (b + e) (to + w))) ((b + e - w) ∷ []) []))
  unfolding rising.InWindow starts.numbered
  one_inside i j b e w d = go d (leb (from + w) (b + e)) (ltb (b + e) (to + w)) refl refl
    where
      go : (d l h : Bool) → leb (from + w) (b + e) ≡ l → ltb (b + e) (to + w) ≡ h
          → InWindow from to (numbered i j (cond (d && (l && h)) ((b + e - w) ∷ []) []))
      go true true true p q =
          let r = leb-true (from + w) (b + e) p in
          ((omega (arith, r), omega (arith, r, ltb-true (b + e) (to + w) q)), tt)
      go true true false p q = tt
      go true false h p q = tt
      go false l h p q = tt

  none_inside : (i j : ℕ) → InWindow from to (numbered i j [])
  unfolding rising.InWindow starts.numbered
  none_inside i j = tt

  listed_inside : (i j stop z b : ℕ) → InWindow from to (numbered i j (listed stop from to z b))
  unfolding hours.listed
  listed_inside i j stop z b = one_inside i j b (east z) (west z) (not (dropped stop b))

  -- ---- a repeat
  module _ (i j start stop interval offset : ℕ) (zs : List Zone) where
    abbrev ones : ℕ → List ℕ
    ones k = start_of start stop interval offset zs from to k

    abbrev rest : ℕ → ℕ → List ℕ
    rest n k = starts_from start stop interval offset zs from to n k

    from_inside : (n k : ℕ) → InWindow from to (numbered i j (rest n k))
    unfolding hours.starts_from
    from_inside zero k = none_inside i j
    from_inside (suc n) k =
        rw (numbered-parts i j (ones k) (rest n (k + 1)))
        (inside_parts (numbered i j (ones k)) (numbered i j (rest n (k + 1))) (listed_inside i j stop _ _) (from_inside n (k + 1)))

    repeated_inside : InWindow from to (numbered i j (repeated start stop interval offset zs from to))
    unfolding hours.repeated
    repeated_inside = from_inside _ 0

  -- ---- the tables
  module _ (rs : List Repeat) (os : List Offset) (zs : List Zone) where
    mine_inside : (n owner : ℕ) (xs : List Start) → InWindow from to xs → InWindow from to (mine n owner xs)
    unfolding rows.mine rising.InWindow
    mine_inside n owner xs p = inside_cond (eqb owner n) xs [] p tt

    repeat_inside : (i : ℕ) (t : Time) (j : ℕ) (r : Repeat) → InWindow from to (of_repeat rs os zs from to i t j r)
    unfolding starts.of_repeat
    repeat_inside i t j r =
        inside_cond (owns (λ o. o.owner) j os) _ _
        (inside_each (λ k o. mine j o.owner (of_offset rs os zs from to i t j r o.offset))
        (λ k o. mine_inside j o.owner _ (repeated_inside i j t.start_time t.stop_time r.repeat_interval o.offset zs)) 1 os)
        (repeated_inside i j t.start_time t.stop_time r.repeat_interval 0 zs)

    time_inside : (i : ℕ) (t : Time) → InWindow from to (of_time rs os zs from to i t)
    unfolding starts.of_time rising.InWindow
    time_inside i t =
        inside_cond (eqb t.start_time 0) [] _ tt
        (inside_cond (owns (λ r. r.owner) i rs) _ _
        (inside_each (λ j r. mine i r.owner (of_repeat rs os zs from to i t j r))
        (λ j r. mine_inside i r.owner _ (repeat_inside i t j r)) 1 rs)
        (listed_inside i 0 t.stop_time 0 t.start_time))

    pub starts_of_inside : (ts : List Time) → InWindow from to (starts_of rs os zs from to ts)
    unfolding starts.starts_of
    starts_of_inside ts = inside_each (of_time rs os zs from to) time_inside 1 ts
