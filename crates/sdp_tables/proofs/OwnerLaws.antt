-- Rows of one owner stand together, since owners never fall. Assumes nothing.
use mathlib.Core.Path.{◌≡◌, refl, sym, ap, ap₂, ◌∙◌}
use mathlib.Core.Bool.{Bool, true, false, ◌&&◌}
use mathlib.Core.List.{List, [], ◌++◌}
use Prim.Native.Nat.{ℕ, zero, suc, ◌+◌, ◌*◌, ◌-◌, ◌/◌, ◌≤◌, ◌<◌}
use native.Mathlib.Nat.{suc-mul, add-mul, one-mul}
use native.Mathlib.Omega.{arith}
use lib.Dec.{leb}
use lib.ListN.{length}
use borrow.Author.Tests.{leb-true, leb-false, eq-eqb, ne_eqb}
use Rattle.sdp_bytes.proofs.ScanLaws.{and_left, and_right}
use Rattle.sdp_cells.specs.Bytes.{num}
use Rattle.sdp_area.specs.Area.{connections_at, bandwidths_at, repeats_at, offsets_at, attributes_at, medias_at, times_at}
use Rattle.sdp_valid.specs.Judge as judge
use Rattle.sdp_valid.specs.Judge.{rising, owned, owners}
use Rattle.sdp_valid.specs.Counted.{Inside}
use Rattle.sdp_valid.proofs.CountedLaws.{rest_inside, row_inside}
use Rattle.sdp_put.specs.declared.Out.{Out}
use Rattle.sdp_put.specs.Puts.{Puts}
use Rattle.sdp_put.proofs.PutsLaws.{begin, finish, said}
use Rattle.sdp_decode.specs.Rows as rows
use Rattle.sdp_decode.specs.Rows.{each_at, mine}
use Rattle.sdp_tables.specs.Tables.{own, NeverFall, Parted}
use Rattle.sdp_tables.proofs.RowLaws.{Left, left_turn}

-- ---- what `judge` found: owners never fall
module _ (a : List ℕ) (w most : ℕ) where
  -- the place of the row after the next j
  next : (p j : ℕ) → num 2 a (p + suc j * w) ≡ num 2 a (p + w + j * w)
  next p j = ap (num 2 a) (let z : p + suc j * w ≡ p + w + j * w = omega (arith, suc-mul j w) in z)

  first : (p : ℕ) → num 2 a (p + 0 * w) ≡ num 2 a p
  first p = ap (num 2 a) (let z : p + 0 * w ≡ p = omega arith in z)

  -- the next owner, and those after it
  here : (n lo p : ℕ) → rising a w most (suc n) lo p ≡ true → lo ≤ num 2 a p
  unfolding judge.rising
  here n lo p h =
      leb-true lo (num 2 a p) (and_left (leb lo (num 2 a p)) (leb (num 2 a p) most) (and_left (leb lo (num 2 a p) && leb (num 2 a p) most) (rising a w most n (num 2 a p) (p + w)) h))

  there : (n lo p : ℕ) → rising a w most (suc n) lo p ≡ true → rising a w most n (num 2 a p) (p + w) ≡ true
  unfolding judge.rising
  there n lo p h = and_right (leb lo (num 2 a p) && leb (num 2 a p) most) (rising a w most n (num 2 a p) (p + w)) h

  low : (n lo p : ℕ) → rising a w most n lo p ≡ true → (j : ℕ) → j < n → lo ≤ num 2 a (p + j * w)
  low zero lo p h j l = absurd (omega arith)
  low (suc n) lo p h zero l = omega (arith, first p, here n lo p h)
  low (suc n) lo p h (suc j) l = omega (arith, next p j, here n lo p h, low n (num 2 a p) (p + w) (there n lo p h) j (omega arith))

  rise : (n lo p : ℕ) → rising a w most n lo p ≡ true → (i j : ℕ) → i ≤ j → j < n → num 2 a (p + i * w) ≤ num 2 a (p + j * w)
  rise zero lo p h i j k l = absurd (omega arith)
  rise (suc n) lo p h zero zero k l = omega arith
  rise (suc n) lo p h zero (suc j) k l = omega (arith, first p, next p j, low n (num 2 a p) (p + w) (there n lo p h) j (omega arith))
  rise (suc n) lo p h (suc i) zero k l = absurd (omega arith)
  rise (suc n) lo p h (suc i) (suc j) k l = omega (arith, next p i, next p j, rise n (num 2 a p) (p + w) (there n lo p h) i j (omega arith) (omega arith))

never_fall : (a : List ℕ) (base w lo most : ℕ) → rising a w most (num 2 a base) lo (base + 2) ≡ true → NeverFall a base w
never_fall a base w lo most h = record { rise = rise a w most (num 2 a base) lo (base + 2) h }

module _ (a : List ℕ) (h : owners a ≡ true) where
  pub connections-rise : NeverFall a connections_at 14
  unfolding judge.owners
  connections-rise = never_fall a connections_at 14 1 (num 2 a medias_at) (and_left (owned a connections_at 14 1 medias_at) _ h)

  after-connections : (owned a bandwidths_at 14 0 medias_at && (owned a repeats_at 18 1 times_at && (owned a offsets_at 10 1 repeats_at && owned a attributes_at 12 0 medias_at))) ≡ true
  unfolding judge.owners
  after-connections = and_right (owned a connections_at 14 1 medias_at) _ h

  pub bandwidths-rise : NeverFall a bandwidths_at 14
  bandwidths-rise = never_fall a bandwidths_at 14 0 (num 2 a medias_at) (and_left _ _ after-connections)

  after-bandwidths : (owned a repeats_at 18 1 times_at && (owned a offsets_at 10 1 repeats_at && owned a attributes_at 12 0 medias_at)) ≡ true
  after-bandwidths = and_right (owned a bandwidths_at 14 0 medias_at) _ after-connections

  pub repeats-rise : NeverFall a repeats_at 18
  repeats-rise = never_fall a repeats_at 18 1 (num 2 a times_at) (and_left _ _ after-bandwidths)

  after-repeats : (owned a offsets_at 10 1 repeats_at && owned a attributes_at 12 0 medias_at) ≡ true
  after-repeats = and_right (owned a repeats_at 18 1 times_at) _ after-bandwidths

  pub offsets-rise : NeverFall a offsets_at 10
  offsets-rise = never_fall a offsets_at 10 1 (num 2 a repeats_at) (and_left _ _ after-repeats)

  pub attributes-rise : NeverFall a attributes_at 12
  attributes-rise = never_fall a attributes_at 12 0 (num 2 a medias_at) (and_right (owned a offsets_at 10 1 repeats_at) _ after-repeats)

-- ---- rows that lie in the area
-- of a table's n rows, those from the row r on
pub from_inside : (a : List ℕ) (base w n r : ℕ) → n ≡ num 2 a base → r ≤ n → Inside a base w → base + 2 + r * w + (n - r) * w ≤ length a
from_inside a base w n r e l h = rest_inside n r (base + 2) w (length a) l (omega (arith, h, ap (λ (k : ℕ). k * w) e))

-- the owner of the row i
owner_inside : (a : List ℕ) (base w i : ℕ) → 2 ≤ w → Inside a base w → i < num 2 a base → base + 2 + i * w + 2 ≤ length a
owner_inside a base w i u h l =
    omega (arith, u, row_inside (num 2 a base) i (base + 2 + i * w) w (length a) l (from_inside a base w (num 2 a base) i refl (omega arith) h))

-- that of the row in the middle
pub half_inside : (a : List ℕ) (base w lo hi : ℕ) → 2 ≤ w → Inside a base w → lo < hi → hi ≤ num 2 a base → base + 2 + (lo + (hi - lo) / 2) * w + 2 ≤ length a
half_inside a base w lo hi u h l k = owner_inside a base w (lo + (hi - lo) / 2) u h (omega arith)

-- ---- the search by halves
module _ (a : List ℕ) (base w n lo hi : ℕ) where
  pub none_left : lo ≤ hi → hi ≤ lo → Parted a base w n lo hi lo
  none_left k l = record { low = omega arith; high = omega arith; earlier = λ j p q. absurd (omega arith); later = λ j p q. absurd (omega arith) }

  module _ (s : NeverFall a base w) (here : hi ≤ num 2 a base) (mid o r : ℕ) (e : o ≡ num 2 a (base + 2 + mid * w)) (below : mid < hi) where
    pub right_half : o < n → lo ≤ mid → Parted a base w n (mid + 1) hi r → Parted a base w n lo hi r
    right_half l m f =
        record {
          low = omega (arith, f.low);
          high = f.high;
          earlier = λ j p q. go j q (leb j mid) refl;
          later = f.later;
        }
      where
        go : (j : ℕ) → j < r → (b : Bool) → leb j mid ≡ b → num 2 a (base + 2 + j * w) < n
        go j q true k = omega (arith, s.rise j mid (leb-true j mid k) (omega arith), e)
        go j q false k = f.earlier j (omega (arith, leb-false j mid k)) q

    pub left_half : n ≤ o → lo ≤ mid → Parted a base w n lo mid r → Parted a base w n lo hi r
    left_half l m f =
        record {
          low = f.low;
          high = omega (arith, f.high);
          earlier = f.earlier;
          later = λ j p q. go j p q (leb mid j) refl;
        }
      where
        go : (j : ℕ) → r ≤ j → j < hi → (b : Bool) → leb mid j ≡ b → n ≤ num 2 a (base + 2 + j * w)
        go j p q true k = omega (arith, s.rise mid j (leb-true mid j k) (omega arith), e)
        go j p q false k = f.later j p (omega (arith, leb-false mid j k))

-- ---- rows that put nothing
module _ (f : ℕ → ℕ → List ℕ) (w : ℕ) where
  at_place : (n k p n' k' p' : ℕ) → n ≡ n' → k ≡ k' → p ≡ p' → each_at f w n k p ≡ each_at f w n' k' p'
  at_place n k p n' k' p' d e g = rw (d, e, g)

  -- the first r of them
  skip : (r n k p : ℕ) → r ≤ n → ((j : ℕ) → j < r → f (k + j) (p + j * w) ≡ []) → each_at f w n k p ≡ each_at f w (n - r) (k + r) (p + r * w)
  unfolding each_at
  skip zero n k p l h = at_place n k p (n - 0) (k + 0) (p + 0 * w) (omega arith) (omega arith) (omega arith)
  skip (suc r) zero k p l h = absurd (omega arith)
  skip (suc r) (suc n) k p l h =
      ap (λ (x : List ℕ). x ++ each_at f w n (k + 1) (p + w)) (ap₂ f (let z : k ≡ k + 0 = omega arith in z) (let z : p ≡ p + 0 * w = omega arith in z) ∙ h 0 (omega arith))
      ∙ skip r n (k + 1) (p + w) (omega arith) (λ j q. ap₂ f (let z : k + 1 + j ≡ k + suc j = omega arith in z) (let z : p + w + j * w ≡ p + suc j * w = omega (arith, suc-mul j w) in z) ∙ h (suc j) (omega arith))
      ∙ at_place (n - r) (k + 1 + r) (p + w + r * w) (suc n - suc r) (k + suc r) (p + suc r * w) (omega arith) (omega arith) (omega (arith, suc-mul r w))

-- another's row
other : (n o : ℕ) (bs : List ℕ) → (o ≡ n → ⊥) → mine n o bs ≡ []
unfolding rows.mine
other n o bs h = rw (ne_eqb o n h)

-- ---- the loop over the rows of the owner n: from the first of them on, until another follows. i is the next, at place p
module _ (f : ℕ → ℕ → List ℕ) (a : List ℕ) (base w n count : ℕ) (x₀ : Out) where
  pub record Ours (x : Out) (i p : ℕ) : Type 0 where
    pub rows : Left (own a n f) a w base count x₀ x p i
    pub place : p ≡ base + 2 + i * w
    pub least : i < count → n ≤ num 2 a (base + 2 + i * w)

  module _ (all : count ≡ num 2 a base) where
    pub ours_begin : (r : ℕ) → Inside a base w → Parted a base w n 0 count r → Ours x₀ r (base + 2 + r * w)
    ours_begin r h s =
        record {
          rows = record {
            inside = from_inside a base w count r all s.high h;
            owed = begin
                (ap (λ (k : ℕ). each_at (own a n f) w k 1 (base + 2)) (sym all)
                ∙ skip (own a n f) w r count 1 (base + 2) s.high (λ j l. other n (num 2 a (base + 2 + j * w)) (f (1 + j) (base + 2 + j * w)) (λ e. omega (arith, s.earlier j (omega arith) l)))
                ∙ at_place (own a n f) w (count - r) (1 + r) (base + 2 + r * w) (count - r) (r + 1) (base + 2 + r * w) refl (omega arith) refl);
          };
          place = refl;
          least = λ l. s.later r (omega arith) l;
        }

    -- the next owner is m
    module _ {y : Out} (i p m : ℕ) (s : NeverFall a base w) (l : i < count) (e : m ≡ num 2 a p) (x : Ours y i p) where
      pub ours_stop : (m ≡ n → ⊥) → Puts x₀ (each_at (own a n f) w (num 2 a base) 1 (base + 2)) y
      unfolding each_at
      ours_stop ne =
          finish x.rows.owed
          (skip (own a n f) w (count - i) (count - i) (i + 1) p (omega arith) (λ j k. other n (num 2 a (p + j * w)) (f (i + 1 + j) (p + j * w)) (λ g.
          let z : p + j * w ≡ base + 2 + (i + j) * w = omega (arith, add-mul i j w, x.place) in
          ne (omega (arith, s.rise i (i + j) (omega arith) (omega arith), ap (num 2 a) z, ap (num 2 a) x.place, x.least l))))
          ∙ ap (λ (k : ℕ). each_at (own a n f) w k (i + 1 + (count - i)) (p + (count - i) * w)) (let z : count - i - (count - i) ≡ 0 = omega arith in z))

      pub ours_turn : {z : Out} → m ≡ n → Puts y (f (i + 1) p) z → Ours z (i + 1) (p + w)
      unfolding rows.mine
      ours_turn h t =
          record {
            rows = left_turn (own a n f) a w base count x₀ l x.rows (said (rw (← e, eq-eqb m n h)) t);
            place = omega (arith, x.place, add-mul i 1 w, one-mul w);
            least = λ k. omega (arith, x.least l, s.rise i (i + 1) (omega arith) (omega arith));
          }
