-- Strings, rows and owners, judged one after the other. Assumes nothing.
use mathlib.Core.Path.{◌≡◌, ap, ap₂, ◌∙◌}
use mathlib.Core.Bool.{Bool, true, false, ◌&&◌, ◌||◌, and-false}
use mathlib.Core.List.{List}
use Prim.Native.Nat.{ℕ, suc, ◌+◌, ◌*◌, ◌-◌, ◌≤◌, ◌<◌}
use native.Mathlib.Nat.{add-mul}
use native.Mathlib.Omega.{arith}
use lib.ListN.{length, take, drop}
use lib.Dec.{eqb}
use borrow.Author.Tests.{ne_eqb, le-leb, lt-leb}
use Rattle.sdp_utf8.specs.Utf8.{is_utf8}
use Rattle.sdp_cells.specs.Bytes.{num}
use Rattle.sdp_area.specs.Area.{size}
use Rattle.sdp_valid.specs.Judge.{every_at, judged, rising, small_counts, large_counts, owners, fine_string, fine_head, fine_tables, well_formed}
use Rattle.sdp_valid.specs.Counted.{Counted}

-- ---- a string
module _ (a t : List ℕ) (p place len : ℕ) (e : place ≡ num 2 a p) (l : len ≡ num 2 a (p + 2)) where
  pub string_outside : length t < place + len → fine_string a t p ≡ false
  unfolding fine_string
  string_outside h = rw (← e, ← l, lt-leb (place + len) (length t) h)

  pub string_inside : place + len ≤ length t → fine_string a t p ≡ is_utf8 (take (place + len - place) (drop place t))
  unfolding fine_string
  string_inside h =
      let k : place + len - place ≡ len = omega arith in
      rw (← e, ← l, le-leb (place + len) (length t) h, k)

-- ---- what is marked: the mark is m, and the rest of it is judged by b
module _ (m k : ℕ) (b : Bool) (e : k ≡ m) where
  pub if_absent : k ≡ 0 → eqb k 0 ≡ judged m b
  unfolding judged
  if_absent z = rw (← e, z)

  pub if_present : k ≡ 1 → (r : Bool) → r ≡ b → r ≡ judged m b
  unfolding judged
  if_present z r q = rw (← e, z) q

  pub if_neither : (k ≡ 0 → ⊥) → (k ≡ 1 → ⊥) → eqb k 1 ≡ judged m b
  unfolding judged
  if_neither z o = rw (← e, ne_eqb k 0 z, ne_eqb k 1 o)

-- ---- the rows that are left: n - i of them, from p on
pub left_one : (n i : ℕ) → i < n → n - i ≡ suc (n - (i + 1))
left_one n i h = omega arith

pub left_none : (n i : ℕ) → n ≤ i → n - i ≡ 0
left_none n i h = omega arith

-- the place of the row i
pub row_none : (p w : ℕ) → p ≡ p + 0 * w
row_none p w = omega arith

pub row_next : (p i w : ℕ) → p + i * w + w ≡ p + (i + 1) * w
row_next p i w = omega (arith, add-mul i 1 w)

pub every_all : (f : ℕ → Bool) (w n p : ℕ) → every_at f w n p ≡ every_at f w (n - 0) (p + 0 * w)
every_all f w n p = ap₂ (every_at f w) (let z : n ≡ n - 0 = omega arith in z) (row_none p w)

module _ (f : ℕ → Bool) (w n i p : ℕ) where
  pub every_more : i < n → f (p + i * w) ≡ true → every_at f w (n - i) (p + i * w) ≡ every_at f w (n - (i + 1)) (p + (i + 1) * w)
  unfolding every_at
  every_more h e =
      ap (λ (k : ℕ). every_at f w k (p + i * w)) (left_one n i h)
      ∙ (rw e (ap (every_at f w (n - (i + 1))) (row_next p i w)))

  pub every_not : i < n → f (p + i * w) ≡ false → every_at f w (n - i) (p + i * w) ≡ false
  unfolding every_at
  every_not h e = ap (λ (k : ℕ). every_at f w k (p + i * w)) (left_one n i h) ∙ rw e

  pub every_none : n ≤ i → every_at f w (n - i) (p + i * w) ≡ true
  unfolding every_at
  every_none h = ap (λ (k : ℕ). every_at f w k (p + i * w)) (left_none n i h)

-- ---- owners
pub rising_all : (a : List ℕ) (w most n m lo p : ℕ) → n ≡ m → rising a w most m lo p ≡ rising a w most (n - 0) lo (p + 0 * w)
rising_all a w most n m lo p e = ap₂ (λ (k q : ℕ). rising a w most k lo q) (let z : m ≡ n - 0 = omega arith in z) (row_none p w)

module _ (a : List ℕ) (w most n i lo p : ℕ) where
  module _ (o : ℕ) (h : i < n) (e : o ≡ num 2 a (p + i * w)) where
    pub rising_more : lo ≤ o → o ≤ most → rising a w most (n - i) lo (p + i * w) ≡ rising a w most (n - (i + 1)) o (p + (i + 1) * w)
    unfolding rising
    rising_more l m =
        ap (λ (k : ℕ). rising a w most k lo (p + i * w)) (left_one n i h)
        ∙ rw (← e, le-leb lo o l, le-leb o most m) (ap (rising a w most (n - (i + 1)) o) (row_next p i w))

    pub rising_falls : o < lo → rising a w most (n - i) lo (p + i * w) ≡ false
    unfolding rising
    rising_falls l = ap (λ (k : ℕ). rising a w most k lo (p + i * w)) (left_one n i h) ∙ rw (← e, lt-leb lo o l)

    pub rising-past : most < o → rising a w most (n - i) lo (p + i * w) ≡ false
    unfolding rising
    rising-past m = ap (λ (k : ℕ). rising a w most k lo (p + i * w)) (left_one n i h) ∙ rw (← e, lt-leb o most m, and-false)

  pub rising_none : n ≤ i → rising a w most (n - i) lo (p + i * w) ≡ true
  unfolding rising
  rising_none h = ap (λ (k : ℕ). rising a w most k lo (p + i * w)) (left_none n i h)

-- ---- the whole
module _ (a t : List ℕ) where
  pub small_no : small_counts a ≡ false → well_formed a t ≡ false
  unfolding well_formed
  small_no e = rw e

  pub large_no : large_counts a ≡ false → well_formed a t ≡ false
  unfolding well_formed
  large_no e = rw (e, and-false)

pub counts_known : (a : List ℕ) → size ≤ length a → small_counts a ≡ true → large_counts a ≡ true → Counted a
counts_known a h e f = record { whole = h; small = e; large = f }
