-- Starts put in one after the other: the list has each as often as it is put in, and it rises. Assumes nothing.
use Prim.Native.Nat.{ℕ, suc, ◌≤◌, ◌+◌}
use mathlib.Core.Path.{◌≡◌, refl, sym, ap, ◌∙◌}
use mathlib.Core.Bool.{Bool, true, false, cond}
use mathlib.Core.List.{List, [], ◌∷◌, ◌++◌}
use native.Mathlib.Omega.{arith}
use lib.ListN.{length}
use lib.Dec.{ltb, eqb}
use borrow.Author.Tests.{ltb-true, ltb-false, leb-true, leb-false, eqb-true, eqb-false}
use Rattle.sdp_hours.specs.Listing as listing
use Rattle.sdp_hours.specs.Listing.{Start, tied, before, insert, into, sorted}
use Rattle.sdp_hours.specs.Rises as rising
use Rattle.sdp_hours.specs.Rises.{InOrder, Rises, eq_start, count_of}

-- ---- a list put in, in parts
pub into-parts : (l xs ys : List Start) → into l (xs ++ ys) ≡ into (into l xs) ys
unfolding listing.into
into-parts l [] ys = refl
into-parts l (x ∷ xs) ys = into-parts (insert x l) xs ys

-- ---- its length
pub length-insert : (x : Start) (l : List Start) → length (insert x l) ≡ length l + 1
unfolding listing.insert
length-insert x [] = refl
length-insert x (y ∷ l) = go (before x y) (length-insert x l)
  where
    go : (t : Bool) → length (insert x l) ≡ length l + 1 → length (cond t (x ∷ y ∷ l) (y ∷ insert x l)) ≡ length (y ∷ l) + 1
    go true ih = omega arith
    go false ih = omega (arith, ih)

pub length-into : (l xs : List Start) → length (into l xs) ≡ length l + length xs
unfolding listing.into
length-into l [] = omega arith
length-into l (x ∷ xs) = omega (arith, length-into (insert x l) xs, length-insert x l)

-- ---- its order: one number, then the rest
tied_true : (a b : ℕ) (p : Bool) → tied a b p ≡ true → (a ≤ b) × (a ≡ b → p ≡ true)
tied_true a b p = go (eqb a b) refl
  where
    go : (t : Bool) → eqb a b ≡ t → cond t p (ltb a b) ≡ true → (a ≤ b) × (a ≡ b → p ≡ true)
    go true e h = (omega (arith, eqb-true a b e), λ o. h)
    go false e h = (omega (arith, ltb-true a b h), λ o. absurd (eqb-false a b e o))

tied_false : (a b : ℕ) (p : Bool) → tied a b p ≡ false → (b ≤ a) × (b ≡ a → p ≡ false)
tied_false a b p = go (eqb a b) refl
  where
    go : (t : Bool) → eqb a b ≡ t → cond t p (ltb a b) ≡ false → (b ≤ a) × (b ≡ a → p ≡ false)
    go true e h = (omega (arith, eqb-true a b e), λ o. h)
    go false e h = (ltb-false a b h, λ o. absurd (eqb-false a b e (sym o)))

before_true : (x y : Start) → before x y ≡ true → InOrder x y
unfolding listing.before rising.InOrder
before_true x y h =
    let p = tied_true x.at y.at _ h in
    (p.0, λ e. let q = tied_true x.time y.time _ (p.1 e) in (q.0, λ f. leb-true x.repeat y.repeat (q.1 f)))

before_false : (x y : Start) → before x y ≡ false → InOrder y x
unfolding listing.before rising.InOrder
before_false x y h =
    let p = tied_false x.at y.at _ h in
    (p.0, λ e. let q = tied_false x.time y.time _ (p.1 e) in (q.0, λ f. omega (arith, leb-false x.repeat y.repeat (q.1 f))))

-- behind a start that may stand before it
insert-after : (x y : Start) (l : List Start) → InOrder y x → Rises (y ∷ l) → Rises (y ∷ insert x l)
unfolding rising.Rises listing.insert
insert-after x y [] h r = (h, tt)
insert-after x y (z ∷ l) h r = go (before x z) refl (λ k. insert-after x z l k r.1)
  where
    go : (t : Bool) → before x z ≡ t → (InOrder z x → Rises (z ∷ insert x l)) → Rises (y ∷ cond t (x ∷ z ∷ l) (z ∷ insert x l))
    go true e ih = (h, (before_true x z e, r.1))
    go false e ih = (r.0, ih (before_false x z e))

insert_rises : (x : Start) (l : List Start) → Rises l → Rises (insert x l)
unfolding rising.Rises listing.insert
insert_rises x [] r = tt
insert_rises x (z ∷ l) r = go (before x z) refl
  where
    go : (t : Bool) → before x z ≡ t → Rises (cond t (x ∷ z ∷ l) (z ∷ insert x l))
    go true e = (before_true x z e, r)
    go false e = insert-after x z l (before_false x z e) r

into_rises : (l xs : List Start) → Rises l → Rises (into l xs)
unfolding listing.into
into_rises l [] r = r
into_rises l (x ∷ xs) r = into_rises (insert x l) xs (insert_rises x l r)

pub sorted_rises : (xs : List Start) → Rises (sorted xs)
unfolding rising.Rises
sorted_rises xs = into_rises [] xs tt

-- ---- each start is in it as often as it is put in
same_or_not : (t u : Bool) (n : ℕ) → cond t (suc (cond u (suc n) n)) (cond u (suc n) n) ≡ cond u (suc (cond t (suc n) n)) (cond t (suc n) n)
same_or_not true true n = refl
same_or_not true false n = refl
same_or_not false true n = refl
same_or_not false false n = refl

count_insert : (x y : Start) (l : List Start) → count_of x (insert y l) ≡ count_of x (y ∷ l)
unfolding listing.insert rising.count_of
count_insert x y [] = refl
count_insert x y (z ∷ l) = go (before y z) (count_insert x y l)
  where
    go : (t : Bool) → count_of x (insert y l) ≡ count_of x (y ∷ l) → count_of x (cond t (y ∷ z ∷ l) (z ∷ insert y l)) ≡ count_of x (y ∷ z ∷ l)
    go true ih = refl
    go false ih = rw ih (same_or_not (eq_start x z) (eq_start x y) (count_of x l))

-- one start, and how often it is in the rest
count_more : (t : Bool) (m n : ℕ) → cond t (suc m) m + n ≡ m + cond t (suc n) n
count_more true m n = omega arith
count_more false m n = refl

count_into : (x : Start) (l xs : List Start) → count_of x (into l xs) ≡ count_of x l + count_of x xs
unfolding listing.into rising.count_of
count_into x l [] = omega arith
count_into x l (y ∷ xs) =
    count_into x (insert y l) xs
    ∙ (ap (λ (n : ℕ). n + count_of x xs) (count_insert x y l) ∙ count_more (eq_start x y) (count_of x l) (count_of x xs))

pub count_sorted : (x : Start) (xs : List Start) → count_of x (sorted xs) ≡ count_of x xs
unfolding rising.count_of
count_sorted x xs = count_into x [] xs ∙ omega arith
