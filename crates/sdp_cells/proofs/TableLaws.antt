-- Laws of a table, for any row type, row width and capacity: its length, its count, one row more, and its last row.
-- Assumes nothing.
use mathlib.Core.Path.{◌≡◌, refl, sym, ap, ◌∙◌}
use mathlib.Core.Bool.{Bool, true, false, cond}
use mathlib.Core.List.{List, [], ◌∷◌, ◌++◌, append_assoc, append-nil}
use Prim.Native.Nat.{ℕ, ◌+◌, ◌*◌, ◌-◌, ◌≤◌, ◌<◌}
use native.Mathlib.Nat.{add-mul, suc-mul, zero-mul, one-mul}
use native.Mathlib.Omega.{arith}
use lib.Dec.{ltb}
use lib.ListN.{length, take, length-append}
use lib.Seq.{take_at, length-take-le}
use borrow.Author.Tests.{ltb-true}
use Rattle.sdp_cells.specs.Bytes.{le, num, over, zeros}
use Rattle.sdp_cells.specs.Tables.{flat, fit, tab, add, pushed, grown, told}
use Rattle.sdp_cells.proofs.ByteLaws.{over_at, length-le, length-zeros, zeros-add, num_at, le_zero}

-- ---- rows filled up with zeros
length-fit : (k : ℕ) (xs : List ℕ) → length (fit k xs) ≡ k
unfolding fit
length-fit k xs = length-take-le k (xs ++ zeros k) (rw (length-append, length-zeros) (omega arith))

fit-short : (xs : List ℕ) (k d : ℕ) → k ≡ length xs + d → fit k xs ≡ xs ++ zeros d
unfolding fit
fit-short xs k d e =
    let e' : k ≡ d + length xs = omega arith in
    ap (λ (l : List ℕ). take k (xs ++ l)) (ap zeros e' ∙ sym (zeros-add d (length xs)))
    ∙ ap (take k) (sym (append_assoc xs (zeros d) (zeros (length xs))))
    ∙ take_at (xs ++ zeros d) (zeros (length xs)) k (rw (length-append, length-zeros) (sym e))

-- ---- rows one after the other
module _ {X : Type 0} (f : X → List ℕ) where
  pub flat_append : (xs ys : List X) → flat f (xs ++ ys) ≡ flat f xs ++ flat f ys
  unfolding flat
  flat_append [] ys = refl
  flat_append (x ∷ xs) ys = ap (λ (l : List ℕ). f x ++ l) (flat_append xs ys) ∙ sym (append_assoc (f x) (flat f xs) (flat f ys))

  pub flat_snoc : (xs : List X) (x : X) → flat f (xs ++ (x ∷ [])) ≡ flat f xs ++ f x
  unfolding flat
  flat_snoc xs x = flat_append xs (x ∷ []) ∙ ap (λ (l : List ℕ). flat f xs ++ l) (append-nil (f x))

  pub length-flat : (w : ℕ) → ((x : X) → length (f x) ≡ w) → (xs : List X) → length (flat f xs) ≡ length xs * w
  unfolding flat
  length-flat w wide [] = sym (zero-mul w)
  length-flat w wide (x ∷ xs) = length-append (f x) (flat f xs) ∙ omega (arith, wide x, length-flat w wide xs, suc-mul (length xs) w)

-- ---- all up to the bytes u of the last row, and all from the bytes v of it on; us are the rows before it
abbrev pub front : {X : Type 0} → (X → List ℕ) → List ℕ → List X → List ℕ → List ℕ
front f p us u = p ++ (le 2 (length us + 1) ++ (flat f us ++ u))

-- the zeros behind it
abbrev spare : {X : Type 0} → ℕ → ℕ → List X → ℕ
spare cap w us = (cap - (length us + 1)) * w

abbrev pub back : {X : Type 0} → ℕ → ℕ → List X → List ℕ → List ℕ → List ℕ
back cap w us q v = v ++ (zeros (spare cap w us) ++ q)

-- ---- a table
module _ {X : Type 0} (f : X → List ℕ) (cap w : ℕ) where
  pub length-tab : (xs : List X) → length (tab cap w f xs) ≡ 2 + cap * w
  unfolding tab
  length-tab xs = simp (length-append, length-le, length-fit)

  pub tab_none : tab cap w f [] ≡ zeros (2 + cap * w)
  unfolding tab flat
  tab_none = ap (λ (l : List ℕ). le 2 0 ++ l) (fit-short [] (cap * w) (cap * w) (omega arith)) ∙ ap (λ (l : List ℕ). l ++ zeros (cap * w)) le_zero ∙ zeros-add 2 (cap * w)

  pub tab_count : (xs : List X) (p q : List ℕ) (n : ℕ) → length xs < 65536 → length p ≡ n → num 2 (p ++ (tab cap w f xs ++ q)) n ≡ length xs
  unfolding tab
  tab_count xs p q n small e =
      ap (λ (l : List ℕ). num 2 (p ++ l) n) (append_assoc (le 2 (length xs)) (fit (cap * w) (flat f xs)) q)
      ∙ num_at 2 (length xs) p (fit (cap * w) (flat f xs) ++ q) n e small

  module _ (wide : (x : X) → length (f x) ≡ w) where
    -- with the zeros behind its rows in sight
    tab_is : (xs : List X) (d : ℕ) → cap * w ≡ length xs * w + d → tab cap w f xs ≡ le 2 (length xs) ++ (flat f xs ++ zeros d)
    unfolding tab
    tab_is xs d e = ap (λ (l : List ℕ). le 2 (length xs) ++ l) (fit-short (flat f xs) (cap * w) d (rw (length-flat f w wide) e))

    -- ---- the last row. p stands before the table, q behind it; us are all rows but one, and there is room for that one
    module _ (p q : List ℕ) (n : ℕ) (here : length p ≡ n) (us : List X) (room : length us < cap) where
      spare_is : cap * w ≡ (length us + 1) * w + spare cap w us
      spare_is =
          let c : cap ≡ (length us + 1) + (cap - (length us + 1)) = omega arith in
          ap (λ (k : ℕ). k * w) c ∙ add-mul (length us + 1) (cap - (length us + 1)) w

      pub length_front : (u : List ℕ) → length (front f p us u) ≡ n + (2 + (length us * w + length u))
      length_front u = simp (length-append, length-le, length-flat f w wide, here)

      -- the last row's bytes u, m, v in sight
      pub last_view : (x : X) (u m v : List ℕ) → f x ≡ u ++ (m ++ v) → p ++ (tab cap w f (us ++ (x ∷ [])) ++ q) ≡ front f p us u ++ (m ++ back cap w us q v)
      last_view x u m v e =
          let l : length (us ++ (x ∷ [])) ≡ length us + 1 = length-append us (x ∷ []) in
          rw (tab_is (us ++ (x ∷ [])) (spare cap w us) (rw l spare_is), l, flat_snoc f us x, e) (simp append_assoc)

      -- a row is stored behind the rows, and the count is raised
      tab_push : (x : X) → over (over (p ++ (tab cap w f us ++ q)) (n + (2 + length us * w)) (f x)) n (le 2 (length us + 1)) ≡ p ++ (tab cap w f (us ++ (x ∷ [])) ++ q)
      tab_push x =
          let d : ℕ = spare cap w us in
          let F : List ℕ = flat f us in
          let C : List ℕ = le 2 (length us) in
          let C' : List ℕ = le 2 (length us + 1) in
          let Z : List ℕ = zeros d in
          let cw : cap * w ≡ length us * w + (w + d) = omega (arith, spare_is, add-mul (length us) 1 w, one-mul w) in
          let start : p ++ (tab cap w f us ++ q) ≡ (p ++ (C ++ F)) ++ (zeros w ++ (Z ++ q)) = rw (tab_is us (w + d) cw, ← (zeros-add w d)) (simp append_assoc) in
          let at : length (p ++ (C ++ F)) ≡ n + (2 + length us * w) = simp (length-append, length-le, length-flat f w wide, here) in
          ap (λ (l : List ℕ). over (over l (n + (2 + length us * w)) (f x)) n C') start
          ∙ ap (λ (l : List ℕ). over l n C') (over_at (p ++ (C ++ F)) (zeros w) (Z ++ q) (f x) (n + (2 + length us * w)) at (length-zeros w ∙ sym (wide x)) ∙ simp append_assoc)
          ∙ over_at p C (F ++ (f x ++ (Z ++ q))) C' n here (length-le 2 (length us) ∙ sym (length-le 2 (length us + 1)))
          ∙ sym (last_view x [] (f x) [] (sym (append-nil (f x))) ∙ simp (append_assoc, append-nil))

    -- ---- one row more, where there is room; enc ys is the whole with ys in this table
    module _ (small : cap < 65536) (enc : List X → List ℕ) (p q : List ℕ) (n : ℕ) (here : length p ≡ n)
        (view : (ys : List X) → enc ys ≡ p ++ (tab cap w f ys ++ q)) (xs : List X) (within : length xs ≤ cap) (a : List ℕ) (is : a ≡ enc xs) where
      count : num 2 a n ≡ length xs
      count = ap (λ (l : List ℕ). num 2 l n) (is ∙ view xs) ∙ tab_count xs p q n (omega arith) here

      pub grown_is : (x : X) → (told a n cap ≡ pushed cap xs) × (grown a n cap (f x) ≡ enc (add cap xs x))
      unfolding told grown
      grown_is x = (rw count, rw (count, wide x) (go (ltb (length xs) cap) refl))
        where
          go : (b : Bool) → ltb (length xs) cap ≡ b
              → cond b (over (over a (n + (2 + length xs * w)) (f x)) n (le 2 (length xs + 1))) a ≡ enc (cond b (xs ++ (x ∷ [])) xs)
          go true e = rw (is, view xs, view (xs ++ (x ∷ []))) (tab_push p q n here xs (ltb-true _ _ e) x)
          go false e = is
