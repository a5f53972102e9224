-- A line that is stamped, cell by cell: either the cell stands for what is new and has the line, or nothing changes there.
-- Assumes nothing.
use Prim.Native.Nat.{ℕ, ◌+◌, ◌-◌, ◌≤◌, ◌<◌}
use native.Mathlib.Omega.{arith}
use native.Mathlib.Decide.{dec_le, dec_lt}
use mathlib.Core.Path.{◌≡◌, refl, ap, ◌∙◌}
use mathlib.Core.Logic.{◌⊎◌, inl, inr}
use mathlib.Core.Bool.{Bool, true, false, ◌||◌, and-false}
use mathlib.Core.List.{List, [], ◌∷◌, ◌++◌}
use borrow.Author.Tests.{lt-ltb, le-ltb, le-leb, lt-leb}
use lib.ListN.{length, take, drop, get_or, replicate, length-replicate, get_or-replicate, get_or-append}
use lib.Seq.{length-take-le, get_or-append-add, get_or-take, get_or-drop}
use Rattle.sdp_cells.specs.Bytes as bytes
use Rattle.sdp_stamp.specs.Stamp as stamps
use Rattle.sdp_stamp.specs.Stamp.{stamp_rows, stamp_all}
use Rattle.sdp_stamp.proofs.CellLaws.{rows_none, rows-length}
use Rattle.sdp_whence.specs.Whence as cell
use Rattle.sdp_whence.specs.Whence.{in_rows, in_any}

-- before and after a line with the number n: whether the cell's record is there, and the cell
abbrev pub Moves : Bool → Bool → ℕ → ℕ → ℕ → Type 0
Moves old new cell cell' n = ((new ≡ old) × (cell' ≡ cell)) ⊎ ((old ≡ false) × (new ≡ true) × (cell' ≡ n))

-- ---- a cell and a column
module _ (c r i : ℕ) where
  in_rows_lem : c ≤ i → i < c + r → in_rows c r i ≡ true
  in_rows_lem h k = rw (le-leb c i h, lt-ltb i (c + r) k)

  pub before-rows : i < c → in_rows c r i ≡ false
  before-rows h = rw (lt-leb c i h)

  pub behind-rows : c + r ≤ i → in_rows c r i ≡ false
  behind-rows h = rw (le-ltb i (c + r) h, and-false)

module _ (n c a b i : ℕ) (l : List ℕ) (fits : c + b ≤ length l) where
  pub rows_new : c + a ≤ i → i < c + b → get_or (stamp_rows n c a b l) i 0 ≡ n
  unfolding stamps.stamp_rows bytes.over
  rows_new h k =
      let t : List ℕ = take (c + a) l in
      let ws : List ℕ = replicate (b - a) n in
      let j = i - (c + a) in
      let e : length t ≡ c + a = length-take-le (c + a) l (omega arith) in
      let at : i ≡ length t + j = omega arith in
      ap (λ (x : ℕ). get_or (t ++ (ws ++ drop (c + a + length ws) l)) x 0) at
      ∙ get_or-append-add t (ws ++ drop (c + a + length ws) l) j 0
      ∙ get_or-append ws (drop (c + a + length ws) l) 0 j (omega (arith, length-replicate (b - a) n))
      ∙ get_or-replicate (b - a) j n 0 (omega arith)

  pub rows_away : (i < c + a) ⊎ (c + b ≤ i) → get_or (stamp_rows n c a b l) i 0 ≡ get_or l i 0
  unfolding stamps.stamp_rows bytes.over
  rows_away h = go (dec_le a b) h
    where
      below : a ≤ b → i < c + a → get_or (stamp_rows n c a b l) i 0 ≡ get_or l i 0
      below u k =
          let e : length (take (c + a) l) ≡ c + a = length-take-le (c + a) l (omega arith) in
          get_or-append (take (c + a) l) _ 0 i (omega arith) ∙ get_or-take (c + a) l i 0 k

      above : a ≤ b → c + b ≤ i → get_or (stamp_rows n c a b l) i 0 ≡ get_or l i 0
      above u k =
          let t : List ℕ = take (c + a) l in
          let ws : List ℕ = replicate (b - a) n in
          let j = i - (c + b) in
          let e : length t ≡ c + a = length-take-le (c + a) l (omega arith) in
          let w : length ws ≡ b - a = length-replicate (b - a) n in
          let at : i ≡ length t + (length ws + j) = omega arith in
          let back : c + a + length ws + j ≡ i = omega arith in
          ap (λ (x : ℕ). get_or (t ++ (ws ++ drop (c + a + length ws) l)) x 0) at
          ∙ get_or-append-add t (ws ++ drop (c + a + length ws) l) (length ws + j) 0
          ∙ get_or-append-add ws (drop (c + a + length ws) l) j 0
          ∙ get_or-drop (c + a + length ws) l j 0
          ∙ ap (λ (x : ℕ). get_or l x 0) back

      go : Dec (a ≤ b) → (i < c + a) ⊎ (c + b ≤ i) → get_or (stamp_rows n c a b l) i 0 ≡ get_or l i 0
      go (no u) k = ap (λ (x : List ℕ). get_or x i 0) (rows_none n c a l b (omega arith))
      go (yes u) (inl k) = below u k
      go (yes u) (inr k) = above u k

-- ---- columns side by side
-- each begins at m or after it, and where the one before it ends; none ends behind e, and none has fewer rows than before
abbrev pub Side : ℕ → ℕ → List ℕ → List ℕ → List ℕ → Type 0
Side m e [] is js = Unit {0}
Side m e (c ∷ cs) [] js = ⊥
Side m e (c ∷ cs) (r ∷ is) [] = ⊥
Side m e (c ∷ cs) (r ∷ is) (j ∷ js) = (m ≤ c) × (r ≤ j) × (c + j ≤ e) × Side (c + j) e cs is js

module _ (n i e : ℕ) where
  -- a cell that no row of them has, before and after
  abbrev Apart : List ℕ → List ℕ → List ℕ → List ℕ → Type 0
  Apart cs is js l = (in_any cs is i ≡ false) × (in_any cs js i ≡ false) × (get_or (stamp_all n cs is js l) i 0 ≡ get_or l i 0)

  -- the first column too
  apart : (c r j : ℕ) (cs is js l : List ℕ) → in_rows c r i ≡ false → in_rows c j i ≡ false → get_or (stamp_rows n c r j l) i 0 ≡ get_or l i 0 → Apart cs is js (stamp_rows n c r j l) → Apart (c ∷ cs) (r ∷ is) (j ∷ js) l
  unfolding cell.in_any stamps.stamp_all
  apart c r j cs is js l p q g k = (rw p k.0, rw q k.1, k.2 ∙ g)

  -- it stands before all of them, or behind all
  before_all : (cs is js l : List ℕ) (m : ℕ) → e ≤ length l → i < m → Side m e cs is js → Apart cs is js l
  unfolding cell.in_any stamps.stamp_all
  before_all [] is js l m w h s = (refl, refl, refl)
  before_all (c ∷ cs) [] js l m w h s = absurd s
  before_all (c ∷ cs) (r ∷ is) [] l m w h s = absurd s
  before_all (c ∷ cs) (r ∷ is) (j ∷ js) l m w h s =
      let f : c + j ≤ length l = omega (arith, s.2) in
      let g = rows-length n c r l j f in
      apart c r j cs is js l (before-rows c r i (omega (arith, s.0))) (before-rows c j i (omega (arith, s.0))) (rows_away n c r j i l f (inl (omega (arith, s.0))))
      (before_all cs is js (stamp_rows n c r j l) (c + j) (omega arith) (omega (arith, s.0)) s.3)

  pub behind_all : (cs is js l : List ℕ) (m : ℕ) → e ≤ length l → e ≤ i → Side m e cs is js → Apart cs is js l
  unfolding cell.in_any stamps.stamp_all
  behind_all [] is js l m w h s = (refl, refl, refl)
  behind_all (c ∷ cs) [] js l m w h s = absurd s
  behind_all (c ∷ cs) (r ∷ is) [] l m w h s = absurd s
  behind_all (c ∷ cs) (r ∷ is) (j ∷ js) l m w h s =
      let f : c + j ≤ length l = omega (arith, s.2) in
      let g = rows-length n c r l j f in
      apart c r j cs is js l (behind-rows c r i (omega (arith, s.1, s.2))) (behind-rows c j i (omega (arith, s.2))) (rows_away n c r j i l f (inr (omega (arith, s.2))))
      (behind_all cs is js (stamp_rows n c r j l) (c + j) (omega arith) h s.3)

  -- any cell
  pub all_moves : (cs is js l : List ℕ) (m : ℕ) → e ≤ length l → Side m e cs is js → Moves (in_any cs is i) (in_any cs js i) (get_or l i 0) (get_or (stamp_all n cs is js l) i 0) n
  unfolding cell.in_any stamps.stamp_all
  all_moves [] is js l m w s = inl (refl, refl)
  all_moves (c ∷ cs) [] js l m w s = absurd s
  all_moves (c ∷ cs) (r ∷ is) [] l m w s = absurd s
  all_moves (c ∷ cs) (r ∷ is) (j ∷ js) l m w s = go (dec_lt i (c + j)) (dec_lt i (c + r)) (dec_lt i c) (all_moves cs is js (stamp_rows n c r j l) (c + j) w' s.3)
    where
      f : c + j ≤ length l
      f = omega (arith, s.2)

      w' : e ≤ length (stamp_rows n c r j l)
      w' = omega (arith, rows-length n c r l j f)

      -- past this column
      past : Moves (in_any cs is i) (in_any cs js i) (get_or (stamp_rows n c r j l) i 0) (get_or (stamp_all n cs is js (stamp_rows n c r j l)) i 0) n → in_rows c r i ≡ false → in_rows c j i ≡ false → get_or (stamp_rows n c r j l) i 0 ≡ get_or l i 0
          → Moves (in_rows c r i || in_any cs is i) (in_rows c j i || in_any cs js i) (get_or l i 0) (get_or (stamp_all n cs is js (stamp_rows n c r j l)) i 0) n
      past ih p q g = rw (p, q, ← g) ih

      -- in it, and so in no other
      rest : i < c + j → Apart cs is js (stamp_rows n c r j l)
      rest h = before_all cs is js (stamp_rows n c r j l) (c + j) w' h s.3

      go : Dec (i < c + j) → Dec (i < c + r) → Dec (i < c) → Moves (in_any cs is i) (in_any cs js i) (get_or (stamp_rows n c r j l) i 0) (get_or (stamp_all n cs is js (stamp_rows n c r j l)) i 0) n
          → Moves (in_rows c r i || in_any cs is i) (in_rows c j i || in_any cs js i) (get_or l i 0) (get_or (stamp_all n cs is js (stamp_rows n c r j l)) i 0) n
      go (no h) k b ih = past ih (behind-rows c r i (omega (arith, s.1))) (behind-rows c j i (omega arith)) (rows_away n c r j i l f (inr (omega arith)))
      go (yes h) k (yes b) ih = past ih (before-rows c r i b) (before-rows c j i b) (rows_away n c r j i l f (inl (omega arith)))
      go (yes h) (yes k) (no b) ih =
          inl (rw (in_rows_lem c r i (omega arith) k, in_rows_lem c j i (omega arith) h) refl, (rest h).2 ∙ rows_away n c r j i l f (inl k))
      go (yes h) (no k) (no b) ih =
          inr (rw (behind-rows c r i (omega arith)) (rest h).0, rw (in_rows_lem c j i (omega arith) h) refl, (rest h).2 ∙ rows_new n c r j i l f (omega arith) h)
