-- Laws of the cells: some of them written over, and what a line fills of the columns.
-- Assumes nothing.
use mathlib.Core.Path.{◌≡◌, refl, sym, ap, ◌∙◌}
use mathlib.Core.Bool.{Bool, true, false}
use mathlib.Core.List.{List, [], ◌∷◌, ◌++◌, append_assoc}
use Prim.Native.Nat.{ℕ, zero, suc, ◌+◌, ◌*◌, ◌-◌, ◌≤◌, ◌<◌}
use native.Mathlib.Omega.{arith}
use native.Mathlib.Decide.{dec_le}
use native.Mathlib.Nat.{suc-mul}
use lib.ListN.{length, take, drop, get_or, set, replicate, length-append, length-drop, length-replicate, take-append-drop}
use lib.Seq.{length-take-le, drop-drop}
use Rattle.sdp_lines.specs.declared.Span.{Span}
use Rattle.sdp_cells.specs.Bytes.{le, over, zeros}
use Rattle.sdp_cells.specs.Tables.{flat, pairs}
use Rattle.sdp_area.specs.Session.{Session, Within, empty}
use Rattle.sdp_area.specs.Area.{encode, size}
use Rattle.sdp_area.specs.Columns.{cells, cell_at, area_size, area_of}
use Rattle.sdp_area.specs.Latest.{given, last_titled}
use Rattle.sdp_stamp.specs.Stamp
use Rattle.sdp_stamp.specs.Stamp.{no_stamps, stamp_rows, stamp_all, begins, one, rows_in, title_rows, title_cell, stamped}
use Rattle.sdp_cells.proofs.ByteLaws.{over_at, over_none, zeros-add, le_zero}
use Rattle.sdp_cells.proofs.TableLaws.{flat_append}
use Rattle.sdp_cells.proofs.StoreLaws.{length_pairs}
use Rattle.sdp_area.proofs.WidthLaws.{length-encode, encode-empty}

-- ---- written over
-- ws over the cells from i on: what stands before them, they themselves, and what stands behind them
module _ (l : List ℕ) (i k : ℕ) (inside : i + k ≤ length l) where
  cut : l ≡ take i l ++ (take k (drop i l) ++ drop (i + k) l)
  cut =
      sym (take-append-drop i l)
      ∙ ap (λ (r : List ℕ). take i l ++ r) (sym (take-append-drop k (drop i l)) ∙ ap (λ (r : List ℕ). take k (drop i l) ++ r) (drop-drop k i l))

  length_before : length (take i l) ≡ i
  length_before = length-take-le i l (omega arith)

  length_part : length (take k (drop i l)) ≡ k
  length_part = length-take-le k (drop i l) (omega (arith, length-drop i l))

over-length : (l : List ℕ) (i : ℕ) (ws : List ℕ) → i + length ws ≤ length l → length (over l i ws) ≡ length l
unfolding over
over-length l i ws h =
    length-append (take i l) (ws ++ drop (i + length ws) l)
    ∙ omega (arith, length_before l i (length ws) h, length-append ws (drop (i + length ws) l), length-drop (i + length ws) l)

-- the cells are two bytes each, behind the session
module _ (s : Session Span) (l t : List ℕ) where
  pub cells_over : (i : ℕ) (ws : List ℕ) → i + length ws ≤ length l → over (area_of s l t) (cell_at i) (pairs ws) ≡ area_of s (over l i ws) t
  unfolding over
  cells_over i ws h =
      let b : List ℕ = take i l in
      let m : List ℕ = take (length ws) (drop i l) in
      let r : List ℕ = drop (i + length ws) l in
      let parts : (x : List ℕ) → encode s ++ (pairs (b ++ (x ++ r)) ++ t) ≡ (encode s ++ pairs b) ++ (pairs x ++ (pairs r ++ t)) =
      λ x. rw (flat_append (le 2) b (x ++ r), flat_append (le 2) x r) (simp append_assoc) in
      let wide : length (pairs m) ≡ length (pairs ws) = length_pairs m ∙ ap (λ (k : ℕ). k * 2) (length_part l i (length ws) h) ∙ sym (length_pairs ws) in
      let here : length (encode s ++ pairs b) ≡ cell_at i = length-append (encode s) (pairs b) ∙ omega (arith, length-encode s, length_pairs b, length_before l i (length ws) h) in
      ap (λ (x : List ℕ). over (encode s ++ (pairs x ++ t)) (cell_at i) (pairs ws)) (cut l i (length ws) h)
      ∙ ap (λ (x : List ℕ). over x (cell_at i) (pairs ws)) (parts m)
      ∙ over_at (encode s ++ pairs b) (pairs m) (pairs r ++ t) (pairs ws) (cell_at i) here wide
      ∙ sym (parts ws)

-- ---- none
pairs-zeros : (n : ℕ) → pairs (zeros n) ≡ zeros (n * 2)
unfolding zeros flat
pairs-zeros zero = refl
pairs-zeros (suc n) =
    let two : 2 + n * 2 ≡ suc n * 2 = omega (arith, suc-mul n 2) in
    ap (λ (l : List ℕ). le 2 0 ++ l) (pairs-zeros n)
    ∙ ap (λ (l : List ℕ). l ++ zeros (n * 2)) le_zero
    ∙ zeros-add 2 (n * 2)
    ∙ ap zeros two

pub area_empty : (t : List ℕ) → area_of empty no_stamps t ≡ zeros area_size ++ t
area_empty t = rw (encode-empty, pairs-zeros cells) (sym (append_assoc (zeros size) (zeros 2380) t) ∙ ap (λ (l : List ℕ). l ++ t) (zeros-add size 2380))

-- ---- one column
module _ (n c i : ℕ) (l : List ℕ) where
  -- no row is new
  pub rows_none : (j : ℕ) → j ≤ i → stamp_rows n c i j l ≡ l
  unfolding Stamp.stamp_rows
  rows_none j h =
      let z : j - i ≡ 0 = omega arith in
      ap (λ (k : ℕ). over l (c + i) (replicate k n)) z ∙ sym (over_none l (c + i))

  pub rows-one : stamp_rows n c i (i + 1) l ≡ over l (c + i) (n ∷ [])
  unfolding Stamp.stamp_rows
  rows-one =
      let z : i + 1 - i ≡ 1 = omega arith in
      ap (λ (k : ℕ). over l (c + i) (replicate k n)) z

  pub rows-length : (j : ℕ) → c + j ≤ length l → length (stamp_rows n c i j l) ≡ length l
  unfolding Stamp.stamp_rows
  rows-length j h = go (dec_le i j)
    where
      go : Dec (i ≤ j) → length (over l (c + i) (replicate (j - i) n)) ≡ length l
      go (yes k) = over-length l (c + i) (replicate (j - i) n) (omega (arith, length-replicate (j - i) n))
      go (no k) = let z : j - i ≡ 0 = omega arith in ap (λ (k : ℕ). length (over l (c + i) (replicate k n))) z ∙ ap length (sym (over_none l (c + i)))

-- ---- all columns
module _ (n : ℕ) where
  all_none : (cs is l : List ℕ) → stamp_all n cs is is l ≡ l
  unfolding Stamp.stamp_all
  all_none [] is l = refl
  all_none (c ∷ cs) [] l = refl
  all_none (c ∷ cs) (i ∷ is) l = all_none cs is (stamp_rows n c i i l) ∙ rows_none n c i l i (omega arith)

  -- only the k-th has new rows
  all_one : (k j : ℕ) (cs is l : List ℕ) → k < length cs → k < length is → stamp_all n cs is (set is k j) l ≡ stamp_rows n (get_or cs k 0) (get_or is k 0) j l
  unfolding Stamp.stamp_all
  all_one k j [] is l h h' = absurd (omega arith)
  all_one k j (c ∷ cs) [] l h h' = absurd (omega arith)
  all_one zero j (c ∷ cs) (i ∷ is) l h h' = all_none cs is (stamp_rows n c i j l)
  all_one (suc k) j (c ∷ cs) (i ∷ is) l h h' =
      ap (λ (m : List ℕ). stamp_all n cs is (set is k j) m) (rows_none n c i l i (omega arith)) ∙ all_one k j cs is l (omega arith) (omega arith)

  -- only two that stand side by side have
  all_two : (k i' j : ℕ) (cs is l : List ℕ) → suc k < length cs → suc k < length is
      → stamp_all n cs is (set (set is k i') (suc k) j) l ≡ stamp_rows n (get_or cs (suc k) 0) (get_or is (suc k) 0) j (stamp_rows n (get_or cs k 0) (get_or is k 0) i' l)
  unfolding Stamp.stamp_all
  all_two k i' j [] is l h h' = absurd (omega arith)
  all_two k i' j (c ∷ cs) [] l h h' = absurd (omega arith)
  all_two zero i' j (c ∷ cs) (i ∷ is) l h h' = all_one 0 j cs is (stamp_rows n c i i' l) (omega arith) (omega arith)
  all_two (suc k) i' j (c ∷ cs) (i ∷ is) l h h' =
      ap (λ (m : List ℕ). stamp_all n cs is (set (set is k i') (suc k) j) m) (rows_none n c i l i (omega arith)) ∙ all_two k i' j cs is l (omega arith) (omega arith)

-- ---- a session
module _ {S : Type 0} (n : ℕ) (s s' : Session S) (l : List ℕ) where
  abbrev untitled : Type 0
  untitled = title_rows s' ≤ title_rows s

  no_title : untitled → stamp_rows n (title_cell s') (title_rows s) (title_rows s') l ≡ l
  no_title h = rows_none n (title_cell s') (title_rows s) l (title_rows s') h

  pub stamped-one : (k j : ℕ) → k < 16 → rows_in s' ≡ set (rows_in s) k j → untitled → stamped n s s' l ≡ stamp_rows n (get_or begins k 0) (get_or (rows_in s) k 0) j l
  unfolding Stamp.stamped
  stamped-one k j h e u = rw (e, no_title u) (all_one n k j begins (rows_in s) l h h)

  pub stamped_two : (k i j : ℕ) → suc k < 16 → rows_in s' ≡ set (set (rows_in s) k i) (suc k) j → untitled
      → stamped n s s' l ≡ stamp_rows n (get_or begins (suc k) 0) (get_or (rows_in s) (suc k) 0) j (stamp_rows n (get_or begins k 0) (get_or (rows_in s) k 0) i l)
  unfolding Stamp.stamped
  stamped_two k i j h e u = rw (e, no_title u) (all_two n k i j begins (rows_in s) l h h)

  pub stamped_title : rows_in s' ≡ rows_in s → stamped n s s' l ≡ stamp_rows n (title_cell s') (title_rows s) (title_rows s') l
  unfolding Stamp.stamped
  stamped_title e = rw e (all_none n begins (rows_in s) (stamp_rows n (title_cell s') (title_rows s) (title_rows s') l))

pub stamped_none : {S : Type 0} (n : ℕ) (s : Session S) (l : List ℕ) → stamped n s s l ≡ l
stamped_none n s l = stamped_title n s s l refl ∙ no_title n s s l (omega arith)

-- ---- as many cells as before
-- each column ends within the cells
abbrev Fit : List ℕ → List ℕ → ℕ → Type 0
Fit [] js m = Unit {0}
Fit (c ∷ cs) [] m = Unit {0}
Fit (c ∷ cs) (j ∷ js) m = (c + j ≤ m) × Fit cs js m

all_length : (n : ℕ) (cs is js l : List ℕ) → Fit cs js (length l) → length (stamp_all n cs is js l) ≡ length l
unfolding Stamp.stamp_all
all_length n [] is js l h = refl
all_length n (c ∷ cs) [] js l h = refl
all_length n (c ∷ cs) (i ∷ is) [] l h = refl
all_length n (c ∷ cs) (i ∷ is) (j ∷ js) l h =
    let e = rows-length n c i l j h.0 in
    all_length n cs is js (stamp_rows n c i j l) (rw e h.1) ∙ e

pub one-le : (b : Bool) → one b ≤ 1
one-le true = omega arith
one-le false = omega arith

within-fits : {S : Type 0} (s' : Session S) → Within s' → Fit begins (rows_in s') cells
within-fits s' w = (
  omega (arith, one-le (given s'.head.origin)),
  (
    omega (arith, one-le (given s'.head.name)),
    (
      omega (arith, one-le (given s'.head.description)),
      (
        omega (arith, one-le (given s'.head.uri)),
        (
          omega (arith, one-le (given s'.head.connection)),
          (
            omega (arith, one-le (given s'.head.key)),
            (
              omega (arith, w.emails),
              (
                omega (arith, w.phones),
                (
                  omega (arith, w.connections),
                  (
                    omega (arith, w.bandwidths),
                    (
                      omega (arith, w.times),
                      (
                        omega (arith, w.repeats),
                        (
                          omega (arith, w.offsets),
                          (
                            omega (arith, w.zones),
                            (
                              omega (arith, w.attributes),
                              (
                                omega (arith, w.medias),
                                tt,
                              ),
                            ),
                          ),
                        ),
                      ),
                    ),
                  ),
                ),
              ),
            ),
          ),
        ),
      ),
    ),
  ),
)

pub stamped-length : {S : Type 0} (n : ℕ) (s s' : Session S) (l : List ℕ) → Within s' → length l ≡ cells → length (stamped n s s' l) ≡ cells
unfolding Stamp.stamped
stamped-length n s s' l w e =
    let title = rows-length n (title_cell s') (title_rows s) l (title_rows s') (omega (arith, w.medias, e, one-le (last_titled s'.tables.medias))) in
    all_length n begins (rows_in s) (rows_in s') (stamp_rows n (title_cell s') (title_rows s) (title_rows s') l) (rw (title, e) (within-fits s' w)) ∙ title ∙ e
