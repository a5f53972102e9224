-- The loop that puts the rows of a table, and tables without rows. Assumes nothing.
use mathlib.Core.Path.{◌≡◌, refl, ◌∙◌}
use mathlib.Core.List.{List, [], ◌∷◌, ◌++◌}
use Prim.Native.Nat.{ℕ, zero, suc, ◌+◌, ◌*◌, ◌-◌, ◌≤◌, ◌<◌}
use lib.ListN.{length}
use base.Fml.{Lft}
use contract.BorrowLft.{◌⊑◌, ⊑_meet, ⊑_static}
use Rattle.sdp_cells.specs.Bytes.{num}
use Rattle.sdp_valid.specs.Counted.{Inside}
use Rattle.sdp_valid.proofs.CountedLaws.{all_inside, row_inside}
use Rattle.sdp_put.specs.declared.Out.{Out}
use Rattle.sdp_put.specs.Puts.{Puts}
use Rattle.sdp_put.proofs.PutsLaws.{Owed, begin, turn, finish}
use Rattle.sdp_decode.specs.Rows as rows
use Rattle.sdp_decode.specs.Rows.{rows_at, each, each_at}
use Rattle.sdp_decode.proofs.RowLaws.{rows_all, rows_more, rows_none}
use Rattle.sdp_decode.specs.Decode.{time_of, zone_of}
use Rattle.sdp_area.specs.Session.{Repeat, Offset}
use Rattle.sdp_row.specs.Written.{line, time_lines, times_lines, zone_text, zones_line}

-- ---- the loop over a table: n rows of w bytes each from base + 2 on, the first i of them put; those that are left lie in the area
module _ (f : ℕ → ℕ → List ℕ) (a : List ℕ) (w base n : ℕ) (x₀ : Out) where
  pub record Left (x : Out) (p i : ℕ) : Type 0 where
    pub inside : p + (n - i) * w ≤ length a
    pub owed : Owed x₀ (each_at f w (num 2 a base) 1 (base + 2)) x (each_at f w (n - i) (i + 1) p)

  pub left_begin : n ≡ num 2 a base → Inside a base w → Left x₀ (base + 2) 0
  left_begin e h = record { inside = all_inside a base w n e h; owed = begin (rows_all f w n (num 2 a base) (base + 2) e) }

  -- the next row lies in the area
  pub left_here : {x : Out} {p i : ℕ} → i < n → Left x p i → p + w ≤ length a
  left_here {x} {p} {i} h l = (row_inside n i p w (length a) h l.inside).0

  pub left_turn : {x y : Out} {p i : ℕ} → i < n → Left x p i → Puts x (f (i + 1) p) y → Left y (p + w) (i + 1)
  left_turn {x} {y} {p} {i} h l t =
      record { inside = (row_inside n i p w (length a) h l.inside).1; owed = turn l.owed (record { is = rows_more f w n i p h }) t }

  pub left_finish : {x : Out} {p i : ℕ} → n ≤ i → Left x p i → Puts x₀ (each_at f w (num 2 a base) 1 (base + 2)) x
  left_finish {x} {p} {i} h l = finish l.owed (rows_none f w n i p h)

-- ---- what a closure over a lent Source asks of lifetimes: α is that of the loan, β those of the text and the area
pub captured : {κ α β : Lft} → κ ⊑ α → κ ⊑ β → κ ⊑ ((α ++ ((β ++ []) ++ ((β ++ []) ++ []))) ++ []) ++ ((α ++ ((β ++ []) ++ ((β ++ []) ++ []))) ++ [])
captured {κ} {α} {β} p q = ⊑_meet κ _ _ once once
  where
    both : κ ⊑ (β ++ []) ++ ((β ++ []) ++ [])
    both = ⊑_meet κ _ _ (⊑_meet κ _ _ q (⊑_static κ)) (⊑_meet κ _ _ (⊑_meet κ _ _ q (⊑_static κ)) (⊑_static κ))

    once : κ ⊑ (α ++ ((β ++ []) ++ ((β ++ []) ++ []))) ++ []
    once = ⊑_meet κ _ _ (⊑_meet κ _ _ p both) (⊑_static κ)

-- ---- a table without rows, and one with rows; m is its count as it was read
module _ (m n : ℕ) (a : List ℕ) (p : ℕ) (e : m ≡ n) where
  pub times_none : (rs : List Repeat) (os : List Offset) → m ≡ 0 → line 0x74 (0x30 ∷ 0x20 ∷ 0x30 ∷ []) ≡ times_lines rs os (rows_at time_of 16 n a p)
  unfolding times_lines rows.rows_at
  times_none rs os z = rw (← e, z)

  pub times_some : (rs : List Repeat) (os : List Offset) → (m ≡ 0 → ⊥) → each (time_lines rs os) 1 (rows_at time_of 16 n a p) ≡ times_lines rs os (rows_at time_of 16 n a p)
  unfolding times_lines rows.rows_at
  times_some rs os z = go n refl
    where
      go : (k : ℕ) → n ≡ k → each (time_lines rs os) 1 (rows_at time_of 16 k a p) ≡ times_lines rs os (rows_at time_of 16 k a p)
      go zero h = absurd (z (e ∙ h))
      go (suc k) h = refl

  pub zones_none : m ≡ 0 → [] ≡ zones_line (rows_at zone_of 16 n a p)
  unfolding zones_line rows.rows_at
  zones_none z = rw (← e, z)

  pub zones_some : (m ≡ 0 → ⊥) → line 0x7a (each zone_text 1 (rows_at zone_of 16 n a p)) ≡ zones_line (rows_at zone_of 16 n a p)
  unfolding zones_line rows.rows_at
  zones_some z = go n refl
    where
      go : (k : ℕ) → n ≡ k → line 0x7a (each zone_text 1 (rows_at zone_of 16 k a p)) ≡ zones_line (rows_at zone_of 16 k a p)
      go zero h = absurd (z (e ∙ h))
      go (suc k) h = refl
