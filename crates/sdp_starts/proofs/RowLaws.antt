-- The rows of a table that are left, and their owners. Assumes nothing.
use mathlib.Core.Path.{◌≡◌, refl, sym, ap, ◌∙◌}
use mathlib.Core.Bool.{true, false, ◌||◌}
use mathlib.Core.List.{List, [], ◌++◌, append-nil, append_assoc}
use Prim.Native.Nat.{ℕ, zero, suc, ◌+◌, ◌*◌, ◌-◌, ◌≤◌, ◌<◌}
use native.Mathlib.Omega.{arith}
use lib.Dec.{eqb}
use borrow.Author.Tests.{eq-eqb, ne_eqb}
use Rattle.sdp_cells.specs.Bytes.{num}
use Rattle.sdp_decode.specs.Rows as rows
use Rattle.sdp_decode.specs.Rows.{rows_at, table, each, each_at, mine}
use Rattle.sdp_decode.proofs.RowLaws.{rows_all, rows_more, rows_none, each_rows}
use Rattle.sdp_hours.specs.Listing.{Start}
use Rattle.sdp_hours.specs.Starts as starting
use Rattle.sdp_hours.specs.Starts.{owns}
use Rattle.sdp_listing.specs.Columns.{Columns}
use Rattle.sdp_starts.specs.Fill as filling
use Rattle.sdp_starts.specs.Fill.{Roomy, Fills, owns_at}
use Rattle.sdp_starts.proofs.FillLaws.{fills_none, fills_then, fills_as, fills_over}
use Rattle.sdp_numbers.specs.Refusals.{most_starts}

-- ---- the loop over a table: n rows of at most 40 bytes each from base + 2 on, what the first i of them list is put in
module _ {X : Type 0} (f : ℕ → X → List Start) (rd : List ℕ → ℕ → X) (w base : ℕ) (a : List ℕ) (n : ℕ) (c₀ : Columns) (n₀ : ℕ) where
  -- what row k, the one at p, lists
  abbrev row : ℕ → ℕ → List Start
  row k p = f k (rd a p)

  pub record Left (c : Columns) (p i m : ℕ) : Type 0 where
    pub few : n < 65536
    pub near : p ≤ base + 2 + i * 40
    pub done : List Start
    pub fills : Fills c₀ n₀ done c m
    pub split : done ++ each_at row w (n - i) (i + 1) p ≡ each_at row w (num 2 a base) 1 (base + 2)

  pub left_begin : n ≡ num 2 a base → n < 65536 → Left c₀ (base + 2) 0 n₀
  left_begin e h = record { few = h; near = omega arith; done = []; fills = fills_none; split = sym (rows_all row w n (num 2 a base) (base + 2) e) }

  pub left_turn : {c c' : Columns} {p i m m' : ℕ} → w ≤ 40 → i < n → Left c p i m → Fills c m (f (i + 1) (rd a p)) c' m' → Left c' (p + w) (i + 1) m'
  left_turn {c} {c'} {p} {i} {m} {m'} u h l t =
      record {
        few = l.few;
        near = omega (arith, l.near);
        done = l.done ++ row (i + 1) p;
        fills = fills_then l.fills t;
        split =
            append_assoc l.done (row (i + 1) p) (each_at row w (n - (i + 1)) (i + 1 + 1) (p + w))
            ∙ ap (λ (r : List Start). l.done ++ r) (sym (rows_more row w n i p h))
            ∙ l.split;
      }

  pub left_finish : {c : Columns} {p i m : ℕ} → n ≤ i → Left c p i m → Fills c₀ n₀ (each f 1 (table rd w a base)) c m
  left_finish {c} {p} {i} {m} h l =
      fills_as
      (sym (append-nil l.done) ∙ ap (λ (r : List Start). l.done ++ r) (sym (rows_none row w n i p h)) ∙ l.split ∙ each_rows f rd w _ a 1 _)
      l.fills

  -- too many already: the rows that are left change nothing
  pub left_full : {c : Columns} {p i m : ℕ} → most_starts < m → Left c p i m → Fills c₀ n₀ (each f 1 (table rd w a base)) c m
  left_full {c} {p} {i} {m} h l = fills_as (l.split ∙ each_rows f rd w _ a 1 _) (fills_then l.fills (fills_over c m (each_at row w (n - i) (i + 1) p) h))

  -- the columns stay roomy
  pub left_roomy : {c : Columns} {p i m : ℕ} → Left c p i m → Roomy c₀ → Roomy c
  left_roomy {c} {p} {i} {m} l r = l.fills.roomy r

-- ---- owners
pub owns_all : (a : List ℕ) (w k n m p : ℕ) → n ≡ m → owns_at a w k m p ≡ owns_at a w k (n - 0) p
owns_all a w k n m p e = ap (λ (i : ℕ). owns_at a w k i p) (let z : m ≡ n - 0 = omega arith in z)

module _ (a : List ℕ) (w k n i p : ℕ) where
  one_more : i < n → owns_at a w k (n - i) p ≡ (eqb (num 2 a p) k || owns_at a w k (n - (i + 1)) (p + w))
  unfolding filling.owns_at
  one_more h = ap (λ (j : ℕ). owns_at a w k j p) (let z : n - i ≡ suc (n - (i + 1)) = omega arith in z)

  pub owns_here : (o : ℕ) → i < n → o ≡ num 2 a p → o ≡ k → owns_at a w k (n - i) p ≡ true
  owns_here o h e q = one_more h ∙ rw (eq-eqb (num 2 a p) k (sym e ∙ q)) refl

  pub owns_more : (o : ℕ) → i < n → o ≡ num 2 a p → (o ≡ k → ⊥) → owns_at a w k (n - i) p ≡ owns_at a w k (n - (i + 1)) (p + w)
  owns_more o h e q = one_more h ∙ rw (ne_eqb (num 2 a p) k (λ z. q (e ∙ z))) refl

  pub owns_none : n ≤ i → owns_at a w k (n - i) p ≡ false
  unfolding filling.owns_at
  owns_none h = ap (λ (j : ℕ). owns_at a w k j p) (let z : n - i ≡ 0 = omega arith in z)

-- by the places of the rows, or by the rows
pub owns-rows : {X : Type 0} (owner : X → ℕ) (rd : List ℕ → ℕ → X) (a : List ℕ) (w k : ℕ) → ((p : ℕ) → owner (rd a p) ≡ num 2 a p) → (n p : ℕ)
    → owns owner k (rows_at rd w n a p) ≡ owns_at a w k n p
unfolding filling.owns_at starting.owns rows.rows_at
owns-rows owner rd a w k e zero p = refl
owns-rows owner rd a w k e (suc n) p = rw (e p, owns-rows owner rd a w k e n (p + w)) refl

-- ---- what belongs to n; o is the owner as it was read
module _ (n owner o : ℕ) (e : o ≡ owner) where
  pub mine-not : (xs : List Start) → (o ≡ n → ⊥) → [] ≡ mine n owner xs
  unfolding rows.mine
  mine-not xs h = rw (← e, ne_eqb o n h) refl

  pub mine_is : (xs ys : List Start) → o ≡ n → xs ≡ ys → xs ≡ mine n owner ys
  unfolding rows.mine
  mine_is xs ys h q = rw (← e, eq-eqb o n h) q
