-- Bytes that stand at a place of a list, and the numbers, marks and rows that stand there. Assumes nothing.
use mathlib.Core.Path.{◌≡◌, refl, sym, ap, ◌∙◌}
use mathlib.Core.List.{List, [], ◌∷◌, ◌++◌, append_assoc}
use Rattle.std.specs.Prelude.{Some, None}
use Prim.Native.Nat.{ℕ, zero, suc, ◌+◌, ◌^◌, ◌<◌}
use native.Mathlib.Nat.{add-zero, add_assoc}
use native.Mathlib.Omega.{arith}
use lib.Dec.{lit<}
use lib.ListN.{length, drop, get_or}
use lib.Seq.{drop-drop, drop_at, get_or-drop}
use Rattle.sdp_lines.specs.declared.Span.{Span}
use Rattle.sdp_cells.specs.Bytes as bytes
use Rattle.sdp_cells.specs.Bytes.{le, num, zeros}
use Rattle.sdp_cells.specs.Tables as tables
use Rattle.sdp_cells.specs.Tables.{flat}
use Rattle.sdp_area.specs.Area as area
use Rattle.sdp_area.specs.Area.{opt, segments, encode}
use Rattle.sdp_area.specs.Session.{Session}
use Rattle.sdp_cells.proofs.ByteLaws.{length-le, num_at, zeros-add, le_zero}
use Rattle.sdp_area.proofs.SegmentLaws.{cat_view}
use Rattle.sdp_area.proofs.WidthLaws.{start, before, behind, begins}

-- the bytes v stand at place p of t
pub record Stands (t : List ℕ) (p : ℕ) (v : List ℕ) : Type 0 where
  pub rest : List ℕ
  pub here : drop p t ≡ v ++ rest

-- of two runs, one behind the other
module _ {t : List ℕ} {p : ℕ} (x y : List ℕ) (w : Stands t p (x ++ y)) where
  pub front : Stands t p x
  front = record { rest = y ++ w.rest; here = w.here ∙ append_assoc x y w.rest }

  pub past : {k : ℕ} → length x ≡ k → (m : ℕ) → p + k ≡ m → Stands t m y
  past {k} e m q = record {
    rest = w.rest;
    here = ap (λ (j : ℕ). drop j t) (sym q) ∙ sym (drop-drop k p t) ∙ ap (drop k) (w.here ∙ append_assoc x y w.rest) ∙ drop_at x (y ++ w.rest) k e;
  }

-- ---- a number
num-drop : (k : ℕ) (a : List ℕ) (n i : ℕ) → num k a (n + i) ≡ num k (drop n a) i
unfolding bytes.num
num-drop zero a n i = refl
num-drop (suc k) a n i =
    let h : get_or (drop n a) i 0 ≡ get_or a (n + i) 0 = get_or-drop n a i 0 in
    let t : num k a (n + i + 1) ≡ num k (drop n a) (i + 1) = ap (num k a) (add_assoc n i 1) ∙ num-drop k a n (i + 1) in
    omega (arith, h, t)

pub num_back : (k v : ℕ) → v < 256 ^ k → {a : List ℕ} {n : ℕ} → Stands a n (le k v) → num k a n ≡ v
num_back k v h {a} {n} w =
    ap (num k a) (sym (add-zero n)) ∙ num-drop k a n 0 ∙ ap (λ (l : List ℕ). num k l 0) w.here ∙ num_at k v [] w.rest 0 refl h

-- ---- what may be absent
module _ {X : Type 0} (k : ℕ) (f : X → List ℕ) {a : List ℕ} {n : ℕ} where
  pub absent-mark : Stands a n (opt k f None) → num 2 a n ≡ 0
  unfolding area.opt
  absent-mark w =
      let e : zeros (2 + k) ≡ le 2 0 ++ zeros k = sym (zeros-add 2 k) ∙ ap (λ (l : List ℕ). l ++ zeros k) (sym le_zero) in
      num_back 2 0 (lit< tt) (front (le 2 0) _ (rw e at w))

  pub present_mark : (x : X) → Stands a n (opt k f (Some x)) → (num 2 a n ≡ 1) × Stands a (n + 2) (f x)
  unfolding area.opt
  present_mark x w = (num_back 2 1 (lit< tt) (front (le 2 1) _ w), past (le 2 1) _ w (length-le 2 1) (n + 2) refl)

-- ---- rows
module _ {X : Type 0} (f : X → List ℕ) (k : ℕ) (wide : (x : X) → length (f x) ≡ k) {a : List ℕ} {n : ℕ} where
  pub first_row : (x : X) (xs : List X) → Stands a n (flat f (x ∷ xs)) → Stands a n (f x) × Stands a (n + k) (flat f xs)
  unfolding tables.flat
  first_row x xs w = (front (f x) _ w, past (f x) _ w (wide x) (n + k) refl)

-- ---- a segment of the area
pub segment : (s : Session Span) (x : List ℕ) (k : ℕ) → k < 16 → Stands (encode s ++ x) (start k) (get_or (segments s) k [])
unfolding area.encode
segment s x k h = record {
  rest = behind s k x;
  here = ap (drop (start k)) (cat_view (segments s) k h x) ∙ drop_at (before s k) (get_or (segments s) k [] ++ behind s k x) (start k) (begins s k);
}
