-- Laws of segments that stand one after the other: where the k-th begins, and the whole with another in its place.
-- Assumes nothing.
use mathlib.Core.Path.{◌≡◌, refl, sym, ap, ◌∙◌}
use mathlib.Core.List.{List, [], ◌∷◌, ◌++◌, map, append_assoc}
use Prim.Native.Nat.{ℕ, zero, suc, ◌+◌, ◌<◌}
use lib.ListN.{length, get_or, take, drop, set, length-append}
use lib.Seq.{set_split, set-get_or}
use Rattle.sdp_area.specs.Area.{cat}

abbrev pub total : List ℕ → ℕ
total [] = 0
total (n ∷ ns) = n + total ns

-- the first k segments are as long as their lengths together
pub length-cat : (l : List (List ℕ)) (k : ℕ) → length (cat (take k l)) ≡ total (take k (map length l))
unfolding cat
length-cat [] zero = refl
length-cat [] (suc k) = refl
length-cat (x ∷ l) zero = refl
length-cat (x ∷ l) (suc k) = length-append x (cat (take k l)) ∙ ap (λ (n : ℕ). length x + n) (length-cat l k)

cat-append : (l m : List (List ℕ)) → cat (l ++ m) ≡ cat l ++ cat m
unfolding cat
cat-append [] m = refl
cat-append (x ∷ l) m = ap (λ (r : List ℕ). x ++ r) (cat-append l m) ∙ sym (append_assoc x (cat l) (cat m))

module _ (l : List (List ℕ)) (k : ℕ) (inside : k < length l) (t : List ℕ) where
  -- bs in the place of the k-th segment, with what stands before it and what behind it
  pub set_view : (bs : List ℕ) → cat (set l k bs) ++ t ≡ cat (take k l) ++ (bs ++ (cat (drop (suc k) l) ++ t))
  unfolding cat
  set_view bs =
      ap (λ (m : List (List ℕ)). cat m ++ t) (set_split l k bs inside)
      ∙ ap (λ (r : List ℕ). r ++ t) (cat-append (take k l) (bs ∷ drop (suc k) l))
      ∙ simp append_assoc

  -- and the k-th segment itself
  pub cat_view : cat l ++ t ≡ cat (take k l) ++ (get_or l k [] ++ (cat (drop (suc k) l) ++ t))
  cat_view = ap (λ (m : List (List ℕ)). cat m ++ t) (sym (set-get_or l k [])) ∙ set_view (get_or l k [])
