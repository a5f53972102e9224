-- Laws of lists of rows: what holds of each, and owners that never fall, when rows are added or the latest is changed. Assumes nothing.
use Prim.Native.Nat.{ℕ, ◌+◌, ◌≤◌, ◌<◌}
use native.Mathlib.Omega.{arith}
use mathlib.Core.Path.{◌≡◌}
use mathlib.Core.List.{List, [], ◌∷◌, ◌++◌, map}
use lib.ListN.{length, length-append}
use Rattle.sdp_area.specs.With as change
use Rattle.sdp_area.specs.With.{set_last}
use Rattle.sdp_step.proofs.OnceLaws.{length_last}
use Rattle.sdp_same.specs.Fits.{Each, Rows}
use Rattle.sdp_same.specs.Sound.{Rising}

module _ {X : Type 0} (P : X → Type 0) where
  pub each_append : (xs ys : List X) → Each P xs → Each P ys → Each P (xs ++ ys)
  each_append [] ys h k = k
  each_append (x ∷ xs) ys h k = (h.0, each_append xs ys h.1 k)

  pub each_last : (g : X → X) → ((x : X) → P x → P (g x)) → (xs : List X) → Each P xs → Each P (set_last g xs)
  unfolding change.set_last
  each_last g keep [] h = tt
  each_last g keep (x ∷ []) h = (keep x h.0, tt)
  each_last g keep (x ∷ y ∷ ys) h = (h.0, each_last g keep (y ∷ ys) h.1)

  pub each_map : {Y : Type 0} (Q : Y → Type 0) (g : Y → X) → ((y : Y) → Q y → P (g y)) → (ys : List Y) → Each Q ys → Each P (map g ys)
  each_map Q g keep [] h = tt
  each_map Q g keep (y ∷ ys) h = (keep y h.0, each_map Q g keep ys h.1)

  module _ (cap : ℕ) (xs : List X) (h : Rows cap P xs) where
    pub rows_append : (ys : List X) → Each P ys → length xs + length ys ≤ cap → Rows cap P (xs ++ ys)
    rows_append ys k l = record { few = omega (arith, length-append xs ys); each = each_append xs ys h.each k }

    pub rows_more : (x : X) → P x → length xs < cap → Rows cap P (xs ++ (x ∷ []))
    rows_more x k l = rows_append (x ∷ []) (k, tt) (omega arith)

    pub rows_last : (g : X → X) → ((x : X) → P x → P (g x)) → Rows cap P (set_last g xs)
    rows_last g keep = record { few = omega (arith, length_last g xs, h.few); each = each_last g keep xs h.each }

module _ {X : Type 0} (owner : X → ℕ) where
  pub rising_more : (most most' : ℕ) → most ≤ most' → (xs : List X) (lo : ℕ) → Rising owner most lo xs → Rising owner most' lo xs
  rising_more most most' l [] lo h = tt
  rising_more most most' l (x ∷ xs) lo h = (h.0, (let k = h.1 in omega arith), rising_more most most' l xs (owner x) h.2)

  all_rise : (most : ℕ) (ys : List X) (lo : ℕ) → lo ≤ most → Each (λ y. owner y ≡ most) ys → Rising owner most lo ys
  all_rise most [] lo l h = tt
  all_rise most (y ∷ ys) lo l h = let e = h.0 in ((omega arith), (omega arith), all_rise most ys (owner y) (omega arith) h.1)

  pub rising-append : (most : ℕ) (xs : List X) (lo : ℕ) → lo ≤ most → Rising owner most lo xs → (ys : List X) → Each (λ y. owner y ≡ most) ys → Rising owner most lo (xs ++ ys)
  rising-append most [] lo l h ys k = all_rise most ys lo l k
  rising-append most (x ∷ xs) lo l h ys k = (h.0, h.1, rising-append most xs (owner x) h.1 h.2 ys k)
