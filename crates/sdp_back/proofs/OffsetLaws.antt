-- The offsets of one r line: the rows that its number owns. Assumes nothing.
use mathlib.Core.Path.{◌≡◌, refl, ap}
use mathlib.Core.Bool.{Bool, true, false, cond}
use mathlib.Core.List.{List, [], ◌∷◌, ◌++◌, map}
use Prim.Native.Nat.{ℕ, suc, ◌+◌, ◌^◌, ◌≤◌, ◌<◌}
use native.Mathlib.Omega.{arith}
use lib.ListN.{length, length-append, length-map}
use lib.Dec.{ltb, eqb}
use borrow.Author.Tests.{ltb-true, ltb-false, lt-ltb, le-ltb, eqb-true, eqb-false, ne_eqb}
use Rattle.sdp_area.specs.Session.{Repeat, Offset}
use Rattle.sdp_put.specs.Digits.{time_text}
use Rattle.sdp_decode.specs.Rows as rows
use Rattle.sdp_decode.specs.Rows.{each, mine}
use Rattle.sdp_row.specs.Written as form
use Rattle.sdp_row.specs.Written.{line, spaced, repeat_line}
use Rattle.sdp_same.specs.Fits.{Each, FitOffset}
use Rattle.sdp_same.specs.Sound.{Rising}
use Rattle.sdp_back.proofs.WordLaws.{tails}
use Rattle.sdp_back.proofs.TimeLaws.{repeat_value}
use Rattle.sdp_back.proofs.LeadLaws.{below, below_none}

abbrev pub owner_of : Offset → ℕ
owner_of o = o.owner

-- a row of the r line with number k
abbrev pub offset_row : ℕ → ℕ → Offset
offset_row k n = record { owner = k; offset = n }

module _ (k : ℕ) where
  -- the offsets of that line
  unfoldable pub values : List Offset → List ℕ
  values [] = []
  values (o ∷ os) = cond (eqb o.owner k) (o.offset ∷ values os) (values os)

  values_text : (os : List Offset) (j : ℕ) → each (λ i o. mine k o.owner (spaced (time_text o.offset))) j os ≡ tails (map time_text (values os))
  unfolding values rows.each rows.mine tails
  values_text [] j = refl
  values_text (o ∷ os) j = go (eqb o.owner k) (values_text os (j + 1))
    where
      go : (b : Bool) → each (λ i o. mine k o.owner (spaced (time_text o.offset))) (j + 1) os ≡ tails (map time_text (values os))
          → cond b (spaced (time_text o.offset)) [] ++ each (λ i o. mine k o.owner (spaced (time_text o.offset))) (j + 1) os ≡ tails (map time_text (cond b (o.offset ∷ values os) (values os)))
      go true e = ap (λ (l : List ℕ). spaced (time_text o.offset) ++ l) e
      go false e = e

  pub repeat-text : (os : List Offset) (r : Repeat) → repeat_line os k r ≡ line 0x72 (repeat_value r.repeat_interval r.active_duration (values os))
  unfolding form.repeat_line tails
  repeat-text os r = ap (λ (l : List ℕ). line 0x72 (time_text r.repeat_interval ++ (spaced (time_text r.active_duration) ++ l))) (values_text os 1)

  pub values_small : (os : List Offset) → Each FitOffset os → Each (λ n. n < 2 ^ 64) (values os)
  unfolding values
  values_small [] h = tt
  values_small (o ∷ os) h = go (eqb o.owner k) (values_small os h.1)
    where
      go : (b : Bool) → Each (λ n. n < 2 ^ 64) (values os) → Each (λ n. n < 2 ^ 64) (cond b (o.offset ∷ values os) (values os))
      go true e = (h.0.offset, e)
      go false e = e

  none_values : (os : List Offset) (most lo : ℕ) → Rising owner_of most lo os → k < lo → values os ≡ []
  unfolding values
  none_values [] most lo r h = refl
  none_values (o ∷ os) most lo r h = let l = r.0 in rw (ne_eqb o.owner k (λ e. omega arith)) (none_values os most o.owner r.2 (omega arith))

  -- the rows of the lines before, and those of this one
  pub values_next : (os : List Offset) (most lo : ℕ) → Rising owner_of most lo os → below owner_of k os ++ map (offset_row k) (values os) ≡ below owner_of (k + 1) os
  unfolding values below
  values_next [] most lo r = refl
  values_next (o ∷ os) most lo r = go (ltb o.owner k) (eqb o.owner k) refl refl (values_next os most o.owner r.2)
    where
      go : (a b : Bool) → ltb o.owner k ≡ a → eqb o.owner k ≡ b → below owner_of k os ++ map (offset_row k) (values os) ≡ below owner_of (k + 1) os
          → cond a (o ∷ below owner_of k os) [] ++ map (offset_row k) (cond b (o.offset ∷ values os) (values os)) ≡ cond (ltb o.owner (k + 1)) (o ∷ below owner_of (k + 1) os) []
      go true true p q e = absurd (omega (arith, ltb-true o.owner k p, eqb-true o.owner k q))
      go true false p q e = rw (lt-ltb o.owner (k + 1) (omega (arith, ltb-true o.owner k p))) (ap (λ xs. o ∷ xs) e)
      go false true p q e =
          let w = eqb-true o.owner k q in
          let z : below owner_of k os ≡ [] = below_none owner_of k most o.owner os r.2 (omega arith) in
          rw (lt-ltb o.owner (k + 1) (omega arith), ← w) (ap (λ xs. o ∷ xs) (rw (w, ← (rw z at e))))
      go false false p q e =
          let w = eqb-false o.owner k q in
          let l = ltb-false o.owner k p in
          rw (le-ltb o.owner (k + 1) (omega arith), none_values os most o.owner r.2 (omega arith))

  below_short : (n : ℕ) (os : List Offset) → length (below owner_of n os) ≤ length os
  unfolding below
  below_short n [] = omega arith
  below_short n (o ∷ os) = go (ltb o.owner n) (below_short n os)
    where
      go : (b : Bool) → length (below owner_of n os) ≤ length os → length (cond b (o ∷ below owner_of n os) []) ≤ suc (length os)
      go true l = omega arith
      go false l = omega arith

  pub values_fit : (os : List Offset) (most lo : ℕ) → Rising owner_of most lo os → length (below owner_of k os) + length (values os) ≤ length os
  values_fit os most lo r =
      omega (arith, below_short (k + 1) os, ap length (values_next os most lo r), length-append (below owner_of k os) (map (offset_row k) (values os)), length-map (values os) (offset_row k))
