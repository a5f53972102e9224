-- Numbers of an area: past the end all is 0. Assumes nothing.
use mathlib.Core.Path.{◌≡◌, refl}
use mathlib.Core.List.{List}
use Prim.Native.Nat.{ℕ, zero, suc, ◌+◌, ◌≤◌}
use native.Mathlib.Omega.{arith}
use lib.ListN.{length, get_or-eq_default}
use Rattle.std.specs.Prelude.{Some, None}
use borrow.Author.Tests.{ne_eqb}
use Rattle.sdp_cells.specs.Bytes as bytes
use Rattle.sdp_cells.specs.Bytes.{num}
use Rattle.sdp_decode.specs.Rows.{marked}

pub num-past : (k : ℕ) (a : List ℕ) (i : ℕ) → length a ≤ i → num k a i ≡ 0
unfolding bytes.num
num-past zero a i h = refl
num-past (suc k) a i h = omega (arith, get_or-eq_default a 0 {n = i} h, num-past k a (i + 1) (omega arith))

-- ---- what may be absent
module _ {X : Type 0} (rd : List ℕ → ℕ → X) (a : List ℕ) (p n : ℕ) (e : n ≡ num 2 a p) where
  pub marked_none : n ≡ 0 → marked rd a p ≡ None
  unfolding marked
  marked_none z = rw (← e, z)

  pub marked_some : (n ≡ 0 → ⊥) → marked rd a p ≡ Some (rd a (p + 2))
  unfolding marked
  marked_some z = rw (← e, ne_eqb n 0 z)
