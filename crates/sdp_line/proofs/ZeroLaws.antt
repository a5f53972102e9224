-- The value that is `0`, by its length and its only byte.
-- Assumes nothing.
use Prim.Native.Nat.{ℕ}
use mathlib.Core.Path.{◌≡◌}
use mathlib.Core.Bool.{true, false}
use mathlib.Core.List.{List}
use lib.ListN.{length, get_or}
use borrow.Author.Tests.{eq-eqb, ne_eqb}
use Rattle.sdp_line.specs.Version.{is_zero}

module _ (v : List ℕ) where
  pub zero_yes : length v ≡ 1 → get_or v 0 0 ≡ 0x30 → is_zero v ≡ true
  zero_yes e f = rw (eq-eqb (length v) 1 e, eq-eqb (get_or v 0 0) 0x30 f)

  pub zero_other : length v ≡ 1 → (get_or v 0 0 ≡ 0x30 → ⊥) → is_zero v ≡ false
  zero_other e f = rw (eq-eqb (length v) 1 e, ne_eqb (get_or v 0 0) 0x30 f)

  pub zero_long : (length v ≡ 1 → ⊥) → is_zero v ≡ false
  zero_long e = rw (ne_eqb (length v) 1 e)
