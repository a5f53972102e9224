-- Zones: the sign of an offset, and the space before all but the first. Assumes nothing.
use mathlib.Core.Path.{◌≡◌}
use mathlib.Core.Bool.{true, false}
use mathlib.Core.List.{[], ◌∷◌}
use Prim.Native.Nat.{ℕ, ◌-◌, ◌^◌, ◌≤◌, ◌<◌}
use borrow.Author.Tests.{eq-eqb, ne_eqb, le-leb, lt-leb}
use Rattle.sdp_put.specs.Digits.{offset_text}
use Rattle.sdp_row.specs.Written.{signed_text, between}

pub signed-minus : (v m : ℕ) → 2 ^ 63 ≤ v → m ≡ 2 ^ 64 - v → offset_text true m ≡ signed_text v
signed-minus v m h e = rw (e, le-leb (2 ^ 63) v h)

pub signed-plain : (v : ℕ) → v < 2 ^ 63 → offset_text false v ≡ signed_text v
signed-plain v h = rw (lt-leb (2 ^ 63) v h)

pub between_none : (k : ℕ) → k ≡ 1 → [] ≡ between k
between_none k e = rw (eq-eqb k 1 e)

pub between_some : (k : ℕ) → (k ≡ 1 → ⊥) → (0x20 ∷ []) ≡ between k
between_some k e = rw (ne_eqb k 1 e)
