-- A string that may be absent stands in the text as its line does. Assumes nothing.
use Prim.Native.Nat.{ℕ, ◌+◌, ◌≤◌}
use native.Mathlib.Omega.{arith}
use mathlib.Core.List.{List}
use lib.ListN.{length}
use Rattle.std.specs.Prelude.{Option, Some, None, IfSome}
use Rattle.sdp_split.specs.Split.{Inside}
use Rattle.sdp_split.specs.declared.Piece.{Piece}

pub maybe_fits : (v : List ℕ) (at n : ℕ) (m : Option Piece) → IfSome m (Inside v) → at + length v ≤ n → IfSome m (λ p. at + p.at ≤ n)
maybe_fits v at n (Some p) h l = omega arith
maybe_fits v at n None h l = tt
