-- Laws of specs/Offset: the three ways that the code reads an offset. Assumes nothing.
use Prim.Native.Nat.{ℕ, ◌-◌, ◌<◌}
use native.Mathlib.Omega.{arith}
use mathlib.Core.Path.{◌≡◌}
use mathlib.Core.Bool.{true, false, and-false}
use mathlib.Core.List.{List}
use borrow.Author.Tests.{lt-ltb, le-ltb, eq-eqb, ne_eqb}
use lib.ListN.{length, get_or, take, drop}
use Rattle.sdp_number.specs.Number.{Number, typed_time}
use Rattle.sdp_bytes.proofs.ScanLaws.{rest_from}
use Rattle.sdp_judge.specs.Offset.{signed_of, zone_offset}

module _ (s : List ℕ) (n : Number) where
  pub offset_none : n ≡ typed_time s → length s ≡ 0 → signed_of false n ≡ zone_offset s
  unfolding zone_offset
  offset_none e h = rw (e, le-ltb 0 (length s) (omega arith))

  pub offset-plain : n ≡ typed_time s → (get_or s 0 0 ≡ 0x2d → ⊥) → signed_of false n ≡ zone_offset s
  unfolding zone_offset
  offset-plain e h = rw (e, ne_eqb (get_or s 0 0) 0x2d h, and-false)

  pub offset-minus : n ≡ typed_time (take (length s - 1) (drop 1 s)) → 0 < length s → get_or s 0 0 ≡ 0x2d → signed_of true n ≡ zone_offset s
  unfolding zone_offset
  offset-minus e l h = rw (e, rest_from s 1, lt-ltb 0 (length s) l, eq-eqb (get_or s 0 0) 0x2d h)
