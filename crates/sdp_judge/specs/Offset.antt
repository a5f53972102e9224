-- Document 01, "Fields": the offset of a z line, "sign and 64-bit magnitude judged apart".
use Rattle.std.specs.Prelude.{ℕ, ◌-◌, ◌^◌, Bool, true, false, ◌&&◌, cond, List, length, get_or, drop, ltb, leb, eqb, Some, None, Ok, Err}
use Rattle.sdp_number.specs.Number.{Number, typed_time}
use Rattle.sdp_number.specs.declared.NumberError.TheVariants.{Format}
use Rattle.sdp_split.specs.Split.{Field, part}
use Rattle.sdp_judge.specs.Read.{Read, missing, amount_of}

-- the offset in the 64 bits of an i64, two's complement: -m is 2^64 - m
abbrev pub negated : ℕ → ℕ
negated m = cond (eqb m 0) 0 (2 ^ 64 - m)

-- "the result lies in -2^63 to 2^63-1"
abbrev pub signed : Bool → ℕ → Number
signed true m = cond (leb m (2 ^ 63)) (Ok (negated m)) (Err Format)
signed false m = cond (ltb m (2 ^ 63)) (Ok m) (Err Format)

-- sign and the magnitude that was read
abbrev pub signed_of : Bool → Number → Number
signed_of neg (Ok m) = signed neg m
signed_of neg (Err e) = Err e

-- "An offset may start with one `-`; the rest is a typed time"
unfoldable pub zone_offset : List ℕ → Number
zone_offset s =
    cond (ltb 0 (length s) && eqb (get_or s 0 0) 0x2d)
    (signed_of true (typed_time (drop 1 s)))
    (signed_of false (typed_time s))

-- a field that is one
abbrev pub offset_of : ℕ → List ℕ → Field → Read (ℕ × ℕ)
offset_of w v (Some (p, e)) = amount_of w v p e (zone_offset (part v p))
offset_of w v None = Err (missing w)
