-- Document 01, "Fields": whole numbers and typed times.
use Rattle.std.specs.Prelude.{ℕ, ◌+◌, ◌-◌, ◌*◌, ◌^◌, Bool, true, ◌&&◌, cond, List, [], ◌∷◌, length, get_or, take, ltb, eqb, Result, Ok, Err}
use Rattle.sdp_numbers.specs.Refusals as refusals
use Rattle.sdp_bytes.specs.Token.{digit}
use Rattle.sdp_utf8.specs.Utf8.{is_utf8}
use Rattle.sdp_number.specs.declared.NumberError.{NumberError}
use Rattle.sdp_number.specs.declared.NumberError.TheVariants.{Encoding, Format}

-- a number that was read, or why there is none
abbrev pub Number : Type 0
Number = Result ℕ NumberError

-- the paper's refusal number of each answer, 0 for a value
abbrev pub refusal : Number → ℕ
refusal (Ok v) = 0
refusal (Err Encoding) = refusals.encoding
refusal (Err Format) = refusals.format

-- the value, 0 where there is none
abbrev pub value_of : Number → ℕ
value_of (Ok v) = v
value_of (Err e) = 0

-- every byte is a digit
unfoldable pub all_digits : List ℕ → Bool
all_digits [] = true
all_digits (b ∷ s) = digit b && all_digits s

-- the value of the digits s after digits of the value v
unfoldable pub value : ℕ → List ℕ → ℕ
value v [] = v
value v (b ∷ s) = value (v * 10 + (b - 0x30)) s

-- one or more digits whose value is below n; leading zeros are allowed
unfoldable pub digits_below : ℕ → List ℕ → Number
digits_below n s = cond (ltb 0 (length s) && (all_digits s && ltb (value 0 s) n)) (Ok (value 0 s)) (Err Format)

-- an optional +
unfoldable pub drop_plus : List ℕ → List ℕ
drop_plus [] = []
drop_plus (b ∷ s) = cond (eqb b 0x2b) s (b ∷ s)

-- the form of a whole number of w bits: optional +, then digits, below 2^w
unfoldable pub numeral : ℕ → List ℕ → Number
numeral w s = digits_below (2 ^ w) (drop_plus s)

-- "UTF-8 is tested first (8), then form (9)"
unfoldable pub whole_number : ℕ → List ℕ → Number
whole_number w s = cond (is_utf8 s) (numeral w s) (Err Encoding)

-- RFC 8866, section 5.10: d days of 86,400 seconds, h hours of 3,600, m minutes of 60, s seconds; 0 for any other byte
abbrev pub unit_of : ℕ → ℕ
unit_of b = cond (eqb b 0x64) 86400 (cond (eqb b 0x68) 3600 (cond (eqb b 0x6d) 60 (cond (eqb b 0x73) 1 0)))

-- the number times k; "beyond 64 bits gives 9"
abbrev pub scaled : ℕ → Number → Number
scaled k (Ok v) = cond (ltb (v * k) (2 ^ 64)) (Ok (v * k)) (Err Format)
scaled k (Err e) = Err e

-- "a last byte d, h, m or s multiplies the number"
unfoldable pub typed_time : List ℕ → Number
typed_time s =
    cond (eqb (unit_of (get_or s (length s - 1) 0)) 0)
    (whole_number 64 s)
    (scaled (unit_of (get_or s (length s - 1) 0)) (whole_number 64 (take (length s - 1) s)))
