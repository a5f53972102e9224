-- Document 01, "Fields": one field judged. w is the field's number of "Refusal numbers".
use Rattle.std.specs.Prelude.{ℕ, ◌+◌, cond, List, length, Option, Some, None, Result, Ok, Err}
use Rattle.sdp_numbers.specs.Refusals as refusals
use Rattle.sdp_utf8.specs.Utf8.{utf8_end, is_utf8}
use Rattle.sdp_bytes.specs.Token.{is_token}
use Rattle.sdp_number.specs.Number.{Number, whole_number, typed_time}
use Rattle.sdp_number.specs.declared.NumberError.TheVariants.{Encoding, Format}
use Rattle.sdp_split.specs.Split.{Field, part, next_word, later}
use Rattle.sdp_split.specs.declared.Piece.{Piece}
use Rattle.sdp_judge.specs.declared.Fault.{Fault}
use Rattle.sdp_judge.specs.declared.Fault.TheVariants as fault
use Rattle.sdp_judge.specs.declared.Wrong.{Wrong}

-- a record that was read, or the refusal
abbrev pub Read : Type 0 → Type 0
Read A = Result A Wrong

-- a refusal that names no byte
abbrev pub plain : ℕ → ℕ → Wrong
plain number w = record { number = number; field = w; at = 0 }

-- document 02, P2, "the end of the longest well-formed beginning" of the field p, as a place of the value v
abbrev pub bad_byte : List ℕ → Piece → ℕ
bad_byte v p = p.at + utf8_end (part v p)

-- 8: the field p of v is not UTF-8
abbrev pub encoding : ℕ → List ℕ → Piece → Wrong
encoding w v p = record { number = refusals.encoding; field = w; at = bad_byte v p }

-- 9: bad form
abbrev pub format : ℕ → Wrong
format w = plain refusals.format w

-- 10: the field is missing
abbrev pub missing : ℕ → Wrong
missing w = plain refusals.missing_field w

-- 11: something follows the last field
abbrev pub trailing : ℕ → Wrong
trailing w = plain refusals.trailing_data w

-- the refusal of field w by the name of what is wrong with it
abbrev pub wrong_of : Fault → ℕ → Wrong
wrong_of fault.Format w = format w
wrong_of fault.Missing w = missing w
wrong_of fault.Trailing w = trailing w

-- a string, with its field's end: "all strings are UTF-8"
abbrev pub text_of : ℕ → List ℕ → Field → Read (Piece × ℕ)
text_of w v (Some (p, e)) = cond (is_utf8 (part v p)) (Ok (p, e)) (Err (encoding w v p))
text_of w v None = Err (missing w)

-- a token: "nettype and addrtype are tokens (else 9)"
abbrev pub token_of : ℕ → List ℕ → Field → Read (Piece × ℕ)
token_of w v (Some (p, e)) = cond (is_token (part v p)) (Ok (p, e)) (Err (format w))
token_of w v None = Err (missing w)

-- a number that was read in the field p of v, with the field's end
abbrev pub amount_of : ℕ → List ℕ → Piece → ℕ → Number → Read (ℕ × ℕ)
amount_of w v p e (Ok n) = Ok (n, e)
amount_of w v p e (Err Encoding) = Err (encoding w v p)
amount_of w v p e (Err Format) = Err (format w)

-- a whole number of 64 bits: "UTF-8 is tested first (8), then form (9)"
abbrev pub number_of : ℕ → List ℕ → Field → Read (ℕ × ℕ)
number_of w v (Some (p, e)) = amount_of w v p e (whole_number 64 (part v p))
number_of w v None = Err (missing w)

-- a typed time
abbrev pub time_of : ℕ → List ℕ → Field → Read (ℕ × ℕ)
time_of w v (Some (p, e)) = amount_of w v p e (typed_time (part v p))
time_of w v None = Err (missing w)

-- a string that may be absent
abbrev pub choice_of : ℕ → List ℕ → Field → Read (Option Piece)
choice_of w v (Some (p, e)) = cond (is_utf8 (part v p)) (Ok (Some p)) (Err (encoding w v p))
choice_of w v None = Ok None

-- ---- what follows what was read; a refusal ends the record
abbrev pub and_then : {A B : Type 0} → Read A → (A → Read B) → Read B
and_then (Ok a) k = k a
and_then (Err x) k = Err x

-- the same after a field that was read with its end
abbrev pub after : {A B : Type 0} → Read (B × ℕ) → (B → ℕ → Read A) → Read A
after r k = and_then r (λ z. k z.0 z.1)

-- "Extra fields in o, c, b or t give 11 after all fields were read"
abbrev pub ending : {A : Type 0} → ℕ → Field → Read A → Read A
ending w (Some (p, e)) r = Err (trailing w)
ending w None r = r

-- ---- the next of the words ws of v, and what follows it with the words that are left
-- as a string of field w
unfoldable pub next_text : {A : Type 0} → ℕ → List ℕ → List Piece → (Piece → List Piece → Read A) → Read A
next_text w v ws k = after (text_of w v (next_word ws)) (λ p e. k p (later ws))

-- as a token
unfoldable pub next_token : {A : Type 0} → ℕ → List ℕ → List Piece → (Piece → List Piece → Read A) → Read A
next_token w v ws k = after (token_of w v (next_word ws)) (λ p e. k p (later ws))

-- as a whole number
unfoldable pub next_number : {A : Type 0} → ℕ → List ℕ → List Piece → (ℕ → List Piece → Read A) → Read A
next_number w v ws k = after (number_of w v (next_word ws)) (λ n e. k n (later ws))

-- as a typed time
unfoldable pub next_time : {A : Type 0} → ℕ → List ℕ → List Piece → (ℕ → List Piece → Read A) → Read A
next_time w v ws k = after (time_of w v (next_word ws)) (λ n e. k n (later ws))

-- ---- a value that is one field
abbrev pub entire : List ℕ → Piece
entire v = record { at = 0; len = length v }

-- the whole value as one string of field w: s, i, u, e, p
unfoldable pub whole_of : ℕ → List ℕ → Read Piece
whole_of w v = cond (is_utf8 v) (Ok (entire v)) (Err (encoding w v (entire v)))
