-- Document 01, "Lines", "Refusal numbers": what the first line that is not empty says.
use Rattle.std.specs.Prelude.{ℕ, Bool, ◌&&◌, cond, List, length, get_or, eqb, Result, Ok, Err}
use Rattle.sdp_numbers.specs.Refusals as refusals
use Rattle.sdp_lines.specs.declared.Answer.{Answer}
pub use Rattle.sdp_lines.specs.Answers.{answer}

-- "6 no version" returns no line
abbrev pub no_version : Answer
no_version = answer refusals.no_version 0 0

-- "7 version not 0: line, place and length of the value"
abbrev pub bad_version : ℕ → ℕ → ℕ → Answer
bad_version line place len = record { number = refusals.version_not_zero; line = line; field = 0; place = place; len = len }

-- "Its value must be exactly `0`"
abbrev pub is_zero : List ℕ → Bool
is_zero v = eqb (length v) 1 && eqb (get_or v 0 0) 0x30

-- the first line that is not empty: its number n, its value v at place p, its letter l
abbrev pub opening_of : ℕ → ℕ → ℕ → List ℕ → Result (Unit {0}) Answer
opening_of n p l v = cond (eqb l 0x76) (cond (is_zero v) (Ok tt) (Err (bad_version n p (length v)))) (Err no_version)
