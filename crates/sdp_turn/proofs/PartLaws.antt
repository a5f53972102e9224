-- A part of the text.
-- Assumes nothing.
use Rattle.std.proofs.Common.{◌≡◌, ℕ, ◌+◌, ◌-◌, ◌^◌, ◌<◌, ◌≤◌, List, length, take, drop, ap, arith, length-drop, length-take, length-take-le}
use native.Mathlib.Nat.{add-sub_cancel_left}
use Rattle.sdp_numbers.specs.Refusals.{longest_text}
use Rattle.sdp_lines.specs.Strings.{bytes_of}
use Rattle.sdp_lines.specs.declared.Span.{Span}

-- the part of a text that is a string's bytes, and that it stays within the limit
pub part_is : (s : List ℕ) (x : Span) → take (x.at.0 + x.len - x.at.0) (drop x.at.0 s) ≡ bytes_of s x
part_is s x = ap (λ (k : ℕ). take k (drop x.at.0 s)) (add-sub_cancel_left x.at.0 x.len)

pub part-fits : (s : List ℕ) (x : Span) → length s ≤ longest_text → x.at.0 + x.len ≤ length s
    → x.at.0 + length (take (x.at.0 + x.len - x.at.0) (drop x.at.0 s)) ≤ longest_text
part-fits s x short inside =
    let e : length (bytes_of s x) ≡ x.len = length-take-le x.len (drop x.at.0 s) (omega (arith, inside, length-drop x.at.0 s)) in
    rw (part_is s x, e) (omega (arith, short, inside))

-- a byte of it, as a place of the text
pub byte_fits : (s : List ℕ) (x : Span) (k : ℕ) → length s ≤ longest_text → x.at.0 + x.len ≤ length s → k ≤ length (bytes_of s x) → x.at.0 + k < 2 ^ 64
byte_fits s x k short inside l = omega (arith, length-take x.len (drop x.at.0 s), short, inside)
