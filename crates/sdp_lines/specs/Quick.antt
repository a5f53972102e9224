-- The quick way to a line's end: the first NUL, LF or CR of the text tells where its first line ends, or that it has NUL or CR.
use Rattle.std.specs.Prelude.{ℕ, suc, ◌+◌, List, [], ◌∷◌, Bool, ◌&&◌, ◌||◌, cond, length, get_or, take, ltb, eqb, Result, Ok, Err}
use Rattle.sdp_bytes.specs.Runs.{index_of}
use Rattle.sdp_lines.specs.Lines.{Raw, content, width, has_nul_or_cr}
use Rattle.sdp_lines.specs.declared.Fault.{Fault}
use Rattle.sdp_lines.specs.declared.Fault.TheVariants.{NulOrCr}

-- NUL, LF or CR
abbrev pub stop_byte : ℕ → Bool
stop_byte b = eqb b 0 || eqb b 10 || eqb b 13

-- the index of the first stop, or the length where there is none
unfoldable pub stop_index : List ℕ → ℕ
stop_index [] = 0
stop_index (b ∷ s) = cond (stop_byte b) 0 (suc (stop_index s))

-- CR and LF stand at k
unfoldable pub crlf_at : List ℕ → ℕ → Bool
crlf_at s k = ltb (k + 1) (length s) && (eqb (get_or s k 0) 13 && eqb (get_or s (k + 1) 0) 10)

-- the first line of a text that is not empty
abbrev pub first_raw : List ℕ → Raw
first_raw s = record { body = take (index_of 10 s) s; ended = ltb (index_of 10 s) (length s) }

-- its length without its ending and with it, or that it has NUL or CR
unfoldable pub first_of : List ℕ → Result (ℕ × ℕ) Fault
first_of s =
    cond (has_nul_or_cr (content (first_raw s))) (Err NulOrCr)
    (Ok (length (content (first_raw s)), width (first_raw s)))

-- a line's first `=` is its second byte
unfoldable pub equals_second : List ℕ → Bool
equals_second l = ltb 1 (length l) && eqb (index_of 0x3d l) 1
