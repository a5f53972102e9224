-- Document 01, "Lines": the lines of a text, and their form.
use Rattle.std.specs.Prelude.{ℕ, ◌+◌, ◌-◌, List, [], ◌∷◌, Bool, true, false, ◌||◌, cond, length, get_or, take, drop, ltb, eqb, Option, Some, None, Result, Ok, Err}
use Rattle.sdp_bytes.specs.Runs.{index_of}
use Rattle.sdp_lines.specs.declared.Cursor.{Cursor}
use Rattle.sdp_lines.specs.declared.Fault.{Fault}
use Rattle.sdp_lines.specs.declared.Fault.TheVariants.{NulOrCr, NoEquals, NotSecond}
use Rattle.sdp_lines.specs.declared.Cut.{Cut}
use Rattle.sdp_lines.specs.declared.Cut.TheVariants.{Line, Empty, Refused, End}

-- a line as it stands in the text: the bytes before its LF, and whether it has one
pub record Raw : Type 0 where
  pub body : List ℕ
  pub ended : Bool

-- a byte in front of the first line; alone it is "a last line without LF", which counts
abbrev pub onto : ℕ → List Raw → List Raw
onto b [] = record { body = b ∷ []; ended = false } ∷ []
onto b (r ∷ rs) = record { body = b ∷ r.body; ended = r.ended } ∷ rs

-- the lines of a text: "a line ends at LF"
unfoldable pub split : List ℕ → List Raw
split [] = []
split (b ∷ s) = cond (eqb b 10) (record { body = []; ended = true } ∷ split s) (onto b (split s))

-- without one CR at the end
unfoldable pub chop : List ℕ → List ℕ
chop l = cond (eqb (get_or l (length l - 1) 0) 13) (take (length l - 1) l) l

-- the line without its ending: "one CR just before that LF belongs to the ending"; at the end of a last line without LF it stays
unfoldable pub content : Raw → List ℕ
content r = cond r.ended (chop r.body) r.body

-- how many bytes the line takes in the text, its ending too
unfoldable pub width : Raw → ℕ
width r = cond r.ended (length r.body + 1) (length r.body)

-- NUL or CR stands in the bytes
unfoldable pub has_nul_or_cr : List ℕ → Bool
has_nul_or_cr [] = false
has_nul_or_cr (b ∷ l) = eqb b 0 || eqb b 13 || has_nul_or_cr l

-- the form of a line: its letter, or none where it is empty; or what is wrong with it
abbrev pub Form : Type 0
Form = Result (Option ℕ) Fault

-- the form of a line without NUL and CR: "having no `=` (4)", "its first `=` not being its second byte (5)"; the byte before is the letter
unfoldable pub plain_form : List ℕ → Form
plain_form l =
    cond (eqb (length l) 0) (Ok None)
    (cond (eqb (index_of 0x3d l) (length l)) (Err NoEquals)
    (cond (eqb (index_of 0x3d l) 1) (Ok (Some (get_or l 0 0))) (Err NotSecond)))

-- the form of any line: "tested .. for NUL or CR (3)" first
unfoldable pub form_of : List ℕ → Form
form_of l = cond (has_nul_or_cr l) (Err NulOrCr) (plain_form l)

-- the number of the next line; the largest number of 64 bits stays
abbrev pub next_line : ℕ → ℕ
next_line n = cond (ltb n 0xffff_ffff_ffff_ffff) (n + 1) n

-- "Line numbers count from 1, byte places from 0"
abbrev pub start : Cursor
start = record { at = record { 0 = 0 }; line = record { 0 = 1 } }

-- the cursor past the line r
abbrev pub past : Cursor → Raw → Cursor
past c r = record { at = record { 0 = c.at.0 + width r }; line = record { 0 = next_line c.line.0 } }

-- a line by its form; its value starts at its third byte
abbrev pub cut_form : Cursor → Raw → Form → Cut
cut_form c r (Ok None) = Empty (past c r)
cut_form c r (Err f) = Refused f c.line
cut_form c r (Ok (Some l)) = Line l (record { at = record { 0 = c.at.0 + 2 }; len = length (content r) - 2 }) (past c r)

-- the first of the lines, if there is one
abbrev pub cut_raws : Cursor → List Raw → Cut
cut_raws c [] = End
cut_raws c (r ∷ rs) = cut_form c r (form_of (content r))

-- what cutting a text at a cursor finds
unfoldable pub cut_at : List ℕ → Cursor → Cut
cut_at s c = cut_raws c (split (drop c.at.0 s))
