-- Document 02, P2: "The UTF-8 test shall answer with the end of the longest well_formed_lem beginning, and every field reader passes this on as a
-- place in the whole text. Refusal 8 now returns that place besides line and field."
use Rattle.std.specs.Prelude.{ℕ, ◌+◌, ◌≤◌, ◌<◌, ◌≡◌, List, [], ◌∷◌, ◌++◌, length, take, drop, Some, Ok}
use Rattle.sdp_numbers.specs.Refusals as refusals
use Rattle.sdp_utf8.specs.Utf8.{Text, utf8_end}
use Rattle.sdp_lines.specs.Lines.{Raw, split, content, width, form_of}
use Rattle.sdp_lines.specs.declared.Answer.{Answer}
use Rattle.sdp_split.specs.Split.{part, Inside}
use Rattle.sdp_split.specs.declared.Piece.{Piece}
use Rattle.sdp_blame.specs.Field.{FieldOf}

-- how many bytes lines take in the text, their endings too
unfoldable pub widths : List Raw → ℕ
widths [] = 0
widths (r ∷ rs) = width r + widths rs

-- the value of a line of good form: "the rest" behind the letter and the `=`
abbrev pub value_of : Raw → List ℕ
value_of r = drop 2 (content r)

-- the answer x to the text t names the bad byte of the refused field
pub record NamesByte (t : List ℕ) (x : Answer) : Type 0 where
  -- the refused line of t, by its number: "Line numbers count from 1"
  pub above : List Raw
  pub line : Raw
  pub below : List Raw
  pub cut : split t ≡ above ++ (line ∷ below)
  pub number : x.line ≡ length above + 1
  pub letter : ℕ
  pub form : form_of (content line) ≡ Ok (Some letter)
  -- the refused field of its value, by letter and number, and where it stands in t
  pub piece : Piece
  pub field : FieldOf (value_of line) letter x.field piece
  pub inside : Inside (value_of line) piece
  pub start : ℕ
  pub starts : start ≡ widths above + 2 + piece.at
  pub stands : take piece.len (drop start t) ≡ part (value_of line) piece
  -- so many of its bytes are good: the place lies in the field, all before it in that field is UTF-8, and no longer beginning is
  pub good : ℕ
  pub place : x.place ≡ start + good
  pub within : good < piece.len
  pub before : Text (take good (part (value_of line) piece))
  pub longest : (k : ℕ) → good < k → k ≤ piece.len → Text (take k (part (value_of line) piece)) → ⊥
  -- and no byte of the value before it is bad: there the whole value stops being UTF-8
  pub first : x.place ≡ widths above + 2 + utf8_end (value_of line)
  pub len : x.len ≡ 0

-- a refusal with 8 names that byte; of the others only 7 has a place, that of the version's value
pub record Tells (t : List ℕ) (x : Answer) : Type 0 where
  pub byte : x.number ≡ refusals.encoding → NamesByte t x
  pub none : (x.number ≡ refusals.encoding → ⊥) → (x.number ≡ refusals.version_not_zero → ⊥) → x.place ≡ 0
