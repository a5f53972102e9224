-- Document 02, P2: "Refusal 8 now returns that place": the byte that the refusal of a value behind the letter l names.
use Rattle.std.specs.Prelude.{ℕ, ◌≡◌, false, List}
use Rattle.sdp_numbers.specs.Refusals as refusals
use Rattle.sdp_utf8.specs.Utf8.{utf8_end, is_utf8}
use Rattle.sdp_split.specs.Split.{part, Inside}
use Rattle.sdp_split.specs.declared.Piece.{Piece}
use Rattle.sdp_judge.specs.Read.{bad_byte}
use Rattle.sdp_judge.specs.declared.Wrong.{Wrong}
use Rattle.sdp_blame.specs.Field.{FieldOf}

-- it is "the end of the longest well-formed beginning" of the refused field, which is not UTF-8
pub record BadByte (l : ℕ) (v : List ℕ) (w : Wrong) : Type 0 where
  pub piece : Piece
  pub field : FieldOf v l w.field piece
  pub inside : Inside v piece
  pub at : w.at ≡ bad_byte v piece
  pub bad : is_utf8 (part v piece) ≡ false
  -- nothing before it is bad: it is where the whole value stops being UTF-8
  pub first : w.at ≡ utf8_end v

-- a refusal with 8 names a byte, another one none
pub record Blames (l : ℕ) (v : List ℕ) (w : Wrong) : Type 0 where
  pub byte : w.number ≡ refusals.encoding → BadByte l v w
  pub none : (w.number ≡ refusals.encoding → ⊥) → w.at ≡ 0
