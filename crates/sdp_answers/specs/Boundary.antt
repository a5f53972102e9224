-- How the leaves' answers cross to Rust and C, as numbers.
use Rattle.std.specs.Prelude.{ℕ}
use Rattle.sdp_number.specs.Number.{Number, refusal, value_of}
use Rattle.sdp_lines.specs.Answers.{fault_number}
use Rattle.sdp_lines.specs.declared.Cursor.{Cursor}
use Rattle.sdp_lines.specs.declared.Cut.{Cut}
use Rattle.sdp_lines.specs.declared.Cut.TheVariants.{Line, Empty, Refused, End}
use Rattle.sdp_answers.specs.declared.Numeral.{Numeral}
use Rattle.sdp_answers.specs.declared.Piece.{Piece}

-- the paper's number and the value
abbrev pub numeral_of : Number → Numeral
numeral_of n = record { number = refusal n; value = value_of n }

-- a cursor from its two numbers
abbrev pub cursor_at : ℕ → ℕ → Cursor
cursor_at line place = record { at = record { 0 = place }; line = record { 0 = line } }

-- what was cut where the line of that number was due: kinds 0 to 3
abbrev pub piece_of : ℕ → Cut → Piece
piece_of n End = record { kind = 0; number = 0; line = 0; letter = 0; place = 0; len = 0; next_place = 0; next_line = 0 }
piece_of n (Empty c) =
    record { kind = 1; number = 0; line = n; letter = 0; place = 0; len = 0; next_place = c.at.0; next_line = c.line.0 }
piece_of n (Line l v c) =
    record { kind = 2; number = 0; line = n; letter = l; place = v.at.0; len = v.len; next_place = c.at.0; next_line = c.line.0 }
piece_of n (Refused f m) =
    record { kind = 3; number = fault_number f; line = m.0; letter = 0; place = 0; len = 0; next_place = 0; next_line = 0 }
