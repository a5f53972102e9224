-- A string of a line: where the line's value v stands at place p, a piece of v is a place in the text.
use Rattle.std.specs.Prelude.{ℕ, ◌+◌, List}
use Rattle.sdp_lines.specs.declared.Span.{Span}
use Rattle.sdp_split.specs.declared.Piece.{Piece}

-- "Strings are places in the text"
abbrev pub span_at : ℕ → List ℕ → Piece → Span
span_at p v x = record { at = record { 0 = p + x.at }; len = x.len }
