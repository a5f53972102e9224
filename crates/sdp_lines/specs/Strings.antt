-- "Strings are places in the text": the bytes that a place and a length mean.
use Rattle.std.specs.Prelude.{List, ℕ, take, drop}
use Rattle.sdp_lines.specs.declared.Span.{Span}

-- the bytes of a string of the text s
abbrev pub bytes_of : List ℕ → Span → List ℕ
bytes_of s x = take x.len (drop x.at.0 s)
