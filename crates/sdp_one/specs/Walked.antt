-- The promises of two public functions, over a lent struct and over a struct with a reference in it, written out. proofs/Forms.antt ties each to
-- the source.
use Rattle.std.specs.Prelude.{◌≡◌, List, ℕ}
use Rattle.std.specs.Borrow.{Bor}
use Rattle.sdp_lines.specs.declared.LineNumber.{LineNumber}
use Rattle.sdp_cutter.specs.Cutter.{move_at, standing}
use Rattle.sdp_cutter.specs.declared.Cutter.{Cutter}
use Rattle.sdp_cutter.specs.declared.Line.{Line}
use Rattle.sdp_cutter.specs.declared.Next.{Next}

-- next_line: the answer, and the cutter that was lent
abbrev pub NextLine : Cutter → List ℕ → Next → Cutter → Type 0
NextLine c s r z = (r ≡ (move_at s c.at c.line).next) × (z ≡ standing (move_at s c.at c.line))

-- made: the line of a number, a letter and a value
abbrev pub Made : LineNumber → ℕ → Bor (List ℕ) → Line → Type 0
Made n l v r = (r.number ≡ n) × ((r.letter ≡ l) × (r.value ≡ v))
