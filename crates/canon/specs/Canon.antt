-- Document 01, "Samples": what `canon` prints for a text.
use Rattle.std.specs.Prelude.{ℕ, ◌≤◌, ◌≡◌, cond, List, [], ◌∷◌, ◌++◌, length, take, eqb}
use Rattle.sdp_lines.specs.declared.Answer.{Answer}
use Rattle.sdp_put.specs.Digits.{digits}
use Rattle.sdp_read.specs.Run.{read_text}
use Rattle.sdp_write.specs.Write.{text_of}

-- "refused N line L field F with the three numbers and LF"
abbrev pub refused_line : Answer → List ℕ
refused_line a =
    (0x72 ∷ 0x65 ∷ 0x66 ∷ 0x75 ∷ 0x73 ∷ 0x65 ∷ 0x64 ∷ 0x20 ∷ []) ++ (digits a.number
    ++ ((0x20 ∷ 0x6c ∷ 0x69 ∷ 0x6e ∷ 0x65 ∷ 0x20 ∷ []) ++ (digits a.line
    ++ ((0x20 ∷ 0x66 ∷ 0x69 ∷ 0x65 ∷ 0x6c ∷ 0x64 ∷ 0x20 ∷ []) ++ (digits a.field
    ++ (0x0a ∷ []))))))

-- "prints the written text", or the refusal: the text t is read into the area a
abbrev pub printed : List ℕ → List ℕ → List ℕ
printed t a =
    cond (eqb (read_text t a).answer.number 0)
    (text_of t (read_text t a).area)
    (refused_line (read_text t a).answer)

-- the first r bytes of o are bs
pub record Holds (bs o : List ℕ) (r : ℕ) : Type 0 where
  pub within : r ≤ length o
  pub first : take r o ≡ bs
