-- Document 01, "Writing", "Refusal numbers", and document 02, P7: writing is two calls, "one returns the length, one fills". What they answer, and
-- what the fill leaves in the output.
use Rattle.std.specs.Prelude.{ℕ, cond, List, ◌++◌, length, take, drop, ltb, eqb}
use Rattle.sdp_numbers.specs.Refusals as refusals
use Rattle.sdp_lines.specs.Strings.{bytes_of}
use Rattle.sdp_lines.specs.declared.Answer.{Answer}
use Rattle.sdp_decode.specs.Decode.{decode}
use Rattle.sdp_unfit.specs.Unfit.{unfit}
use Rattle.sdp_row.specs.Written.{written}

-- "Acceptance is 0, for writing with the length"; "22 output too short: length needed"
abbrev pub answer : ℕ → ℕ → Answer
answer number len = record { number = number; line = 0; field = 0; place = 0; len = len }

-- the text that an area says
abbrev pub text_of : List ℕ → List ℕ → List ℕ
text_of t a = written (bytes_of t) (decode a)

-- "one returns the length": 2, 1 or 23 where there is none
unfoldable pub length_text : List ℕ → List ℕ → Answer
length_text t a = cond (eqb (unfit t a) 0) (answer 0 (length (text_of t a))) (answer (unfit t a) 0)

-- the answer, and the output afterwards
pub record Outcome : Type 0 where
  pub answer : Answer
  pub out : List ℕ

-- the text that was written, which has len bytes
abbrev pub wrote : Outcome → List ℕ
wrote x = take x.answer.len x.out

-- w is written where it fits. "success changes only the bytes written"
abbrev pub fill : List ℕ → List ℕ → Outcome
fill w o =
    cond (ltb (length o) (length w))
    (record { answer = answer refusals.output_too_short (length w); out = o })
    (record { answer = answer 0 (length w); out = w ++ drop (length w) o })

-- "one fills": "2, 1 and 23 in both, 22 only in the fill"; "a refusal leaves the output as found"
unfoldable pub fill_text : List ℕ → List ℕ → List ℕ → Outcome
fill_text t a o =
    cond (eqb (unfit t a) 0) (fill (text_of t a) o) (record { answer = answer (unfit t a) 0; out = o })
