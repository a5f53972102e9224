-- What reading a text and writing the area that it leaves come to.
use Rattle.std.specs.Prelude.{◌≡◌, ◌⊎◌, List, ◌++◌, ℕ, length, drop}
use Rattle.sdp_numbers.specs.Refusals as refusals
use Rattle.sdp_lines.specs.Strings.{bytes_of}
use Rattle.sdp_lines.specs.declared.Span.{Span}
use Rattle.sdp_area.specs.Session.{Session}
use Rattle.sdp_strings.specs.Strings.{span_at}
use Rattle.sdp_read.specs.Run.{accepted, lines, read_text}
use Rattle.sdp_row.specs.Written.{written}
use Rattle.sdp_write.specs.Write.{Outcome, answer, text_of, length_text, fill, fill_text}

-- the output o after the text w was written into it: 0 with its length, and "success changes only the bytes written"
abbrev pub filled : List ℕ → List ℕ → Outcome
filled w o = record { answer = answer 0 (length w); out = w ++ drop (length w) o }

-- the text t is read into the area a, and the area is written to the output o: the session that the text says is written; the length call answers
-- its length, and the fill 0, or 22 for an output that is too short
pub record ReadThenWritten (t a o : List ℕ) : Type 0 where
  pub session : Session Span
  pub read : lines span_at t ≡ accepted session
  pub text : text_of t (read_text t a).area ≡ written (bytes_of t) session
  pub known : length_text t (read_text t a).area ≡ answer 0 (length (written (bytes_of t) session))
  pub outcome : fill_text t (read_text t a).area o ≡ fill (written (bytes_of t) session) o
  pub answer : ((fill_text t (read_text t a).area o).answer.number ≡ 0) ⊎ ((fill_text t (read_text t a).area o).answer.number ≡ refusals.output_too_short)
