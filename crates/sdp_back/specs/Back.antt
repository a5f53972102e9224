-- Demand 3: a session that the reader accepted, written with room and read back within the limit, is the same session, except that an empty
-- time list has become one `0 0` entry. Document 02, P9: "same session" leaves the lines out.
use Rattle.std.specs.Prelude.{◌≡◌, List, ℕ, ◌≤◌, length}
use Rattle.sdp_numbers.specs.Refusals.{longest_text}
use Rattle.sdp_lines.specs.Strings.{bytes_of}
use Rattle.sdp_lines.specs.declared.Span.{Span}
use Rattle.sdp_area.specs.Session.{Session}
use Rattle.sdp_area.specs.Columns.{area_size}
use Rattle.sdp_strings.specs.Strings.{span_at}
use Rattle.sdp_read.specs.Run.{accepted, outcome_of, lines, read_text}
use Rattle.sdp_write.specs.Write.{wrote, fill_text}
use Rattle.sdp_same.specs.Said.{said}
use Rattle.sdp_back.specs.Again.{again}

-- w is accepted where it is read into the area b, and string by string it says s again
pub record SaysAgain (s : Session (List ℕ)) (w b : List ℕ) : Type 0 where
  pub session : Session Span
  pub says : lines span_at w ≡ accepted session
  pub read : read_text w b ≡ outcome_of w b (accepted session)
  pub same : said (bytes_of w) session ≡ again s

-- t was read into the area a, and is accepted; w, read into the area b, says again what t said
pub record SaidAgain (t a w b : List ℕ) : Type 0 where
  pub session : Session Span
  pub says : lines span_at t ≡ accepted session
  pub read : read_text t a ≡ outcome_of t a (accepted session)
  pub again : SaysAgain (said (bytes_of t) session) w b

-- t read into the area a, the area written to the output o with room, and what was written read into the area b within the limit
abbrev pub ReadBack : List ℕ → List ℕ → List ℕ → List ℕ → Type 0
ReadBack t a o b =
    (read_text t a).answer.number ≡ 0
    → (fill_text t (read_text t a).area o).answer.number ≡ 0
    → length (wrote (fill_text t (read_text t a).area o)) ≤ longest_text
    → area_size ≤ length b
    → SaidAgain t a (wrote (fill_text t (read_text t a).area o)) b
