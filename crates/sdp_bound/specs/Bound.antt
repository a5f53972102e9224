-- Document 01, "Writing": room that is enough for what is written of an accepted text.
use Rattle.std.specs.Prelude.{◌≡◌, List, ℕ, ◌+◌, ◌≤◌, length}
use Rattle.sdp_read.specs.Run.{read_text}
use Rattle.sdp_write.specs.Write.{answer, text_of, length_text, fill_text}
use Rattle.sdp_same.specs.Same.{filled}
use Rattle.sdp_counts.specs.Count.{kept}

-- "An accepted text's written form is at most its length plus its kept lines (v= and all with a use) plus 36 bytes."
abbrev pub bound : List ℕ → ℕ
bound t = length t + kept t + 36

-- the most that the bound can be: of at most 32,768 bytes each kept line takes 3, the last one perhaps 2. ROOM for Rust, SDP_ROOM for C
abbrev pub room_of_any : ℕ
room_of_any = 43727

-- n bytes are enough for what is written of the area that reading the text t into the area a leaves: it is no longer, the length call
-- answers its length, and the fill 0 with that length for any output of n bytes or more
pub record Enough (n : ℕ) (t a : List ℕ) : Type 0 where
  pub short : length (text_of t (read_text t a).area) ≤ n
  pub known : length_text t (read_text t a).area ≡ answer 0 (length (text_of t (read_text t a).area))
  pub written : (o : List ℕ) → n ≤ length o → fill_text t (read_text t a).area o ≡ filled (text_of t (read_text t a).area) o
