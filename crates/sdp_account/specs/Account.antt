-- Document 02, P11: "An accepted reading also returns three counts: empty lines, ignored lines, kept lines. Each is defined from the text alone,
-- and together they make the number of lines"; "A refusal returns zeros."
use Rattle.std.specs.Prelude.{◌≡◌, List, ℕ, ◌+◌, ◌<◌}
use Rattle.sdp_counts.specs.Count.{counts_of, no_counts, line_count}
use Rattle.sdp_counts.specs.declared.Counts.{Counts}
use Rattle.sdp_read.specs.Run.{read_text}

-- the lines of all three counts
abbrev pub all_of : Counts → ℕ
all_of c = c.empty + c.ignored + c.kept

-- reading t into any area a: where it is accepted, the counts are those of the text, and none of its lines is left out or counted twice
pub record Accounts (t a : List ℕ) : Type 0 where
  pub accepted : (read_text t a).answer.number ≡ 0 → ((read_text t a).counts ≡ counts_of t) × (all_of (read_text t a).counts ≡ line_count t)
  pub refused : 0 < (read_text t a).answer.number → (read_text t a).counts ≡ no_counts
