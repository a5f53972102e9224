-- The answers of read, and what the area holds after each.
-- Assumes nothing.
use Prim.Native.Nat.{ℕ, ◌≤◌, ◌<◌}
use mathlib.Core.Path.{◌≡◌, refl, sym, ap, ◌∙◌}
use mathlib.Core.List.{List, ◌++◌}
use lib.ListN.{length, drop}
use borrow.Author.Tests.{lt-ltb, le-ltb}
use Rattle.sdp_numbers.specs.Refusals.{longest_text}
use Rattle.sdp_lines.specs.Lines.{start}
use Rattle.sdp_lines.specs.declared.Span.{Span}
use Rattle.sdp_cells.specs.Bytes.{zeros}
use Rattle.sdp_area.specs.Session.{empty}
use Rattle.sdp_area.specs.Columns.{area_size, area_of}
use Rattle.sdp_stamp.specs.Stamp.{no_stamps}
use Rattle.sdp_stamp.proofs.CellLaws.{area_empty}
use Rattle.sdp_counts.specs.Count.{no_counts}
use Rattle.sdp_counts.specs.declared.Counts.{Counts}
use Rattle.sdp_read.specs.Run.{Verdict, accepted, refused, answer, lines, stamps_of, outcome_of, read_text, told_of}
use Rattle.sdp_read.specs.From.{begin_at, counts_at, begin_stamps_at, Ends, EndsFrom}
use Rattle.sdp_read.specs.declared.Told.{Told}
use Rattle.sdp_lines.specs.declared.Answer.{Answer}
use Rattle.sdp_turn.specs.declared.Failure.TheVariants.{Stopped, Unread}
use Rattle.std.specs.Prelude.{Ok, Err}

-- what is returned, x, and the area b are what read_text says
abbrev pub Says : List ℕ → List ℕ → Told → List ℕ → Type 0
Says s a x b = (x ≡ told_of (read_text s a)) × (b ≡ (read_text s a).area)

-- a refusal
abbrev pub zero : Answer → Told
zero x = record { answer = x; counts = no_counts }

-- the cleared area holds the empty session and no line
pub cleared_empty : (a b : List ℕ) → b ≡ zeros area_size ++ drop area_size a → b ≡ area_of empty no_stamps (drop area_size a)
cleared_empty a b e = e ∙ sym (area_empty (drop area_size a))

module _ (s a : List ℕ) where
  pub says_short : length a < area_size → Says s a (zero (answer 2 0 0)) a
  unfolding read_text
  says_short h = rw (lt-ltb (length a) area_size h) (refl, refl)

  module _ (fits : area_size ≤ length a) where
    pub says_long : 32768 < length s → Says s a (zero (answer 1 0 0)) a
    unfolding read_text
    says_long h = rw (le-ltb (length a) area_size fits, lt-ltb 32768 (length s) h) (refl, refl)

    module _ (short : length s ≤ longest_text) where
      read_is : read_text s a ≡ outcome_of s a (begin_at s start)
      unfolding read_text lines begin_at
      read_is = rw (le-ltb (length a) area_size fits, le-ltb 32768 (length s) short)

      -- by how the lines ended, b the area then
      pub says_accepted : (c : Counts) (b : List ℕ) → EndsFrom s start (Ok c) b (drop area_size a) → Says s a (record { answer = answer 0 0 0; counts = c }) b
      unfolding begin_stamps_at
      says_accepted c b h = rw read_is (go (begin_at s start) h)
        where
          go : (v : Verdict Span) → Ends v (stamps_of s) (counts_at s start) (Ok c) b (drop area_size a) → (record { answer = answer 0 0 0; counts = c } ≡ told_of (outcome_of s a v)) × (b ≡ (outcome_of s a v).area)
          go (accepted σ) h = (ap (λ (k : Counts). record { answer = answer 0 0 0; counts = k }) h.0, h.1)
          go (refused x) h = absurd h

      pub says_unread : (y : Answer) (b : List ℕ) → EndsFrom s start (Err (Unread y)) b (drop area_size a) → Says s a (zero y) b
      unfolding begin_stamps_at
      says_unread y b h = rw read_is (go (begin_at s start) h)
        where
          go : (v : Verdict Span) → Ends v (stamps_of s) (counts_at s start) (Err (Unread y)) b (drop area_size a) → (zero y ≡ told_of (outcome_of s a v)) × (b ≡ (outcome_of s a v).area)
          go (accepted σ) h = absurd h
          go (refused x) h = (ap zero h.0, h.1 ∙ area_empty (drop area_size a))

      pub says_stopped : (y : Answer) (b b' : List ℕ) → EndsFrom s start (Err (Stopped y)) b (drop area_size a) → b' ≡ zeros area_size ++ drop area_size b → Says s a (zero y) b'
      unfolding begin_stamps_at
      says_stopped y b b' h e = rw read_is (go (begin_at s start) h)
        where
          go : (v : Verdict Span) → Ends v (stamps_of s) (counts_at s start) (Err (Stopped y)) b (drop area_size a) → (zero y ≡ told_of (outcome_of s a v)) × (b' ≡ (outcome_of s a v).area)
          go (accepted σ) h = absurd h
          go (refused x) h = (ap zero h.0, e ∙ ap (λ (l : List ℕ). zeros area_size ++ l) h.1)
