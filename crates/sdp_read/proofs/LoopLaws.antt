-- The loop over the lines: what holds before each line.
-- Assumes nothing.
use Prim.Native.Nat.{ℕ, ◌+◌, ◌-◌, ◌≤◌, ◌<◌}
use native.Mathlib.Omega.{arith}
use mathlib.Core.Path.{◌≡◌, refl, sym, ap, subst, ◌∙◌}
use mathlib.Core.Bool.{Bool, false}
use mathlib.Core.List.{List}
use lib.ListN.{length}
use Rattle.sdp_numbers.specs.Refusals.{longest_text}
use Rattle.sdp_lines.specs.declared.Span.{Span}
use Rattle.sdp_lines.specs.declared.Cursor.{Cursor}
use Rattle.sdp_area.specs.Session.{Within, empty}
use Rattle.sdp_area.specs.Columns.{cells, area_of}
use Rattle.sdp_cells.proofs.ByteLaws.{length-zeros}
use Rattle.sdp_stamp.specs.Stamp.{no_stamps}
use Rattle.sdp_counts.specs.Count.{no_counts}
use Rattle.sdp_cutter.specs.Cutter.{move_at, standing, due}
use Rattle.sdp_cutter.specs.declared.Cutter.{Cutter}
use Rattle.sdp_turn.specs.Turn.{Standing, searching, Lined, on, ended, stopped, unread, counts_in, lines_in, Turn, Stands, Turned, Turns, Passes}
use Rattle.sdp_read.specs.From.{Reached, begin_at, counts_at, begin_stamps_at, line_at, EndsFrom}
use Rattle.sdp_turn.specs.declared.State.{State}
use Rattle.sdp_turn.specs.declared.Failure.{Failure}
use Rattle.sdp_turn.specs.declared.Failure.TheVariants.{Stopped, Unread}
use Rattle.std.specs.Prelude.{Some, None, Ok, Err}
use Rattle.sdp_read.proofs.CutLaws.{Further, then, goes_further}
use Rattle.sdp_read.proofs.TallyLaws.{plus_none}
use Rattle.sdp_read.proofs.RestLaws.{rest_of, verdict_on, total_of, Totals, stamps_on, Stamps, rest_line, total_line, stamps_line}

-- before a line that is due at d: where the reading stands, and that the lines from here on say, count and leave the same as those from the
-- first on
pub record Going (s : List ℕ) (from d : Cursor) (g : State) (a t : List ℕ) : Type 0 where
  pub so_far : Standing
  pub stands : Stands so_far g a t
  pub left : begin_at s from ≡ rest_of s so_far d
  pub counted : counts_at s from ≡ total_of s so_far d
  pub stamped : begin_stamps_at s from ≡ stamps_on s so_far d

-- the state before the first line
abbrev pub none : State
none = record { named = false; zoned = false; begun = false; empty = 0; ignored = 0; kept = 0 }

-- it is the one with the default of each field
pub none_is : (a b c : Bool) (d e f : ℕ) → a ≡ false → b ≡ false → c ≡ false → d ≡ 0 → e ≡ 0 → f ≡ 0
    → ◌≡◌ {A = State} (record { named = a; zoned = b; begun = c; kept = d; empty = e; ignored = f }) none
none_is a b c d e f p q r s t u = rw (p, q, r, s, t, u)

within-empty : Within {S = Span} empty
within-empty = record { emails = omega arith; phones = omega arith; connections = omega arith; bandwidths = omega arith; times = omega arith; repeats = omega arith; offsets = omega arith; zones = omega arith; attributes = omega arith; medias = omega arith }

pub going_begin : (s : List ℕ) (from : Cursor) (a t : List ℕ) → a ≡ area_of empty no_stamps t → Going s from from none a t
going_begin s from a t e = record {
  so_far = searching no_counts;
  stands = record { begun_is = refl; holds = record { marks = refl; bytes = e; within = within-empty; unzoned = λ z. refl }; lines = length-zeros cells; counts = refl };
  left = refl;
  counted = plus_none (counts_at s from);
  stamped = refl;
}

module _ (s : List ℕ) (short : length s ≤ longest_text) (from d : Cursor) (m : State) (w : Reached s d) (a a' t : List ℕ) (g : Going s from d m a t) where
  abbrev lined : Lined
  lined = line_at s g.so_far d

  left_on : (y : Lined) → lined ≡ y → begin_at s from ≡ verdict_on s y (then s d)
  left_on y e = g.left ∙ rest_line s short d w g.so_far ∙ ap (λ (z : Lined). verdict_on s z (then s d)) e

  counted_on : (y : Lined) → lined ≡ y → Totals s (total_of s g.so_far d) y (then s d)
  counted_on y e = subst (λ (z : Lined). Totals s (total_of s g.so_far d) z (then s d)) e (total_line s short d w g.so_far)

  stamped_on : (y : Lined) → lined ≡ y → Stamps s (stamps_on s g.so_far d) y (then s d)
  stamped_on y e = subst (λ (z : Lined). Stamps s (stamps_on s g.so_far d) z (then s d)) e (stamps_line s short d w g.so_far)

  pub going_on : (n : State) → Turned lined m (Some (Ok n)) a' t → Going s from (then s d) n a' t
  going_on n h = go lined refl h
    where
      go : (y : Lined) → lined ≡ y → Turned y m (Some (Ok n)) a' t → Going s from (then s d) n a' t
      go (on x) e h = record { so_far = x; stands = h; left = left_on (on x) e; counted = g.counted ∙ counted_on (on x) e; stamped = g.stamped ∙ stamped_on (on x) e }
      go (ended σ ls k) e h = absurd h
      go (stopped y) e h = absurd h
      go (unread y) e h = absurd h

  -- the state has the counts of all lines
  pub going_end : Turned lined m None a' t → EndsFrom s from (Ok (counts_in m)) a' t
  going_end h = go lined refl h
    where
      go : (y : Lined) → lined ≡ y → Turned y m None a' t → EndsFrom s from (Ok (counts_in m)) a' t
      go (on x) e h = absurd h
      go (ended σ ls k) e h =
          let q : counts_at s from ≡ k = g.counted ∙ counted_on (ended σ ls k) e in
          let r : begin_stamps_at s from ≡ ls = g.stamped ∙ stamped_on (ended σ ls k) e in
          rw (left_on (ended σ ls k) e, q, r) h
      go (stopped x) e h = absurd h
      go (unread x) e h = absurd h

  pub going_failed : (r : Failure) → Turned lined m (Some (Err r)) a' t → EndsFrom s from (Err r) a' t
  going_failed r h = go lined refl r h
    where
      go : (y : Lined) → lined ≡ y → (r : Failure) → Turned y m (Some (Err r)) a' t → EndsFrom s from (Err r) a' t
      go (on x) e r h = absurd h
      go (ended σ ls k) e r h = absurd h
      go (stopped x) e (Stopped y) h = rw (left_on (stopped x) e) h
      go (stopped x) e (Unread y) h = absurd h
      go (unread x) e (Unread y) h = rw (left_on (unread x) e) h
      go (unread x) e (Stopped y) h = absurd h

-- what holds before each line, where the cutter stands at k; the area was ys before the first
pub record Before (s : List ℕ) (from : Cursor) (ys : List ℕ) (k : Cutter) (m : State) (a : List ℕ) : Type 0 where
  pub reached : Reached s (due k)
  pub few : lines_in m ≤ k.at.0
  pub going : (r : List ℕ) → ys ≡ area_of empty no_stamps r → Going s from (due k) m a r

-- what one line does, where the cutter then stands at y and the area is a'
abbrev pub Said : List ℕ → Cutter → State → List ℕ → Turn → Cutter → List ℕ → Type 0
Said s k m a r y a' =
    (Turns (λ x. line_at s x (due k)) m r a a' × Passes (move_at s k.at k.line).next m r) × (y ≡ standing (move_at s k.at k.line))

pub before_first : (s : List ℕ) (k : Cutter) (ys : List ℕ) → Reached s (due k) → Before s (due k) ys k none ys
before_first s k ys w = record { reached = w; few = omega arith; going = λ r e. going_begin s (due k) ys r e }

module _ (s : List ℕ) (short : length s ≤ longest_text) (from : Cursor) (ys : List ℕ) (k : Cutter) (m : State) (a : List ℕ) (b : Before s from ys k m a) (y : Cutter) (a' : List ℕ) where
  -- a line after which the run goes on
  module _ (n : State) (e : Said s k m a (Some (Ok n)) y a') where
    passes : Further s (due k) (due y) × (lines_in n ≡ lines_in m + 1)
    passes = subst (λ (u : Cutter). Further s (due k) (due u) × (lines_in n ≡ lines_in m + 1)) (sym e.1) (goes_further s (due k) m n e.0.1)

    reached_on : Reached s (due y)
    reached_on = passes.0.reached b.reached

    going_next : (r : List ℕ) → ys ≡ area_of empty no_stamps r → Going s from (due y) n a' r
    going_next r q =
        let g = b.going r q in
        subst (λ (u : Cutter). Going s from (due u) n a' r) (sym e.1) (going_on s short from (due k) m b.reached a a' r g n (e.0.0 g.so_far r g.stands))

    pub before_next : Before s from ys y n a'
    before_next =
        record { reached = reached_on; few = omega (arith, passes.0.forward, passes.1, b.few); going = going_next }

    pub nearer : length s - y.at.0 < length s - k.at.0
    nearer =
        let f = passes.0.forward in
        let i = reached_on.inside in
        omega (arith, f, i)

  -- past the last line, and at a refused one
  module _ (r : List ℕ) (q : ys ≡ area_of empty no_stamps r) where
    pub at_last : Said s k m a None y a' → EndsFrom s from (Ok (counts_in m)) a' r
    at_last e =
        let g = b.going r q in
        going_end s short from (due k) m b.reached a a' r g (e.0.0 g.so_far r g.stands)

    pub at_failed : (x : Failure) → Said s k m a (Some (Err x)) y a' → EndsFrom s from (Err x) a' r
    at_failed x e =
        let g = b.going r q in
        going_failed s short from (due k) m b.reached a a' r g x (e.0.0 g.so_far r g.stands)
