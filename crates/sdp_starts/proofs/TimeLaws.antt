-- What a repeat and a time list, by cases of the code. Assumes nothing.
use mathlib.Core.Path.{◌≡◌, refl, sym, ◌∙◌}
use mathlib.Core.Bool.{Bool, true, false}
use mathlib.Core.List.{List, []}
use Prim.Native.Nat.{ℕ, ◌+◌}
use borrow.Author.Tests.{eq-eqb, ne_eqb}
use Rattle.sdp_cells.specs.Bytes.{num}
use Rattle.sdp_area.specs.Session.{Repeat, Offset}
use Rattle.sdp_area.specs.Area.{repeats_at, offsets_at}
use Rattle.sdp_decode.specs.Decode.{time_of, repeat_of, offset_of, times_in, repeats_in, offsets_in}
use Rattle.sdp_decode.specs.Rows.{each, mine}
use Rattle.sdp_hours.specs.Starts as starting
use Rattle.sdp_hours.specs.Starts.{owns, once}
use Rattle.sdp_window.specs.declared.Window.{Window}
use Rattle.sdp_starts.specs.Fill as filling
use Rattle.sdp_starts.specs.Fill.{owns_at, series_of, repeat_in, time_in, found_in, whose_by, time_for, time_by, repeat_by}
use Rattle.sdp_starts.specs.declared.Rule.{Rule}
use Rattle.sdp_starts.proofs.RowLaws.{owns-rows}

module _ (a : List ℕ) (w : Window) where
  -- ---- a repeat
  module _ (i j : ℕ) (u : Rule) (b : Bool) (e : b ≡ owns_at a 10 j (num 2 a offsets_at) (offsets_at + 2)) where
    offsets-owned : owns (λ (o : Offset). o.owner) j (offsets_in a) ≡ b
    offsets-owned = owns-rows (λ (o : Offset). o.owner) offset_of a 10 j (λ p. refl) (num 2 a offsets_at) (offsets_at + 2) ∙ sym e

    pub repeat_some : b ≡ true → each (λ k o. mine j o.owner (series_of a (whose_by i j) u o.offset w)) 1 (offsets_in a) ≡ repeat_in a w i (time_by u) j (repeat_by i u)
    unfolding starting.of_repeat filling.series_of
    repeat_some h = rw (offsets-owned ∙ h) refl

    pub repeat_none : b ≡ false → series_of a (whose_by i j) u 0 w ≡ repeat_in a w i (time_by u) j (repeat_by i u)
    unfolding starting.of_repeat filling.series_of
    repeat_none h = rw (offsets-owned ∙ h) refl

  -- only its interval counts
  pub repeat-row : (i j p start stop d : ℕ) → d ≡ num 8 a (p + 2)
      → repeat_in a w i (time_for start stop) j (repeat_by i (record { start = start; stop = stop; interval = d })) ≡ repeat_in a w i (time_for start stop) j (repeat_of a p)
  unfolding starting.of_repeat
  repeat-row i j p start stop d e = rw e refl

  -- ---- a time
  module _ (i p start : ℕ) (e : start ≡ num 8 a p) where
    pub time_zero : start ≡ 0 → [] ≡ time_in a w i (time_of a p)
    unfolding starting.of_time
    time_zero h = rw (← e, eq-eqb start 0 h) refl

    module _ (stop : ℕ) (f : stop ≡ num 8 a (p + 8)) (b : Bool) (q : b ≡ owns_at a 18 i (num 2 a repeats_at) (repeats_at + 2)) (n : start ≡ 0 → ⊥) where
      repeats-owned : owns (λ (r : Repeat). r.owner) i (repeats_in a) ≡ b
      repeats-owned = owns-rows (λ (r : Repeat). r.owner) repeat_of a 18 i (λ p. refl) (num 2 a repeats_at) (repeats_at + 2) ∙ sym q

      pub time_some : b ≡ true → each (λ j r. mine i r.owner (repeat_in a w i (time_for start stop) j r)) 1 (repeats_in a) ≡ time_in a w i (time_of a p)
      unfolding starting.of_time
      time_some h = rw (← e, ← f, ne_eqb start 0 n, repeats-owned ∙ h) refl

      pub time-once : b ≡ false → once [] [] [] w.from w.to i (time_for start stop) ≡ time_in a w i (time_of a p)
      unfolding starting.of_time
      time-once h = rw (← e, ← f, ne_eqb start 0 n, repeats-owned ∙ h) refl

  -- all times
  pub times_are : each (time_in a w) 1 (times_in a) ≡ found_in a w
  unfolding starting.starts_of
  times_are = refl
