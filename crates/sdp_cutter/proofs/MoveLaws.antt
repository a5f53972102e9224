-- What the cutter answers, by what the cursor finds.
-- Assumes nothing.
use Prim.Native.Nat.{ℕ}
use mathlib.Core.Path.{◌≡◌, ap}
use mathlib.Core.List.{List}
use Rattle.sdp_lines.specs.Lines.{cut_at}
use Rattle.sdp_lines.specs.declared.Place.{Place}
use Rattle.sdp_lines.specs.declared.LineNumber.{LineNumber}
use Rattle.sdp_lines.specs.declared.Cut.{Cut}
use Rattle.sdp_cutter.specs.Cutter.{move_by, move_at}

pub move_by_lem : (s : List ℕ) (p : Place) (n : LineNumber) (k : Cut) → cut_at s (record { at = p; line = n }) ≡ k → move_at s p n ≡ move_by p n k
unfolding move_at
move_by_lem s p n k e = ap (move_by p n) e
