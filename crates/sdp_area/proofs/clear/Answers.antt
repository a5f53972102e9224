-- `sdp_area::clear` meets its contract.
-- Assumes nothing.
use mathlib.Core.Path.{◌≡◌, ap, ◌∙◌}
use mathlib.Core.List.{List, ◌++◌}
use Prim.Native.Nat.{ℕ, ◌≤◌}
use lib.ListN.{length, take, drop, replicate}
use lib.Seq.{length-take-le}
use Rattle.sdp_cells.specs.Bytes.{zeros}
use Rattle.sdp_area.proofs.clear.Goals as goal

-- the first n bytes, filled with zeros
cleared : (a b : List ℕ) (n : ℕ) → n ≤ length a → b ≡ replicate (length (take n a)) 0 → b ++ drop n a ≡ zeros n ++ drop n a
unfolding zeros
cleared a b n h e = ap (λ (l : List ℕ). l ++ drop n a) (e ∙ ap (λ (k : ℕ). replicate k 0) (length-take-le n a h))

pub returns : goal.returns
returns c = cleared _ _ _ c.requires (c.fill.ensures.after (λ y e. e))
