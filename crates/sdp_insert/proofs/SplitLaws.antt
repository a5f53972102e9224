-- A line with its LF in front of a text is the first of the text's lines. Assumes nothing.
use mathlib.Core.Path.{◌≡◌, refl, sym, ap}
use mathlib.Core.Bool.{Bool, true, false, ◌||◌, cond, false≢true}
use mathlib.Core.List.{List, [], ◌∷◌, ◌++◌}
use Prim.Native.Nat.{ℕ}
use lib.Dec.{eqb}
use Rattle.sdp_lines.specs.Lines
use Rattle.sdp_lines.specs.Lines.{onto, split}
use Rattle.sdp_insert.specs.Insert.{has_lf, ended}

pub split-line : (l t : List ℕ) → has_lf l ≡ false → split (l ++ (10 ∷ t)) ≡ ended l ∷ split t
unfolding Lines.split has_lf
split-line [] t h = refl
split-line (b ∷ l) t h = go (eqb b 10) h (split-line l t)
  where
    go : (x : Bool) → (x || has_lf l) ≡ false → (has_lf l ≡ false → split (l ++ (10 ∷ t)) ≡ ended l ∷ split t)
        → cond x (ended [] ∷ split (l ++ (10 ∷ t))) (onto b (split (l ++ (10 ∷ t)))) ≡ ended (b ∷ l) ∷ split t
    go true q ih = absurd (false≢true (sym q))
    go false q ih = ap (onto b) (ih q)
