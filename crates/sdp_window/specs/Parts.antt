-- The line of time, cut at the adjustment times: each part has one zone offset.
use Rattle.std.specs.Prelude.{ℕ, zero, suc, ◌+◌, ◌^◌, cond, List, [], ◌∷◌, ◌++◌, leb, eqb}
use Rattle.sdp_area.specs.Session.{Zone}
use Rattle.sdp_hours.specs.Hours.{listed}

-- an end, 0 for none, or an earlier one
abbrev pub until : ℕ → ℕ → ℕ
until end a = cond (eqb end 0) a (cond (leb a end) a end)

-- of so many k: one where the interval is 0, else enough for every zone offset, none of which takes more away than 2 ^ 63
abbrev pub steps_for : ℕ → ℕ → ℕ
steps_for d to = cond (eqb d 0) 1 (to + 2 ^ 63)

-- of b, b + d, .., n of them, those not below after that are listed with the zone offset z and the end
module _ (d after end z from to : ℕ) where
  unfoldable pub segment_from : ℕ → ℕ → List ℕ
  segment_from zero b = []
  segment_from (suc n) b = cond (leb after b) (listed end from to z b) [] ++ segment_from n (b + d)

-- all of a series, part by part from after on, where z holds before the first of the zones. Before an adjustment at 0 there is nothing
module _ (d stop from to : ℕ) where
  unfoldable pub parts : ℕ → List Zone → ℕ → ℕ → ℕ → List ℕ
  parts z [] after n b = segment_from d after stop z from to n b
  parts z (a ∷ zs) after n b =
      cond (eqb a.adjustment_time 0) [] (segment_from d after (until stop a.adjustment_time) z from to n b)
      ++ parts a.offset zs a.adjustment_time n b
