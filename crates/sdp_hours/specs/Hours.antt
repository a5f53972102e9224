-- Document 02, P3, "When will it start?": what one repeat with one of its offsets lists. "All sums are over whole numbers": nothing here is
-- cut to 64 bits.
use Rattle.std.specs.Prelude.{ℕ, zero, suc, ◌+◌, ◌*◌, ◌-◌, ◌^◌, Bool, true, cond, not, ◌&&◌, List, [], ◌∷◌, ◌++◌, leb, ltb, eqb}
use Rattle.sdp_area.specs.Session.{Zone}

-- ---- the zone offset, "as signed": the 64 bits are those of a signed number. What it adds, and what it takes away
abbrev pub east : ℕ → ℕ
east z = cond (leb (2 ^ 63) z) 0 z

abbrev pub west : ℕ → ℕ
west z = cond (leb (2 ^ 63) z) (2 ^ 64 - z) 0

-- "the latest adjustment time not after it (of equal ones the last)", of those in y and zs that are not after b
unfoldable pub latest : Zone → List Zone → ℕ → Zone
latest y [] b = y
latest y (a ∷ zs) b = latest (cond (leb a.adjustment_time b && leb y.adjustment_time a.adjustment_time) a y) zs b

-- no adjustment yet
abbrev pub unshifted : Zone
unshifted = record { adjustment_time = 0; offset = 0 }

-- "the zone offset of the latest adjustment time not after it": adjustments are not cumulative, so it is that one's alone
abbrev pub zone_at : List Zone → ℕ → ℕ
zone_at zs b = (latest unshifted zs b).offset

-- "Adjustment times must not fall along the line": none is below the one before it, the first not below a
unfoldable pub rise : ℕ → List Zone → Bool
rise a [] = true
rise a (z ∷ zs) = leb a z.adjustment_time && rise z.adjustment_time zs

-- ---- what is listed
-- "Starts at or after a non-zero stop time are dropped"
abbrev pub dropped : ℕ → ℕ → Bool
dropped stop b = not (eqb stop 0) && leb stop b

-- "within the caller's window (from included, to excluded)": from ≤ b + zone < to, with what is taken away on the other side
abbrev pub in_window : ℕ → ℕ → ℕ → ℕ → Bool
in_window from to z b = leb (from + west z) (b + east z) && ltb (b + east z) (to + west z)

-- the start b + zone, where b is not dropped and the sum lies in the window; else nothing
unfoldable pub listed : ℕ → ℕ → ℕ → ℕ → ℕ → List ℕ
listed stop from to z b = cond (not (dropped stop b) && in_window from to z b) ((b + east z - west z) ∷ []) []

-- the most that a zone takes away
unfoldable pub most_west : List Zone → ℕ
most_west [] = 0
most_west (a ∷ zs) = cond (leb (most_west zs) (west a.offset)) (west a.offset) (most_west zs)

module _ (start stop interval offset : ℕ) (zones : List Zone) (from to : ℕ) where
  -- "start + k times interval + offset"
  abbrev pub unadjusted : ℕ → ℕ
  unadjusted k = start + k * interval + offset

  -- what k lists: "To each start of a repeat the zone offset .. is added"
  abbrev pub start_of : ℕ → List ℕ
  start_of k = listed stop from to (zone_at zones (unadjusted k)) (unadjusted k)

  -- what n of them list, from k on
  unfoldable pub starts_from : ℕ → ℕ → List ℕ
  starts_from zero k = []
  starts_from (suc n) k = start_of k ++ starts_from n (k + 1)

  -- "for k from 0, only k = 0 for a zero interval". From to + most_west on no k lists anything, and any greater number of them gives the same
  -- list: the theorem `every_k`
  unfoldable pub repeated : List ℕ
  repeated = starts_from (cond (eqb interval 0) 1 (to + most_west zones)) 0
