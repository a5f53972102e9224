-- The rows of a table by their places, and the t and z lines. Assumes nothing.
use mathlib.Core.Path.{◌≡◌, refl, sym, ap, ◌∙◌}
use mathlib.Core.List.{List, [], ◌∷◌}
use Prim.Native.Nat.{ℕ, zero, suc, ◌+◌, ◌≤◌, ◌<◌}
use native.Mathlib.Omega.{arith}
use lib.ListN.{length, length-append}
use borrow.Author.Tests.{ne_eqb}
use Rattle.sdp_cells.specs.Bytes.{num}
use Rattle.sdp_area.specs.Session.{Time}
use Rattle.sdp_area.specs.Area.{times_at, zones_at}
use Rattle.sdp_decode.specs.Rows as rows
use Rattle.sdp_decode.specs.Rows.{rows_at, each}
use Rattle.sdp_decode.specs.Decode.{time_of, zone_of, times_in, zones_in}
use Rattle.sdp_row.specs.Written
use Rattle.sdp_row.specs.Written.{time_lines, times_lines, zone_text, zones_line}
use Rattle.sdp_room.specs.Room as room
use Rattle.sdp_room.specs.Room.{sum_at}
use Rattle.sdp_room.proofs.SumLaws
use Rattle.sdp_room.proofs.SumLaws.{sum, rows_sum}
use Rattle.sdp_room.proofs.LengthLaws.{length-line}
use Rattle.sdp_room.proofs.CostLaws
use Rattle.sdp_room.proofs.CostLaws.{time_cost, times_cost}
use Rattle.sdp_length.specs.Length.{time_length, zone_length}

-- f of each row is g at its place
pub rows_at_lem : {X : Type 0} (f : X → ℕ) (g : ℕ → ℕ) (rd : List ℕ → ℕ → X) (a : List ℕ) → ((p : ℕ) → f (rd a p) ≡ g p)
    → (w n p : ℕ) → sum f (rows_at rd w n a p) ≡ sum_at g w n p
unfolding SumLaws.sum rows.rows_at room.sum_at
rows_at_lem f g rd a h w zero p = refl
rows_at_lem f g rd a h w (suc n) p = omega (arith, h p, rows_at_lem f g rd a h w n (p + w))

-- ---- t lines without r lines
pub times-alone : (ts : List Time) → length (times_lines [] [] ts) ≡ times_cost ts
unfolding Written.times_lines Written.time_lines Written.line rows.each CostLaws.times_cost
times-alone [] = refl
times-alone (t ∷ ts) = rows_sum (time_lines [] []) time_cost (λ k x. simp length-append (omega arith)) 1 (t ∷ ts)

module _ (a : List ℕ) where
  time-rows : (n : ℕ) → (n ≡ 0 → ⊥) → (p : ℕ) → sum_at (time_length a) 16 n p ≡ length (times_lines [] [] (rows_at time_of 16 n a p))
  unfolding rows.rows_at CostLaws.times_cost
  time-rows zero z p = absurd (z refl)
  time-rows (suc n) z p =
      sym (times-alone (time_of a p ∷ rows_at time_of 16 n a (p + 16)) ∙ rows_at_lem time_cost (time_length a) time_of a (λ q. refl) 16 (suc n) p)

  pub no_times : (n : ℕ) → n ≡ num 2 a times_at → n ≡ 0 → 7 ≡ length (times_lines [] [] (times_in a))
  unfolding rows.rows_at Written.times_lines Written.line
  no_times n e z = ap (λ (k : ℕ). length (times_lines [] [] (rows_at time_of 16 k a (times_at + 2)))) (sym z ∙ e)

  pub some_times : (n : ℕ) → n ≡ num 2 a times_at → (n ≡ 0 → ⊥) → sum_at (time_length a) 16 (num 2 a times_at) (times_at + 2) ≡ length (times_lines [] [] (times_in a))
  some_times n e z = time-rows (num 2 a times_at) (λ h. z (e ∙ h)) (times_at + 2)

  -- ---- the z line
  -- from the second pair on each has a space before it
  more_zones : (k : ℕ) → 1 < k → (n p : ℕ) → length (each zone_text k (rows_at zone_of 16 n a p)) ≡ sum_at (zone_length a) 16 n p
  unfolding rows.rows_at rows.each room.sum_at Written.zone_text
  more_zones k l zero p = refl
  more_zones k l (suc n) p =
      rw (ne_eqb k 1 (λ e. omega arith))
      (omega (arith, length-append (zone_text 2 (zone_of a p)) (each zone_text (k + 1) (rows_at zone_of 16 n a (p + 16))), more_zones (k + 1) (omega arith) n (p + 16)))

  zone-rows : (n : ℕ) → (n ≡ 0 → ⊥) → (p : ℕ) → 3 + sum_at (zone_length a) 16 n p ≡ length (zones_line (rows_at zone_of 16 n a p))
  unfolding rows.rows_at rows.each room.sum_at Written.zones_line Written.zone_text
  zone-rows zero z p = absurd (z refl)
  zone-rows (suc n) z p =
      let zs = rows_at zone_of 16 n a (p + 16) in
      omega (
        arith,
        length-line 0x7a (each zone_text 1 (zone_of a p ∷ zs)),
        length-append (zone_text 1 (zone_of a p)) (each zone_text 2 zs),
        more_zones 2 (omega arith) n (p + 16),
      )

  pub no_zones_lem : (n : ℕ) → n ≡ num 2 a zones_at → n ≡ 0 → 0 ≡ length (zones_line (zones_in a))
  unfolding rows.rows_at Written.zones_line
  no_zones_lem n e z = ap (λ (k : ℕ). length (zones_line (rows_at zone_of 16 k a (zones_at + 2)))) (sym z ∙ e)

  pub some_zones : (n : ℕ) → n ≡ num 2 a zones_at → (n ≡ 0 → ⊥) → 3 + sum_at (zone_length a) 16 (num 2 a zones_at) (zones_at + 2) ≡ length (zones_line (zones_in a))
  some_zones n e z = zone-rows (num 2 a zones_at) (λ h. z (e ∙ h)) (zones_at + 2)
