-- Where owners were judged, each row has an owner that is there. Assumes nothing.
use mathlib.Core.Path.{◌≡◌, refl, ◌∙◌}
use mathlib.Core.Bool.{true, ◌&&◌}
use mathlib.Core.List.{List}
use Prim.Native.Nat.{ℕ, zero, suc, ◌+◌, ◌≤◌}
use native.Mathlib.Omega.{arith}
use lib.ListN.{length}
use lib.Dec.{leb}
use borrow.Author.Tests.{leb-true}
use Rattle.sdp_bytes.proofs.ScanLaws.{and_left, and_right}
use Rattle.sdp_cells.specs.Bytes.{num}
use Rattle.sdp_area.specs.Area.{connections_at, bandwidths_at, times_at, repeats_at, offsets_at, attributes_at, medias_at}
use Rattle.sdp_lines.specs.Strings.{bytes_of}
use Rattle.sdp_valid.specs.Judge as judge
use Rattle.sdp_valid.specs.Judge.{rising, owned, owners}
use Rattle.sdp_decode.specs.Rows as rows
use Rattle.sdp_decode.specs.Rows.{rows_at, table}
use Rattle.sdp_decode.specs.Decode
use Rattle.sdp_decode.specs.Decode.{media_connection_of, bandwidth_of, time_of, repeat_of, offset_of, attribute_of, media_of, offsets_in, decode}
use Rattle.sdp_decode.proofs.RowLaws.{length-rows}
use Rattle.sdp_room.proofs.SumLaws.{Rows, stray_from, stray, stray_none, stray_next}
use Rattle.sdp_room.proofs.CostLaws
use Rattle.sdp_room.proofs.CostLaws.{connection_rows, bandwidth_rows, attribute_rows, repeat_rows, offset_rows, lost}

module _ (a : List ℕ) {X : Type 0} (r : Rows X) (rd : List ℕ → ℕ → X) (w : ℕ) (first : (p : ℕ) → r.owner (rd a p) ≡ num 2 a p) where
  rows-owned : (low most n k lo p : ℕ) → low ≤ lo → rising a w most n lo p ≡ true → stray_from r k low most (rows_at rd w n a p) ≡ 0
  unfolding rows.rows_at judge.rising
  rows-owned low most zero k lo p l h = stray_none r k low most
  rows-owned low most (suc n) k lo p l h =
      let o = num 2 a p in
      let here = and_left (leb lo o && leb o most) (rising a w most n o (p + w)) h in
      let up : low ≤ o = omega (arith, l, leb-true lo o (and_left (leb lo o) (leb o most) here)) in
      let down = leb-true o most (and_right (leb lo o) (leb o most) here) in
      stray_next r k low most (rd a p) (rows_at rd w n a (p + w)) (rw first up) (rw first down)
      ∙ rows-owned low most n (k + 1) o (p + w) up (and_right (leb lo o && leb o most) (rising a w most n o (p + w)) h)

  -- a table at base, whose owners are the rows of the table at others
  table-owned : {Y : Type 0} (rd' : List ℕ → ℕ → Y) (w' base low others : ℕ)
      → owned a base w low others ≡ true → stray r low (length (table rd' w' a others)) (table rd w a base) ≡ 0
  table-owned rd' w' base low others h =
      rw (length-rows rd' w' (num 2 a others) a (others + 2)) (rows-owned low (num 2 a others) (num 2 a base) 1 low (base + 2) (omega arith) h)

module _ (t a : List ℕ) where
  pub none_lost : owners a ≡ true → lost (bytes_of t) (decode a) ≡ 0
  unfolding judge.owners CostLaws.lost Decode.decode
  none_lost h =
      let b = and_right (owned a connections_at 14 1 medias_at) _ h in
      let c = and_right (owned a bandwidths_at 14 0 medias_at) _ b in
      let d = and_right (owned a repeats_at 18 1 times_at) _ c in
      omega (
        arith,
        table-owned a (connection_rows (bytes_of t)) media_connection_of 14 (λ p. refl) media_of 36 connections_at 1 medias_at (and_left (owned a connections_at 14 1 medias_at) _ h),
        table-owned a (bandwidth_rows (bytes_of t)) bandwidth_of 14 (λ p. refl) media_of 36 bandwidths_at 0 medias_at (and_left (owned a bandwidths_at 14 0 medias_at) _ b),
        table-owned a (repeat_rows (offsets_in a)) repeat_of 18 (λ p. refl) time_of 16 repeats_at 1 times_at (and_left (owned a repeats_at 18 1 times_at) _ c),
        table-owned a offset_rows offset_of 10 (λ p. refl) repeat_of 18 offsets_at 1 repeats_at (and_left (owned a offsets_at 10 1 repeats_at) _ d),
        table-owned a (attribute_rows (bytes_of t)) attribute_of 12 (λ p. refl) media_of 36 attributes_at 0 medias_at (and_right (owned a offsets_at 10 1 repeats_at) _ d),
      )
