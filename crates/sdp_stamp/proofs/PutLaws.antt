-- A line put into the cell of the latest row, or of the rows from one on, by the code's tests.
-- Assumes nothing.
use mathlib.Core.Path.{◌≡◌, sym, ap, ◌∙◌}
use mathlib.Core.List.{List, [], ◌∷◌}
use Prim.Native.Nat.{ℕ, ◌+◌, ◌*◌, ◌-◌, ◌≤◌, ◌<◌}
use native.Mathlib.Omega.{arith}
use borrow.Author.Tests.{le-leb, lt-leb}
use lib.ListN.{length, replicate, length-replicate, replicate-append-replicate}
use Rattle.sdp_cells.specs.Bytes.{le, num, over}
use Rattle.sdp_cells.specs.Tables.{flat, pairs}
use Rattle.sdp_area.specs.Columns.{area_size}
use Rattle.sdp_roles.specs.declared.Role.{Role}
use Rattle.sdp_roles.specs.declared.Role.TheVariants as role
use Rattle.sdp_cells.proofs.ByteLaws.{over_none, over_next}
use Rattle.sdp_cells.proofs.TableLaws.{flat_append}
use Rattle.sdp_cells.proofs.StoreLaws.{length_pairs}
use Rattle.sdp_stamp.specs.Put
use Rattle.sdp_stamp.specs.Put.{put_latest, put_since, column_of}
use Rattle.sdp_stamp.specs.declared.Column.{Column}
use Rattle.sdp_stamp.specs.declared.Column.TheVariants.{Field, Rows, Repeat, Zone, Nothing}

module _ (a : List ℕ) (base most p n c : ℕ) (count : num 2 a base ≡ c) where
  pub since_past : (i : ℕ) → most < c → a ≡ put_since base most p i n a
  unfolding Put.put_since
  since_past i h = rw (count, lt-leb c most h)

  pub since_put : (i : ℕ) → c ≤ most → put_since base most p i n a ≡ over a (p + i * 2) (pairs (replicate (c - i) n))
  unfolding Put.put_since
  since_put i l = rw (count, le-leb c most l)

  -- the latest row
  pub latest_none : c ≡ 0 → a ≡ put_latest base most p n a
  unfolding flat
  latest_none h =
      let z : c - (num 2 a base - 1) ≡ 0 = omega (arith, count) in
      over_none a (p + (num 2 a base - 1) * 2)
      ∙ sym (since_put (num 2 a base - 1) (omega arith) ∙ ap (λ (k : ℕ). over a (p + (num 2 a base - 1) * 2) (pairs (replicate k n))) z)

  pub latest-put : 0 < c → c ≤ most → put_latest base most p n a ≡ over a (p + (c - 1) * 2) (pairs (n ∷ []))
  latest-put h l =
      let z : c - (c - 1) ≡ 1 = omega arith in
      ap (λ (k : ℕ). put_since base most p (k - 1) n a) count
      ∙ since_put (c - 1) l
      ∙ ap (λ (k : ℕ). over a (p + (c - 1) * 2) (pairs (replicate k n))) z

-- one row more behind k rows
pub since_more : (a₀ a b : List ℕ) (q p k n : ℕ) → p ≡ q + k * 2 → p + 2 ≤ length a₀ → a ≡ over a₀ q (pairs (replicate k n)) → b ≡ over a p (pairs (n ∷ []))
    → b ≡ over a₀ q (pairs (replicate (k + 1) n))
since_more a₀ a b q p k n e room is next =
    let l : length (pairs (replicate k n)) ≡ k * 2 = length_pairs (replicate k n) ∙ ap (λ (i : ℕ). i * 2) (length-replicate k n) in
    next
    ∙ ap (λ (x : List ℕ). over x p (pairs (n ∷ []))) is
    ∙ over_next a₀ (pairs (replicate k n)) (pairs (n ∷ [])) q p (omega arith) (omega (arith, length_pairs (n ∷ [])))
    ∙ ap (over a₀ q) (sym (ap pairs (sym (replicate-append-replicate k 1 n)) ∙ flat_append (le 2) (replicate k n) (n ∷ [])))

-- where a line is put lies in the area
abbrev pub Fits : Column → Type 0
Fits (Field p) = p + 2 ≤ area_size
Fits (Rows base most p) = (base + 2 ≤ area_size) × (p + most * 2 ≤ area_size)
Fits Repeat = Unit {0}
Fits Zone = Unit {0}
Fits Nothing = Unit {0}

pub column_fits : (x : Role) → Fits (column_of x)
column_fits role.Origin = omega arith
column_fits role.Name = omega arith
column_fits role.Description = omega arith
column_fits role.Uri = omega arith
column_fits role.Email = (omega arith, omega arith)
column_fits role.Phone = (omega arith, omega arith)
column_fits role.Connection = omega arith
column_fits role.Bandwidth = (omega arith, omega arith)
column_fits role.Time = (omega arith, omega arith)
column_fits role.Repeat = tt
column_fits role.Zone = tt
column_fits role.Attribute = (omega arith, omega arith)
column_fits role.Media = (omega arith, omega arith)
column_fits role.MediaTitle = (omega arith, omega arith)
column_fits role.MediaConnection = (omega arith, omega arith)
column_fits role.Nothing = tt
