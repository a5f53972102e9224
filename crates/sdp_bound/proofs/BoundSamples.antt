-- At `v=0` alone the bound is reached. Assumes nothing.
use mathlib.Core.Path.{◌≡◌, refl}
use mathlib.Core.List.{List, [], ◌∷◌}
use Prim.Native.Nat.{ℕ}
use lib.ListN.{length}
use Rattle.sdp_bytes.specs.Runs
use Rattle.sdp_lines.specs.Lines
use Rattle.sdp_area.specs.Session.{empty}
use Rattle.sdp_counts.specs.Count
use Rattle.sdp_read.specs.Run
use Rattle.sdp_read.specs.Run.{accepted, lines}
use Rattle.sdp_decode.specs.Rows as rows
use Rattle.sdp_row.specs.Written
use Rattle.sdp_row.specs.Written.{written}
use Rattle.sdp_same.specs.Said.{bytes_at}
use Rattle.sdp_same.proofs.WrittenLaws.{id}
use Rattle.sdp_bound.specs.Bound.{bound}

-- v=0
abbrev version : List ℕ
version = 0x76 ∷ 0x3d ∷ 0x30 ∷ []

pub version-bound : (lines bytes_at version ≡ accepted empty) × (length (written id empty) ≡ bound version)
unfolding Count.kept_lines Count.sum_from Run.lines Run.begin Run.run Lines.split Lines.content Lines.chop Lines.form_of Lines.has_nul_or_cr Lines.plain_form Runs.index_of Written.written Written.head_lines Written.contact_lines Written.closing_lines Written.origin_line Written.line rows.each Written.times_lines Written.zones_line
version-bound = (refl, refl)
