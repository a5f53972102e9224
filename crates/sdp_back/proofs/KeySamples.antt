-- An area as a reader that kept keys left it: `KeptFrom` is about something. Assumes nothing.
use mathlib.Core.Path.{◌≡◌, refl}
use mathlib.Core.Bool.{true}
use mathlib.Core.List.{List, [], ◌∷◌, ◌++◌}
use Rattle.std.specs.Prelude.{Some, None}
use Prim.Native.Nat.{ℕ}
use native.Mathlib.Omega.{arith}
use lib.ListN.{length}
use Rattle.sdp_bytes.specs.Runs
use Rattle.sdp_bytes.specs.Ranges
use Rattle.sdp_utf8.specs.Utf8
use Rattle.sdp_number.specs.Number
use Rattle.sdp_lines.specs.Lines
use Rattle.sdp_lines.specs.declared.Span.{Span}
use Rattle.sdp_split.specs.Split
use Rattle.sdp_media_line.specs.MediaLine
use Rattle.sdp_roles.specs.Roles
use Rattle.sdp_cells.specs.Bytes
use Rattle.sdp_cells.specs.Bytes.{over}
use Rattle.sdp_cells.specs.Tables
use Rattle.sdp_cells.specs.Tables.{pairs}
use Rattle.sdp_area.specs.Session.{Session}
use Rattle.sdp_area.specs.Area
use Rattle.sdp_area.specs.Columns.{key_cell, medias_cell, keys_cell, area_size, area_of}
use Rattle.sdp_step.specs.Step
use Rattle.sdp_stamp.specs.Stamp.{no_stamps}
use Rattle.sdp_read.specs.Run
use Rattle.sdp_valid.specs.Judge
use Rattle.sdp_stamp_valid.specs.Fine
use Rattle.sdp_stamp_valid.specs.Fine.{fine_lines}
use Rattle.sdp_back.specs.Keys.{KeptFrom}

-- v=0, k=x, a second k line that is not UTF-8, m=a 1 p f, and k=y:z
abbrev text : List ℕ
text =
    0x76 ∷ 0x3d ∷ 0x30 ∷ 10 ∷ 0x6b ∷ 0x3d ∷ 0x78 ∷ 10 ∷ 0x6b ∷ 0x3d ∷ 0xff ∷ 10
    ∷ 0x6d ∷ 0x3d ∷ 0x61 ∷ 0x20 ∷ 0x31 ∷ 0x20 ∷ 0x70 ∷ 0x20 ∷ 0x66 ∷ 10 ∷ 0x6b ∷ 0x3d ∷ 0x79 ∷ 0x3a ∷ 0x7a ∷ []

-- one byte of it
abbrev one : ℕ → Span
one p = record { at = record { 0 = p }; len = 1 }

abbrev kept : Session Span
kept = record {
  head = record { origin = None; name = None; description = None; uri = None; connection = None; key = Some (record { method = one 6; encryption_key = None }) };
  tables = record {
    emails = [];
    phones = [];
    connections = [];
    bandwidths = [];
    times = [];
    repeats = [];
    offsets = [];
    zones = [];
    attributes = [];
    medias = record { media = one 14; port = 1; num_ports = None; proto = one 18; fmt = one 20; media_title = None; key = Some (record { method = one 24; encryption_key = Some (one 26) }) } ∷ [];
  };
}

-- the keys are from the lines 2 and 5, the media from line 4
abbrev stamps : List ℕ
stamps = over (over (over no_stamps key_cell (2 ∷ [])) medias_cell (4 ∷ [])) keys_cell (5 ∷ [])

-- 16,938 bytes with the lines, of which none is above the limit
judged : (length (area_of kept stamps []) ≡ area_size) × (fine_lines (area_of kept stamps []) ≡ true)
unfolding Fine.fine_lines Fine.fine_fields Fine.fine_columns Fine.media_columns Fine.fine_marks Fine.fine_field Fine.fine_line Judge.every_at Bytes.num Bytes.le Bytes.over Bytes.zeros Tables.flat Tables.tab Tables.fit Area.encode Area.cat Area.opt Area.span Area.name_bytes Area.key_bytes Area.media_row
judged = (refl, refl)

pub sample : KeptFrom text (area_of kept stamps [])
unfolding Runs.index_of Ranges.fits Utf8.is_utf8 Utf8.utf8_end Utf8.end_from Utf8.char_len Number.all_digits Number.value Number.digits_below Number.drop_plus Number.numeral Number.whole_number Lines.split Lines.chop Lines.content Lines.width Lines.has_nul_or_cr Lines.plain_form Lines.form_of Split.first_piece Split.piece_after Split.rest_after MediaLine.port_of MediaLine.media_of Roles.before_media Roles.from_media Step.row Step.step_role Run.run Run.begin Run.lines
sample = record {
  session = kept;
  behind = pairs stamps ++ [];
  bytes = refl;
  full = let e = judged.0 in omega arith;
  low = judged.1;
  keys = record {
    session = record { method = record { inside = omega arith; utf8 = refl }; encryption_key = tt };
    medias = (record { method = record { inside = omega arith; utf8 = refl }; encryption_key = record { inside = omega arith; utf8 = refl } }, tt);
  };
  today = refl;
}
