-- The lines of the records of a text. Assumes nothing.
use mathlib.Core.Path.{◌≡◌, refl, ap, ◌∙◌}
use mathlib.Core.Bool.{false}
use mathlib.Core.List.{List, ◌++◌}
use Prim.Native.Nat.{ℕ}
use lib.Dec.{ltb}
use lib.ListN.{length, drop}
use lib.Seq.{drop_at}
use Rattle.sdp_bytes.specs.Runs
use Rattle.sdp_bytes.specs.Ranges
use Rattle.sdp_bytes.specs.Token
use Rattle.sdp_utf8.specs.Utf8
use Rattle.sdp_number.specs.Number
use Rattle.sdp_lines.specs.Lines
use Rattle.sdp_lines.specs.declared.Span.{Span}
use Rattle.sdp_split.specs.Split
use Rattle.sdp_judge.specs.Read
use Rattle.sdp_judge.specs.Offset
use Rattle.sdp_fields.specs.Records
use Rattle.sdp_media_line.specs.MediaLine
use Rattle.sdp_lists.specs.Lists
use Rattle.sdp_cells.specs.Bytes
use Rattle.sdp_cells.specs.Tables
use Rattle.sdp_cells.specs.Tables.{pairs}
use Rattle.sdp_area.specs.Session.{Session}
use Rattle.sdp_area.specs.Area.{encode, size}
use Rattle.sdp_area.specs.Columns.{area_size}
use Rattle.sdp_area.specs.With
use Rattle.sdp_area.specs.Latest
use Rattle.sdp_area.proofs.WidthLaws.{length-encode}
use Rattle.sdp_roles.specs.Roles
use Rattle.sdp_strings.specs.Strings.{span_at}
use Rattle.sdp_step.specs.Step
use Rattle.sdp_stamp.specs.Stamp
use Rattle.sdp_read.specs.Run
use Rattle.sdp_read.specs.Run.{accepted, lines, stamps_of}
use Rattle.sdp_samples.specs.Samples.{«V», ◌next◌}
use Rattle.sdp_samples.specs.Stamps.{before, behind, Stamped, RecordLines}
use Rattle.sdp_samples.proofs.SampleLaws.{accepts}

stamps : (t : List ℕ) (s : Session Span) (ls : List ℕ) → ltb 32768 (length t) ≡ false → lines span_at t ≡ accepted s → stamps_of t ≡ ls → Stamped t ls
stamps t s ls p e f a h =
    let r = accepts t s ls p e f a h in
    (ap (λ o. o.answer.number) r, ap (λ o. drop size o.area) r ∙ drop_at (encode s) (pairs ls ++ drop area_size a) size (length-encode s))

pub record_lines : RecordLines
unfolding Runs.index_of Ranges.fits Token.is_token Token.all_token Utf8.is_utf8 Utf8.utf8_end Utf8.end_from Utf8.char_len Number.all_digits Number.value Number.digits_below Number.drop_plus Number.numeral Number.whole_number Number.typed_time Lines.split Lines.chop Lines.content Lines.width Lines.has_nul_or_cr Lines.plain_form Lines.form_of Split.first_piece Split.piece_after Split.rest_after Split.words_from Split.words_at Read.whole_of Offset.zone_offset Read.next_text Read.next_token Read.next_number Read.next_time Records.address_of Records.origin_of Records.connection_of Records.bandwidth_of Records.times_of Records.attribute_of MediaLine.port_of MediaLine.media_of Lists.offsets_of Lists.repeat_of Lists.pairs_of Lists.zones_of Roles.before_media Roles.from_media With.set_last Step.row Step.step_role Run.run Run.begin Run.lines Run.run_stamps Run.begin_stamps Stamp.stamp_rows Stamp.stamp_all Stamp.stamped Latest.last_given Bytes.over Bytes.zeros Tables.fit
record_lines = record {
  each_line = stamps (before next behind) _ _ refl refl refl;
  no_line = stamps «V» _ _ refl refl refl;
}
