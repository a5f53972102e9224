-- The place of the bad byte in some texts. Assumes nothing.
use mathlib.Core.Path.{refl}
use mathlib.Core.List.{[]}
use Rattle.sdp_bytes.specs.Runs
use Rattle.sdp_bytes.specs.Ranges
use Rattle.sdp_bytes.specs.Token
use Rattle.sdp_utf8.specs.Utf8
use Rattle.sdp_number.specs.Number
use Rattle.sdp_lines.specs.Lines
use Rattle.sdp_split.specs.Split
use Rattle.sdp_judge.specs.Read
use Rattle.sdp_judge.specs.Offset
use Rattle.sdp_fields.specs.Records
use Rattle.sdp_media_line.specs.MediaLine
use Rattle.sdp_lists.specs.Lists
use Rattle.sdp_roles.specs.Roles
use Rattle.sdp_step.specs.Step
use Rattle.sdp_read.specs.Run
use Rattle.sdp_samples.specs.Samples.{«V», T, ◌next◌}
use Rattle.sdp_samples.specs.Bytes.{BytePlaces, surrogate, cut_off, bad_port, bad_offset, bad_interval, bad_offsets, trailing, cr_lf}
use Rattle.sdp_samples.proofs.SampleLaws.{refuses}

pub byte_places : BytePlaces
unfolding Runs.index_of Ranges.fits Token.is_token Token.all_token Utf8.is_utf8 Utf8.utf8_end Utf8.end_from Utf8.char_len Number.all_digits Number.value Number.digits_below Number.drop_plus Number.numeral Number.whole_number Number.typed_time Lines.split Lines.chop Lines.content Lines.width Lines.has_nul_or_cr Lines.plain_form Lines.form_of Split.first_piece Split.piece_after Split.rest_after Split.words_from Split.words_at Read.whole_of Offset.zone_offset Read.next_text Read.next_token Read.next_number Read.next_time Records.address_of Records.origin_of Records.times_of MediaLine.port_of MediaLine.media_of Lists.offsets_of Lists.repeat_of Lists.pairs_of Lists.zones_of Roles.before_media Step.row Step.step_role Run.run Run.begin Run.lines
byte_places = record {
  first_byte = refuses («V» next surrogate) _ refl refl;
  lead_byte = refuses («V» next cut_off) _ refl refl;
  later_line = refuses (cr_lf next [] next cut_off) _ refl refl;
  port_byte = refuses («V» next bad_port) _ refl refl;
  sign_byte = refuses («V» next bad_offset) _ refl refl;
  unit_byte = refuses («V» next T next bad_interval) _ refl refl;
  first_offset = refuses («V» next T next bad_offsets) _ refl refl;
  not_tested = refuses («V» next trailing) _ refl refl;
}
