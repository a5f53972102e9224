-- Zones in their place and out of it. Assumes nothing.
use mathlib.Core.Path.{refl}
use Rattle.sdp_bytes.specs.Runs
use Rattle.sdp_bytes.specs.Ranges
use Rattle.sdp_bytes.specs.Token
use Rattle.sdp_utf8.specs.Utf8
use Rattle.sdp_number.specs.Number
use Rattle.sdp_lines.specs.Lines
use Rattle.sdp_split.specs.Split
use Rattle.sdp_judge.specs.Read
use Rattle.sdp_judge.specs.Offset
use Rattle.sdp_fields.specs.Records
use Rattle.sdp_lists.specs.Lists
use Rattle.sdp_roles.specs.Roles
use Rattle.sdp_step.specs.Step
use Rattle.sdp_read.specs.Run
use Rattle.sdp_order.specs.Expression
use Rattle.sdp_order.specs.Order
use Rattle.sdp_samples.specs.Samples.{T, ◌next◌}
use Rattle.sdp_samples.specs.Places.{ZonePlaces, R, Z, opened}
use Rattle.sdp_samples.proofs.SampleLaws.{refuses}

pub zone_places : ZonePlaces
unfolding Order.order_of Order.letters Expression.matches Expression.after Expression.maybe_empty Runs.index_of Ranges.fits Token.is_token Token.all_token Utf8.is_utf8 Utf8.utf8_end Utf8.end_from Utf8.char_len Number.all_digits Number.value Number.digits_below Number.drop_plus Number.numeral Number.whole_number Number.typed_time Lines.split Lines.chop Lines.content Lines.width Lines.has_nul_or_cr Lines.plain_form Lines.form_of Split.first_piece Split.rest_after Split.words_from Split.words_at Read.whole_of Offset.zone_offset Read.next_text Read.next_token Read.next_number Read.next_time Records.address_of Records.origin_of Records.times_of Lists.offsets_of Lists.repeat_of Lists.pairs_of Lists.zones_of Roles.before_media Step.row Step.step_role Run.run Run.begin Run.lines
zone_places = record {
  each_time = refl;
  first_time = refl;
  no_repeat = refl;
  twice = refl;
  another_time = refl;
  second_refused = refuses (opened (T next R next Z next T next R next Z)) _ refl refl;
}
