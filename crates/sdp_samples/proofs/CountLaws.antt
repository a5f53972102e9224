-- The counts of some texts. Assumes nothing.
use mathlib.Core.Path.{◌≡◌, refl, ap, ◌∙◌}
use mathlib.Core.Bool.{false}
use mathlib.Core.List.{List}
use Prim.Native.Nat.{ℕ}
use lib.Dec.{ltb}
use lib.ListN.{length}
use Rattle.sdp_bytes.specs.Runs
use Rattle.sdp_bytes.specs.Ranges
use Rattle.sdp_utf8.specs.Utf8
use Rattle.sdp_number.specs.Number
use Rattle.sdp_lines.specs.Lines
use Rattle.sdp_lines.specs.declared.Span.{Span}
use Rattle.sdp_split.specs.Split
use Rattle.sdp_judge.specs.Read
use Rattle.sdp_fields.specs.Records
use Rattle.sdp_media_line.specs.MediaLine
use Rattle.sdp_area.specs.Session.{Session}
use Rattle.sdp_roles.specs.Roles
use Rattle.sdp_strings.specs.Strings.{span_at}
use Rattle.sdp_step.specs.Step
use Rattle.sdp_counts.specs.Count
use Rattle.sdp_counts.specs.Count.{counts_of}
use Rattle.sdp_counts.specs.declared.Counts.{Counts}
use Rattle.sdp_read.specs.Run
use Rattle.sdp_read.specs.Run.{accepted, lines}
use Rattle.sdp_samples.specs.Samples.{«V»}
use Rattle.sdp_samples.specs.Counts.{nine, Counted, LineCounts}
use Rattle.sdp_samples.proofs.SampleLaws.{accepts}

counted : (t : List ℕ) (s : Session Span) (c : Counts) → ltb 32768 (length t) ≡ false → lines span_at t ≡ accepted s → counts_of t ≡ c → Counted t c
counted t s c p e f a h =
    let r = accepts t s _ p e refl a h in
    (ap (λ o. o.answer.number) r, ap (λ o. o.counts) r ∙ f)

pub line_counts : LineCounts
unfolding Runs.index_of Ranges.fits Utf8.is_utf8 Utf8.utf8_end Utf8.end_from Utf8.char_len Number.all_digits Number.value Number.digits_below Number.drop_plus Number.numeral Number.whole_number Lines.split Lines.chop Lines.content Lines.has_nul_or_cr Lines.plain_form Lines.form_of Split.first_piece Split.piece_after Split.rest_after Split.words_from Split.words_at Read.next_number Records.times_of Records.attribute_of MediaLine.port_of MediaLine.media_of Roles.before_media Roles.from_media Step.row Step.step_role Run.run Run.begin Run.lines Count.empty_lines Count.sum_from Count.kept_lines Count.ignored_lines Count.lfs Count.unended
line_counts = record {
  v_counts = counted «V» _ _ refl refl refl;
  v_lines = refl;
  nine_counts = counted nine _ _ refl refl refl;
  nine_lines = refl;
}
