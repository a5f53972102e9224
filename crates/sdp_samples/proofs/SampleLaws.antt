-- Document 01's samples marked P hold. Assumes nothing.
use Prim.Native.Nat.{ℕ}
use mathlib.Core.Path.{◌≡◌, refl, sym, ap, ◌∙◌}
use mathlib.Core.Bool.{false}
use mathlib.Core.List.{List, []}
use borrow.Author.Tests.{le-ltb}
use lib.Dec.{ltb}
use lib.ListN.{length}
use Rattle.sdp_bytes.specs.Runs
use Rattle.sdp_bytes.specs.Ranges
use Rattle.sdp_bytes.specs.Token
use Rattle.sdp_utf8.specs.Utf8
use Rattle.sdp_number.specs.Number
use Rattle.sdp_lines.specs.Lines
use Rattle.sdp_lines.specs.Strings.{bytes_of}
use Rattle.sdp_lines.specs.declared.Answer.{Answer}
use Rattle.sdp_lines.specs.declared.Span.{Span}
use Rattle.sdp_split.specs.Split
use Rattle.sdp_judge.specs.Read
use Rattle.sdp_judge.specs.Offset
use Rattle.sdp_fields.specs.Records
use Rattle.sdp_lists.specs.Lists
use Rattle.sdp_cells.specs.Bytes
use Rattle.sdp_area.specs.Session.{Session, empty}
use Rattle.sdp_area.specs.Latest
use Rattle.sdp_area.specs.Columns.{area_size}
use Rattle.sdp_roles.specs.Roles
use Rattle.sdp_strings.specs.Strings.{span_at}
use Rattle.sdp_step.specs.Step
use Rattle.sdp_stamp.specs.Stamp
use Rattle.sdp_read.specs.Run
use Rattle.sdp_read.specs.Run.{Verdict, accepted, refused, lines, stamps_of}
use Rattle.sdp_decode.specs.Rows as rows
use Rattle.sdp_row.specs.Written
use Rattle.sdp_row.specs.Written.{written}
use Rattle.sdp_write.specs.Write.{answer, fill}
use Rattle.sdp_same.proofs.SameLaws.{fills, read_then_write}
use Rattle.sdp_samples.specs.Samples.{Samples, Refuses, Accepts, Writes, «V», T, space_after, cr_at_end, nothing_before, no_equals, no_interval, lowest, too_high, minus_plus, no_zones, some_origin, junk_origin, empty_value, no_value, ◌next◌, of_v}

-- ---- from the lines of a text to the promise of read
pub refuses : (t : List ℕ) (x : Answer) → ltb 32768 (length t) ≡ false → lines span_at t ≡ refused x → Refuses t x
unfolding Run.read_text
refuses t x p e a h = rw (le-ltb (length a) area_size h, p, e)

pub accepts : (t : List ℕ) (s : Session Span) (ls : List ℕ) → ltb 32768 (length t) ≡ false → lines span_at t ≡ accepted s → stamps_of t ≡ ls → Accepts t s ls
unfolding Run.read_text
accepts t s ls p e f a h = rw (le-ltb (length a) area_size h, p, e, f)

-- ---- and to the promise of write
session_of : Verdict Span → Session Span
session_of (accepted s) = s
session_of (refused x) = empty

writes : (t : List ℕ) (s : Session Span) (w : List ℕ) → ltb 32768 (length t) ≡ false → lines span_at t ≡ accepted s → written (bytes_of t) s ≡ w → Writes t w
unfolding session_of
writes t s w p e f a o h k =
    let r = read_then_write t a o (ap (λ x. x.answer.number) (accepts t s _ p e refl a h)) in
    let same : r.session ≡ s = ap session_of (sym r.read ∙ e) in (
      r.known ∙ (ap (λ x. answer 0 (length (written (bytes_of t) x))) same ∙ ap (λ x. answer 0 (length x)) f),
      r.outcome ∙ (ap (λ x. fill (written (bytes_of t) x) o) same ∙ (ap (λ x. fill x o) f ∙ fills w o k)),
    )

-- ---- the samples
v-text : written (bytes_of «V») empty ≡ of_v
unfolding Written.written Written.head_lines Written.contact_lines Written.closing_lines Written.origin_line Written.line rows.each Written.times_lines Written.zones_line
v-text = refl

-- "Proved together as a single statement: those marked P."
pub samples : Samples
unfolding Runs.index_of Ranges.fits Token.is_token Token.all_token Utf8.is_utf8 Utf8.utf8_end Utf8.end_from Utf8.char_len Number.all_digits Number.value Number.digits_below Number.drop_plus Number.numeral Number.whole_number Number.typed_time Lines.split Lines.chop Lines.content Lines.width Lines.has_nul_or_cr Lines.plain_form Lines.form_of Split.first_piece Split.rest_after Split.words_from Split.words_at Offset.zone_offset Read.next_text Read.next_token Read.next_number Read.next_time Records.address_of Records.origin_of Records.times_of Records.attribute_of Lists.offsets_of Lists.repeat_of Lists.pairs_of Lists.zones_of Roles.before_media Step.row Step.step_role Run.run Run.begin Run.lines Run.run_stamps Run.begin_stamps Stamp.stamp_rows Stamp.stamp_all Stamp.stamped Latest.last_given Bytes.over Bytes.zeros
samples = record {
  empty_text = refuses [] _ refl refl;
  v_accepted = accepts «V» _ _ refl refl refl;
  v_written = writes «V» empty of_v refl refl v-text;
  v_forty = refl;
  v_space = refuses space_after _ refl refl;
  v_cr = refuses cr_at_end _ refl refl;
  no_letter = refuses («V» next nothing_before) _ refl refl;
  no_equals_lem = refuses («V» next no_equals) _ refl refl;
  no_interval_lem = refuses («V» next T next no_interval) _ refl refl;
  lowest_offset = accepts («V» next lowest) _ _ refl refl refl;
  too_high_lem = refuses («V» next too_high) _ refl refl;
  minus_plus_lem = accepts («V» next minus_plus) _ _ refl refl refl;
  two_zones_lem = refuses («V» next no_zones next no_zones) _ refl refl;
  two_origins = refuses («V» next some_origin next junk_origin) _ refl refl;
  empty_value_lem = accepts («V» next empty_value) _ _ refl refl refl;
  no_value_lem = accepts («V» next no_value) _ _ refl refl refl;
}
