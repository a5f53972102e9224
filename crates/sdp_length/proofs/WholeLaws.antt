-- What is written of an area takes the sum over its fields and rows. Assumes nothing.
use mathlib.Core.Path.{◌≡◌, refl}
use mathlib.Core.Bool.{true}
use mathlib.Core.List.{List}
use Prim.Native.Nat.{ℕ, ◌+◌}
use native.Mathlib.Omega.{arith}
use lib.ListN.{length}
use Rattle.sdp_cells.specs.Bytes.{num}
use Rattle.sdp_area.specs.Area.{emails_at, phones_at, connections_at, bandwidths_at, repeats_at, offsets_at, attributes_at, medias_at}
use Rattle.sdp_lines.specs.Strings.{bytes_of}
use Rattle.sdp_valid.specs.Judge.{owners}
use Rattle.sdp_decode.specs.Decode
use Rattle.sdp_decode.specs.Decode.{span_of, media_connection_of, bandwidth_of, repeat_of, offset_of, attribute_of, media_of, times_in, decode}
use Rattle.sdp_row.specs.Written.{string_line, written}
use Rattle.sdp_room.proofs.CostLaws
use Rattle.sdp_room.proofs.CostLaws.{repeat_cost, offset_cost, connection_cost, bandwidth_cost, attribute_cost, media_cost, cost, written_sum}
use Rattle.sdp_length.specs.Length.{contact_length, media_connection_length, bandwidth_length, attribute_length, media_length, repeat_length, offset_length, head_length, when_length, tables_length}
use Rattle.sdp_length.proofs.LineLaws.{repeat-line, string_line_lem, head_lines_lem}
use Rattle.sdp_length.proofs.TableLaws.{rows_at_lem, times-alone}
use Rattle.sdp_length.proofs.OwnerLaws.{none_lost}

module _ (t a : List ℕ) where
  cost_is : cost (bytes_of t) (decode a) ≡ head_length t a + when_length t a + tables_length t a
  unfolding CostLaws.cost Decode.decode when_length tables_length
  cost_is =
      omega (
        arith,
        head_lines_lem t a,
        times-alone (times_in a),
        rows_at_lem repeat_cost (repeat_length a) repeat_of a (λ p. omega (arith, repeat-line a p)) 18 (num 2 a repeats_at) (repeats_at + 2),
        rows_at_lem offset_cost (offset_length a) offset_of a (λ p. omega arith) 10 (num 2 a offsets_at) (offsets_at + 2),
        rows_at_lem (λ x. length (string_line (bytes_of t) 0x65 x)) (contact_length t a) span_of a (λ p. refl) 4 (num 2 a emails_at) (emails_at + 2),
        rows_at_lem (λ x. length (string_line (bytes_of t) 0x70 x)) (contact_length t a) span_of a (λ p. omega (arith, string_line_lem t a 0x65 p, string_line_lem t a 0x70 p)) 4 (num 2 a phones_at) (phones_at + 2),
        rows_at_lem (connection_cost (bytes_of t)) (media_connection_length t a) media_connection_of a (λ p. refl) 14 (num 2 a connections_at) (connections_at + 2),
        rows_at_lem (bandwidth_cost (bytes_of t)) (bandwidth_length t a) bandwidth_of a (λ p. refl) 14 (num 2 a bandwidths_at) (bandwidths_at + 2),
        rows_at_lem (attribute_cost (bytes_of t)) (attribute_length t a) attribute_of a (λ p. refl) 12 (num 2 a attributes_at) (attributes_at + 2),
        rows_at_lem (media_cost (bytes_of t)) (media_length t a) media_of a (λ p. refl) 36 (num 2 a medias_at) (medias_at + 2),
      )

  pub written_is : owners a ≡ true → head_length t a + when_length t a + tables_length t a ≡ length (written (bytes_of t) (decode a))
  written_is h = omega (arith, written_sum (bytes_of t) (decode a), none_lost t a h, cost_is)
