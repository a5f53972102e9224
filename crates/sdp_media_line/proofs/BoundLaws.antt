-- Laws of what was read: every piece of a media lies within the value, and its ports have 16 bits.
-- Assumes nothing.
use Prim.Native.Nat.{ℕ, ◌+◌, ◌<◌}
use native.Mathlib.Omega.{arith}
use mathlib.Core.Path.{◌≡◌, refl}
use mathlib.Core.List.{List}
use lib.Dec.{ltb}
use lib.ListN.{length, take, drop}
use Rattle.sdp_bytes.specs.Runs.{index_of}
use Rattle.sdp_utf8.specs.Utf8.{is_utf8}
use Rattle.sdp_number.specs.Number.{Number, whole_number}
use Rattle.sdp_number.proofs.NumberLaws.{number_below}
use Rattle.sdp_split.specs.Split.{Field, part, first_piece, piece_after, rest_after, Inside}
use Rattle.sdp_judge.specs.Read.{Read, and_then, after}
use Rattle.sdp_media_line.specs.MediaLine.{port_number, num_ports, port_of, port_field, media_of}
use Rattle.sdp_media_line.specs.declared.Port.{Port}
use Rattle.sdp_media_line.specs.declared.Media.{Media}
use Rattle.sdp_split.specs.declared.Piece.{Piece}
use Rattle.sdp_split.proofs.SplitLaws.{first_within, after-within, rest_within}
use Rattle.sdp_judge.proofs.EveryLaws.{Every, every_got, never, every_cond, every_then, every_text}
use Rattle.std.specs.Prelude.{Option, Some, None, Ok, Err, IfSome}

-- ---- each field on the way to the record
module _ {A : Type 0} (P : A → Type 0) where
  pub every_number : (w : ℕ) (x : Number) (k : ℕ → Read A) → ((n : ℕ) → x ≡ Ok n → Every P (k n)) → Every P (and_then (port_number w x) k)
  every_number w (Ok n) k h = h n refl
  every_number w (Err e) k h = never _ _

  pub every_port : (v : List ℕ) (k : Port → ℕ → Read A) (f : Field) → ((p : Port) (e : ℕ) (x : Piece) → f ≡ Some (x, e) → port_of v x ≡ Ok p → Every P (k p e))
      → Every P (after (port_field v f) k)
  every_port v k None h = never _ _
  every_port v k (Some (x, e)) h = go (port_of v x) refl
    where
      go : (r : Read Port) → port_of v x ≡ r → Every P (after (and_then r (λ port. Ok (port, e))) k)
      go (Ok p) q = h p e x refl q
      go (Err w) q = never _ _

-- both numbers of a port's field have 16 bits
pub record Ports (p : ℕ) (n : Option ℕ) : Type 0 where
  pub port : p < 65536
  pub num : IfSome n (λ n. n < 65536)

ports : (v : List ℕ) (x : Piece) (p : Port) → port_of v x ≡ Ok p → Ports p.port p.num_ports
unfolding port_of
ports v x =
    let s = part v x in
    let before = take (index_of 0x2f s) s in
    let behind = drop (index_of 0x2f s + 1) s in
    every_cond _ (is_utf8 s) _ _
    (every_number _ 28 (whole_number 16 before) _ (λ p q.
    let l = number_below 16 before p q in
    every_then _ (λ n. IfSome n (λ n. n < 65536)) (num_ports s (index_of 0x2f s)) _
    (every_cond _ (ltb (index_of 0x2f s) (length s)) _ _
    (every_number _ 30 (whole_number 16 behind) _ (λ n r. every_got _ _ (number_below 16 behind n r)))
    (every_got _ _ tt))
    (λ n r. every_got _ _ (record { port = l; num = r }))))
    (never _ _)

pub record MediaInside (v : List ℕ) (m : Media) : Type 0 where
  pub media : Inside v m.media
  pub ports : Ports m.port m.num_ports
  pub proto : Inside v m.proto
  pub fmt : Inside v m.fmt

pub media-within : (v : List ℕ) (m : Media) → media_of v ≡ Ok m → MediaInside v m
unfolding media_of
media-within v =
    every_text _ 27 v _ (first_piece 0x20 v) (λ name i n.
    every_port _ v _ (piece_after 0x20 v i) (λ port j x q b.
    every_text _ 31 v _ (piece_after 0x20 v j) (λ proto l p.
    every_text _ 32 v _ (rest_after v l) (λ fmt e f.
    every_got _ _ (record {
      media = (first_within 0x20 v name i n).0;
      ports = ports v x port b;
      proto = (after-within 0x20 v j proto l p).0;
      fmt = (rest_within v l fmt e f).0;
    })))))
