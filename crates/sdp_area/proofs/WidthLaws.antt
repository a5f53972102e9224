-- Laws of lengths: how long each row, each field and each segment of the area is, and the area itself.
-- Assumes nothing.
use mathlib.Core.Path.{◌≡◌, ap, ◌∙◌}
use mathlib.Core.List.{List, [], ◌∷◌, ◌++◌, map, append-nil}
use Rattle.std.specs.Prelude.{Option, Some, None}
use Prim.Native.Nat.{ℕ, suc, ◌+◌}
use lib.ListN.{length, take, drop, length-append}
use Rattle.sdp_lines.specs.declared.Span.{Span}
use Rattle.sdp_cells.specs.Bytes.{le, zeros}
use Rattle.sdp_area.specs.Session.{Origin, Connection, Key, MediaConnection, Bandwidth, Time, Repeat, Offset, Zone, Attribute, Media, Session, empty}
use Rattle.sdp_area.specs.Area.{span, opt, origin_bytes, name_bytes, connection_bytes, key_bytes, media_connection_row, bandwidth_row, time_row, repeat_row, offset_row, zone_row, attribute_row, media_row, cat, segments, encode, size}
use Rattle.sdp_cells.proofs.ByteLaws.{length-le, length-zeros, zeros-add}
use Rattle.sdp_cells.proofs.TableLaws.{length-tab, tab_none}
use Rattle.sdp_area.proofs.SegmentLaws.{total, length-cat}

pub length-span : (x : Span) → length (span x) ≡ 4
unfolding span
length-span x = simp (length-append, length-le)

pub length-opt : {X : Type 0} (w : ℕ) (f : X → List ℕ) → ((x : X) → length (f x) ≡ w) → (o : Option X) → length (opt w f o) ≡ 2 + w
unfolding opt
length-opt w f wide None = length-zeros (2 + w)
length-opt w f wide (Some x) = simp (length-append, length-le, wide)

-- ---- fields
pub length-maybe : (o : Option Span) → length (opt 4 span o) ≡ 6
length-maybe = length-opt 4 span length-span

pub length_origin : (o : Origin Span) → length (origin_bytes o) ≡ 30
unfolding origin_bytes
length_origin o = simp (length-append, length-le, length-span, length-maybe)

length-name : (o : Option Span) → length (name_bytes o) ≡ 4
unfolding name_bytes
length-name None = length-zeros 4
length-name (Some x) = length-span x

pub length_connection : (c : Connection Span) → length (connection_bytes c) ≡ 12
unfolding connection_bytes
length_connection c = simp (length-append, length-span)

pub length-key : (k : Key Span) → length (key_bytes k) ≡ 10
unfolding key_bytes
length-key k = simp (length-append, length-span, length-maybe)

-- ---- rows
pub length_media_connection : (c : MediaConnection Span) → length (media_connection_row c) ≡ 14
unfolding media_connection_row
length_media_connection c = simp (length-append, length-le, length_connection)

pub length-bandwidth : (b : Bandwidth Span) → length (bandwidth_row b) ≡ 14
unfolding bandwidth_row
length-bandwidth b = simp (length-append, length-le, length-span)

pub length-time : (t : Time) → length (time_row t) ≡ 16
unfolding time_row
length-time t = simp (length-append, length-le)

pub length-repeat : (r : Repeat) → length (repeat_row r) ≡ 18
unfolding repeat_row
length-repeat r = simp (length-append, length-le)

pub length-offset : (o : Offset) → length (offset_row o) ≡ 10
unfolding offset_row
length-offset o = simp (length-append, length-le)

pub length-zone : (z : Zone) → length (zone_row z) ≡ 16
unfolding zone_row
length-zone z = simp (length-append, length-le)

pub length-attribute : (a : Attribute Span) → length (attribute_row a) ≡ 12
unfolding attribute_row
length-attribute a = simp (length-append, length-le, length-span, length-maybe)

pub length-media : (m : Media Span) → length (media_row m) ≡ 36
unfolding media_row
length-media m = simp (length-append, length-le, length-span, length-maybe, length-opt 2 (le 2) (length-le 2), length-opt 10 key_bytes length-key)

-- ---- segments
abbrev pub widths : List ℕ
widths = 32 ∷ 4 ∷ 6 ∷ 6 ∷ 14 ∷ 12 ∷ 66 ∷ 66 ∷ 898 ∷ 898 ∷ 514 ∷ 1154 ∷ 2562 ∷ 1026 ∷ 6146 ∷ 1154 ∷ []

pub segment_widths : (s : Session Span) → map length (segments s) ≡ widths
segment_widths s =
    simp (length-opt 30 origin_bytes length_origin, length-name, length-maybe, length-opt 12 connection_bytes length_connection, length-opt 10 key_bytes length-key, length-tab)

-- where the k-th begins, what stands before it and what behind it
abbrev pub start : ℕ → ℕ
start k = total (take k widths)

abbrev pub before : Session Span → ℕ → List ℕ
before s k = cat (take k (segments s))

abbrev pub behind : Session Span → ℕ → List ℕ → List ℕ
behind s k t = cat (drop (suc k) (segments s)) ++ t

pub begins : (s : Session Span) (k : ℕ) → length (before s k) ≡ start k
begins s k = length-cat (segments s) k ∙ ap (λ (ns : List ℕ). total (take k ns)) (segment_widths s)

-- ---- the area
pub length-encode : (s : Session Span) → length (encode s) ≡ size
unfolding encode
length-encode s = begins s 16

pub encode-empty : encode empty ≡ zeros size
unfolding encode cat opt name_bytes
encode-empty = simp (tab_none, append-nil, zeros-add)
