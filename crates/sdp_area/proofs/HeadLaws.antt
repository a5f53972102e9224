-- Laws of what a session has at most once, in the area: a field set, and whether it is there.
-- Assumes nothing.
use mathlib.Core.Path.{◌≡◌, refl, sym, ap, ◌∙◌}
use mathlib.Core.List.{List, [], ◌++◌, append_assoc}
use Rattle.std.specs.Prelude.{Option, Some, None}
use Prim.Native.Nat.{ℕ, ◌<◌}
use lib.Dec.{eqb, lit<}
use lib.ListN.{length, get_or, set, get_or-map}
use Rattle.sdp_lines.specs.declared.Span.{Span}
use Rattle.sdp_cells.specs.Bytes.{le, num, over}
use Rattle.sdp_area.specs.Session.{Origin, Connection, Session, Within}
use Rattle.sdp_area.specs.With.{with_origin, with_name, with_description, with_uri, with_connection}
use Rattle.sdp_area.specs.Area.{span, opt, origin_bytes, name_bytes, connection_bytes, cat, segments, encode, origin_at, name_at, description_at, uri_at, connection_at}
use Rattle.sdp_area.specs.Latest.{given}
use Rattle.sdp_cells.proofs.ByteLaws.{over_at, num_at, zeros-add, le_zero}
use Rattle.sdp_area.proofs.SegmentLaws.{set_view, cat_view}
use Rattle.sdp_area.proofs.WidthLaws.{widths, segment_widths, start, before, behind, begins, length-opt, length_origin, length-span, length_connection}

-- the mark of what may be absent
pub mark_at : {X : Type 0} (w : ℕ) (f : X → List ℕ) (o : Option X) (p q : List ℕ) (n : ℕ) → length p ≡ n → eqb (num 2 (p ++ (opt w f o ++ q)) n) 1 ≡ given o
unfolding opt
mark_at w f None p q n e = rw (← zeros-add 2 w, ← le_zero, append_assoc, num_at 2 0 p _ n e (lit< tt))
mark_at w f (Some x) p q n e = rw (append_assoc, num_at 2 1 p _ n e (lit< tt))

module _ (s : Session Span) (t : List ℕ) (ok : Within s) (a : List ℕ) (is : a ≡ encode s ++ t) where
  -- ---- any field, as the k-th segment
  module _ (k : ℕ) (inside : k < length (segments s)) where
    view : a ≡ before s k ++ (get_or (segments s) k [] ++ behind s k t)
    unfolding encode
    view = is ∙ cat_view (segments s) k inside t

    field_set : (bs : List ℕ) → length bs ≡ get_or widths k 0 → over a (start k) bs ≡ cat (set (segments s) k bs) ++ t
    field_set bs e =
        ap (λ (l : List ℕ). over l (start k) bs) view
        ∙ over_at (before s k) (get_or (segments s) k []) (behind s k t) bs (start k) (begins s k)
        (sym (get_or-map length (segments s) k []) ∙ ap (λ (ns : List ℕ). get_or ns k 0) (segment_widths s) ∙ sym e)
        ∙ sym (set_view (segments s) k inside t bs)

    field_mark : {X : Type 0} (w : ℕ) (f : X → List ℕ) (o : Option X) → get_or (segments s) k [] ≡ opt w f o → eqb (num 2 a (start k)) 1 ≡ given o
    field_mark w f o e =
        ap (λ (l : List ℕ). eqb (num 2 l (start k)) 1) view
        ∙ rw e (mark_at w f o (before s k) (behind s k t) (start k) (begins s k))

  -- ---- the five that are read
  pub origin_set : (x : Origin Span) → over a origin_at (le 2 1 ++ origin_bytes x) ≡ encode (with_origin s x) ++ t
  unfolding encode opt
  origin_set x = field_set 0 (lit< tt) (le 2 1 ++ origin_bytes x) (length-opt 30 origin_bytes length_origin (Some x))

  pub origin_mark : eqb (num 2 a origin_at) 1 ≡ given s.head.origin
  origin_mark = field_mark 0 (lit< tt) 30 origin_bytes s.head.origin refl

  pub name_set : (x : Span) → over a name_at (span x) ≡ encode (with_name s x) ++ t
  unfolding encode name_bytes
  name_set x = field_set 1 (lit< tt) (span x) (length-span x)

  pub description-set : (x : Span) → over a description_at (le 2 1 ++ span x) ≡ encode (with_description s x) ++ t
  unfolding encode opt
  description-set x = field_set 2 (lit< tt) (le 2 1 ++ span x) (length-opt 4 span length-span (Some x))

  pub description-mark : eqb (num 2 a description_at) 1 ≡ given s.head.description
  description-mark = field_mark 2 (lit< tt) 4 span s.head.description refl

  pub uri-set : (x : Span) → over a uri_at (le 2 1 ++ span x) ≡ encode (with_uri s x) ++ t
  unfolding encode opt
  uri-set x = field_set 3 (lit< tt) (le 2 1 ++ span x) (length-opt 4 span length-span (Some x))

  pub uri-mark : eqb (num 2 a uri_at) 1 ≡ given s.head.uri
  uri-mark = field_mark 3 (lit< tt) 4 span s.head.uri refl

  pub connection_set : (x : Connection Span) → over a connection_at (le 2 1 ++ connection_bytes x) ≡ encode (with_connection s x) ++ t
  unfolding encode opt
  connection_set x = field_set 4 (lit< tt) (le 2 1 ++ connection_bytes x) (length-opt 12 connection_bytes length_connection (Some x))

  pub connection_mark : eqb (num 2 a connection_at) 1 ≡ given s.head.connection
  connection_mark = field_mark 4 (lit< tt) 12 connection_bytes s.head.connection refl
