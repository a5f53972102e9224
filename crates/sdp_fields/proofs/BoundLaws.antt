-- Laws of what was read: every piece of a record lies within the value.
-- Assumes nothing.
use Prim.Native.Nat.{ℕ, ◌+◌}
use native.Mathlib.Omega.{arith}
use mathlib.Core.Path.{◌≡◌}
use mathlib.Core.Bool.{Bool, true, false, ◌&&◌, cond}
use mathlib.Core.List.{List}
use lib.Dec.{eqb}
use lib.ListN.{get_or}
use Rattle.sdp_split.specs.Split.{words, next_word, later, first_piece, piece_after, rest_after, Inside}
use Rattle.sdp_judge.specs.Read
use Rattle.sdp_judge.specs.Read.{number_of}
use Rattle.sdp_fields.specs.Records.{username_of, address_of, origin_of, connection_of, bandwidth_of, attribute_of}
use Rattle.sdp_split.specs.declared.Piece.{Piece}
use Rattle.sdp_fields.specs.declared.Origin.{Origin}
use Rattle.sdp_fields.specs.declared.Connection.{Connection}
use Rattle.sdp_fields.specs.declared.Bandwidth.{Bandwidth}
use Rattle.sdp_fields.specs.declared.Attribute.{Attribute}
use Rattle.sdp_split.proofs.SplitLaws.{first_within, rest_within}
use Rattle.sdp_split.proofs.WordLaws.{AllInside, words_inside, next_inside, later_inside}
use Rattle.sdp_judge.proofs.EveryLaws.{every_got, every_amount, every_text, every_token, every_choice, every_end, every_then}
use Rattle.std.specs.Prelude.{Some, None, Ok, IfSome}

-- ---- the records of words
pub record ConnectionInside (v : List ℕ) (c : Connection) : Type 0 where
  pub nettype : Inside v c.nettype
  pub addrtype : Inside v c.addrtype
  pub address : Inside v c.connection_address

address_within : (w : ℕ) (v : List ℕ) (ws : List Piece) → AllInside v ws → (c : Connection) → address_of w v ws ≡ Ok c → ConnectionInside v c
unfolding address_of Read.next_token Read.next_text
address_within w v ws all =
    let all₁ = later_inside v ws all in
    let all₂ = later_inside v (later ws) all₁ in
    every_token _ w v _ (next_word ws) (λ net j n.
    every_token _ (w + 1) v _ (next_word (later ws)) (λ kind l k.
    every_text _ (w + 2) v _ (next_word (later (later ws))) (λ address e a.
    every_end _ (w + 3) (next_word (later (later (later ws)))) _ (every_got _ _
    (record { nettype = (next_inside v ws all net j n).0; addrtype = (next_inside v (later ws) all₁ kind l k).0; address = (next_inside v (later (later ws)) all₂ address e a).0 })))))

pub connection_within : (v : List ℕ) (c : Connection) → connection_of v ≡ Ok c → ConnectionInside v c
unfolding connection_of
connection_within v = address_within 8 v (words v) (words_inside v)

pub record OriginInside (v : List ℕ) (o : Origin) : Type 0 where
  pub username : IfSome o.username (Inside v)
  pub id : Inside v o.sess_id
  pub nettype : Inside v o.nettype
  pub addrtype : Inside v o.addrtype
  pub address : Inside v o.unicast_address

username_inside : (v : List ℕ) (p : Piece) → Inside v p → IfSome (username_of v p) (Inside v)
username_inside v p h = go (eqb p.len 1 && eqb (get_or v p.at 0) 0x2d)
  where
    go : (b : Bool) → IfSome (cond b None (Some p)) (Inside v)
    go true = tt
    go false = h

pub origin_within : (v : List ℕ) (o : Origin) → origin_of v ≡ Ok o → OriginInside v o
unfolding origin_of Read.next_text Read.next_number
origin_within v =
    let all = words_inside v in
    let all₁ = later_inside v (words v) all in
    let all₃ = later_inside v (later (later (words v))) (later_inside v (later (words v)) all₁) in
    every_text _ 1 v _ (next_word (words v)) (λ user i u.
    every_text _ 2 v _ (next_word (later (words v))) (λ id j d.
    every_amount _ (number_of 3 v (next_word (later (later (words v))))) _ (λ version l q.
    every_then _ _ (address_of 4 v (later (later (later (words v))))) _ (address_within 4 v (later (later (later (words v)))) all₃) (λ c h.
    every_got _ _ (record {
      username = username_inside v user (next_inside v (words v) all user i u).0;
      id = (next_inside v (later (words v)) all₁ id j d).0;
      nettype = h.nettype;
      addrtype = h.addrtype;
      address = h.address;
    })))))

-- ---- the records of pieces
pub bandwidth-within : (v : List ℕ) (b : Bandwidth) → bandwidth_of v ≡ Ok b → Inside v b.bwtype
unfolding bandwidth_of
bandwidth-within v =
    every_text _ 12 v _ (first_piece 0x3a v) (λ kind i k.
    every_amount _ (number_of 13 v (piece_after 0x3a v i)) _ (λ n e q.
    every_end _ 14 (piece_after 0x3a v e) _ (every_got _ _ (first_within 0x3a v kind i k).0)))

pub record AttributeInside (v : List ℕ) (a : Attribute) : Type 0 where
  pub attribute : Inside v a.attribute
  pub value : IfSome a.value (Inside v)

pub attribute-within : (v : List ℕ) (a : Attribute) → attribute_of v ≡ Ok a → AttributeInside v a
unfolding attribute_of
attribute-within v =
    every_text _ 23 v _ (first_piece 0x3a v) (λ name i n.
    let l = (first_within 0x3a v name i n).0 in
    every_choice _ 24 v _ (rest_after v i)
    (λ value e q. every_got _ _ (record { attribute = l; value = (rest_within v i value e q).0 }))
    (every_got _ _ (record { attribute = l; value = tt })))
