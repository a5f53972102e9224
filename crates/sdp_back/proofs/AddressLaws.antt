-- The o and c lines: what was read of a value is written so that it is read again. Assumes nothing.
use mathlib.Core.Path.{◌≡◌, refl, sym, ap, ◌∙◌}
use mathlib.Core.Bool.{Bool, true, false, cond, ◌&&◌}
use mathlib.Core.List.{List, [], ◌∷◌, ◌++◌, map, append-nil}
use Rattle.std.specs.Prelude.{Option, Some, None, Ok, Err}
use Prim.Native.Nat.{ℕ, ◌+◌, ◌^◌, ◌<◌}
use native.Mathlib.Omega.{arith}
use lib.ListN.{length, get_or, take, drop, length-take, length-drop}
use lib.Seq.{get_or-take, get_or-drop, take-length}
use lib.Dec.{eqb, lit<}
use borrow.Author.Tests.{eqb-true, ne_eqb}
use Rattle.sdp_bytes.specs.Ranges as ranges
use Rattle.sdp_bytes.specs.Token as token
use Rattle.sdp_bytes.specs.Token.{is_token}
use Rattle.sdp_utf8.specs.Utf8 as utf8
use Rattle.sdp_utf8.specs.Utf8.{is_utf8}
use Rattle.sdp_number.specs.Number.{whole_number}
use Rattle.sdp_split.specs.Split.{part, words, next_word, later, Inside}
use Rattle.sdp_split.specs.declared.Piece.{Piece}
use Rattle.sdp_split.proofs.WordLaws.{words_inside, next_inside}
use Rattle.sdp_judge.specs.Read as field-read
use Rattle.sdp_judge.specs.Read.{Read, encoding, and_then, entire, whole_of}
use Rattle.sdp_fields.specs.Records as records
use Rattle.sdp_fields.specs.Records.{username_of, address_of, origin_of, connection_of}
use Rattle.sdp_fields.specs.declared.Origin as origin
use Rattle.sdp_fields.specs.declared.Connection as connection
use Rattle.sdp_number.proofs.NumberLaws.{number_below}
use Rattle.sdp_area.specs.Session.{Origin, Connection}
use Rattle.sdp_step.specs.Step.{maybe_in, origin_in, connection_in}
use Rattle.sdp_put.specs.Strings.{clean}
use Rattle.sdp_put.specs.Digits.{digits}
use Rattle.sdp_row.specs.Written as form
use Rattle.sdp_row.specs.Written.{spaced, text, username_text, origin_value}
use Rattle.sdp_same.proofs.WrittenLaws.{id}
use Rattle.sdp_same.specs.Fits.{Each}
use Rattle.sdp_back.specs.Again.{placeholder}
use Rattle.sdp_put.proofs.ByteLaws.{every, bare, clean_bare}
use Rattle.sdp_back.proofs.NumberLaws.{number_back}
use Rattle.sdp_back.proofs.WordLaws.{Word, spell, are_words, tails, joined_bare, words_back, digits_word}
use Rattle.sdp_back.proofs.FieldLaws.{Backs, map_read, on_seen, unseen, first, text_in, token_in, amount_in, see_text, see_token, see_number, see_end, see_next, see_then, Gives, gives_got, gives_then, gives_test, gives_number, gives_unseen, gives_word}

-- ---- one string: s, i, u, e, p
pub whole_back : (w u : ℕ) (v : List ℕ) (p : Piece) → bare v ≡ true → whole_of w v ≡ Ok p → Backs (whole_of u) part (clean (part v p)) (part v p)
unfolding field-read.whole_of
whole_back w u v p h e = go (is_utf8 v) refl e
  where
    go : (b : Bool) → is_utf8 v ≡ b → cond b (Ok (entire v)) (Err (encoding w v (entire v))) ≡ Ok p → Backs (whole_of u) part (clean (part v p)) (part v p)
    go true q e =
        let z : record { at = 0; len = length v } ≡ p = cc in
        let t : take (length v) v ≡ v = take-length v in
        rw (← z, t, clean_bare v h) (record { says = rw (q, t); bare = h })
    go false q e = absurd (let z : ◌≡◌ {A = ℕ} 0 1 = cc in omega arith)

-- ---- nettype, addrtype and address
address_from : List (List ℕ) → Read (Connection (List ℕ))
address_from ws =
    on_seen (first ws) (λ s ws. and_then (token_in s) (λ net.
    on_seen (first ws) (λ s ws. and_then (token_in s) (λ kind.
    on_seen (first ws) (λ s ws. and_then (text_in s) (λ address.
    unseen (first ws) (Ok (record { nettype = net; addrtype = kind; connection_address = address }))))))))

-- three words: two tokens and a string
record Address (c : Connection (List ℕ)) : Type 0 where
  net : Word c.nettype
  kind : Word c.addrtype
  address : Word c.connection_address
  net_token : is_token c.nettype ≡ true
  kind_token : is_token c.addrtype ≡ true
  address_text : is_utf8 c.connection_address ≡ true

address_given : (ws : List (List ℕ)) → Each Word ws → Gives Address (address_from ws)
unfolding address_from
address_given ws h =
    gives_word _ ws _ h (λ net ws a h. gives_test _ is_token net _ (λ p.
    gives_word _ ws _ h (λ kind ws b h. gives_test _ is_token kind _ (λ q.
    gives_word _ ws _ h (λ address ws c h. gives_test _ is_utf8 address _ (λ r.
    gives_unseen _ (first ws) _ (record { net = a; kind = b; address = c; net_token = p; kind_token = q; address_text = r })))))))

address_again : (c : Connection (List ℕ)) → Address c → address_from (c.nettype ∷ c.addrtype ∷ c.connection_address ∷ []) ≡ Ok c
unfolding address_from
address_again c a = rw (a.net_token, a.kind_token, a.address_text)

module _ (v : List ℕ) where
  see_address : (w : ℕ) (ws : List Piece) → map_read (connection_in (part v)) (address_of w v ws) ≡ address_from (map (part v) ws)
  unfolding address_from records.address_of field-read.next_token field-read.next_text
  see_address w ws =
      see_token _ w v _ (next_word ws) _ (see_next v ws) _ _ (λ net e q.
      see_token _ (w + 1) v _ (next_word (later ws)) _ (see_next v (later ws)) _ _ (λ kind e q.
      see_text _ (w + 2) v _ (next_word (later (later ws))) _ (see_next v (later (later ws))) _ _ (λ address e q.
      see_end _ (w + 3) v _ (next_word (later (later (later ws)))) _ (see_next v (later (later (later ws)))) (Ok _))))

-- the c line
abbrev pub connection_value : Connection (List ℕ) → List ℕ
connection_value c = text id c.nettype ++ (spaced (text id c.addrtype) ++ spaced (text id c.connection_address))

abbrev pub ConnectionBack : Connection (List ℕ) → Type 0
ConnectionBack c = Backs connection_of (λ v. connection_in (part v)) (connection_value c) c

module _ (c : Connection (List ℕ)) (a : Address c) where
  connection_tails : connection_value c ≡ c.nettype ++ tails (c.addrtype ∷ c.connection_address ∷ [])
  unfolding tails
  connection_tails = rw (clean_bare c.nettype a.net.bare, clean_bare c.addrtype a.kind.bare, clean_bare c.connection_address a.address.bare) (simp append-nil)

  connection_again : ConnectionBack c
  unfolding records.connection_of
  connection_again =
      rw connection_tails (record {
        says = see_address _ 8 (words _) ∙ ap address_from (words_back c.nettype (c.addrtype ∷ c.connection_address ∷ []) a.net (a.kind, (a.address, tt))) ∙ address_again c a;
        bare = joined_bare c.nettype (c.addrtype ∷ c.connection_address ∷ []) a.net (a.kind, (a.address, tt));
      })

pub connection_back : (v : List ℕ) (c : connection.Connection) → bare v ≡ true → connection_of v ≡ Ok c → ConnectionBack (connection_in (part v) c)
unfolding records.connection_of
connection_back v c h e =
    connection_again _ (gives_got Address (address_from (spell v)) _ (sym (see_address v 8 (words v)) ∙ ap (map_read (connection_in (part v))) e) (address_given (spell v) (are_words v h)))

-- ---- the o line
-- "Username `-` means absent"
abbrev user_in : List ℕ → Option (List ℕ)
user_in s = cond (eqb (length s) 1 && eqb (get_or s 0 0) 0x2d) None (Some s)

user_text : (x : List ℕ) → Word x → username_text id (user_in x) ≡ x
unfolding form.username_text form.or_dash
user_text x w = go (eqb (length x) 1) (eqb (get_or x 0 0) 0x2d) refl refl
  where
    dash : (y : List ℕ) → length y ≡ 1 → get_or y 0 0 ≡ 0x2d → (0x2d ∷ []) ≡ y
    dash [] l e = absurd (omega arith)
    dash (b ∷ []) l e = ap (λ (c : ℕ). c ∷ []) (sym e)
    dash (b ∷ c ∷ s) l e = absurd (omega arith)

    go : (a b : Bool) → eqb (length x) 1 ≡ a → eqb (get_or x 0 0) 0x2d ≡ b → username_text id (cond (a && b) None (Some x)) ≡ x
    go true true p q = dash x (eqb-true (length x) 1 p) (eqb-true (get_or x 0 0) 0x2d q)
    go true false p q = let l = w.some in rw (ne_eqb (length x) 0 (λ e. omega arith)) (clean_bare x w.bare)
    go false b p q = let l = w.some in rw (ne_eqb (length x) 0 (λ e. omega arith)) (clean_bare x w.bare)

origin_from : List (List ℕ) → Read (Origin (List ℕ))
origin_from ws =
    on_seen (first ws) (λ s ws. and_then (text_in s) (λ user.
    on_seen (first ws) (λ s ws. and_then (text_in s) (λ sess.
    on_seen (first ws) (λ s ws. and_then (amount_in (whole_number 64 s)) (λ n.
    and_then (address_from ws) (λ c.
    Ok (record { username = user_in user; sess_id = sess; sess_version = n; nettype = c.nettype; addrtype = c.addrtype; unicast_address = c.connection_address }))))))))

module _ (v : List ℕ) where
  see_user : (p : Piece) → Inside v p → maybe_in (part v) (username_of v p) ≡ user_in (part v p)
  see_user p h =
      let l : length (part v p) ≡ p.len = omega (arith, length-take p.len (drop p.at v), length-drop p.at v) in
      rw l (go (eqb p.len 1) refl)
    where
      go : (b : Bool) → eqb p.len 1 ≡ b
          → maybe_in (part v) (cond (b && eqb (get_or v p.at 0) 0x2d) None (Some p)) ≡ cond (b && eqb (get_or (part v p) 0 0) 0x2d) None (Some (part v p))
      go true e =
          let n = eqb-true p.len 1 e in
          let g : get_or (part v p) 0 0 ≡ get_or v p.at 0 = get_or-take p.len (drop p.at v) 0 0 (omega arith) ∙ get_or-drop p.at v 0 0 ∙ ap (λ (k : ℕ). get_or v k 0) (let z : p.at + 0 ≡ p.at = omega arith in z) in
          rw g (pick (eqb (get_or v p.at 0) 0x2d))
        where
          pick : (b : Bool) → maybe_in (part v) (cond b None (Some p)) ≡ cond b None (Some (part v p))
          pick true = refl
          pick false = refl
      go false e = refl

  see_origin : map_read (origin_in (part v)) (origin_of v) ≡ origin_from (spell v)
  unfolding origin_from records.origin_of field-read.next_text field-read.next_number
  see_origin =
      let ws = words v in
      see_text _ 1 v _ (next_word ws) _ (see_next v ws) _ _ (λ user e q.
      see_text _ 2 v _ (next_word (later ws)) _ (see_next v (later ws)) _ _ (λ sess e z.
      see_number _ 3 v _ (next_word (later (later ws))) _ (see_next v (later (later ws))) _ _ (λ n e.
      see_then _ (connection_in (part v)) (address_of 4 v (later (later (later ws)))) _ (see_address v 4 (later (later (later ws)))) _ _ (λ c.
      ap (λ o. Ok (record { username = o; sess_id = part v sess; sess_version = n; nettype = part v c.nettype; addrtype = part v c.addrtype; unicast_address = part v c.connection_address })) (see_user user (next_inside v ws (words_inside v) user _ q).0)))))

abbrev pub OriginBack : Origin (List ℕ) → Type 0
OriginBack o = Backs origin_of (λ v. origin_in (part v)) (origin_value id o) o

origin_again_lem : (user sess : List ℕ) (n : ℕ) (c : Connection (List ℕ)) → Word user → Word sess → is_utf8 user ≡ true → is_utf8 sess ≡ true → n < 2 ^ 64 → Address c
    → OriginBack (record { username = user_in user; sess_id = sess; sess_version = n; nettype = c.nettype; addrtype = c.addrtype; unicast_address = c.connection_address })
unfolding origin_from form.origin_value tails
origin_again_lem user sess n c u s p q l a =
    let rest : List (List ℕ) = sess ∷ digits n ∷ c.nettype ∷ c.addrtype ∷ c.connection_address ∷ [] in
    let fine : Each Word rest = (s, (digits_word n, (a.net, (a.kind, (a.address, tt))))) in
    rw (user_text user u, clean_bare sess s.bare, clean_bare c.nettype a.net.bare, clean_bare c.addrtype a.kind.bare, clean_bare c.connection_address a.address.bare)
    (rw (← (let z : user ++ tails rest ≡ user ++ (spaced sess ++ (spaced (digits n) ++ (spaced c.nettype ++ (spaced c.addrtype ++ spaced c.connection_address)))) = simp append-nil in z))
    (record {
      says = see_origin _ ∙ ap origin_from (words_back user rest u fine) ∙ rw (p, q, number_back 64 n l) (ap (λ r. and_then r (λ c. Ok (record { username = user_in user; sess_id = sess; sess_version = n; nettype = c.nettype; addrtype = c.addrtype; unicast_address = c.connection_address }))) (address_again c a));
      bare = joined_bare user rest u fine;
    }))

pub origin_back : (v : List ℕ) (o : origin.Origin) → bare v ≡ true → origin_of v ≡ Ok o → OriginBack (origin_in (part v) o)
unfolding origin_from
origin_back v o h e =
    gives_got OriginBack (origin_from (spell v)) _ (sym (see_origin v) ∙ ap (map_read (origin_in (part v))) e)
    (gives_word _ (spell v) _ (are_words v h) (λ user ws u h. gives_test _ is_utf8 user _ (λ p.
    gives_word _ ws _ h (λ sess ws s h. gives_test _ is_utf8 sess _ (λ q.
    gives_word _ ws _ h (λ x ws d h. gives_number _ (whole_number 64 x) _ (λ n z.
    gives_then _ Address (address_from ws) _ (address_given ws h) (λ c a.
    origin_again_lem user sess n c u s p q (number_below 64 x n z) a))))))))

-- "the placeholder .. equal to a read origin with those values"
pub placeholder_back : OriginBack placeholder
unfolding every utf8.is_utf8 utf8.utf8_end utf8.end_from utf8.char_len ranges.fits token.is_token token.all_token
placeholder_back =
    origin_again_lem (0x2d ∷ []) (0x30 ∷ []) 0 (record { nettype = placeholder.nettype; addrtype = placeholder.addrtype; connection_address = placeholder.unicast_address })
    (record { some = omega arith; whole = refl; bare = refl }) (record { some = omega arith; whole = refl; bare = refl }) refl refl (lit< tt)
    (record {
      net = record { some = omega arith; whole = refl; bare = refl };
      kind = record { some = omega arith; whole = refl; bare = refl };
      address = record { some = omega arith; whole = refl; bare = refl };
      net_token = refl;
      kind_token = refl;
      address_text = refl;
    })
