-- The b, a and m lines: what was read of a value is written so that it is read again. Assumes nothing.
use mathlib.Core.Path.{◌≡◌, refl, sym, ap, ◌∙◌}
use mathlib.Core.Bool.{Bool, true, false, cond, not}
use mathlib.Core.List.{List, [], ◌∷◌, ◌++◌, append_assoc}
use Rattle.std.specs.Prelude.{Option, Some, None, option_map, Ok, Err}
use Prim.Native.Nat.{ℕ, ◌+◌, ◌^◌, ◌<◌}
use native.Mathlib.Omega.{arith}
use lib.ListN.{length, take, drop}
use lib.Dec.{ltb, eqb}
use Rattle.sdp_bytes.specs.Runs.{index_of}
use Rattle.sdp_utf8.specs.Utf8.{is_utf8}
use Rattle.sdp_number.specs.Number.{Number, whole_number}
use Rattle.sdp_number.specs.declared.NumberError.TheVariants.{Encoding, Format}
use Rattle.sdp_split.specs.Split.{part, first_piece, piece_after, rest_after}
use Rattle.sdp_judge.specs.Read.{Read, and_then}
use Rattle.sdp_fields.specs.Records as records
use Rattle.sdp_fields.specs.Records.{bandwidth_of, attribute_of}
use Rattle.sdp_media_line.specs.MediaLine
use Rattle.sdp_media_line.specs.MediaLine.{port_number, ports_of, media_of}
use Rattle.sdp_fields.specs.declared.Bandwidth as bandwidth
use Rattle.sdp_fields.specs.declared.Attribute as attribute
use Rattle.sdp_media_line.specs.declared.Port.{Port}
use Rattle.sdp_media_line.specs.declared.Media as media
use Rattle.sdp_number.proofs.NumberLaws.{number_below}
use Rattle.sdp_area.specs.Session.{Media}
use Rattle.sdp_step.specs.Step.{maybe_in, media_in}
use Rattle.sdp_put.specs.Strings.{dropped}
use Rattle.sdp_put.specs.Digits.{digits}
use Rattle.sdp_row.specs.Written.{spaced, text, optional}
use Rattle.sdp_same.proofs.WrittenLaws.{id}
use Rattle.sdp_same.specs.Fits.{IfGiven}
use Rattle.sdp_put.proofs.ByteLaws.{every, every_append, every_take, every_drop, lacks, before_lacks, bare, clean_bare}
use Rattle.sdp_put.proofs.DigitLaws.{digits_bare}
use Rattle.sdp_back.proofs.NumberLaws.{number_back, ascii_utf8, digits-ascii}
use Rattle.sdp_back.proofs.WordLaws.{behind, cut, sep_text, cut_back, cut_none, digits_lack}
use Rattle.sdp_back.proofs.FieldLaws.{Backs, map_read, port_in, amount_in, lost, on_seen, unseen, text_in, choice_in, see_text, see_number, see_port, see_end, see_first, see_after, see_rest, see_choice, alone, Gives, gives_got, gives_then, gives_test, gives_number, gives_unseen}

-- the front of a cut, and what is behind it
front_bare : (sep : ℕ) (v : List ℕ) → bare v ≡ true → bare (cut sep v).0 ≡ true
unfolding cut
front_bare sep v h = every_take (λ b. not (dropped b)) (index_of sep v) v h

front_lacks : (sep : ℕ) (v : List ℕ) → lacks sep (cut sep v).0 ≡ true
unfolding cut
front_lacks sep v = before_lacks sep v

behind_bare : (sep : ℕ) (v : List ℕ) → bare v ≡ true → IfGiven (λ r. bare r ≡ true) (cut sep v).1
unfolding cut
behind_bare sep v h = go (ltb (index_of sep v) (length v))
  where
    go : (b : Bool) → IfGiven (λ r. bare r ≡ true) (cond b (Some (drop (index_of sep v + 1) v)) None)
    go true = every_drop (λ b. not (dropped b)) (index_of sep v + 1) v h
    go false = tt

-- a field behind a separator is the front of a cut of bytes
module _ {A : Type 0} (P : A → Type 0) (sep : ℕ) where
  gives_cut : (o : Option (List ℕ)) → IfGiven (λ r. bare r ≡ true) o → (k : List ℕ → Option (List ℕ) → Read A)
      → ((s : List ℕ) (r : Option (List ℕ)) → bare s ≡ true → lacks sep s ≡ true → IfGiven (λ r. bare r ≡ true) r → Gives P (k s r)) → Gives P (on_seen (option_map (cut sep) o) k)
  gives_cut None b k h = tt
  gives_cut (Some v) b k h = h (cut sep v).0 (cut sep v).1 (front_bare sep v b) (front_lacks sep v) (behind_bare sep v b)

  gives_alone : (o : Option (List ℕ)) → IfGiven (λ r. bare r ≡ true) o → (k : List ℕ → Unit {0} → Read A) → ((s : List ℕ) → bare s ≡ true → Gives P (k s tt)) → Gives P (on_seen (option_map alone o) k)
  gives_alone None b k h = tt
  gives_alone (Some v) b k h = h v b

-- ---- b: bwtype and bandwidth
abbrev pub bandwidth_is : List ℕ → bandwidth.Bandwidth → List ℕ × ℕ
bandwidth_is v b = (part v b.bwtype, b.bandwidth)

bandwidth_rest : List ℕ → Option (List ℕ) → Read (List ℕ × ℕ)
bandwidth_rest kind r =
    on_seen (option_map (cut 0x3a) r) (λ s r. and_then (amount_in (whole_number 64 s)) (λ n.
    unseen (option_map (cut 0x3a) r) (Ok (kind, n))))

bandwidth_from : List ℕ × Option (List ℕ) → Read (List ℕ × ℕ)
bandwidth_from c = and_then (text_in c.0) (λ kind. bandwidth_rest kind c.1)

see_bandwidth : (v : List ℕ) → map_read (bandwidth_is v) (bandwidth_of v) ≡ bandwidth_from (cut 0x3a v)
unfolding bandwidth_from bandwidth_rest records.bandwidth_of
see_bandwidth v =
    see_text _ 12 v (behind v) (first_piece 0x3a v) _ (see_first v 0x3a) _ bandwidth_rest (λ kind e q.
    see_number _ 13 v (behind v) (piece_after 0x3a v e) _ (see_after v 0x3a e) _ _ (λ n e.
    see_end _ 14 v (behind v) (piece_after 0x3a v e) _ (see_after v 0x3a e) (Ok _)))

abbrev pub BandwidthBack : List ℕ → ℕ → Type 0
BandwidthBack kind n = Backs bandwidth_of bandwidth_is (text id kind ++ ((0x3a ∷ []) ++ digits n)) (kind, n)

bandwidth-again : (kind : List ℕ) (n : ℕ) → bare kind ≡ true → lacks 0x3a kind ≡ true → is_utf8 kind ≡ true → n < 2 ^ 64 → BandwidthBack kind n
unfolding bandwidth_from bandwidth_rest every
bandwidth-again kind n b l u h =
    rw (clean_bare kind b) (record {
      says = see_bandwidth _ ∙ ap bandwidth_from (cut_back 0x3a kind (Some (digits n)) l) ∙ rw (u, cut_none 0x3a (digits n) (digits_lack 0x3a n (λ l g. omega arith)), number_back 64 n h);
      bare = every_append (λ b. not (dropped b)) kind _ b (digits_bare n);
    })

pub bandwidth_back : (v : List ℕ) (b : bandwidth.Bandwidth) → bare v ≡ true → bandwidth_of v ≡ Ok b → BandwidthBack (part v b.bwtype) b.bandwidth
unfolding bandwidth_from bandwidth_rest
bandwidth_back v b h e =
    gives_got (λ x. BandwidthBack x.0 x.1) (bandwidth_from (cut 0x3a v)) _ (sym (see_bandwidth v) ∙ ap (map_read (bandwidth_is v)) e)
    (gives_test _ is_utf8 (cut 0x3a v).0 _ (λ u.
    gives_cut _ 0x3a (cut 0x3a v).1 (behind_bare 0x3a v h) _ (λ s r x y z. gives_number _ (whole_number 64 s) _ (λ n q.
    gives_unseen _ (option_map (cut 0x3a) r) _ (bandwidth-again (cut 0x3a v).0 n (front_bare 0x3a v h) (front_lacks 0x3a v) u (number_below 64 s n q))))))

-- ---- a: a name, and perhaps a value
abbrev pub attribute_is : List ℕ → attribute.Attribute → List ℕ × Option (List ℕ)
attribute_is v a = (part v a.attribute, maybe_in (part v) a.value)

attribute_rest : List ℕ → Option (List ℕ) → Read (List ℕ × Option (List ℕ))
attribute_rest name r = and_then (choice_in r) (λ value. Ok (name, value))

attribute_from : List ℕ × Option (List ℕ) → Read (List ℕ × Option (List ℕ))
attribute_from c = and_then (text_in c.0) (λ name. attribute_rest name c.1)

see_attribute : (v : List ℕ) → map_read (attribute_is v) (attribute_of v) ≡ attribute_from (cut 0x3a v)
unfolding attribute_from attribute_rest records.attribute_of
see_attribute v =
    see_text _ 23 v (behind v) (first_piece 0x3a v) _ (see_first v 0x3a) _ attribute_rest (λ name e q.
    see_choice v _ 24 e _ (λ o. Ok (part v name, o)) (λ value. refl))

abbrev pub AttributeBack : List ℕ → Option (List ℕ) → Type 0
AttributeBack name value = Backs attribute_of attribute_is (text id name ++ optional (λ s. (0x3a ∷ []) ++ text id s) value) (name, value)

value-text : (value : Option (List ℕ)) → IfGiven (λ r. bare r ≡ true) value → (optional (λ s. (0x3a ∷ []) ++ text id s) value ≡ sep_text 0x3a value) × (bare (sep_text 0x3a value) ≡ true)
unfolding every
value-text None h = (refl, refl)
value-text (Some s) h = (ap (λ (l : List ℕ). 0x3a ∷ l) (clean_bare s h), h)

attribute-again : (name : List ℕ) (value : Option (List ℕ)) → bare name ≡ true → lacks 0x3a name ≡ true → is_utf8 name ≡ true → IfGiven (λ r. bare r ≡ true) value → IfGiven (λ r. is_utf8 r ≡ true) value → AttributeBack name value
unfolding attribute_from attribute_rest
attribute-again name value b l u c d =
    let t = value-text value c in
    rw (clean_bare name b, t.0) (record {
      says = see_attribute _ ∙ ap attribute_from (cut_back 0x3a name value l) ∙ rw u (chosen value d);
      bare = every_append (λ b. not (dropped b)) name _ b t.1;
    })
  where
    chosen : (o : Option (List ℕ)) → IfGiven (λ r. is_utf8 r ≡ true) o → attribute_rest name o ≡ Ok (name, o)
    chosen None h = refl
    chosen (Some s) h = rw h

pub attribute_back : (v : List ℕ) (a : attribute.Attribute) → bare v ≡ true → attribute_of v ≡ Ok a → AttributeBack (part v a.attribute) (maybe_in (part v) a.value)
unfolding attribute_from attribute_rest
attribute_back v a h e =
    gives_got (λ y. AttributeBack y.0 y.1) (attribute_from (cut 0x3a v)) _ (sym (see_attribute v) ∙ ap (map_read (attribute_is v)) e)
    (gives_test _ is_utf8 (cut 0x3a v).0 _ (λ u.
    gives_then _ (λ o. IfGiven (λ r. bare r ≡ true) o × IfGiven (λ r. is_utf8 r ≡ true) o) (choice_in (cut 0x3a v).1) _ (choose (cut 0x3a v).1 (behind_bare 0x3a v h)) (λ o q.
    attribute-again (cut 0x3a v).0 o (front_bare 0x3a v h) (front_lacks 0x3a v) u q.0 q.1)))
  where
    choose : (o : Option (List ℕ)) → IfGiven (λ r. bare r ≡ true) o → Gives (λ o. IfGiven (λ r. bare r ≡ true) o × IfGiven (λ r. is_utf8 r ≡ true) o) (choice_in o)
    choose None b = (tt, tt)
    choose (Some s) b = go (is_utf8 s) refl
      where
        go : (t : Bool) → is_utf8 s ≡ t → Gives (λ o. IfGiven (λ r. bare r ≡ true) o × IfGiven (λ r. is_utf8 r ≡ true) o) (map_read Some (cond t (Ok s) lost))
        go true q = (b, q)
        go false q = tt

-- ---- m: media name, port, proto, fmt
-- num-ports behind the slash
abbrev ports_from : Option (List ℕ) → Read (Option ℕ)
ports_from None = Ok None
ports_from (Some r) = and_then (port_number 30 (whole_number 16 r)) (λ n. Ok (Some n))

abbrev ported : ℕ → Option ℕ → Read Port
ported port num = Ok (record { port = port; num_ports = num })

see_ports : (s : List ℕ) → ports_of s ≡ and_then (port_number 28 (whole_number 16 (cut 0x2f s).0)) (λ port. and_then (ports_from (cut 0x2f s).1) (λ num. ported port num))
unfolding cut
see_ports s = go (ltb (index_of 0x2f s) (length s))
  where
    go : (b : Bool)
        → and_then (port_number 28 (whole_number 16 (take (index_of 0x2f s) s))) (λ port. and_then (cond b (and_then (port_number 30 (whole_number 16 (drop (index_of 0x2f s + 1) s))) (λ n. Ok (Some n))) (Ok None)) (λ num. ported port num))
        ≡ and_then (port_number 28 (whole_number 16 (take (index_of 0x2f s) s))) (λ port. and_then (ports_from (cond b (Some (drop (index_of 0x2f s + 1) s)) None)) (λ num. ported port num))
    go true = refl
    go false = refl

-- numbers of 16 bits
abbrev Ports : ℕ → Option ℕ → Type 0
Ports port num = (port < 2 ^ 16) × IfGiven (λ n. n < 2 ^ 16) num

gives_port : {A : Type 0} (P : A → Type 0) (w : ℕ) (s : List ℕ) (k : ℕ → Read A) → ((n : ℕ) → n < 2 ^ 16 → Gives P (k n)) → Gives P (and_then (port_number w (whole_number 16 s)) k)
gives_port P w s k h = go (whole_number 16 s) refl
  where
    go : (x : Number) → whole_number 16 s ≡ x → Gives P (and_then (port_number w x) k)
    go (Ok n) q = h n (number_below 16 s n q)
    go (Err e) q = tt

ports_given : (s : List ℕ) → Gives (λ p. Ports p.port p.num_ports) (port_in s)
ports_given s = go (is_utf8 s)
  where
    num : (port : ℕ) → port < 2 ^ 16 → (o : Option (List ℕ)) → Gives (λ p. Ports p.port p.num_ports) (and_then (ports_from o) (λ num. ported port num))
    num port l None = (l, tt)
    num port l (Some r) = gives_then _ (λ o. IfGiven (λ n. n < 2 ^ 16) o) (ports_from (Some r)) _ (gives_port _ 30 r _ (λ n h. h)) (λ o h. (l, h))

    kept : (r : Read Port) → Gives (λ p. Ports p.port p.num_ports) r → Gives (λ p. Ports p.port p.num_ports) (map_read (λ p. p) r)
    kept (Ok p) g = g
    kept (Err w) g = tt

    go : (b : Bool) → Gives (λ p. Ports p.port p.num_ports) (cond b (map_read (λ p. p) (ports_of s)) lost)
    go true = kept (ports_of s) (rw (see_ports s) (gives_port _ 28 (cut 0x2f s).0 _ (λ port l. num port l (cut 0x2f s).1)))
    go false = tt

-- what is written of the ports
abbrev port_text : ℕ → Option ℕ → List ℕ
port_text port num = digits port ++ optional (λ n. (0x2f ∷ []) ++ digits n) num

-- a test that digits and the slash pass
ports_pass : (p : ℕ → Bool) → ((v : ℕ) → every p (digits v) ≡ true) → p 0x2f ≡ true → (port : ℕ) (num : Option ℕ) → every p (port_text port num) ≡ true
unfolding every
ports_pass p h s port None = every_append p (digits port) [] (h port) refl
ports_pass p h s port (Some n) = every_append p (digits port) _ (h port) (rw s (h n))

ports_cut : (port : ℕ) (num : Option ℕ) → cut 0x2f (port_text port num) ≡ (digits port, option_map digits num)
ports_cut port None = cut_back 0x2f (digits port) None (digits_lack 0x2f port (λ l g. omega arith))
ports_cut port (Some n) = cut_back 0x2f (digits port) (Some (digits n)) (digits_lack 0x2f port (λ l g. omega arith))

ports_again : (port : ℕ) (num : Option ℕ) → Ports port num → port_in (port_text port num) ≡ Ok (record { port = port; num_ports = num })
ports_again port num h =
    rw (ascii_utf8 (port_text port num) (ports_pass (λ b. ltb b 0x80) digits-ascii refl port num), see_ports (port_text port num), ports_cut port num, number_back 16 port h.0)
    (ap (map_read (λ p. p)) (go num h.1))
  where
    go : (num : Option ℕ) → IfGiven (λ n. n < 2 ^ 16) num → and_then (ports_from (option_map digits num)) (λ num. ported port num) ≡ Ok (record { port = port; num_ports = num })
    go None l = refl
    go (Some n) l = rw (number_back 16 n l)

media_rest : List ℕ → Option (List ℕ) → Read (Media (List ℕ))
media_rest name r =
    on_seen (option_map (cut 0x20) r) (λ s r. and_then (port_in s) (λ p.
    on_seen (option_map (cut 0x20) r) (λ s r. and_then (text_in s) (λ proto.
    on_seen (option_map alone r) (λ s u. and_then (text_in s) (λ fmt.
    Ok (record { media = name; port = p.port; num_ports = p.num_ports; proto = proto; fmt = fmt; media_title = None; key = None })))))))

media_from : List ℕ × Option (List ℕ) → Read (Media (List ℕ))
media_from c = and_then (text_in c.0) (λ name. media_rest name c.1)

see_media : (v : List ℕ) → map_read (media_in (part v)) (media_of v) ≡ media_from (cut 0x20 v)
unfolding media_from media_rest MediaLine.media_of
see_media v =
    see_text _ 27 v (behind v) (first_piece 0x20 v) _ (see_first v 0x20) _ media_rest (λ name e q.
    see_port _ 28 v (behind v) (piece_after 0x20 v e) _ (see_after v 0x20 e) _ _ (λ p e.
    see_text _ 31 v (behind v) (piece_after 0x20 v e) _ (see_after v 0x20 e) _ _ (λ proto e q.
    see_text _ 32 v (λ i. tt) (rest_after v e) _ (see_rest v e) _ _ (λ fmt e q. refl))))

-- the m line of a media, without its title
abbrev pub media_alone : Media (List ℕ) → Media (List ℕ)
media_alone m = record { media = m.media; port = m.port; num_ports = m.num_ports; proto = m.proto; fmt = m.fmt; media_title = None; key = None }

abbrev pub media_value : Media (List ℕ) → List ℕ
media_value m =
    text id m.media
    ++ (spaced (digits m.port)
    ++ (optional (λ n. (0x2f ∷ []) ++ digits n) m.num_ports
    ++ (spaced (text id m.proto) ++ spaced (text id m.fmt))))

abbrev pub MediaBack : Media (List ℕ) → Type 0
MediaBack m = Backs media_of (λ v. media_in (part v)) (media_value m) (media_alone m)

module _ (m : Media (List ℕ)) (a : bare m.media ≡ true) (b : lacks 0x20 m.media ≡ true) (c : is_utf8 m.media ≡ true) (p : Ports m.port m.num_ports)
    (d : bare m.proto ≡ true) (e : lacks 0x20 m.proto ≡ true) (f : is_utf8 m.proto ≡ true) (g : bare m.fmt ≡ true) (h : is_utf8 m.fmt ≡ true) where
  abbrev ports : List ℕ
  ports = port_text m.port m.num_ports

  media_cuts : media_value m ≡ m.media ++ sep_text 0x20 (Some (ports ++ sep_text 0x20 (Some (m.proto ++ sep_text 0x20 (Some m.fmt)))))
  media_cuts =
      rw (clean_bare m.media a, clean_bare m.proto d, clean_bare m.fmt g)
      (ap (λ (l : List ℕ). m.media ++ ((0x20 ∷ []) ++ l)) (sym (append_assoc (digits m.port) (optional (λ n. (0x2f ∷ []) ++ digits n) m.num_ports) _)))

  media_bare : bare (m.media ++ sep_text 0x20 (Some (ports ++ sep_text 0x20 (Some (m.proto ++ sep_text 0x20 (Some m.fmt)))))) ≡ true
  unfolding every
  media_bare =
      every_append (λ b. not (dropped b)) m.media _ a
      (every_append (λ b. not (dropped b)) ports _ (ports_pass (λ b. not (dropped b)) digits_bare refl m.port m.num_ports)
      (every_append (λ b. not (dropped b)) m.proto _ d g))

  media-again : MediaBack m
  unfolding media_from media_rest
  media-again =
      rw media_cuts (record {
        says =
            see_media _
            ∙ ap media_from (cut_back 0x20 m.media (Some (ports ++ sep_text 0x20 (Some (m.proto ++ sep_text 0x20 (Some m.fmt))))) b)
            ∙ rw (c, cut_back 0x20 ports (Some (m.proto ++ sep_text 0x20 (Some m.fmt))) (ports_pass (λ b. not (eqb b 0x20)) (λ v. digits_lack 0x20 v (λ l g. omega arith)) refl m.port m.num_ports), ports_again m.port m.num_ports p, cut_back 0x20 m.proto (Some m.fmt) e, f, h);
        bare = media_bare;
      })

pub media_back : (v : List ℕ) (m : media.Media) → bare v ≡ true → media_of v ≡ Ok m → MediaBack (media_in (part v) m)
unfolding media_from media_rest
media_back v m h e =
    gives_got MediaBack (media_from (cut 0x20 v)) _ (sym (see_media v) ∙ ap (map_read (media_in (part v))) e)
    (gives_test _ is_utf8 (cut 0x20 v).0 _ (λ u.
    gives_cut _ 0x20 (cut 0x20 v).1 (behind_bare 0x20 v h) _ (λ s r x y z. gives_then _ (λ p. Ports p.port p.num_ports) (port_in s) _ (ports_given s) (λ p q.
    gives_cut _ 0x20 r z _ (λ proto r b l z. gives_test _ is_utf8 proto _ (λ t.
    gives_alone _ 0x20 r z _ (λ fmt c. gives_test _ is_utf8 fmt _ (λ d.
    media-again (record { media = (cut 0x20 v).0; port = p.port; num_ports = p.num_ports; proto = proto; fmt = fmt; media_title = None; key = None }) (front_bare 0x20 v h) (front_lacks 0x20 v) u q b l t c d))))))))
