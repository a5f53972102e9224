-- One line does the same to a session, whatever its strings are made of. Assumes nothing.
use Prim.Native.Nat.{ℕ, ◌+◌}
use mathlib.Core.Path.{◌≡◌, refl, sym, ap, ◌∙◌}
use mathlib.Core.Bool.{Bool, true, false, cond}
use mathlib.Core.List.{List, [], ◌∷◌, ◌++◌, map, map-append}
use Rattle.std.specs.Prelude.{Option, Some, None, IfSome, option_map, Ok, Err}
use lib.Dec.{ltb, leb, eqb}
use lib.ListN.{length, length-map}
use Rattle.sdp_judge.specs.Read.{Read, whole_of}
use Rattle.sdp_fields.specs.Records.{origin_of, connection_of, bandwidth_of, times_of, attribute_of}
use Rattle.sdp_media_line.specs.MediaLine.{media_of}
use Rattle.sdp_lists.specs.Lists.{RepeatLine, repeat_of, zones_of}
use Rattle.sdp_split.specs.Split.{Inside}
use Rattle.sdp_split.specs.declared.Piece.{Piece}
use Rattle.sdp_fields.specs.declared.Origin as origin
use Rattle.sdp_fields.specs.declared.Connection as connection
use Rattle.sdp_media_line.specs.declared.Media as media
use Rattle.sdp_fields.proofs.BoundLaws.{OriginInside, origin_within, ConnectionInside, connection_within, attribute-within, bandwidth-within}
use Rattle.sdp_media_line.proofs.BoundLaws.{MediaInside, media-within}
use Rattle.sdp_judge.proofs.EveryLaws.{Every, whole-within}
use Rattle.sdp_area.specs.Session.{Media, Session}
use Rattle.sdp_area.specs.With as change
use Rattle.sdp_area.specs.With.{with_origin, with_name, with_description, with_uri, with_connection, with_emails, with_phones, with_connections, with_bandwidths, with_zones, with_attributes, with_medias, set_last, titled}
use Rattle.sdp_area.specs.Latest as latest
use Rattle.sdp_area.specs.Latest.{given, last_given}
use Rattle.sdp_step.specs.Step as steps
use Rattle.sdp_step.specs.Step.{Reading, Stepped, goes, stop, once, row, maybe_in, origin_in, connection_in, media_in, zone_in, repeated, zones_taken, step_role, step}
use Rattle.sdp_roles.specs.Roles.{role_at}
use Rattle.sdp_roles.specs.declared.Role.{Role}
use Rattle.sdp_roles.specs.declared.Role.TheVariants as role
use Rattle.sdp_same.specs.Said.{said_origin, said_connection, said_media_connection, said_bandwidth, said_attribute, said_media, said_reading, said_step}

-- ---- lists and what may be absent
given-said : {X Y : Type 0} (h : X → Y) (o : Option X) → given o ≡ given (option_map h o)
given-said h None = refl
given-said h (Some x) = refl

-- one row more
snoc_said : {X Y : Type 0} (h : X → Y) (xs : List X) (x : X) (y : Y) → h x ≡ y → map h (xs ++ (x ∷ [])) ≡ map h xs ++ (y ∷ [])
snoc_said h xs x y e = map-append h xs (x ∷ []) ∙ ap (λ z. map h xs ++ (z ∷ [])) e

-- the latest row changed
last_said : {X Y : Type 0} (h : X → Y) (g : X → X) (k : Y → Y) → ((x : X) → h (g x) ≡ k (h x)) → (xs : List X) → map h (set_last g xs) ≡ set_last k (map h xs)
unfolding change.set_last
last_said h g k e [] = refl
last_said h g k e (x ∷ []) = ap (λ y. y ∷ []) (e x)
last_said h g k e (x ∷ y ∷ ys) = ap (λ l. h x ∷ l) (last_said h g k e (y ∷ ys))

-- and asked
last_given_said : {X Y A B : Type 0} (h : X → Y) (o : X → Option A) (p : Y → Option B) → ((x : X) → given (o x) ≡ given (p (h x))) → (xs : List X) → last_given o xs ≡ last_given p (map h xs)
unfolding latest.last_given
last_given_said h o p e [] = refl
last_given_said h o p e (x ∷ []) = e x
last_given_said h o p e (x ∷ y ∷ ys) = last_given_said h o p e (y ∷ ys)

module _ {S T : Type 0} (f : S → T) where
  -- ---- the shapes of a step
  once-said : {A : Type 0} (n : ℕ) (b b' : Bool) → b ≡ b' → (r : Read A) (k : A → Stepped S) (k' : A → Stepped T) → Every (λ x. said_step f (k x) ≡ k' x) r → said_step f (once n b r k) ≡ once n b' r k'
  once-said n b b' e r k k' h = go b r h ∙ ap (λ (c : Bool). once n c r k') e
    where
      go : (b : Bool) (r : Read _) → Every (λ x. said_step f (k x) ≡ k' x) r → said_step f (once n b r k) ≡ once n b r k'
      go true r h = refl
      go false (Ok x) h = h x refl
      go false (Err w) h = refl

  room_said : (b : Bool) (table : ℕ) (ρ : Reading S) (τ : Reading T) → said_reading f ρ ≡ τ → said_step f (cond b (goes ρ) (stop 21 table)) ≡ cond b (goes τ) (stop 21 table)
  room_said true table ρ τ e = ap goes e
  room_said false table ρ τ e = refl

  row-said : {A : Type 0} (table cap c c' : ℕ) → c ≡ c' → (r : Read A) (k : A → Reading S) (k' : A → Reading T) → Every (λ x. said_reading f (k x) ≡ k' x) r → said_step f (row table cap c r k) ≡ row table cap c' r k'
  unfolding steps.row
  row-said table cap c c' e r k k' h = go r h ∙ ap (λ (n : ℕ). row table cap n r k') e
    where
      go : (r : Read _) → Every (λ x. said_reading f (k x) ≡ k' x) r → said_step f (row table cap c r k) ≡ row table cap c r k'
      go (Ok x) h = room_said (ltb c cap) table (k x) (k' x) (h x refl)
      go (Err w) h = refl

  -- ---- a line whose value is v: mk makes its strings, and what f says of them mk' makes
  module _ (v : List ℕ) (mk : Piece → S) (mk' : Piece → T) (same : (p : Piece) → Inside v p → f (mk p) ≡ mk' p) where
    maybe-said : (m : Option Piece) → IfSome m (Inside v) → option_map f (maybe_in mk m) ≡ maybe_in mk' m
    maybe-said (Some p) h = ap Some (same p h)
    maybe-said None h = refl

    origin_said : (o : origin.Origin) → OriginInside v o → said_origin f (origin_in mk o) ≡ origin_in mk' o
    origin_said o h = λ i.
        record { username = maybe-said o.username h.username i; sess_id = same o.sess_id h.id i; sess_version = o.sess_version; nettype = same o.nettype h.nettype i; addrtype = same o.addrtype h.addrtype i; unicast_address = same o.unicast_address h.address i }

    connection_said : (c : connection.Connection) → ConnectionInside v c → said_connection f (connection_in mk c) ≡ connection_in mk' c
    connection_said c h = λ i.
        record { nettype = same c.nettype h.nettype i; addrtype = same c.addrtype h.addrtype i; connection_address = same c.connection_address h.address i }

    media-said : (m : media.Media) → MediaInside v m → said_media f (media_in mk m) ≡ media_in mk' m
    media-said m h = λ i.
        record { media = same m.media h.media i; port = m.port; num_ports = m.num_ports; proto = same m.proto h.proto i; fmt = same m.fmt h.fmt i; media_title = None; key = None }

    module _ (ρ : Reading S) where
      abbrev s : Session S
      s = ρ.session

      abbrev τ : Reading T
      τ = said_reading f ρ

      abbrev keep : Session T → Reading T
      keep x = record { session = x; zoned = ρ.zoned }

      owner_said : length s.tables.medias ≡ length τ.session.tables.medias
      owner_said = sym (length-map s.tables.medias (said_media f))

      step-said : (x : Role) → said_step f (step_role mk ρ v x) ≡ step_role mk' τ v x
      unfolding steps.step_role
      step-said role.Origin =
          once-said 12 _ _ (given-said (said_origin f) s.head.origin) (origin_of v) _ _ (λ o q. ap (λ y. goes (keep (with_origin τ.session y))) (origin_said o (origin_within v o q)))
      step-said role.Name = once-said 13 _ _ (given-said f s.head.name) (whole_of 34 v) _ _ (λ p q. ap (λ y. goes (keep (with_name τ.session y))) (same p (whole-within 34 v p q)))
      step-said role.Description =
          once-said 14 _ _ (given-said f s.head.description) (whole_of 35 v) _ _ (λ p q. ap (λ y. goes (keep (with_description τ.session y))) (same p (whole-within 35 v p q)))
      step-said role.Uri = once-said 15 _ _ (given-said f s.head.uri) (whole_of 36 v) _ _ (λ p q. ap (λ y. goes (keep (with_uri τ.session y))) (same p (whole-within 36 v p q)))
      step-said role.Connection =
          once-said 16 _ _ (given-said (said_connection f) s.head.connection) (connection_of v) _ _
          (λ c q. ap (λ y. goes (keep (with_connection τ.session y))) (connection_said c (connection_within v c q)))
      step-said role.Zone =
          once-said 17 ρ.zoned _ refl (zones_of v) (zones_taken mk ρ v) (zones_taken mk' τ v)
          (λ zs q. room_said (leb (length zs) 64) 8 (record { session = with_zones s (map zone_in zs); zoned = true }) _ refl)
      step-said role.MediaTitle =
          once-said 18 _ _ (last_given_said (said_media f) (λ m. m.media_title) (λ m. m.media_title) (λ m. given-said f m.media_title) s.tables.medias) (whole_of 33 v) _ _
          (λ p q. ap (λ y. goes (keep (with_medias τ.session y))) (last_said (said_media f) (titled (mk p)) (titled (mk' p)) (λ m. ap (λ y. titled y (said_media f m)) (same p (whole-within 33 v p q))) s.tables.medias))
      step-said role.Email =
          row-said 1 16 _ _ (sym (length-map s.tables.emails f)) (whole_of 37 v) _ _
          (λ p q. ap (λ y. keep (with_emails τ.session y)) (snoc_said f s.tables.emails (mk p) (mk' p) (same p (whole-within 37 v p q))))
      step-said role.Phone =
          row-said 2 16 _ _ (sym (length-map s.tables.phones f)) (whole_of 38 v) _ _
          (λ p q. ap (λ y. keep (with_phones τ.session y)) (snoc_said f s.tables.phones (mk p) (mk' p) (same p (whole-within 38 v p q))))
      step-said role.MediaConnection =
          row-said 3 64 _ _ (sym (length-map s.tables.connections (said_media_connection f))) (connection_of v) _ _
          (λ c q. ap (λ y. keep (with_connections τ.session y))
          (snoc_said (said_media_connection f) s.tables.connections _ _ (λ i. record { owner = owner_said i; connection = connection_said c (connection_within v c q) i })))
      step-said role.Bandwidth =
          row-said 4 64 _ _ (sym (length-map s.tables.bandwidths (said_bandwidth f))) (bandwidth_of v) _ _
          (λ b q. ap (λ y. keep (with_bandwidths τ.session y))
          (snoc_said (said_bandwidth f) s.tables.bandwidths _ _ (λ i. record { owner = owner_said i; bwtype = same b.bwtype (bandwidth-within v b q) i; bandwidth = b.bandwidth })))
      step-said role.Time = row-said 5 32 _ _ refl (times_of v) _ _ (λ t q. refl)
      step-said role.Repeat = go (eqb (length s.tables.times) 0) (repeat_of v)
        where
          room : (b c : Bool) (x : Reading S) → said_step f (cond b (cond c (goes x) (stop 21 7)) (stop 21 6)) ≡ cond b (cond c (goes (said_reading f x)) (stop 21 7)) (stop 21 6)
          room true c x = room_said c 7 x _ refl
          room false c x = refl

          go : (b : Bool) (r : Read RepeatLine) → said_step f (cond b (stop 20 0) (repeated mk ρ v r)) ≡ cond b (stop 20 0) (repeated mk' τ v r)
          go true r = refl
          go false (Ok r) = room (ltb (length s.tables.repeats) 64) (leb (length s.tables.offsets + length r.offsets) 256) _
          go false (Err w) = refl
      step-said role.Attribute =
          row-said 9 512 _ _ (sym (length-map s.tables.attributes (said_attribute f))) (attribute_of v) _ _
          (λ a q. ap (λ y. keep (with_attributes τ.session y))
          (snoc_said (said_attribute f) s.tables.attributes _ _ (λ i. record { owner = owner_said i; attribute = same a.attribute (attribute-within v a q).attribute i; value = maybe-said a.value (attribute-within v a q).value i })))
      step-said role.Media =
          row-said 10 32 _ _ owner_said (media_of v) _ _
          (λ m q. ap (λ y. keep (with_medias τ.session y)) (snoc_said (said_media f) s.tables.medias (media_in mk m) (media_in mk' m) (media-said m (media-within v m q))))
      step-said role.Nothing = refl

      -- a line of the letter l
      pub line-said : (l : ℕ) → said_step f (step mk ρ v l) ≡ step mk' τ v l
      line-said l = step-said (role_at (length s.tables.medias) l) ∙ ap (λ (n : ℕ). step_role mk' τ v (role_at n l)) owner_said
