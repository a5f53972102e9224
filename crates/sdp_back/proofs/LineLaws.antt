-- Each written line, read: where it leads a session. Assumes nothing.
use mathlib.Core.Path.{◌≡◌, refl, sym, ap, ◌∙◌}
use mathlib.Core.Bool.{Bool, true, false, cond}
use mathlib.Core.List.{List, [], ◌∷◌, ◌++◌, map}
use Prim.Native.Nat.{ℕ, ◌+◌, ◌^◌, ◌≤◌, ◌<◌}
use native.Mathlib.Omega.{arith}
use lib.ListN.{length, length-map}
use lib.Dec.{eqb}
use borrow.Author.Tests.{lt-ltb, le-leb, ne_eqb}
use Rattle.sdp_split.specs.Split.{part}
use Rattle.sdp_judge.specs.Read.{Read}
use Rattle.sdp_lists.specs.Lists.{zones_of}
use Rattle.sdp_lists.specs.declared.Zone as zone
use Rattle.sdp_area.specs.Session.{Origin, Connection, MediaConnection, Bandwidth, Time, Repeat, Zone, Attribute, Media, Session}
use Rattle.sdp_area.specs.With.{with_origin, with_name, with_description, with_uri, with_connection, with_emails, with_phones, with_connections, with_bandwidths, with_times, with_repeats, with_offsets, with_zones, with_attributes, with_medias, with_last, set_last, titled}
use Rattle.sdp_area.specs.Latest.{given, last_titled}
use Rattle.sdp_area.proofs.LatestLaws.{set_last_lem, last_given_lem}
use Rattle.sdp_roles.specs.Roles as roles
use Rattle.sdp_roles.specs.Roles.{before_media, from_media}
use Rattle.sdp_roles.specs.declared.Role.{Role}
use Rattle.sdp_roles.specs.declared.Role.TheVariants as role
use Rattle.sdp_step.specs.Step as steps
use Rattle.sdp_step.specs.Step.{Reading, goes, once, row, zone_in, zones_taken, step_role}
use Rattle.sdp_row.specs.Written as form
use Rattle.sdp_row.specs.Written.{line, string_line, origin_value, connection_line, bandwidth_line, attribute_line, media_line, time_value}
use Rattle.sdp_row.proofs.FormLaws.{letter}
use Rattle.sdp_same.proofs.WrittenLaws.{id}
use Rattle.sdp_same.specs.Fits.{Each, FitTime, FitZone}
use Rattle.sdp_put.proofs.ByteLaws.{bare}
use Rattle.sdp_back.proofs.FieldLaws.{Backs, map_read}
use Rattle.sdp_back.proofs.AddressLaws.{ConnectionBack, OriginBack}
use Rattle.sdp_back.proofs.PieceLaws.{BandwidthBack, AttributeBack, MediaBack, media_alone}
use Rattle.sdp_back.proofs.TimeLaws.{time_line_back, repeat_value, repeat_line_back, zones_value, zones_line_back}
use Rattle.sdp_back.proofs.PlainLaws.{TextBack}
use Rattle.sdp_back.proofs.LeadLaws.{Leads, line_leads}
use Rattle.std.specs.Prelude.{Ok, Err}

-- ---- the shapes of a step
module _ {A X : Type 0} (read : List ℕ → Read A) (mk : List ℕ → A → X) (v : List ℕ) (x : X) (b : Backs read mk v x) where
  once_steps : (n : ℕ) (c : Bool) → c ≡ false → (k : X → Reading (List ℕ)) → once n c (read v) (λ a. goes (k (mk v a))) ≡ goes (k x)
  once_steps n c e k = rw e (go (read v) b.says)
    where
      go : (r : Read A) → map_read (mk v) r ≡ Ok x → once n false r (λ a. goes (k (mk v a))) ≡ goes (k x)
      go (Ok a) q = let z : mk v a ≡ x = cc in ap (λ y. goes (k y)) z
      go (Err w) q = absurd (let z : ◌≡◌ {A = ℕ} 0 1 = cc in omega arith)

  row_steps : (table cap c : ℕ) → c < cap → (k : X → Reading (List ℕ)) → row table cap c (read v) (λ a. k (mk v a)) ≡ goes (k x)
  unfolding steps.row
  row_steps table cap c l k = go (read v) b.says
    where
      go : (r : Read A) → map_read (mk v) r ≡ Ok x → row table cap c r (λ a. k (mk v a)) ≡ goes (k x)
      go (Ok a) q = let z : mk v a ≡ x = cc in rw (lt-ltb c cap l) (ap (λ y. goes (k y)) z)
      go (Err w) q = absurd (let z : ◌≡◌ {A = ℕ} 0 1 = cc in omega arith)

module _ (ρ : Reading (List ℕ)) where
  abbrev s : Session (List ℕ)
  s = ρ.session

  -- the same with another session
  abbrev pub to : Session (List ℕ) → Reading (List ℕ)
  to t = record { session = t; zoned = ρ.zoned }

  -- ---- before the first media
  module _ (alone : length ρ.session.tables.medias ≡ 0) where
    before_leads : (l : ℕ) (v : List ℕ) (x : Role) (τ : Reading (List ℕ)) → letter l ≡ true → bare v ≡ true → before_media l ≡ x → step_role (part v) ρ v x ≡ goes τ → Leads ρ (line l v) τ
    before_leads l v x τ good b r e = line_leads ρ τ l v good b (rw (alone, r) e)

    pub origin_leads : (o : Origin (List ℕ)) → OriginBack o → given s.head.origin ≡ false → Leads ρ (line 0x6f (origin_value id o)) (to (with_origin s o))
    unfolding roles.before_media steps.step_role
    origin_leads o b g = before_leads 0x6f _ role.Origin _ refl b.bare refl (once_steps _ _ _ _ b 12 _ g (λ o. to (with_origin s o)))

    pub name_leads : (x : List ℕ) → TextBack x → given s.head.name ≡ false → Leads ρ (string_line id 0x73 x) (to (with_name s x))
    unfolding roles.before_media steps.step_role
    name_leads x b g = before_leads 0x73 _ role.Name _ refl (b 34).bare refl (once_steps _ _ _ _ (b 34) 13 _ g (λ x. to (with_name s x)))

    pub description_leads : (x : List ℕ) → TextBack x → given s.head.description ≡ false → Leads ρ (string_line id 0x69 x) (to (with_description s x))
    unfolding roles.before_media steps.step_role
    description_leads x b g = before_leads 0x69 _ role.Description _ refl (b 35).bare refl (once_steps _ _ _ _ (b 35) 14 _ g (λ x. to (with_description s x)))

    pub uri_leads : (x : List ℕ) → TextBack x → given s.head.uri ≡ false → Leads ρ (string_line id 0x75 x) (to (with_uri s x))
    unfolding roles.before_media steps.step_role
    uri_leads x b g = before_leads 0x75 _ role.Uri _ refl (b 36).bare refl (once_steps _ _ _ _ (b 36) 15 _ g (λ x. to (with_uri s x)))

    pub connection_leads : (c : Connection (List ℕ)) → ConnectionBack c → given s.head.connection ≡ false → Leads ρ (connection_line id c) (to (with_connection s c))
    unfolding roles.before_media steps.step_role form.connection_line
    connection_leads c b g = before_leads 0x63 _ role.Connection _ refl b.bare refl (once_steps _ _ _ _ b 16 _ g (λ c. to (with_connection s c)))

    pub email_leads : (x : List ℕ) → TextBack x → length s.tables.emails < 16 → Leads ρ (string_line id 0x65 x) (to (with_emails s (s.tables.emails ++ (x ∷ []))))
    unfolding roles.before_media steps.step_role
    email_leads x b l = before_leads 0x65 _ role.Email _ refl (b 37).bare refl (row_steps _ _ _ _ (b 37) 1 16 _ l (λ x. to (with_emails s (s.tables.emails ++ (x ∷ [])))))

    pub phone_leads : (x : List ℕ) → TextBack x → length s.tables.phones < 16 → Leads ρ (string_line id 0x70 x) (to (with_phones s (s.tables.phones ++ (x ∷ []))))
    unfolding roles.before_media steps.step_role
    phone_leads x b l = before_leads 0x70 _ role.Phone _ refl (b 38).bare refl (row_steps _ _ _ _ (b 38) 2 16 _ l (λ x. to (with_phones s (s.tables.phones ++ (x ∷ [])))))

    pub time_leads : (t : Time) → FitTime t → length s.tables.times < 32 → Leads ρ (line 0x74 (time_value t)) (to (with_times s (s.tables.times ++ (t ∷ []))))
    unfolding roles.before_media steps.step_role
    time_leads t f l =
        let b = time_line_back t f in
        before_leads 0x74 _ role.Time _ refl b.bare refl (row_steps _ _ _ _ b 5 32 _ l (λ t. to (with_times s (s.tables.times ++ (t ∷ [])))))

    -- an r line, with its offsets
    pub repeat_leads : (interval duration : ℕ) (ns : List ℕ) → interval < 2 ^ 64 → duration < 2 ^ 64 → Each (λ n. n < 2 ^ 64) ns → 0 < length s.tables.times
        → length s.tables.repeats < 64 → length s.tables.offsets + length ns ≤ 256
        → Leads ρ (line 0x72 (repeat_value interval duration ns))
        (to
        (with_offsets
        (with_repeats s (s.tables.repeats ++ (record { owner = length s.tables.times; repeat_interval = interval; active_duration = duration } ∷ [])))
        (s.tables.offsets ++ map (λ (n : ℕ). record { owner = length s.tables.repeats + 1; offset = n }) ns)))
    unfolding roles.before_media steps.step_role
    repeat_leads interval duration ns a b h t l m =
        let r = repeat_line_back interval duration ns a b h in
        before_leads 0x72 _ role.Repeat _ refl r.1 refl (rw (ne_eqb (length s.tables.times) 0 (λ e. omega arith), r.0, lt-ltb (length s.tables.repeats) 64 l, le-leb (length s.tables.offsets + length ns) 256 m))

    pub zones_lead : (z : Zone) (zs : List Zone) → Each FitZone (z ∷ zs) → length (z ∷ zs) ≤ 64 → ρ.zoned ≡ false → Leads ρ (line 0x7a (zones_value z zs)) (record { session = with_zones s (z ∷ zs); zoned = true })
    unfolding roles.before_media steps.step_role
    zones_lead z zs f l q =
        let b = zones_line_back z zs f in
        before_leads 0x7a _ role.Zone _ refl b.bare refl (rw q (go (zones_of (zones_value z zs)) b.says))
      where
        go : (r : Read (List zone.Zone)) → map_read (map zone_in) r ≡ Ok (z ∷ zs) → once 17 false r (zones_taken (part (zones_value z zs)) ρ (zones_value z zs)) ≡ goes (record { session = with_zones s (z ∷ zs); zoned = true })
        go (Ok ys) e =
            let w : map zone_in ys ≡ z ∷ zs = cc in
            let n : length ys ≡ length (z ∷ zs) = sym (length-map ys zone_in) ∙ ap length w in
            rw (le-leb (length ys) 64 (omega arith), w)
        go (Err x) e = absurd (let w : ◌≡◌ {A = ℕ} 0 1 = cc in omega arith)

  -- ---- anywhere
  any_leads : (l : ℕ) (v : List ℕ) (x : Role) (τ : Reading (List ℕ)) → letter l ≡ true → bare v ≡ true → before_media l ≡ x → from_media l ≡ x → step_role (part v) ρ v x ≡ goes τ → Leads ρ (line l v) τ
  any_leads l v x τ good b r q e = line_leads ρ τ l v good b (rw (r, q) (go (eqb (length s.tables.medias) 0)))
    where
      go : (c : Bool) → step_role (part v) ρ v (cond c x x) ≡ goes τ
      go true = e
      go false = e

  pub bandwidth_leads : (b : Bandwidth (List ℕ)) → BandwidthBack b.bwtype b.bandwidth → b.owner ≡ length s.tables.medias → length s.tables.bandwidths < 64
      → Leads ρ (bandwidth_line id b) (to (with_bandwidths s (s.tables.bandwidths ++ (b ∷ []))))
  unfolding roles.before_media roles.from_media steps.step_role form.bandwidth_line
  bandwidth_leads b h o l =
      any_leads 0x62 _ role.Bandwidth _ refl h.bare refl refl
      (row_steps _ _ _ _ h 4 64 _ l (λ x. to (with_bandwidths s (s.tables.bandwidths ++ (record { owner = length s.tables.medias; bwtype = x.0; bandwidth = x.1 } ∷ []))))
      ∙ ap (λ n. goes (to (with_bandwidths s (s.tables.bandwidths ++ (record { owner = n; bwtype = b.bwtype; bandwidth = b.bandwidth } ∷ []))))) (sym o))

  pub attribute_leads : (a : Attribute (List ℕ)) → AttributeBack a.attribute a.value → a.owner ≡ length s.tables.medias → length s.tables.attributes < 512
      → Leads ρ (attribute_line id a) (to (with_attributes s (s.tables.attributes ++ (a ∷ []))))
  unfolding roles.before_media roles.from_media steps.step_role form.attribute_line
  attribute_leads a h o l =
      any_leads 0x61 _ role.Attribute _ refl h.bare refl refl
      (row_steps _ _ _ _ h 9 512 _ l (λ x. to (with_attributes s (s.tables.attributes ++ (record { owner = length s.tables.medias; attribute = x.0; value = x.1 } ∷ []))))
      ∙ ap (λ n. goes (to (with_attributes s (s.tables.attributes ++ (record { owner = n; attribute = a.attribute; value = a.value } ∷ []))))) (sym o))

  pub media_leads : (m : Media (List ℕ)) → MediaBack m → length s.tables.medias < 32 → Leads ρ (media_line id m) (to (with_medias s (s.tables.medias ++ (media_alone m ∷ []))))
  unfolding roles.before_media roles.from_media steps.step_role form.media_line
  media_leads m h l = any_leads 0x6d _ role.Media _ refl h.bare refl refl (row_steps _ _ _ _ h 10 32 _ l (λ x. to (with_medias s (s.tables.medias ++ (x ∷ [])))))

  -- ---- from the first media on
  module _ (there : 0 < length ρ.session.tables.medias) where
    from_leads : (l : ℕ) (v : List ℕ) (x : Role) (τ : Reading (List ℕ)) → letter l ≡ true → bare v ≡ true → from_media l ≡ x → step_role (part v) ρ v x ≡ goes τ → Leads ρ (line l v) τ
    from_leads l v x τ good b r e = line_leads ρ τ l v good b (rw (ne_eqb (length s.tables.medias) 0 (λ e. omega arith), r) e)

    pub media_connection_leads : (c : MediaConnection (List ℕ)) → ConnectionBack c.connection → c.owner ≡ length s.tables.medias → length s.tables.connections < 64
        → Leads ρ (connection_line id c.connection) (to (with_connections s (s.tables.connections ++ (c ∷ []))))
    unfolding roles.from_media steps.step_role form.connection_line
    media_connection_leads c h o l =
        from_leads 0x63 _ role.MediaConnection _ refl h.bare refl
        (row_steps _ _ _ _ h 3 64 _ l (λ x. to (with_connections s (s.tables.connections ++ (record { owner = length s.tables.medias; connection = x } ∷ []))))
        ∙ ap (λ n. goes (to (with_connections s (s.tables.connections ++ (record { owner = n; connection = c.connection } ∷ []))))) (sym o))

    module _ (ms : List (Media (List ℕ))) (m : Media (List ℕ)) (e : s.tables.medias ≡ ms ++ (m ∷ [])) where
      pub title_leads : (x : List ℕ) → TextBack x → given m.media_title ≡ false → Leads ρ (string_line id 0x69 x) (to (with_medias s (ms ++ (titled x m ∷ []))))
      unfolding roles.from_media steps.step_role
      title_leads x b g =
          from_leads 0x69 _ role.MediaTitle _ refl (b 33).bare refl
          (once_steps _ _ _ _ (b 33) 18 _ (ap last_titled e ∙ last_given_lem (λ n. n.media_title) ms m ∙ g) (λ x. to (with_last s (titled x)))
          ∙ ap (λ ns. goes (to (with_medias s ns))) (ap (set_last (titled x)) e ∙ set_last_lem (titled x) ms m))
