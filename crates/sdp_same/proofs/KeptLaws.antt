-- Each line keeps a session sound, or is refused with a number. Assumes nothing.
use Prim.Native.Nat.{ℕ, ◌+◌, ◌^◌, ◌≤◌, ◌<◌}
use native.Mathlib.Omega.{arith}
use mathlib.Core.Path.{◌≡◌, refl, sym}
use mathlib.Core.Bool.{Bool, true, false, cond}
use mathlib.Core.List.{List, [], ◌∷◌, ◌++◌, map}
use borrow.Author.Tests.{ltb-true, leb-true, eqb-false}
use lib.Dec.{ltb, leb, eqb, lit<}
use lib.ListN.{length, length-append, length-map}
use Rattle.sdp_lines.specs.declared.Span.{Span}
use Rattle.sdp_judge.specs.Read.{Read, whole_of}
use Rattle.sdp_fields.specs.Records.{origin_of, connection_of, bandwidth_of, times_of, attribute_of}
use Rattle.sdp_media_line.specs.MediaLine.{media_of}
use Rattle.sdp_lists.specs.Lists.{RepeatLine, repeat_of, zones_of}
use Rattle.sdp_split.specs.declared.Piece.{Piece}
use Rattle.sdp_area.specs.Session.{MediaConnection, Bandwidth, Repeat, Offset, Attribute, Media, Head, Tables, Session}
use Rattle.sdp_area.specs.With.{with_medias, titled, with_last}
use Rattle.sdp_area.specs.Latest.{given, last_titled}
use Rattle.sdp_step.proofs.OnceLaws.{length_last}
use Rattle.sdp_roles.specs.Roles as roles
use Rattle.sdp_roles.specs.Roles.{before_media, from_media}
use Rattle.sdp_step.specs.Step as steps
use Rattle.sdp_step.specs.Step.{Reading, Stepped, goes, stops, stop, once, row, media_in, zone_in, repeated, zones_taken, step_role, step}
use Rattle.sdp_roles.specs.declared.Role.{Role}
use Rattle.sdp_roles.specs.declared.Role.TheVariants as role
use Rattle.sdp_same.specs.Fits.{Rows, FitMedia, FitOffset, FitHead, FitTables}
use Rattle.sdp_same.specs.Sound.{Owned, Sound}
use Rattle.sdp_same.proofs.FineLaws.{Fine, Gives, FitLine, time-fit, repeat-fit, zones-fit, whole_fine, origin_fit, connection_fit, bandwidth-fit, attribute-fit, media-fit}
use Rattle.sdp_same.proofs.RowLaws.{each_map, rows_append, rows_more, rows_last, rising_more, rising-append}
use Rattle.std.specs.Prelude.{Ok, Err}

-- Q of what goes on; what stops has a number that is not 0
abbrev pub Goes : (Reading Span → Type 0) → Stepped Span → Type 0
Goes Q (goes τ) = Q τ
Goes Q (stops w) = 0 < w.number

-- ---- the shapes of a step
module _ (Q : Reading Span → Type 0) where
  room_goes : (b : Bool) (table : ℕ) (τ : Reading Span) → (b ≡ true → Q τ) → Goes Q (cond b (goes τ) (stop 21 table))
  room_goes true table τ h = h refl
  room_goes false table τ h = lit< tt

  module _ {A : Type 0} (P : A → Type 0) where
    once_goes : (n : ℕ) → 0 < n → (b : Bool) (r : Read A) → Gives P r → (k : A → Stepped Span) → ((x : A) → P x → Goes Q (k x)) → Goes Q (once n b r k)
    once_goes n l true r g k h = l
    once_goes n l false (Ok x) g k h = h x g
    once_goes n l false (Err w) g k h = g

    row_goes : (table cap c : ℕ) (r : Read A) → Gives P r → (k : A → Reading Span) → ((x : A) → P x → c < cap → Q (k x)) → Goes Q (row table cap c r k)
    unfolding steps.row
    row_goes table cap c (Ok x) g k h = room_goes (ltb c cap) table (k x) (λ e. h x g (ltb-true c cap e))
    row_goes table cap c (Err w) g k h = g

-- ---- a line whose value is v: mk makes its strings, with P of each
module _ (v : List ℕ) (mk : Piece → Span) (P : Span → Type 0) (fine : (p : Piece) → Fine v p → P (mk p)) (ρ : Reading Span) (sound : Sound P ρ.session) where
  abbrev s : Session Span
  s = ρ.session

  abbrev H : FitHead P s.head
  H = sound.fits.head

  abbrev T : FitTables P s.tables
  T = sound.fits.tables

  abbrev O : Owned s.tables
  O = sound.owned

  abbrev Kept : Reading Span → Type 0
  Kept τ = Sound P τ.session

  abbrev Keeps : Role → Type 0
  Keeps x = Goes Kept (step_role mk ρ v x)

  head_kept : (x : Head Span) → FitHead P x → Sound P (record { head = x; tables = s.tables })
  head_kept x f = record { fits = record { head = f; tables = T }; owned = O }

  tables-kept : (t : Tables Span) → FitTables P t → Owned t → Sound P (record { head = s.head; tables = t })
  tables-kept t f o = record { fits = record { head = H; tables = f }; owned = o }

  -- an owner has room in its cell
  small : length s.tables.medias < 65536
  small = let l = T.medias.few in omega arith

  -- ---- the head
  origin_kept : Keeps role.Origin
  unfolding steps.step_role
  origin_kept = once_goes Kept _ 12 (lit< tt) (given s.head.origin) (origin_of v) (origin_fit v mk P fine) _ (λ o f. head_kept _ (record { origin = f; name = H.name; description = H.description; uri = H.uri; connection = H.connection; key = H.key }))

  name-kept : Keeps role.Name
  unfolding steps.step_role
  name-kept = once_goes Kept _ 13 (lit< tt) (given s.head.name) (whole_of 34 v) (whole_fine 34 v) _ (λ p f. head_kept _ (record { origin = H.origin; name = fine p f; description = H.description; uri = H.uri; connection = H.connection; key = H.key }))

  description-kept : Keeps role.Description
  unfolding steps.step_role
  description-kept = once_goes Kept _ 14 (lit< tt) (given s.head.description) (whole_of 35 v) (whole_fine 35 v) _ (λ p f. head_kept _ (record { origin = H.origin; name = H.name; description = fine p f; uri = H.uri; connection = H.connection; key = H.key }))

  uri-kept : Keeps role.Uri
  unfolding steps.step_role
  uri-kept = once_goes Kept _ 15 (lit< tt) (given s.head.uri) (whole_of 36 v) (whole_fine 36 v) _ (λ p f. head_kept _ (record { origin = H.origin; name = H.name; description = H.description; uri = fine p f; connection = H.connection; key = H.key }))

  connection_kept : Keeps role.Connection
  unfolding steps.step_role
  connection_kept = once_goes Kept _ 16 (lit< tt) (given s.head.connection) (connection_of v) (connection_fit v mk P fine) _ (λ c f. head_kept _ (record { origin = H.origin; name = H.name; description = H.description; uri = H.uri; connection = f; key = H.key }))

  -- ---- tables without owners
  emails-kept : Keeps role.Email
  unfolding steps.step_role
  emails-kept =
      row_goes Kept _ 1 16 _ (whole_of 37 v) (whole_fine 37 v) _ (λ p f room.
      tables-kept _ (record { emails = rows_more P 16 s.tables.emails T.emails (mk p) (fine p f) room; phones = T.phones; connections = T.connections; bandwidths = T.bandwidths; times = T.times; repeats = T.repeats; offsets = T.offsets; zones = T.zones; attributes = T.attributes; medias = T.medias }) O)

  phones-kept : Keeps role.Phone
  unfolding steps.step_role
  phones-kept =
      row_goes Kept _ 2 16 _ (whole_of 38 v) (whole_fine 38 v) _ (λ p f room.
      tables-kept _ (record { emails = T.emails; phones = rows_more P 16 s.tables.phones T.phones (mk p) (fine p f) room; connections = T.connections; bandwidths = T.bandwidths; times = T.times; repeats = T.repeats; offsets = T.offsets; zones = T.zones; attributes = T.attributes; medias = T.medias }) O)

  zones-kept : Keeps role.Zone
  unfolding steps.step_role
  zones-kept =
      once_goes Kept _ 17 (lit< tt) ρ.zoned (zones_of v) (zones-fit v) (zones_taken mk ρ v) (λ zs f.
      room_goes Kept (leb (length zs) 64) 8 _ (λ e.
      tables-kept _ (record { emails = T.emails; phones = T.phones; connections = T.connections; bandwidths = T.bandwidths; times = T.times; repeats = T.repeats; offsets = T.offsets; zones = record { few = omega (arith, length-map zs zone_in, leb-true (length zs) 64 e); each = f }; attributes = T.attributes; medias = T.medias }) O))

  -- ---- rows with owners
  connections-kept : 1 ≤ length s.tables.medias → Keeps role.MediaConnection
  unfolding steps.step_role
  connections-kept some =
      row_goes Kept _ 3 64 _ (connection_of v) (connection_fit v mk P fine) _ (λ c f room.
      tables-kept _
      (record { emails = T.emails; phones = T.phones; connections = rows_more _ 64 s.tables.connections T.connections _ (record { owner = small; connection = f }) room; bandwidths = T.bandwidths; times = T.times; repeats = T.repeats; offsets = T.offsets; zones = T.zones; attributes = T.attributes; medias = T.medias })
      (record { connections = rising-append (λ (c : MediaConnection Span). c.owner) _ s.tables.connections 1 some O.connections _ (refl, tt); bandwidths = O.bandwidths; repeats = O.repeats; offsets = O.offsets; attributes = O.attributes }))

  bandwidths-kept : Keeps role.Bandwidth
  unfolding steps.step_role
  bandwidths-kept =
      row_goes Kept _ 4 64 _ (bandwidth_of v) (bandwidth-fit v mk P fine _ small) _ (λ b f room.
      tables-kept _
      (record { emails = T.emails; phones = T.phones; connections = T.connections; bandwidths = rows_more _ 64 s.tables.bandwidths T.bandwidths _ f room; times = T.times; repeats = T.repeats; offsets = T.offsets; zones = T.zones; attributes = T.attributes; medias = T.medias })
      (record { connections = O.connections; bandwidths = rising-append (λ (b : Bandwidth Span). b.owner) _ s.tables.bandwidths 0 (omega arith) O.bandwidths _ (refl, tt); repeats = O.repeats; offsets = O.offsets; attributes = O.attributes }))

  attributes-kept : Keeps role.Attribute
  unfolding steps.step_role
  attributes-kept =
      row_goes Kept _ 9 512 _ (attribute_of v) (attribute-fit v mk P fine _ small) _ (λ x f room.
      tables-kept _
      (record { emails = T.emails; phones = T.phones; connections = T.connections; bandwidths = T.bandwidths; times = T.times; repeats = T.repeats; offsets = T.offsets; zones = T.zones; attributes = rows_more _ 512 s.tables.attributes T.attributes _ f room; medias = T.medias })
      (record { connections = O.connections; bandwidths = O.bandwidths; repeats = O.repeats; offsets = O.offsets; attributes = rising-append (λ (a : Attribute Span). a.owner) _ s.tables.attributes 0 (omega arith) O.attributes _ (refl, tt) }))

  -- ---- the owners: times, and repeats with their offsets
  times-kept : Keeps role.Time
  unfolding steps.step_role
  times-kept =
      row_goes Kept _ 5 32 _ (times_of v) (time-fit v) _ (λ t f room.
      tables-kept _
      (record { emails = T.emails; phones = T.phones; connections = T.connections; bandwidths = T.bandwidths; times = rows_more _ 32 s.tables.times T.times _ f room; repeats = T.repeats; offsets = T.offsets; zones = T.zones; attributes = T.attributes; medias = T.medias })
      (record { connections = O.connections; bandwidths = O.bandwidths; repeats = rising_more (λ (r : Repeat). r.owner) _ _ (let e = length-append s.tables.times (steps.time_in t ∷ []) in omega arith) s.tables.repeats 1 O.repeats; offsets = O.offsets; attributes = O.attributes }))

  repeats-kept : Keeps role.Repeat
  unfolding steps.step_role
  repeats-kept = go (eqb (length s.tables.times) 0) refl (repeat_of v) (repeat-fit v)
    where
      taken : (r : RepeatLine) → FitLine r → 1 ≤ length s.tables.times → length s.tables.repeats < 64 → length s.tables.offsets + length r.offsets ≤ 256 → Sound P (steps.with_repeat s (steps.repeat_in (length s.tables.times) r) r.offsets)
      taken r f some room rooms =
          let R : Repeat = steps.repeat_in (length s.tables.times) r in
          let n : ℕ = length s.tables.repeats + 1 in
          let e : n ≡ length (s.tables.repeats ++ (R ∷ [])) = sym (length-append s.tables.repeats (R ∷ [])) in
          let l : length s.tables.times ≤ 32 = T.times.few in
          let new : ℕ → Offset = λ (k : ℕ). record { owner = n; offset = k } in
          let m : length (map new r.offsets) ≡ length r.offsets = length-map r.offsets new in
          tables-kept _
          (record { emails = T.emails; phones = T.phones; connections = T.connections; bandwidths = T.bandwidths; times = T.times; repeats = rows_more _ 64 s.tables.repeats T.repeats R (record { owner = omega arith; repeat_interval = f.interval; active_duration = f.duration }) room; offsets = rows_append FitOffset 256 s.tables.offsets T.offsets (map new r.offsets) (each_map FitOffset (λ (k : ℕ). k < 2 ^ 64) new (λ k b. record { owner = omega arith; offset = b }) r.offsets f.offsets) (omega arith); zones = T.zones; attributes = T.attributes; medias = T.medias })
          (record { connections = O.connections; bandwidths = O.bandwidths; repeats = rising-append (λ (r : Repeat). r.owner) _ s.tables.repeats 1 some O.repeats _ (refl, tt); offsets = rising-append (λ (o : Offset). o.owner) _ s.tables.offsets 1 (omega arith) (rising_more (λ (o : Offset). o.owner) _ _ (omega arith) s.tables.offsets 1 O.offsets) (map new r.offsets) (each_map _ (λ (k : ℕ). k < 2 ^ 64) new (λ k b. e) r.offsets f.offsets); attributes = O.attributes })

      fits : (a b : Bool) (r : RepeatLine) → FitLine r → 1 ≤ length s.tables.times → ltb (length s.tables.repeats) 64 ≡ a → leb (length s.tables.offsets + length r.offsets) 256 ≡ b
          → Goes Kept (cond a (cond b (goes (record { session = steps.with_repeat s (steps.repeat_in (length s.tables.times) r) r.offsets; zoned = ρ.zoned })) (stop 21 7)) (stop 21 6))
      fits true b r f some p q = room_goes Kept b 7 _ (λ e. taken r f some (ltb-true _ _ p) (leb-true _ _ (rw (← q) at e)))
      fits false b r f some p q = lit< tt

      go : (b : Bool) → eqb (length s.tables.times) 0 ≡ b → (r : Read RepeatLine) → Gives FitLine r → Goes Kept (cond b (stop 20 0) (repeated mk ρ v r))
      go true e r f = lit< tt
      go false e (Ok r) f = fits _ _ r f (let z = eqb-false (length s.tables.times) 0 e in omega arith) refl refl
      go false e (Err w) f = f

  -- ---- medias
  medias-kept : (ms : List (Media Span)) → Rows 32 (FitMedia P) ms → length s.tables.medias ≤ length ms → Sound P (with_medias s ms)
  medias-kept ms f l =
      tables-kept _
      (record { emails = T.emails; phones = T.phones; connections = T.connections; bandwidths = T.bandwidths; times = T.times; repeats = T.repeats; offsets = T.offsets; zones = T.zones; attributes = T.attributes; medias = f })
      (record { connections = rising_more (λ (c : MediaConnection Span). c.owner) _ _ l s.tables.connections 1 O.connections; bandwidths = rising_more (λ (b : Bandwidth Span). b.owner) _ _ l s.tables.bandwidths 0 O.bandwidths; repeats = O.repeats; offsets = O.offsets; attributes = rising_more (λ (a : Attribute Span). a.owner) _ _ l s.tables.attributes 0 O.attributes })

  media-kept : Keeps role.Media
  unfolding steps.step_role
  media-kept =
      row_goes Kept _ 10 32 _ (media_of v) (media-fit v mk P fine) _ (λ m f room.
      medias-kept _ (rows_more _ 32 s.tables.medias T.medias (media_in mk m) f room) (let e = length-append s.tables.medias (media_in mk m ∷ []) in omega arith))

  -- the latest one changed
  last_kept : (g : Media Span → Media Span) → ((m : Media Span) → FitMedia P m → FitMedia P (g m)) → Sound P (with_last s g)
  last_kept g keep = medias-kept _ (rows_last _ 32 s.tables.medias T.medias g keep) (let e = length_last g s.tables.medias in omega arith)

  title_kept : Keeps role.MediaTitle
  unfolding steps.step_role
  title_kept =
      once_goes Kept _ 18 (lit< tt) (last_titled s.tables.medias) (whole_of 33 v) (whole_fine 33 v) _ (λ p f.
      last_kept (titled (mk p)) (λ m g. record { media = g.media; port = g.port; num_ports = g.num_ports; proto = g.proto; fmt = g.fmt; media_title = fine p f; key = g.key }))

  nothing_kept : Keeps role.Nothing
  unfolding steps.step_role
  nothing_kept = sound

  -- ---- any letter
  pick : (b : Bool) (x y : Role) → Keeps x → Keeps y → Keeps (cond b x y)
  pick true x y h k = h
  pick false x y h k = k

  before-kept : (l : ℕ) → Keeps (before_media l)
  unfolding roles.before_media
  before-kept l =
      pick (eqb l 0x6f) role.Origin _ origin_kept
      (pick (eqb l 0x73) role.Name _ name-kept
      (pick (eqb l 0x69) role.Description _ description-kept
      (pick (eqb l 0x75) role.Uri _ uri-kept
      (pick (eqb l 0x65) role.Email _ emails-kept
      (pick (eqb l 0x70) role.Phone _ phones-kept
      (pick (eqb l 0x63) role.Connection _ connection_kept
      (pick (eqb l 0x62) role.Bandwidth _ bandwidths-kept
      (pick (eqb l 0x74) role.Time _ times-kept
      (pick (eqb l 0x72) role.Repeat _ repeats-kept
      (pick (eqb l 0x7a) role.Zone _ zones-kept
      (pick (eqb l 0x61) role.Attribute _ attributes-kept
      (pick (eqb l 0x6d) role.Media role.Nothing media-kept nothing_kept))))))))))))

  from_kept : 1 ≤ length s.tables.medias → (l : ℕ) → Keeps (from_media l)
  unfolding roles.from_media
  from_kept some l =
      pick (eqb l 0x6d) role.Media _ media-kept
      (pick (eqb l 0x69) role.MediaTitle _ title_kept
      (pick (eqb l 0x63) role.MediaConnection _ (connections-kept some)
      (pick (eqb l 0x62) role.Bandwidth _ bandwidths-kept
      (pick (eqb l 0x61) role.Attribute role.Nothing attributes-kept nothing_kept))))

  pub line_kept : (l : ℕ) → Goes Kept (step mk ρ v l)
  line_kept l = go (eqb (length s.tables.medias) 0) refl
    where
      go : (b : Bool) → eqb (length s.tables.medias) 0 ≡ b → Keeps (cond b (before_media l) (from_media l))
      go true e = before-kept l
      go false e = from_kept (let z = eqb-false (length s.tables.medias) 0 e in omega arith) l
