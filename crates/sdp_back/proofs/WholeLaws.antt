-- The lines of a written session, read from the first to the last, lead to the session. Assumes nothing.
use mathlib.Core.Path.{◌≡◌, refl, sym, subst, ◌∙◌}
use mathlib.Core.Bool.{Bool, true, false}
use mathlib.Core.List.{List, [], ◌∷◌, ◌++◌, append-nil, append_assoc}
use Rattle.std.specs.Prelude.{Option, Some, None}
use Prim.Native.Nat.{ℕ, ◌+◌, ◌≤◌, ◌<◌}
use native.Mathlib.Omega.{arith}
use lib.ListN.{length, length-append}
use lib.Dec.{lit<}
use Rattle.sdp_utf8.specs.Utf8 as utf8
use Rattle.sdp_judge.specs.Read as field-read
use Rattle.sdp_lines.specs.Lines as cutter
use Rattle.sdp_lines.specs.Lines.{split}
use Rattle.sdp_area.specs.Session.{Origin, Connection, MediaConnection, Bandwidth, Time, Repeat, Offset, Zone, Attribute, Media, Head, Tables, Session, Within}
use Rattle.sdp_step.specs.Step.{Reading, fresh}
use Rattle.sdp_read.specs.Run as reader
use Rattle.sdp_read.specs.Run.{accepted, run, lines}
use Rattle.sdp_put.specs.Digits as digit
use Rattle.sdp_put.specs.Strings as strings
use Rattle.sdp_decode.specs.Rows as rows
use Rattle.sdp_decode.specs.Rows.{each, mine}
use Rattle.sdp_row.specs.Written as form
use Rattle.sdp_row.specs.Written.{line, optional, string_line, origin_line, name_line, bandwidth_line, connection_line, attribute_line, media_lines, repeat_line, time_lines, times_lines, zones_line, head_lines, contact_lines, closing_lines, written}
use Rattle.sdp_same.proofs.WrittenLaws.{id}
use Rattle.sdp_same.specs.Fits.{IfGiven, Each, FitTime, FitRepeat, FitOffset, FitZone}
use Rattle.sdp_same.specs.Sound.{Rising}
use Rattle.sdp_same.specs.Said.{bytes_at}
use Rattle.sdp_back.specs.Again.{placeholder, origin_again, name_again, times_again, again}
use Rattle.sdp_back.specs.Keys.{unkeyed}
use Rattle.sdp_put.proofs.ByteLaws.{every}
use Rattle.sdp_back.proofs.AddressLaws.{OriginBack, ConnectionBack, placeholder_back}
use Rattle.sdp_back.proofs.PieceLaws.{BandwidthBack, AttributeBack, media_alone}
use Rattle.sdp_back.proofs.PlainLaws.{TextBack, MediaPlain, Plain}
use Rattle.sdp_back.proofs.KeyLaws.{unkeyed_same}
use Rattle.sdp_back.proofs.LeadLaws.{Leads, stay, ◌then◌, begin_leads, optional_leads, rows_lead, below, below_none, below_all, owned_lead}
use Rattle.sdp_back.proofs.LineLaws.{origin_leads, name_leads, description_leads, uri_leads, connection_leads, email_leads, phone_leads, time_leads, repeat_leads, zones_lead, bandwidth_leads, attribute_leads, media_leads, media_connection_leads, title_leads}
use Rattle.sdp_back.proofs.OffsetLaws.{owner_of, values, repeat-text, values_small, values_next, values_fit}

-- ---- what is asked of a session besides its strings: counts, numbers and owners
pub record Ordered (s : Session (List ℕ)) : Type 0 where
  pub within : Within s
  pub times : Each FitTime s.tables.times
  pub repeats : Each FitRepeat s.tables.repeats
  pub offsets : Each FitOffset s.tables.offsets
  pub zones : Each FitZone s.tables.zones
  pub owned_connections : Rising (λ (c : MediaConnection (List ℕ)). c.owner) (length s.tables.medias) 1 s.tables.connections
  pub owned_bandwidths : Rising (λ (b : Bandwidth (List ℕ)). b.owner) (length s.tables.medias) 0 s.tables.bandwidths
  pub owned_repeats : Rising (λ (r : Repeat). r.owner) (length s.tables.times) 1 s.tables.repeats
  pub owned_offsets : Rising owner_of (length s.tables.repeats) 1 s.tables.offsets
  pub owned_attributes : Rising (λ (a : Attribute (List ℕ)). a.owner) (length s.tables.medias) 0 s.tables.attributes

abbrev at : Head (List ℕ) → Tables (List ℕ) → Bool → Reading (List ℕ)
at h t z = record { session = record { head = h; tables = t }; zoned = z }

-- whether there is a z line
abbrev any_zone : List Zone → Bool
any_zone [] = false
any_zone (z ∷ zs) = true

module _ (s : Session (List ℕ)) (plain : Plain s) (ordered : Ordered s) where
  abbrev T : Tables (List ℕ)
  T = s.tables

  -- the rows of the owners before n
  abbrev conns : ℕ → List (MediaConnection (List ℕ))
  conns n = below (λ (c : MediaConnection (List ℕ)). c.owner) n T.connections

  abbrev bands : ℕ → List (Bandwidth (List ℕ))
  bands n = below (λ (b : Bandwidth (List ℕ)). b.owner) n T.bandwidths

  abbrev reps : ℕ → List Repeat
  reps n = below (λ (r : Repeat). r.owner) n T.repeats

  abbrev offs : ℕ → List Offset
  offs n = below owner_of n T.offsets

  abbrev attrs : ℕ → List (Attribute (List ℕ))
  attrs n = below (λ (a : Attribute (List ℕ)). a.owner) n T.attributes

  -- ---- v, o, s, i, u
  abbrev heads : Option (List ℕ) → Option (List ℕ) → Option (Connection (List ℕ)) → Head (List ℕ)
  heads d u c = record { origin = Some (origin_again s.head.origin); name = Some (name_again s.head.name); description = d; uri = u; connection = c; key = None }

  abbrev bare_tables : Tables (List ℕ)
  bare_tables = (fresh {S = List ℕ}).session.tables

  origin_part : (o : Option (Origin (List ℕ))) → IfGiven OriginBack o
      → Leads fresh (origin_line id o) (at (record { origin = Some (origin_again o); name = None; description = None; uri = None; connection = None; key = None }) bare_tables false)
  unfolding form.origin_line form.origin_value form.username_text strings.clean strings.kept digit.digits digit.digits_in
  origin_part None h = origin_leads fresh refl placeholder placeholder_back refl
  origin_part (Some o) h = origin_leads fresh refl o h refl

  name-part : (o : Option (List ℕ)) → IfGiven TextBack o → (x : Origin (List ℕ))
      → Leads (at (record { origin = Some x; name = None; description = None; uri = None; connection = None; key = None }) bare_tables false) (name_line id o) (at (record { origin = Some x; name = Some (name_again o); description = None; uri = None; connection = None; key = None }) bare_tables false)
  unfolding strings.clean every field-read.whole_of utf8.is_utf8 utf8.utf8_end utf8.end_from
  name-part None h x = name_leads _ refl [] (λ w. record { says = refl; bare = refl }) refl
  name-part (Some n) h x = name_leads _ refl n h refl

  head_part : (rest : List ℕ) (r : Session (List ℕ)) → ((n p : ℕ) → run bytes_at (at (heads s.head.description s.head.uri None) bare_tables false) n p (split rest) ≡ accepted r)
      → lines bytes_at (head_lines id s.head ++ rest) ≡ accepted r
  unfolding form.head_lines
  head_part rest r h =
      rw (append_assoc (line 0x76 (0x30 ∷ [])) (origin_line id s.head.origin ++ (name_line id s.head.name ++ (optional (string_line id 0x69) s.head.description ++ optional (string_line id 0x75) s.head.uri))) rest)
      (begin_leads _ r
      ((origin_part s.head.origin plain.head.origin
      then name-part s.head.name plain.head.name (origin_again s.head.origin)
      then optional_leads TextBack _ (λ d. at (heads d None None) bare_tables false) (λ x b. description_leads _ refl x b refl) s.head.description plain.head.description
      then optional_leads TextBack _ (λ u. at (heads s.head.description u None) bare_tables false) (λ x b. uri_leads _ refl x b refl) s.head.uri plain.head.uri).read rest r h))

  -- ---- e, p, c, b
  abbrev contacts : List (List ℕ) → List (List ℕ) → List (Bandwidth (List ℕ)) → List Time → List Repeat → List Offset → Tables (List ℕ)
  contacts es ps bs ts rs os = record { emails = es; phones = ps; connections = []; bandwidths = bs; times = ts; repeats = rs; offsets = os; zones = []; attributes = []; medias = [] }

  abbrev before_times : List Time → List Repeat → List Offset → Reading (List ℕ)
  before_times ts rs os = at (heads s.head.description s.head.uri s.head.connection) (contacts T.emails T.phones (bands 1) ts rs os) false

  -- ---- each t with its r lines
  -- the r lines of the latest of the times ts
  repeats-part : (ts : List Time) → 0 < length ts → Leads (before_times ts (reps (length ts)) (offs (length (reps (length ts)) + 1))) (each (λ k r. mine (length ts) r.owner (repeat_line T.offsets k r)) 1 T.repeats) (before_times ts (reps (length ts + 1)) (offs (length (reps (length ts + 1)) + 1)))
  repeats-part ts any =
      owned_lead (λ (r : Repeat). r.owner) FitRepeat 64 (length ts) (repeat_line T.offsets) (λ rs. before_times ts rs (offs (length rs + 1))) (λ rs x f o l.
      let k : ℕ = length rs + 1 in
      let e : k ≡ length (rs ++ (x ∷ [])) = sym (length-append rs (x ∷ [])) in
      let m : length (offs k) + length (values k T.offsets) ≤ length T.offsets = values_fit k T.offsets _ _ ordered.owned_offsets in
      let c = ordered.within.offsets in
      rw (repeat-text k T.offsets x, ← e, ← (values_next k T.offsets _ _ ordered.owned_offsets))
      (rw (← o) at (repeat_leads (before_times ts rs (offs k)) refl x.repeat_interval x.active_duration (values k T.offsets) f.repeat_interval f.active_duration (values_small k T.offsets ordered.offsets) any l (omega arith))))
      T.repeats _ _ ordered.owned_repeats ordered.repeats ordered.within.repeats

  abbrev times_state : List Time → Reading (List ℕ)
  times_state ts = before_times ts (reps (length ts + 1)) (offs (length (reps (length ts + 1)) + 1))

  time-part : (ts : List Time) (t : Time) → FitTime t → length ts < 32 → Leads (times_state ts) (time_lines T.repeats T.offsets (length ts + 1) t) (times_state (ts ++ (t ∷ [])))
  unfolding form.time_lines
  time-part ts t f l =
      let n : length (ts ++ (t ∷ [])) ≡ length ts + 1 = length-append ts (t ∷ []) in
      rw n (time_leads (times_state ts) refl t f l then (rw n at (repeats-part (ts ++ (t ∷ [])) (omega arith))))

  -- no times are written as one
  times-text : (ts : List Time) → Rising (λ (r : Repeat). r.owner) (length ts) 1 T.repeats → times_lines T.repeats T.offsets ts ≡ each (time_lines T.repeats T.offsets) 1 (times_again ts)
  unfolding form.times_lines rows.each form.time_lines digit.digits digit.digits_in
  times-text (t ∷ ts) r = refl
  times-text [] r =
      let e : T.repeats ≡ [] = sym (below_all (λ (r : Repeat). r.owner) 1 0 1 T.repeats r (lit< tt)) ∙ below_none (λ (r : Repeat). r.owner) 1 0 1 T.repeats r (omega arith) in
      rw e (simp append-nil)

  times-fit : (ts : List Time) → Each FitTime ts → length ts ≤ 32 → Each FitTime (times_again ts) × (length (times_again ts) ≤ 32) × (length ts ≤ length (times_again ts))
  times-fit [] h l = ((record { start_time = lit< tt; stop_time = lit< tt }, tt), omega arith, omega arith)
  times-fit (t ∷ ts) h l = (h, l, omega arith)

  abbrev TA : List Time
  TA = times_again T.times

  times-part : Leads (before_times [] [] []) (times_lines T.repeats T.offsets T.times) (before_times TA T.repeats T.offsets)
  times-part =
      let f = times-fit T.times ordered.times ordered.within.times in
      let l = f.2 in
      let r₀ : reps 1 ≡ [] = below_none (λ (r : Repeat). r.owner) 1 _ 1 T.repeats ordered.owned_repeats (omega arith) in
      let o₀ : offs 1 ≡ [] = below_none owner_of 1 _ 1 T.offsets ordered.owned_offsets (omega arith) in
      let r₁ : reps (length TA + 1) ≡ T.repeats = below_all (λ (r : Repeat). r.owner) (length TA + 1) _ 1 T.repeats ordered.owned_repeats (omega arith) in
      let o₁ : offs (length T.repeats + 1) ≡ T.offsets = below_all owner_of (length T.repeats + 1) _ 1 T.offsets ordered.owned_offsets (omega arith) in
      rw (times-text T.times ordered.owned_repeats) (rw (r₀, o₀, r₁, o₁) at (rows_lead FitTime 32 (time_lines T.repeats T.offsets) times_state time-part TA f.0 f.1))

  -- ---- e, p, c, b, t
  contact_part : Leads (at (heads s.head.description s.head.uri None) bare_tables false) (contact_lines id s) (before_times TA T.repeats T.offsets)
  unfolding form.contact_lines
  contact_part =
      let D : Option (List ℕ) = s.head.description in
      let U : Option (List ℕ) = s.head.uri in
      let b₀ : bands 0 ≡ [] = below_none (λ (b : Bandwidth (List ℕ)). b.owner) 0 _ 0 T.bandwidths ordered.owned_bandwidths (omega arith) in
      rows_lead TextBack 16 (λ k x. string_line id 0x65 x) (λ es. at (heads D U None) (contacts es [] [] [] [] []) false) (λ es x b l. email_leads _ refl x b l) T.emails plain.tables.emails ordered.within.emails
      then rows_lead TextBack 16 (λ k x. string_line id 0x70 x) (λ ps. at (heads D U None) (contacts T.emails ps [] [] [] []) false) (λ ps x b l. phone_leads _ refl x b l) T.phones plain.tables.phones ordered.within.phones
      then optional_leads ConnectionBack _ (λ c. at (heads D U c) (contacts T.emails T.phones [] [] [] []) false) (λ c b. connection_leads _ refl c b refl) s.head.connection plain.head.connection
      then (rw b₀ at (owned_lead (λ (b : Bandwidth (List ℕ)). b.owner) (λ b. BandwidthBack b.bwtype b.bandwidth) 64 0 (λ k b. bandwidth_line id b) (λ bs. at (heads D U s.head.connection) (contacts T.emails T.phones bs [] [] []) false) (λ bs x b o l. bandwidth_leads _ x b o l) T.bandwidths _ 0 ordered.owned_bandwidths plain.tables.bandwidths ordered.within.bandwidths))
      then times-part

  -- ---- z, a
  abbrev closing : List Zone → List (Attribute (List ℕ)) → Bool → Reading (List ℕ)
  closing zs xs z =
      at (heads s.head.description s.head.uri s.head.connection) (record { emails = T.emails; phones = T.phones; connections = []; bandwidths = bands 1; times = TA; repeats = T.repeats; offsets = T.offsets; zones = zs; attributes = xs; medias = [] }) z

  zones-part : (zs : List Zone) → Each FitZone zs → length zs ≤ 64 → Leads (closing [] [] false) (zones_line zs) (closing zs [] (any_zone zs))
  unfolding form.zones_line
  zones-part [] h l = stay
  zones-part (z ∷ zs) h l = zones_lead _ refl z zs h l refl

  closing_part : Leads (before_times TA T.repeats T.offsets) (closing_lines id s) (closing T.zones (attrs 1) (any_zone T.zones))
  unfolding form.closing_lines
  closing_part =
      let a₀ : attrs 0 ≡ [] = below_none (λ (a : Attribute (List ℕ)). a.owner) 0 _ 0 T.attributes ordered.owned_attributes (omega arith) in
      zones-part T.zones ordered.zones ordered.within.zones
      then (rw a₀ at (owned_lead (λ (a : Attribute (List ℕ)). a.owner) (λ a. AttributeBack a.attribute a.value) 512 0 (λ k a. attribute_line id a) (λ xs. closing T.zones xs (any_zone T.zones)) (λ xs a b o l. attribute_leads _ a b o l) T.attributes _ 0 ordered.owned_attributes plain.tables.attributes ordered.within.attributes))

  -- ---- each media
  abbrev full : List (MediaConnection (List ℕ)) → List (Bandwidth (List ℕ)) → List (Attribute (List ℕ)) → List (Media (List ℕ)) → Reading (List ℕ)
  full cs bs xs ms =
      at (heads s.head.description s.head.uri s.head.connection) (record { emails = T.emails; phones = T.phones; connections = cs; bandwidths = bs; times = TA; repeats = T.repeats; offsets = T.offsets; zones = T.zones; attributes = xs; medias = ms }) (any_zone T.zones)

  abbrev medias_state : List (Media (List ℕ)) → Reading (List ℕ)
  medias_state ms = full (conns (length ms + 1)) (bands (length ms + 1)) (attrs (length ms + 1)) ms

  abbrev media_with : Media (List ℕ) → Option (List ℕ) → Media (List ℕ)
  media_with m t = record { media = m.media; port = m.port; num_ports = m.num_ports; proto = m.proto; fmt = m.fmt; media_title = t; key = None }

  media-part : (ms : List (Media (List ℕ))) (m : Media (List ℕ)) → MediaPlain m → length ms < 32 → Leads (medias_state ms) (media_lines id T (length ms + 1) m) (medias_state (ms ++ (m ∷ [])))
  unfolding form.media_lines
  media-part ms m p l =
      let n : ℕ = length ms + 1 in
      let e : (x : Media (List ℕ)) → length (ms ++ (x ∷ [])) ≡ n = λ x. length-append ms (x ∷ []) in
      let there : (x : Media (List ℕ)) → 0 < length (ms ++ (x ∷ [])) = λ x. (let q = e x in omega arith) in
      let m₁ : Media (List ℕ) = unkeyed m in
      rw (e m)
      (subst (λ x. Leads (medias_state ms) (media_lines id T n m) (full (conns (n + 1)) (bands (n + 1)) (attrs (n + 1)) (ms ++ (x ∷ [])))) (unkeyed_same m p.key)
      (media_leads (medias_state ms) m p.line l
      then optional_leads TextBack _ (λ t. full (conns n) (bands n) (attrs n) (ms ++ (media_with m t ∷ []))) (λ x b. title_leads _ (there _) ms (media_alone m) refl x b refl) m.media_title p.title
      then owned_lead (λ (c : MediaConnection (List ℕ)). c.owner) (λ c. ConnectionBack c.connection) 64 n (λ k c. connection_line id c.connection) (λ cs. full cs (bands n) (attrs n) (ms ++ (m₁ ∷ []))) (λ cs c b o l. media_connection_leads _ (there _) c b (o ∙ sym (e m₁)) l) T.connections _ 1 ordered.owned_connections plain.tables.connections ordered.within.connections
      then owned_lead (λ (b : Bandwidth (List ℕ)). b.owner) (λ b. BandwidthBack b.bwtype b.bandwidth) 64 n (λ k b. bandwidth_line id b) (λ bs. full (conns (n + 1)) bs (attrs n) (ms ++ (m₁ ∷ []))) (λ bs x b o l. bandwidth_leads _ x b (o ∙ sym (e m₁)) l) T.bandwidths _ 0 ordered.owned_bandwidths plain.tables.bandwidths ordered.within.bandwidths
      then owned_lead (λ (a : Attribute (List ℕ)). a.owner) (λ a. AttributeBack a.attribute a.value) 512 n (λ k a. attribute_line id a) (λ xs. full (conns (n + 1)) (bands (n + 1)) xs (ms ++ (m₁ ∷ []))) (λ xs a b o l. attribute_leads _ a b (o ∙ sym (e m₁)) l) T.attributes _ 0 ordered.owned_attributes plain.tables.attributes ordered.within.attributes))

  medias-part : Leads (closing T.zones (attrs 1) (any_zone T.zones)) (each (media_lines id T) 1 T.medias) (full T.connections T.bandwidths T.attributes T.medias)
  medias-part =
      let n : ℕ = length T.medias + 1 in
      let c₀ : conns 1 ≡ [] = below_none (λ (c : MediaConnection (List ℕ)). c.owner) 1 _ 1 T.connections ordered.owned_connections (omega arith) in
      let c₁ : conns n ≡ T.connections = below_all (λ (c : MediaConnection (List ℕ)). c.owner) n _ 1 T.connections ordered.owned_connections (omega arith) in
      let b₁ : bands n ≡ T.bandwidths = below_all (λ (b : Bandwidth (List ℕ)). b.owner) n _ 0 T.bandwidths ordered.owned_bandwidths (omega arith) in
      let a₁ : attrs n ≡ T.attributes = below_all (λ (a : Attribute (List ℕ)). a.owner) n _ 0 T.attributes ordered.owned_attributes (omega arith) in
      rw (c₀, c₁, b₁, a₁) at (rows_lead MediaPlain 32 (media_lines id T) medias_state media-part T.medias plain.tables.medias ordered.within.medias)

  -- ---- the whole
  pub written_back : lines bytes_at (written id s) ≡ accepted (again s)
  unfolding form.written cutter.split reader.run
  written_back =
      let xs : List ℕ = contact_lines id s ++ (closing_lines id s ++ each (media_lines id T) 1 T.medias) in
      head_part xs (again s) (λ n p. rw (append-nil xs) at ((contact_part then closing_part then medias-part).read [] (again s) (λ n p. rw plain.head.key) n p))
