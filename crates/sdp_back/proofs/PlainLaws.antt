-- Each line that was read with a use is kept so that its written form is read again. Assumes nothing.
use mathlib.Core.Path.{◌≡◌, refl, sym, subst}
use mathlib.Core.Bool.{Bool, true, false, cond, not, ◌&&◌, ◌||◌}
use mathlib.Core.List.{List, [], ◌∷◌}
use Prim.Native.Nat.{ℕ, ◌+◌, ◌-◌}
use native.Mathlib.Omega.{arith}
use lib.ListN.{length, get_or, take, drop}
use lib.Dec.{ltb, leb, eqb}
use Rattle.sdp_bytes.proofs.ScanLaws.{and_left, and_right}
use Rattle.sdp_lines.specs.Lines as cutter
use Rattle.sdp_lines.specs.Lines.{Raw, onto, split, content, width, has_nul_or_cr, plain_form, form_of, Form}
use Rattle.std.specs.Prelude.{Some, None, Ok, Err}
use Rattle.sdp_lines.specs.declared.Fault.TheVariants.{NulOrCr}
use Rattle.sdp_split.specs.Split.{part}
use Rattle.sdp_judge.specs.Read.{Read, whole_of}
use Rattle.sdp_fields.specs.Records.{origin_of, connection_of, bandwidth_of, times_of, attribute_of}
use Rattle.sdp_media_line.specs.MediaLine.{media_of}
use Rattle.sdp_lists.specs.Lists.{RepeatLine, repeat_of, zones_of}
use Rattle.sdp_area.specs.Session.{MediaConnection, Bandwidth, Time, Repeat, Offset, Zone, Attribute, Media, Head, Tables, Session, empty}
use Rattle.sdp_area.specs.With.{with_times, with_repeats, with_offsets, with_zones, with_medias, titled, with_last}
use Rattle.sdp_area.specs.Latest.{given, last_titled}
use Rattle.sdp_roles.specs.Roles.{role_at}
use Rattle.sdp_roles.specs.declared.Role.{Role}
use Rattle.sdp_roles.specs.declared.Role.TheVariants as role
use Rattle.sdp_step.specs.Step as steps
use Rattle.sdp_step.specs.Step.{Reading, Stepped, goes, stops, repeated, step_role, fresh}
use Rattle.sdp_step.proofs.GoingLaws.{Going, on, off, past-cond, past-once, past_row}
use Rattle.sdp_read.specs.Run as reader
use Rattle.sdp_read.specs.Run.{Verdict, accepted, refused, no_version, bad_version, is_zero, after, step_form, run, begin_form, begin, lines}
use Rattle.sdp_put.specs.Strings.{dropped, clean}
use Rattle.sdp_same.specs.Fits.{IfGiven, Each}
use Rattle.sdp_same.specs.Said.{bytes_at}
use Rattle.sdp_same.proofs.RowLaws.{each_append, each_last}
use Rattle.sdp_put.proofs.ByteLaws.{every, every_take, every_drop, lacks, bare}
use Rattle.sdp_back.proofs.FieldLaws.{Backs}
use Rattle.sdp_back.proofs.AddressLaws.{whole_back, ConnectionBack, connection_back, OriginBack, origin_back}
use Rattle.sdp_back.proofs.PieceLaws.{BandwidthBack, bandwidth_back, AttributeBack, attribute_back, MediaBack, media_back}

-- ---- what reads back
-- one string
abbrev pub TextBack : List ℕ → Type 0
TextBack x = (w : ℕ) → Backs (whole_of w) part (clean x) x

-- a media with its title; no reader keeps a key
pub record MediaPlain (m : Media (List ℕ)) : Type 0 where
  pub line : MediaBack m
  pub title : IfGiven TextBack m.media_title
  pub key : m.key ≡ None

pub record PlainHead (h : Head (List ℕ)) : Type 0 where
  pub origin : IfGiven OriginBack h.origin
  pub name : IfGiven TextBack h.name
  pub description : IfGiven TextBack h.description
  pub uri : IfGiven TextBack h.uri
  pub connection : IfGiven ConnectionBack h.connection
  pub key : h.key ≡ None

-- the tables with strings
pub record PlainTables (t : Tables (List ℕ)) : Type 0 where
  pub emails : Each TextBack t.emails
  pub phones : Each TextBack t.phones
  pub connections : Each (λ c. ConnectionBack c.connection) t.connections
  pub bandwidths : Each (λ b. BandwidthBack b.bwtype b.bandwidth) t.bandwidths
  pub attributes : Each (λ a. AttributeBack a.attribute a.value) t.attributes
  pub medias : Each MediaPlain t.medias

pub record Plain (s : Session (List ℕ)) : Type 0 where
  pub head : PlainHead s.head
  pub tables : PlainTables s.tables

-- ---- one line
module _ (ρ : Reading (List ℕ)) (v : List ℕ) (b : bare v ≡ true) (h : Plain ρ.session) where
  abbrev H : PlainHead ρ.session.head
  H = h.head

  abbrev T : PlainTables ρ.session.tables
  T = h.tables

  abbrev Kept : Reading (List ℕ) → Type 0
  Kept τ = Plain τ.session

  -- a session with another head, or other tables
  head_goes : (x : Head (List ℕ)) → PlainHead x → Going Kept (goes (record { session = record { head = x; tables = ρ.session.tables }; zoned = ρ.zoned }))
  head_goes x p = on Kept _ (record { head = p; tables = T })

  tables-kept : (t : Tables (List ℕ)) → PlainTables t → Plain (record { head = ρ.session.head; tables = t })
  tables-kept t p = record { head = H; tables = p }

  -- other times and zones have no strings
  times-plain : (ts : List Time) (rs : List Repeat) (os : List Offset) (zs : List Zone) → Plain (with_zones (with_offsets (with_repeats (with_times ρ.session ts) rs) os) zs)
  times-plain ts rs os zs = tables-kept _ (record { emails = T.emails; phones = T.phones; connections = T.connections; bandwidths = T.bandwidths; attributes = T.attributes; medias = T.medias })

  medias-plain : (ms : List (Media (List ℕ))) → Each MediaPlain ms → Plain (with_medias ρ.session ms)
  medias-plain ms e = tables-kept _ (record { emails = T.emails; phones = T.phones; connections = T.connections; bandwidths = T.bandwidths; attributes = T.attributes; medias = e })

  -- the latest media changed
  last_goes : (g : Media (List ℕ) → Media (List ℕ)) → ((m : Media (List ℕ)) → MediaPlain m → MediaPlain (g m)) → Going Kept (goes (record { session = with_last ρ.session g; zoned = ρ.zoned }))
  last_goes g keep = on Kept _ (medias-plain _ (each_last MediaPlain g keep ρ.session.tables.medias T.medias))

  repeat-plain : (r : Read RepeatLine) → Going Kept (repeated (part v) ρ v r)
  repeat-plain (Err w) = off Kept _
  repeat-plain (Ok r) =
      past-cond Kept (ltb (length ρ.session.tables.repeats) 64) _ _
      (past-cond Kept (leb (length ρ.session.tables.offsets + length r.offsets) 256) _ _ (on Kept _ (times-plain _ _ _ _)) (off Kept _)) (off Kept _)

  step-plain : (x : Role) → Going Kept (step_role (part v) ρ v x)
  unfolding steps.step_role
  step-plain role.Origin =
      past-once Kept 12 (given ρ.session.head.origin) (origin_of v) _ (λ o q.
      head_goes _ (record { origin = origin_back v o b q; name = H.name; description = H.description; uri = H.uri; connection = H.connection; key = H.key }))
  step-plain role.Name =
      past-once Kept 13 (given ρ.session.head.name) (whole_of 34 v) _ (λ p q.
      head_goes _ (record { origin = H.origin; name = λ w. whole_back 34 w v p b q; description = H.description; uri = H.uri; connection = H.connection; key = H.key }))
  step-plain role.Description =
      past-once Kept 14 (given ρ.session.head.description) (whole_of 35 v) _ (λ p q.
      head_goes _ (record { origin = H.origin; name = H.name; description = λ w. whole_back 35 w v p b q; uri = H.uri; connection = H.connection; key = H.key }))
  step-plain role.Uri =
      past-once Kept 15 (given ρ.session.head.uri) (whole_of 36 v) _ (λ p q.
      head_goes _ (record { origin = H.origin; name = H.name; description = H.description; uri = λ w. whole_back 36 w v p b q; connection = H.connection; key = H.key }))
  step-plain role.Connection =
      past-once Kept 16 (given ρ.session.head.connection) (connection_of v) _ (λ c q.
      head_goes _ (record { origin = H.origin; name = H.name; description = H.description; uri = H.uri; connection = connection_back v c b q; key = H.key }))
  step-plain role.Zone =
      past-once Kept 17 ρ.zoned (zones_of v) _ (λ zs q. past-cond Kept (leb (length zs) 64) _ _ (on Kept _ (times-plain _ _ _ _)) (off Kept _))
  step-plain role.Email =
      past_row Kept 1 16 _ (whole_of 37 v) _ (λ p q.
      tables-kept _ (record { emails = each_append TextBack ρ.session.tables.emails _ T.emails (λ w. whole_back 37 w v p b q, tt); phones = T.phones; connections = T.connections; bandwidths = T.bandwidths; attributes = T.attributes; medias = T.medias }))
  step-plain role.Phone =
      past_row Kept 2 16 _ (whole_of 38 v) _ (λ p q.
      tables-kept _ (record { emails = T.emails; phones = each_append TextBack ρ.session.tables.phones _ T.phones (λ w. whole_back 38 w v p b q, tt); connections = T.connections; bandwidths = T.bandwidths; attributes = T.attributes; medias = T.medias }))
  step-plain role.MediaConnection =
      past_row Kept 3 64 _ (connection_of v) _ (λ c q.
      tables-kept _ (record { emails = T.emails; phones = T.phones; connections = each_append (λ (c : MediaConnection (List ℕ)). ConnectionBack c.connection) ρ.session.tables.connections _ T.connections (connection_back v c b q, tt); bandwidths = T.bandwidths; attributes = T.attributes; medias = T.medias }))
  step-plain role.Bandwidth =
      past_row Kept 4 64 _ (bandwidth_of v) _ (λ x q.
      tables-kept _ (record { emails = T.emails; phones = T.phones; connections = T.connections; bandwidths = each_append (λ (b : Bandwidth (List ℕ)). BandwidthBack b.bwtype b.bandwidth) ρ.session.tables.bandwidths _ T.bandwidths (bandwidth_back v x b q, tt); attributes = T.attributes; medias = T.medias }))
  step-plain role.Attribute =
      past_row Kept 9 512 _ (attribute_of v) _ (λ x q.
      tables-kept _ (record { emails = T.emails; phones = T.phones; connections = T.connections; bandwidths = T.bandwidths; attributes = each_append (λ (a : Attribute (List ℕ)). AttributeBack a.attribute a.value) ρ.session.tables.attributes _ T.attributes (attribute_back v x b q, tt); medias = T.medias }))
  step-plain role.Time = past_row Kept 5 32 _ (times_of v) _ (λ t q. times-plain _ _ _ _)
  step-plain role.Repeat = past-cond Kept (eqb (length ρ.session.tables.times) 0) _ _ (off Kept _) (repeat-plain (repeat_of v))
  step-plain role.Media =
      past_row Kept 10 32 _ (media_of v) _ (λ m q. medias-plain _ (each_append MediaPlain ρ.session.tables.medias _ T.medias (record { line = media_back v m b q; title = tt; key = refl }, tt)))
  step-plain role.MediaTitle =
      past-once Kept 18 (last_titled ρ.session.tables.medias) (whole_of 33 v) _ (λ p q.
      last_goes (titled (part v p)) (λ m g. record { line = g.line; title = λ w. whole_back 33 w v p b q; key = g.key }))
  step-plain role.Nothing = on Kept ρ h

-- ---- the lines of a text
-- no line has an LF
split_lacks : (t : List ℕ) → Each (λ r. lacks 10 r.body ≡ true) (split t)
unfolding cutter.split every
split_lacks [] = tt
split_lacks (b ∷ t) = go (eqb b 10) refl (split t) (split_lacks t)
  where
    go : (c : Bool) → eqb b 10 ≡ c → (rs : List Raw) → Each (λ r. lacks 10 r.body ≡ true) rs → Each (λ r. lacks 10 r.body ≡ true) (cond c (record { body = []; ended = true } ∷ rs) (onto b rs))
    go true e rs h = (refl, h)
    go false e [] h = (rw e, tt)
    go false e (r ∷ rs) h = (rw e h.0, h.1)

content_lacks : (r : Raw) → lacks 10 r.body ≡ true → lacks 10 (content r) ≡ true
unfolding cutter.content cutter.chop
content_lacks r h = go r.ended (eqb (get_or r.body (length r.body - 1) 0) 13)
  where
    go : (a b : Bool) → lacks 10 (cond a (cond b (take (length r.body - 1) r.body) r.body) r.body) ≡ true
    go true true = every_take (λ b. not (eqb b 10)) (length r.body - 1) r.body h
    go true false = h
    go false b = h

-- a line without LF, NUL and CR
bare_line : (l : List ℕ) → lacks 10 l ≡ true → has_nul_or_cr l ≡ false → bare l ≡ true
unfolding every cutter.has_nul_or_cr
bare_line [] h e = refl
bare_line (b ∷ l) h e = go (eqb b 0) (eqb b 13) (eqb b 10) e (and_left (not (eqb b 10)) _ h) (bare_line l (and_right (not (eqb b 10)) _ h))
  where
    go : (x y z : Bool) → (x || y || has_nul_or_cr l) ≡ false → not z ≡ true → (has_nul_or_cr l ≡ false → bare l ≡ true) → (not (x || (y || z)) && bare l) ≡ true
    go false false false e q ih = ih e
    go false false true e q ih = q
    go false true z e q ih = sym e
    go true y z e q ih = sym e

good_bare : (l : List ℕ) (c : ℕ) → lacks 10 l ≡ true → form_of l ≡ Ok (Some c) → bare l ≡ true
unfolding cutter.form_of
good_bare l c h e = go (has_nul_or_cr l) refl e
  where
    go : (b : Bool) → has_nul_or_cr l ≡ b → cond b (Err NulOrCr) (plain_form l) ≡ Ok (Some c) → bare l ≡ true
    go true q e = absurd (let z : ◌≡◌ {A = ℕ} 0 1 = cc in omega arith)
    go false q e = bare_line l h q

abbrev Whole : Verdict (List ℕ) → Type 0
Whole (accepted s) = Plain s
Whole (refused x) = Unit {0}

form_plain : (ρ : Reading (List ℕ)) (p : ℕ) (l : List ℕ) → lacks 10 l ≡ true → Plain ρ.session → (g : Form) → form_of l ≡ g → Going (λ τ. Plain τ.session) (step_form bytes_at ρ p l g)
form_plain ρ p l b h (Ok None) e = on (λ τ. Plain τ.session) ρ h
form_plain ρ p l b h (Err f) e = off (λ τ. Plain τ.session) _
form_plain ρ p l b h (Ok (Some c)) e = step-plain ρ (drop 2 l) (every_drop (λ b. not (dropped b)) 2 l (good_bare l c b e)) h (role_at (length ρ.session.tables.medias) c)

run-plain : (rs : List Raw) → Each (λ r. lacks 10 r.body ≡ true) rs → (ρ : Reading (List ℕ)) (n p : ℕ) → Plain ρ.session → Whole (run bytes_at ρ n p rs)
unfolding reader.run
run-plain [] b ρ n p h = h
run-plain (r ∷ rs) b ρ n p h =
    go (step_form bytes_at ρ p (content r) (form_of (content r))) (form_plain ρ p (content r) (content_lacks r b.0) h (form_of (content r)) refl) (λ τ. run-plain rs b.1 τ (n + 1) (p + width r))
  where
    go : (σ : Stepped (List ℕ)) → Going (λ τ. Plain τ.session) σ → ((τ : Reading (List ℕ)) → Plain τ.session → Whole (run bytes_at τ (n + 1) (p + width r) rs)) → Whole (after bytes_at σ n (p + 2) (λ τ. run bytes_at τ (n + 1) (p + width r) rs))
    go (goes τ) g ih = ih τ (g τ refl)
    go (stops w) g ih = tt

empty-plain : Plain empty
empty-plain = record {
  head = record { origin = tt; name = tt; description = tt; uri = tt; connection = tt; key = refl };
  tables = record { emails = tt; phones = tt; connections = tt; bandwidths = tt; attributes = tt; medias = tt };
}

begin-plain : (rs : List Raw) → Each (λ r. lacks 10 r.body ≡ true) rs → (n p : ℕ) → Whole (begin bytes_at n p rs)
unfolding reader.begin
begin-plain [] b n p = tt
begin-plain (r ∷ rs) b n p = form (form_of (content r)) (begin-plain rs b.1 (n + 1) (p + width r)) (run-plain rs b.1 fresh (n + 1) (p + width r) empty-plain)
  where
    start : (x y : Bool) (k : Verdict (List ℕ)) → Whole k → Whole (cond x (cond y k (refused (bad_version n (p + 2) (length (drop 2 (content r)))))) (refused no_version))
    start true true k h = h
    start true false k h = tt
    start false y k h = tt

    form : (g : Form) → Whole (begin bytes_at (n + 1) (p + width r) rs) → Whole (run bytes_at fresh (n + 1) (p + width r) rs)
        → Whole (begin_form bytes_at n p (content r) g (begin bytes_at (n + 1) (p + width r) rs) (run bytes_at fresh (n + 1) (p + width r) rs))
    form (Ok None) i j = i
    form (Err f) i j = tt
    form (Ok (Some c)) i j = start (eqb c 0x76) (is_zero (drop 2 (content r))) _ j

pub read_plain : (t : List ℕ) (s : Session (List ℕ)) → lines bytes_at t ≡ accepted s → Plain s
unfolding reader.lines
read_plain t s e = subst Whole e (begin-plain (split t) (split_lacks t) 1 0)
