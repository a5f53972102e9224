-- The letters of what is written, whatever the session is: each line has a good form, since strings are written without NUL, CR and LF.
-- Assumes nothing.
use Prim.Native.Nat.{ℕ, ◌+◌}
use mathlib.Core.Path.{◌≡◌, refl, sym, ap, ◌∙◌}
use mathlib.Core.Bool.{Bool, true, false, cond, not}
use mathlib.Core.List.{List, [], ◌∷◌, ◌++◌, append-nil, append_assoc}
use Rattle.std.specs.Prelude.{Option, Some, None}
use lib.ListN.{length}
use lib.Dec.{eqb}
use Rattle.sdp_lines.specs.Lines as cutter
use Rattle.sdp_lines.specs.Lines.{split}
use Rattle.sdp_area.specs.Session.{Origin, Connection, Bandwidth, Time, Repeat, Offset, Zone, Attribute, Media, Head, Tables, Session}
use Rattle.sdp_put.specs.Digits.{digits, time_text}
use Rattle.sdp_put.specs.Strings.{dropped, clean}
use Rattle.sdp_put.proofs.ByteLaws.{every, every_append, bare, cleaned}
use Rattle.sdp_put.proofs.DigitLaws.{digits_bare, time_bare, offset_form}
use Rattle.sdp_decode.specs.Rows as rows
use Rattle.sdp_decode.specs.Rows.{each, mine}
use Rattle.sdp_row.specs.Written as form
use Rattle.sdp_row.specs.Written.{line, spaced, optional, repeat_line, time_lines, times_lines, signed_text, zone_text, zones_line, or_dash, text, username_text, origin_value, origin_line, name_line, connection_line, bandwidth_line, attribute_line, bandwidths_of, attributes_of, media_line, media_lines, head_lines, contact_lines, closing_lines, written}
use Rattle.sdp_row.proofs.FormLaws.{letter, chop-cr, line_form, line-split}
use Rattle.sdp_order.specs.Order as order
use Rattle.sdp_order.specs.Order.{letters}

-- ---- values: none has NUL, CR or LF
record Bare (v : List ℕ) : Type 0 where
  is : bare v ≡ true

infixr 20 ◌and◌
◌and◌ : {a b : List ℕ} → Bare a → Bare b → Bare (a ++ b)
◌and◌ {a} {b} f g = record { is = every_append (λ x. not (dropped x)) a b f.is g.is }

nothing : Bare []
unfolding every
nothing = record { is = refl }

behind : (b : ℕ) → not (dropped b) ≡ true → {v : List ℕ} → Bare v → Bare ((b ∷ []) ++ v)
unfolding every
behind b h f = record { is = rw (h, f.is) }

space : {a : List ℕ} → Bare a → Bare (spaced a)
space f = behind 0x20 refl f

dash : {a : List ℕ} → Bare a → Bare (0x2d ∷ a)
dash f = behind 0x2d refl f

number : (n : ℕ) → Bare (digits n)
number n = record { is = digits_bare n }

time : (n : ℕ) → Bare (time_text n)
time n = record { is = time_bare n }

each_bare : {X : Type 0} (f : ℕ → X → List ℕ) → ((k : ℕ) (x : X) → Bare (f k x)) → (n : ℕ) (xs : List X) → Bare (each f n xs)
unfolding rows.each
each_bare f h n [] = nothing
each_bare f h n (x ∷ xs) = h n x and each_bare f h (n + 1) xs

mine_bare : (n owner : ℕ) {v : List ℕ} → Bare v → Bare (mine n owner v)
unfolding rows.mine
mine_bare n owner {v} f = go (eqb owner n)
  where
    go : (b : Bool) → Bare (cond b v [])
    go true = f
    go false = nothing

optional_bare : {X : Type 0} (f : X → List ℕ) → ((x : X) → Bare (f x)) → (o : Option X) → Bare (optional f o)
optional_bare f h None = nothing
optional_bare f h (Some x) = h x

signed : (n : ℕ) → Bare (signed_text n)
signed n = offset_form Bare time (λ t. dash (time t)) _ _

zone : (k : ℕ) (z : Zone) → Bare (zone_text k z)
unfolding form.zone_text every
zone k z = go (eqb k 1) and (number z.adjustment_time and space (signed z.offset))
  where
    go : (b : Bool) → Bare (cond b [] (0x20 ∷ []))
    go true = nothing
    go false = space nothing

-- ---- the letters of lines: ls, and then those of the lines behind xs
pub record Lettered (ls xs : List ℕ) : Type 0 where
  pub says : (rest ms : List ℕ) → letters (split rest) ≡ Some ms → letters (split (xs ++ rest)) ≡ Some (ls ++ ms)

line_letter : (l : ℕ) → letter l ≡ true → {v : List ℕ} → Bare v → Lettered (l ∷ []) (line l v)
unfolding order.letters cutter.content
line_letter l good {v} f = record {
  says = λ rest ms e. rw (line-split l v good f.is rest, chop-cr (l ∷ 0x3d ∷ v), line_form l v good f.is, e);
}

none_here : Lettered [] []
none_here = record { says = λ rest ms e. e }

infixr 50 ◌then◌
◌then◌ : {ls ms xs ys : List ℕ} → Lettered ls xs → Lettered ms ys → Lettered (ls ++ ms) (xs ++ ys)
◌then◌ {ls} {ms} {xs} {ys} a b = record { says = λ rest ns e. rw (append_assoc xs ys rest, append_assoc ls ms ns) (a.says (ys ++ rest) (ms ++ ns) (b.says rest ns e)) }

optional-letters : {X : Type 0} (l : ℕ) (f : X → List ℕ) → ((x : X) → Lettered (l ∷ []) (f x)) → (o : Option X) → Lettered (optional (λ x. l ∷ []) o) (optional f o)
optional-letters l f h None = none_here
optional-letters l f h (Some x) = h x

each-letters : {X : Type 0} (g f : ℕ → X → List ℕ) → ((k : ℕ) (x : X) → Lettered (g k x) (f k x)) → (n : ℕ) (xs : List X) → Lettered (each g n xs) (each f n xs)
unfolding rows.each
each-letters g f h n [] = none_here
each-letters g f h n (x ∷ xs) = h n x then each-letters g f h (n + 1) xs

mine-letters : (n owner : ℕ) {ls xs : List ℕ} → Lettered ls xs → Lettered (mine n owner ls) (mine n owner xs)
unfolding rows.mine
mine-letters n owner {ls} {xs} f = go (eqb owner n)
  where
    go : (b : Bool) → Lettered (cond b ls []) (cond b xs [])
    go true = f
    go false = none_here

-- ---- the letters of a session, in the order of `written`
-- a letter where something is given, and for each row of the owner n
abbrev pub given_letter : {X : Type 0} → ℕ → Option X → List ℕ
given_letter l o = optional (λ x. l ∷ []) o

abbrev pub own_letters : {X : Type 0} → ℕ → (X → ℕ) → List X → ℕ → List ℕ
own_letters l owner xs n = each (λ k x. mine n (owner x) (l ∷ [])) 1 xs

abbrev pub time_letters : List Repeat → ℕ → Time → List ℕ
time_letters rs n t = (0x74 ∷ []) ++ own_letters 0x72 (λ r. r.owner) rs n

unfoldable pub times_letters : List Repeat → List Time → List ℕ
times_letters rs [] = 0x74 ∷ []
times_letters rs (t ∷ ts) = each (time_letters rs) 1 (t ∷ ts)

unfoldable pub zones_letters : List Zone → List ℕ
zones_letters [] = []
zones_letters (z ∷ zs) = 0x7a ∷ []

module _ {S : Type 0} where
  abbrev pub bandwidth_letters : Tables S → ℕ → List ℕ
  bandwidth_letters s n = own_letters 0x62 (λ b. b.owner) s.bandwidths n

  abbrev pub attribute_letters : Tables S → ℕ → List ℕ
  attribute_letters s n = own_letters 0x61 (λ a. a.owner) s.attributes n

  abbrev pub media_letters : Tables S → ℕ → Media S → List ℕ
  media_letters s n m =
      (0x6d ∷ [])
      ++ (given_letter 0x69 m.media_title
      ++ (own_letters 0x63 (λ c. c.owner) s.connections n ++ (bandwidth_letters s n ++ attribute_letters s n)))

  abbrev pub head_letters : Head S → List ℕ
  head_letters h =
      (0x76 ∷ []) ++ ((0x6f ∷ []) ++ ((0x73 ∷ []) ++ (given_letter 0x69 h.description ++ given_letter 0x75 h.uri)))

  -- up to the times, and from the zones on
  abbrev pub contact_letters : Session S → List ℕ
  contact_letters s =
      each (λ k x. 0x65 ∷ []) 1 s.tables.emails
      ++ (each (λ k x. 0x70 ∷ []) 1 s.tables.phones
      ++ (given_letter 0x63 s.head.connection
      ++ (bandwidth_letters s.tables 0 ++ times_letters s.tables.repeats s.tables.times)))

  abbrev pub closing_letters : Session S → List ℕ
  closing_letters s = zones_letters s.tables.zones ++ attribute_letters s.tables 0

  abbrev pub written_letters : Session S → List ℕ
  written_letters s =
      head_letters s.head
      ++ (contact_letters s
      ++ (closing_letters s
      ++ each (media_letters s.tables) 1 s.tables.medias))

-- ---- t, r and z lines
repeat_letter : (os : List Offset) (k : ℕ) (r : Repeat) → Lettered (0x72 ∷ []) (repeat_line os k r)
unfolding form.repeat_line
repeat_letter os k r =
    line_letter 0x72 refl
    (time r.repeat_interval
    and (space (time r.active_duration) and each_bare _ (λ n o. mine_bare k o.owner (space (time o.offset))) 1 os))

time-letters : (rs : List Repeat) (os : List Offset) (n : ℕ) (t : Time) → Lettered (time_letters rs n t) (time_lines rs os n t)
unfolding form.time_lines
time-letters rs os n t =
    line_letter 0x74 refl (number t.start_time and space (number t.stop_time))
    then each-letters _ _ (λ k r. mine-letters n r.owner (repeat_letter os k r)) 1 rs

times-letters : (rs : List Repeat) (os : List Offset) (ts : List Time) → Lettered (times_letters rs ts) (times_lines rs os ts)
unfolding form.times_lines times_letters every
times-letters rs os [] = line_letter 0x74 refl (record { is = refl })
times-letters rs os (t ∷ ts) = each-letters _ _ (time-letters rs os) 1 (t ∷ ts)

zones-letters : (zs : List Zone) → Lettered (zones_letters zs) (zones_line zs)
unfolding form.zones_line zones_letters
zones-letters [] = none_here
zones-letters (z ∷ zs) = line_letter 0x7a refl (each_bare zone_text zone 1 (z ∷ zs))

-- ---- lines with strings
module _ {S : Type 0} (str : S → List ℕ) where
  string : (x : S) → Bare (text str x)
  string x = record { is = cleaned (str x) }

  user : (o : Option S) → Bare (username_text str o)
  unfolding form.username_text form.or_dash
  user None = dash nothing
  user (Some x) = go (eqb (length (str x)) 0)
    where
      go : (b : Bool) → Bare (cond b (0x2d ∷ []) (clean (str x)))
      go true = dash nothing
      go false = string x

  origin_letter : (o : Option (Origin S)) → Lettered (0x6f ∷ []) (origin_line str o)
  unfolding form.origin_line form.origin_value every
  origin_letter None = line_letter 0x6f refl (record { is = refl })
  origin_letter (Some o) =
      line_letter 0x6f refl
      (user o.username
      and (space (string o.sess_id)
      and (space (number o.sess_version)
      and (space (string o.nettype) and (space (string o.addrtype) and space (string o.unicast_address))))))

  name_letter : (o : Option S) → Lettered (0x73 ∷ []) (name_line str o)
  name_letter None = line_letter 0x73 refl nothing
  name_letter (Some x) = line_letter 0x73 refl (string x)

  connection_letter : (c : Connection S) → Lettered (0x63 ∷ []) (connection_line str c)
  unfolding form.connection_line
  connection_letter c = line_letter 0x63 refl (string c.nettype and (space (string c.addrtype) and space (string c.connection_address)))

  bandwidth_letter : (b : Bandwidth S) → Lettered (0x62 ∷ []) (bandwidth_line str b)
  unfolding form.bandwidth_line
  bandwidth_letter b = line_letter 0x62 refl (string b.bwtype and behind 0x3a refl (number b.bandwidth))

  attribute_letter : (a : Attribute S) → Lettered (0x61 ∷ []) (attribute_line str a)
  unfolding form.attribute_line
  attribute_letter a = line_letter 0x61 refl (string a.attribute and optional_bare _ (λ x. behind 0x3a refl (string x)) a.value)

  media_letter : (m : Media S) → Lettered (0x6d ∷ []) (media_line str m)
  unfolding form.media_line
  media_letter m =
      line_letter 0x6d refl
      (string m.media
      and (space (number m.port)
      and (optional_bare _ (λ n. behind 0x2f refl (number n)) m.num_ports
      and (space (string m.proto) and space (string m.fmt)))))

  -- ---- the parts
  bandwidths-letters : (s : Tables S) (n : ℕ) → Lettered (bandwidth_letters s n) (bandwidths_of str s.bandwidths n)
  bandwidths-letters s n = each-letters _ _ (λ k b. mine-letters n b.owner (bandwidth_letter b)) 1 s.bandwidths

  attributes-letters : (s : Tables S) (n : ℕ) → Lettered (attribute_letters s n) (attributes_of str s.attributes n)
  attributes-letters s n = each-letters _ _ (λ k a. mine-letters n a.owner (attribute_letter a)) 1 s.attributes

  media-letters : (s : Tables S) (n : ℕ) (m : Media S) → Lettered (media_letters s n m) (media_lines str s n m)
  unfolding form.media_lines
  media-letters s n m =
      media_letter m
      then optional-letters 0x69 _ (λ x. line_letter 0x69 refl (string x)) m.media_title
      then each-letters _ _ (λ k c. mine-letters n c.owner (connection_letter c.connection)) 1 s.connections
      then bandwidths-letters s n
      then attributes-letters s n

  head_letters_lem : (h : Head S) → Lettered (head_letters h) (head_lines str h)
  unfolding form.head_lines every
  head_letters_lem h =
      line_letter 0x76 refl (record { is = refl })
      then origin_letter h.origin
      then name_letter h.name
      then optional-letters 0x69 _ (λ x. line_letter 0x69 refl (string x)) h.description
      then optional-letters 0x75 _ (λ x. line_letter 0x75 refl (string x)) h.uri

  contact_letters_lem : (s : Session S) → Lettered (contact_letters s) (contact_lines str s)
  unfolding form.contact_lines
  contact_letters_lem s =
      each-letters _ _ (λ k x. line_letter 0x65 refl (string x)) 1 s.tables.emails
      then each-letters _ _ (λ k x. line_letter 0x70 refl (string x)) 1 s.tables.phones
      then optional-letters 0x63 _ connection_letter s.head.connection
      then bandwidths-letters s.tables 0
      then times-letters s.tables.repeats s.tables.offsets s.tables.times

  closing_letters_lem : (s : Session S) → Lettered (closing_letters s) (closing_lines str s)
  unfolding form.closing_lines
  closing_letters_lem s = zones-letters s.tables.zones then attributes-letters s.tables 0

  all_letters : (s : Session S) → Lettered (written_letters s) (written str s)
  unfolding form.written
  all_letters s =
      head_letters_lem s.head
      then contact_letters_lem s
      then closing_letters_lem s
      then each-letters _ _ (media-letters s.tables) 1 s.tables.medias

  pub written-letters : (s : Session S) → letters (split (written str s)) ≡ Some (written_letters s)
  unfolding order.letters cutter.split
  written-letters s =
      ap (λ (w : List ℕ). letters (split w)) (sym (append-nil (written str s)))
      ∙ (all_letters s).says [] [] refl
      ∙ ap Some (append-nil (written_letters s))
