-- The written form of a session depends on the bytes of its strings alone. Assumes nothing.
use Prim.Native.Nat.{ℕ, ◌+◌}
use mathlib.Core.Path.{◌≡◌, refl, ap}
use mathlib.Core.List.{List, [], ◌∷◌, ◌++◌, map}
use Rattle.std.specs.Prelude.{Option, Some, None, option_map}
use Rattle.sdp_area.specs.Session.{Origin, Bandwidth, MediaConnection, Attribute, Media, Head, Tables, Session}
use Rattle.sdp_decode.specs.Rows as rows
use Rattle.sdp_decode.specs.Rows.{each, mine}
use Rattle.sdp_row.specs.Written as form
use Rattle.sdp_row.specs.Written.{line, text, zones_line, optional, username_text, origin_line, name_line, attribute_line, string_line, bandwidths_of, attributes_of, connections_of, media_line, media_lines, head_lines, contact_lines, closing_lines, written}
use Rattle.sdp_same.specs.Said.{said_origin, said_connection, said_media_connection, said_bandwidth, said_attribute, said_media, said_head, said_tables, said}

behind : (a : List ℕ) {b b' : List ℕ} → b ≡ b' → a ++ b ≡ a ++ b'
behind a q = λ i. a ++ q i

join : {a a' b b' : List ℕ} → a ≡ a' → b ≡ b' → a ++ b ≡ a' ++ b'
join p q = λ i. p i ++ q i

-- ---- rows and what may be absent: g writes of h x what f writes of x
module _ {X Y : Type 0} (h : X → Y) where
  each-said : (f : ℕ → X → List ℕ) (g : ℕ → Y → List ℕ) → ((k : ℕ) (x : X) → f k x ≡ g k (h x)) → (xs : List X) (n : ℕ) → each f n xs ≡ each g n (map h xs)
  unfolding rows.each
  each-said f g e [] n = refl
  each-said f g e (x ∷ xs) n = join (e n x) (each-said f g e xs (n + 1))

  optional-said : (f : X → List ℕ) (g : Y → List ℕ) → ((x : X) → f x ≡ g (h x)) → (o : Option X) → optional f o ≡ optional g (option_map h o)
  optional-said f g e None = refl
  optional-said f g e (Some x) = e x

-- the bytes of a string that is its bytes
abbrev pub id : List ℕ → List ℕ
id x = x

module _ {S : Type 0} (f : S → List ℕ) where
  -- ---- lines
  username-said : (o : Option S) → username_text f o ≡ username_text id (option_map f o)
  unfolding form.username_text
  username-said None = refl
  username-said (Some x) = refl

  origin_said : (o : Option (Origin S)) → origin_line f o ≡ origin_line id (option_map (said_origin f) o)
  unfolding form.origin_line form.origin_value
  origin_said None = refl
  origin_said (Some o) = ap (line 0x6f) (join (username-said o.username) refl)

  name-said : (o : Option S) → name_line f o ≡ name_line id (option_map f o)
  name-said None = refl
  name-said (Some x) = refl

  string_said : (letter : ℕ) (o : Option S) → optional (string_line f letter) o ≡ optional (string_line id letter) (option_map f o)
  string_said letter = optional-said f _ _ (λ x. refl)

  attribute-said : (a : Attribute S) → attribute_line f a ≡ attribute_line id (said_attribute f a)
  unfolding form.attribute_line
  attribute-said a = ap (line 0x61) (behind (text f a.attribute) (optional-said f _ (λ y. (0x3a ∷ []) ++ text id y) (λ y. refl) a.value))

  -- ---- the lines of an owner
  bandwidths-said : (bs : List (Bandwidth S)) (n : ℕ) → bandwidths_of f bs n ≡ bandwidths_of id (map (said_bandwidth f) bs) n
  unfolding form.bandwidth_line
  bandwidths-said bs n = each-said (said_bandwidth f) _ _ (λ k b. refl) bs 1

  connections-said : (cs : List (MediaConnection S)) (n : ℕ) → connections_of f cs n ≡ connections_of id (map (said_media_connection f) cs) n
  unfolding form.connection_line
  connections-said cs n = each-said (said_media_connection f) _ _ (λ k c. refl) cs 1

  attributes-said : (xs : List (Attribute S)) (n : ℕ) → attributes_of f xs n ≡ attributes_of id (map (said_attribute f) xs) n
  attributes-said xs n = each-said (said_attribute f) _ _ (λ k x. λ i. mine n x.owner (attribute-said x i)) xs 1

  -- ---- the parts
  media-said : (s : Tables S) (n : ℕ) (m : Media S) → media_lines f s n m ≡ media_lines id (said_tables f s) n (said_media f m)
  unfolding form.media_lines form.media_line
  media-said s n m =
      behind (media_line f m)
      (join (string_said 0x69 m.media_title)
      (join (connections-said s.connections n)
      (join (bandwidths-said s.bandwidths n) (attributes-said s.attributes n))))

  head_said : (h : Head S) → head_lines f h ≡ head_lines id (said_head f h)
  unfolding form.head_lines
  head_said h =
      behind (line 0x76 (0x30 ∷ [])) (join (origin_said h.origin) (join (name-said h.name) (join (string_said 0x69 h.description) (string_said 0x75 h.uri))))

  contact_said : (s : Session S) → contact_lines f s ≡ contact_lines id (said f s)
  unfolding form.contact_lines form.connection_line
  contact_said s =
      join (each-said f _ _ (λ k x. refl) s.tables.emails 1)
      (join (each-said f _ _ (λ k x. refl) s.tables.phones 1)
      (join (optional-said (said_connection f) _ _ (λ c. refl) s.head.connection)
      (join (bandwidths-said s.tables.bandwidths 0) refl)))

  closing_said : (s : Session S) → closing_lines f s ≡ closing_lines id (said f s)
  unfolding form.closing_lines
  closing_said s = behind (zones_line s.tables.zones) (attributes-said s.tables.attributes 0)

  -- the text of a session is the text of what its strings say
  pub written-said : (s : Session S) → written f s ≡ written id (said f s)
  unfolding form.written
  written-said s =
      join (head_said s.head)
      (join (contact_said s)
      (join (closing_said s) (each-said (said_media f) _ _ (media-said s.tables) s.tables.medias 1)))
