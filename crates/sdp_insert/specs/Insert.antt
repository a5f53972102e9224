-- Demand 3, first half: "Take a text whose first non-empty line is `v=0`. Insert, after that line and between whole lines, empty
-- lines or well_formed_lem lines whose letter has no use at that place. If both texts are within 32,768 bytes, the answer is demand 2's answer for
-- the first text: the same session, or the same refusal with its line moved down by the insertions above it." Document 02, P2: "In demand 3
-- the place moves by the inserted bytes above it." P11: "with insertions, empty and ignored rise by exactly the lines inserted and kept stays".
use Rattle.std.specs.Prelude.{◌≡◌, ◌⊎◌, Bool, true, false, ◌||◌, List, [], ◌∷◌, ◌++◌, ℕ, zero, suc, ◌+◌, ◌≤◌, ◌<◌, length, eqb, Some, None, Ok, Err}
use Rattle.sdp_numbers.specs.Refusals as refusals
use Rattle.sdp_lines.specs.Lines.{Raw, content, form_of, Form}
use Rattle.sdp_lines.specs.Strings.{bytes_of}
use Rattle.sdp_lines.specs.declared.Span.{Span}
use Rattle.sdp_area.specs.Session.{Session}
use Rattle.sdp_area.specs.Columns.{area_size}
use Rattle.sdp_roles.specs.Roles.{role_at}
use Rattle.sdp_roles.specs.declared.Role.TheVariants.{Nothing}
use Rattle.sdp_strings.specs.Strings.{span_at}
use Rattle.sdp_read.specs.Run.{Verdict, accepted, refused, place_of, outcome_of, untouched, lines, read_text}
use Rattle.sdp_same.specs.Said.{said}
use Rattle.sdp_counts.specs.Count.{role_of, opens, blanks, idles}
use Rattle.sdp_counts.specs.declared.Counts.{Counts}

-- ---- lines
-- LF stands in the bytes
unfoldable pub has_lf : List ℕ → Bool
has_lf [] = false
has_lf (b ∷ l) = eqb b 10 || has_lf l

-- the line of the bytes l and an LF; a CR at the end of l is part of its ending
abbrev pub ended : List ℕ → Raw
ended l = record { body = l; ended = true }

-- its form
abbrev pub ended_form : List ℕ → Form
ended_form l = form_of (content (ended l))

-- "empty lines or well-formed lines whose letter has no use at that place": after that many medias
abbrev pub Idle : ℕ → Form → Type 0
Idle medias (Ok None) = Unit
Idle medias (Ok (Some c)) = role_at medias c ≡ Nothing
Idle medias (Err f) = ⊥

-- ---- texts
-- t' is t with lines put in, from a line's first byte on, after the version line and that many medias
pub data InsertedFrom : ℕ → List ℕ → List ℕ → Type 0 where
  -- no more is put in; so "none is put after a last line that has no LF"
  same : (medias : ℕ) (t : List ℕ) → InsertedFrom medias t t
  -- a line of t; an m line is one media more
  keep : {medias : ℕ} {t t' : List ℕ} (l : List ℕ) → has_lf l ≡ false → InsertedFrom (medias + opens (role_of medias (ended_form l))) t t'
      → InsertedFrom medias (l ++ (10 ∷ t)) (l ++ (10 ∷ t'))
  -- "an inserted line brings its own LF"
  put : {medias : ℕ} {t t' : List ℕ} (l : List ℕ) → has_lf l ≡ false → Idle medias (ended_form l) → InsertedFrom medias t t'
      → InsertedFrom medias t (l ++ (10 ∷ t'))

-- v=0
abbrev pub version : List ℕ
version = 0x76 ∷ 0x3d ∷ 0x30 ∷ []

-- t is "a text whose first non-empty line is `v=0`", and t' is t with lines put in "after that line"
pub data Inserted : List ℕ → List ℕ → Type 0 where
  -- an empty line before the version line
  blank : {t t' : List ℕ} (l : List ℕ) → has_lf l ≡ false → content (ended l) ≡ [] → Inserted t t' → Inserted (l ++ (10 ∷ t)) (l ++ (10 ∷ t'))
  -- the version line
  begun : {t t' : List ℕ} (l : List ℕ) → has_lf l ≡ false → content (ended l) ≡ version → InsertedFrom 0 t t' → Inserted (l ++ (10 ∷ t)) (l ++ (10 ∷ t'))
  -- the version line, if it is the last line and has no LF
  alone : Inserted version version

-- ---- "the insertions above it"
-- how many lines were put in above a line of t that has k lines of t above it, from there on
abbrev pub above_from : {medias : ℕ} {t t' : List ℕ} → InsertedFrom medias t t' → ℕ → ℕ
above_from (same medias t) k = 0
above_from (keep l h i) zero = 0
above_from (keep l h i) (suc k) = above_from i k
above_from (put l h u i) k = suc (above_from i k)

-- the same from the first line on: k is one less than the line's number in t
abbrev pub above : {t t' : List ℕ} → Inserted t t' → ℕ → ℕ
above (blank l h e i) zero = 0
above (blank l h e i) (suc k) = above i k
above (begun l h e i) zero = 0
above (begun l h e i) (suc k) = above_from i k
above alone k = 0

-- document 02, P2, "the inserted bytes above it": the same in bytes. A line put in has its own LF, and its CR is one of its bytes
abbrev pub bytes_from : {medias : ℕ} {t t' : List ℕ} → InsertedFrom medias t t' → ℕ → ℕ
bytes_from (same medias t) k = 0
bytes_from (keep l h i) zero = 0
bytes_from (keep l h i) (suc k) = bytes_from i k
bytes_from (put l h u i) k = length l + 1 + bytes_from i k

-- the same from the first line on
abbrev pub bytes_above : {t t' : List ℕ} → Inserted t t' → ℕ → ℕ
bytes_above (blank l h e i) zero = 0
bytes_above (blank l h e i) (suc k) = bytes_above i k
bytes_above (begun l h e i) zero = 0
bytes_above (begun l h e i) (suc k) = bytes_from i k
bytes_above alone k = 0

-- ---- document 02, P11, "the lines inserted"
-- the sum of what w says of each line that was put in, by the medias above it and its form, from there on
abbrev pub put_from : (ℕ → Form → ℕ) → {medias : ℕ} {t t' : List ℕ} → InsertedFrom medias t t' → ℕ
put_from w (same medias t) = 0
put_from w (keep l h i) = put_from w i
put_from w (put {medias = medias} l h u i) = w medias (ended_form l) + put_from w i

-- the same from the first line on
abbrev pub put_in : (ℕ → Form → ℕ) → {t t' : List ℕ} → Inserted t t' → ℕ
put_in w (blank l h e i) = put_in w i
put_in w (begun l h e i) = put_from w i
put_in w alone = 0

-- how many lines were put in
abbrev pub lines_put : {t t' : List ℕ} → Inserted t t' → ℕ
lines_put i = put_in (λ m f. 1) i

-- how many of them are empty
abbrev pub empty_put : {t t' : List ℕ} → Inserted t t' → ℕ
empty_put i = put_in (λ m f. blanks f) i

-- and how many have a letter without use
abbrev pub idle_put : {t t' : List ℕ} → Inserted t t' → ℕ
idle_put i = put_in (λ m f. idles m f) i

-- "empty and ignored rise by exactly the lines inserted and kept stays": the counts c of t, c' of t'
pub record Rise {t t' : List ℕ} (i : Inserted t t') (c c' : Counts) : Type 0 where
  pub empty : c'.empty ≡ c.empty + empty_put i
  pub ignored : c'.ignored ≡ c.ignored + idle_put i
  pub kept : c'.kept ≡ c.kept
  pub exactly : empty_put i + idle_put i ≡ lines_put i

-- ---- the answers: t is read into the area a, t' into the area a'
-- "the same session": counts, numbers, presence, owners and string bytes agree; document 02, P9: it "leaves these numbers out", the lines, of
-- which each area has those of its own text. The two sessions are what the texts say, which the bytes of the areas alone would not tell: these
-- hold a place's last two bytes
pub record SameSession {t t' : List ℕ} (i : Inserted t t') (a a' : List ℕ) : Type 0 where
  pub session : Session Span
  pub session' : Session Span
  pub says : lines span_at t ≡ accepted session
  pub says' : lines span_at t' ≡ accepted session'
  pub read : read_text t a ≡ outcome_of t a (accepted session)
  pub read' : read_text t' a' ≡ outcome_of t' a' (accepted session')
  pub said : said (bytes_of t) session ≡ said (bytes_of t') session'
  pub rise : Rise i (read_text t a).counts (read_text t' a').counts

-- a refusal of a line; with 8 it names the byte at place, with any other number none
abbrev pub on_byte : {S : Type 0} → ℕ → ℕ → ℕ → ℕ → Verdict S
on_byte number line field place = refused (record { number = number; line = line; field = field; place = place_of number place; len = 0 })

-- "the same refusal with its line moved down by the insertions above it", and its place by their bytes: the refused line has k lines of t
-- above it
pub record SameRefusal {t t' : List ℕ} (i : Inserted t t') (a a' : List ℕ) : Type 0 where
  pub number : ℕ
  pub field : ℕ
  pub k : ℕ
  pub place : ℕ
  pub refusal : 0 < number
  pub read : read_text t a ≡ outcome_of t a (on_byte number (1 + k) field place)
  pub read' : read_text t' a' ≡ outcome_of t' a' (on_byte number (1 + k + above i k) field (place + bytes_above i k))

-- "Area too short": 2 for both, "area unchanged"
pub record TooShort (t t' a a' : List ℕ) : Type 0 where
  pub read : read_text t a ≡ untouched a refusals.area_too_short
  pub read' : read_text t' a' ≡ untouched a' refusals.area_too_short

-- "the answer is demand 2's answer for the first text". Two areas of one length have both the stated size or are both too short
pub record SameAnswer {t t' : List ℕ} (i : Inserted t t') (a a' : List ℕ) : Type 0 where
  pub full : area_size ≤ length a → area_size ≤ length a' → SameSession i a a' ⊎ SameRefusal i a a'
  pub short : length a < area_size → length a' < area_size → TooShort t t' a a'
