-- What holds of each session that is read, and what the writer asks of a session.
use Rattle.std.specs.Prelude.{ℕ, ◌+◌, ◌≤◌, ◌≡◌, true, List, [], ◌∷◌, length}
use Rattle.sdp_utf8.specs.Utf8.{is_utf8}
use Rattle.sdp_lines.specs.Strings.{bytes_of}
use Rattle.sdp_lines.specs.declared.Span.{Span}
use Rattle.sdp_area.specs.Session.{MediaConnection, Bandwidth, Repeat, Offset, Attribute, Tables, Session}
use Rattle.sdp_same.specs.Fits.{Fits}

-- a string of the text t: it lies in the text, and "all strings are UTF-8"
pub record FineIn (t : List ℕ) (x : Span) : Type 0 where
  pub inside : x.at.0 + x.len ≤ length t
  pub utf8 : is_utf8 (bytes_of t x) ≡ true

-- "owners never fall": from lo on, and none is above most
abbrev pub Rising : {X : Type 0} → (X → ℕ) → ℕ → ℕ → List X → Type 0
Rising owner most lo [] = Unit {0}
Rising owner most lo (x ∷ xs) = (lo ≤ owner x) × (owner x ≤ most) × Rising owner most (owner x) xs

-- "(0 the session, else the media; never 0 for connections), repeats their time, offsets their repeat, counted from 1"
abbrev pub Owned : Tables Span → Type 0
Owned t = record {
  connections : Rising (λ (c : MediaConnection Span). c.owner) (length t.medias) 1 t.connections;
  bandwidths : Rising (λ (b : Bandwidth Span). b.owner) (length t.medias) 0 t.bandwidths;
  repeats : Rising (λ (r : Repeat). r.owner) (length t.times) 1 t.repeats;
  offsets : Rising (λ (o : Offset). o.owner) (length t.repeats) 1 t.offsets;
  attributes : Rising (λ (a : Attribute Span). a.owner) (length t.medias) 0 t.attributes;
}

-- P holds of each string, numbers and tables fit, owners rise
pub record Sound (P : Span → Type 0) (s : Session Span) : Type 0 where
  pub fits : Fits P s
  pub owned : Owned s.tables
