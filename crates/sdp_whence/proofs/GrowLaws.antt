-- What a line's step does to the rows and to the medias of a session, for each role.
-- Assumes nothing.
use Prim.Native.Nat.{ℕ, zero, suc, ◌+◌, ◌≤◌}
use native.Mathlib.Omega.{arith}
use mathlib.Core.Path.{◌≡◌, refl, sym}
use mathlib.Core.Bool.{false, false≢true}
use mathlib.Core.List.{List, [], ◌∷◌, ◌++◌}
use Rattle.std.specs.Prelude.{None, Ok, Err}
use lib.Dec.{ltb, leb, eqb}
use lib.ListN.{length, get_or, set, length-append}
use Rattle.sdp_lines.specs.declared.Span.{Span}
use Rattle.sdp_split.specs.declared.Piece.{Piece}
use Rattle.sdp_judge.specs.Read.{Read, whole_of}
use Rattle.sdp_fields.specs.Records.{origin_of, connection_of, bandwidth_of, times_of, attribute_of}
use Rattle.sdp_media_line.specs.MediaLine.{media_of}
use Rattle.sdp_lists.specs.Lists.{RepeatLine, repeat_of, zones_of}
use Rattle.sdp_area.specs.Session.{Media}
use Rattle.sdp_area.specs.With.{titled, set_last}
use Rattle.sdp_area.specs.Latest.{given, last_titled}
use Rattle.sdp_step.specs.Step
use Rattle.sdp_step.specs.Step.{Reading, repeated, step_role, media_in}
use Rattle.sdp_step.proofs.OnceLaws.{length_last}
use Rattle.sdp_step.proofs.GoingLaws.{Going, on, off, past-cond, past-once, past_first, past_row}
use Rattle.sdp_roles.specs.declared.Role.{Role}
use Rattle.sdp_roles.specs.declared.Role.TheVariants as role
use Rattle.sdp_stamp.specs.Stamp.{rows_in}
use Rattle.sdp_stamp.proofs.CellLaws.{one-le}

-- no column has fewer rows than before
abbrev pub Up : List ℕ → List ℕ → Type 0
Up [] [] = Unit {0}
Up [] (j ∷ js) = ⊥
Up (i ∷ is) [] = ⊥
Up (i ∷ is) (j ∷ js) = (i ≤ j) × Up is js

up_same : (is : List ℕ) → Up is is
up_same [] = tt
up_same (i ∷ is) = (omega arith, up_same is)

up_set : (k j : ℕ) (is : List ℕ) → get_or is k 0 ≤ j → Up is (set is k j)
up_set k j [] h = tt
up_set zero j (i ∷ is) h = (h, up_same is)
up_set (suc k) j (i ∷ is) h = (omega arith, up_set k j is h)

up_two : (k i j : ℕ) (is : List ℕ) → get_or is k 0 ≤ i → get_or is (suc k) 0 ≤ j → Up is (set (set is k i) (suc k) j)
up_two k i j [] h h' = tt
up_two zero i j (x ∷ is) h h' = (h, up_set 0 j is h')
up_two (suc k) i j (x ∷ is) h h' = (omega arith, up_two k i j is h h')

-- the medias stay, one more comes, without title and key, or the latest, which had no title, gets one
pub data Grew (ms ms' : List (Media Span)) : Type 0 where
  stay : ms' ≡ ms → Grew ms ms'
  added : (m : Media Span) → ms' ≡ ms ++ (m ∷ []) → m.media_title ≡ None → m.key ≡ None → Grew ms ms'
  entitled : (x : Span) → ms' ≡ set_last (titled x) ms → last_titled ms ≡ false → Grew ms ms'

-- before the z line there are no zones
abbrev pub Unzoned : Reading Span → Type 0
Unzoned ρ = ρ.zoned ≡ false → ρ.session.tables.zones ≡ []

pub record Grown (ρ τ : Reading Span) : Type 0 where
  pub rows : Up (rows_in ρ.session) (rows_in τ.session)
  pub medias : Grew ρ.session.tables.medias τ.session.tables.medias
  pub unzoned : Unzoned τ

pub not-grown : (ρ : Reading Span) → Unzoned ρ → Grown ρ ρ
not-grown ρ z = record { rows = up_same (rows_in ρ.session); medias = stay refl; unzoned = z }

module _ (mk : Piece → Span) (ρ : Reading Span) (v : List ℕ) (z : Unzoned ρ) where
  open ρ use {session as s}

  -- the k-th column has one row more, behind the rows xs
  more : {X : Type 0} (xs : List X) (x : X) (k : ℕ) → get_or (rows_in s) k 0 ≡ length xs → Up (rows_in s) (set (rows_in s) k (length (xs ++ (x ∷ []))))
  more xs x k e = up_set k (length (xs ++ (x ∷ []))) (rows_in s) (rw (e, length-append xs (x ∷ [])) (omega arith))

  repeat_grows : (x : Read RepeatLine) → Going (Grown ρ) (repeated mk ρ v x)
  repeat_grows (Err w) = off _ _
  repeat_grows (Ok r) =
      past-cond _ (ltb (length s.tables.repeats) 64) _ _
      (past-cond _ (leb (length s.tables.offsets + length r.offsets) 256) _ _
      (on _ _ (record { rows = up_two 11 _ _ (rows_in s) (rw length-append (omega arith)) (rw length-append (omega arith)); medias = stay refl; unzoned = z })) (off _ _)) (off _ _)

  pub step_grows : (x : Role) → Going (Grown ρ) (step_role mk ρ v x)
  unfolding Step.step_role
  step_grows role.Origin = past-once _ 12 (given s.head.origin) (origin_of v) _ (λ o q. on _ _ (record { rows = up_set 0 1 (rows_in s) (one-le (given s.head.origin)); medias = stay refl; unzoned = z }))
  step_grows role.Name = past-once _ 13 (given s.head.name) (whole_of 34 v) _ (λ p q. on _ _ (record { rows = up_set 1 1 (rows_in s) (one-le (given s.head.name)); medias = stay refl; unzoned = z }))
  step_grows role.Description = past-once _ 14 (given s.head.description) (whole_of 35 v) _ (λ p q. on _ _ (record { rows = up_set 2 1 (rows_in s) (one-le (given s.head.description)); medias = stay refl; unzoned = z }))
  step_grows role.Uri = past-once _ 15 (given s.head.uri) (whole_of 36 v) _ (λ p q. on _ _ (record { rows = up_set 3 1 (rows_in s) (one-le (given s.head.uri)); medias = stay refl; unzoned = z }))
  step_grows role.Connection = past-once _ 16 (given s.head.connection) (connection_of v) _ (λ c q. on _ _ (record { rows = up_set 4 1 (rows_in s) (one-le (given s.head.connection)); medias = stay refl; unzoned = z }))
  step_grows role.Email = past_row _ 1 16 _ (whole_of 37 v) _ (λ p q. record { rows = more s.tables.emails _ 6 refl; medias = stay refl; unzoned = z })
  step_grows role.Phone = past_row _ 2 16 _ (whole_of 38 v) _ (λ p q. record { rows = more s.tables.phones _ 7 refl; medias = stay refl; unzoned = z })
  step_grows role.MediaConnection = past_row _ 3 64 _ (connection_of v) _ (λ c q. record { rows = more s.tables.connections _ 8 refl; medias = stay refl; unzoned = z })
  step_grows role.Bandwidth = past_row _ 4 64 _ (bandwidth_of v) _ (λ b q. record { rows = more s.tables.bandwidths _ 9 refl; medias = stay refl; unzoned = z })
  step_grows role.Time = past_row _ 5 32 _ (times_of v) _ (λ t q. record { rows = more s.tables.times _ 10 refl; medias = stay refl; unzoned = z })
  step_grows role.Repeat = past-cond _ (eqb (length s.tables.times) 0) _ _ (off _ _) (repeat_grows (repeat_of v))
  step_grows role.Zone =
      past_first _ 17 ρ.zoned (zones_of v) _ (λ e zs q. past-cond _ (leb (length zs) 64) _ _ (on _ _ (record { rows = up_set 13 _ (rows_in s) (rw (z e) (omega arith)); medias = stay refl; unzoned = λ f. absurd (false≢true (sym f)) })) (off _ _))
  step_grows role.Attribute = past_row _ 9 512 _ (attribute_of v) _ (λ a q. record { rows = more s.tables.attributes _ 14 refl; medias = stay refl; unzoned = z })
  step_grows role.Media = past_row _ 10 32 _ (media_of v) _ (λ m q. record { rows = more s.tables.medias _ 15 refl; medias = added (media_in mk m) refl refl refl; unzoned = z })
  step_grows role.MediaTitle =
      past_first _ 18 (last_titled s.tables.medias) (whole_of 33 v) _
      (λ e p q. on _ _ (record { rows = up_set 15 _ (rows_in s) (rw (length_last (titled (mk p)) s.tables.medias) (omega arith)); medias = entitled (mk p) refl e; unzoned = z }))
  step_grows role.Nothing = on _ ρ (not-grown ρ z)
