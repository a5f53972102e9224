-- One line: only an m line is a media more.
-- Assumes nothing.
use mathlib.Core.Path.{◌≡◌}
use mathlib.Core.List.{List, [], ◌∷◌}
use Prim.Native.Nat.{ℕ, ◌+◌}
use native.Mathlib.Omega.{arith}
use lib.ListN.{length, length-append}
use lib.Dec.{ltb, leb, eqb}
use Rattle.sdp_split.specs.declared.Piece.{Piece}
use Rattle.sdp_judge.specs.Read.{Read, whole_of}
use Rattle.sdp_fields.specs.Records.{origin_of, connection_of, bandwidth_of, times_of, attribute_of}
use Rattle.sdp_media_line.specs.MediaLine.{media_of}
use Rattle.sdp_lists.specs.Lists.{RepeatLine, repeat_of, zones_of}
use Rattle.sdp_area.specs.With.{titled}
use Rattle.sdp_area.specs.Latest.{given, last_titled}
use Rattle.sdp_step.specs.Step
use Rattle.sdp_step.specs.Step.{Reading, media_in, repeated, step_role}
use Rattle.sdp_step.proofs.OnceLaws.{length_last}
use Rattle.sdp_step.proofs.GoingLaws.{Going, on, off, past-cond, past-once, past_row}
use Rattle.sdp_roles.specs.declared.Role.{Role}
use Rattle.sdp_roles.specs.declared.Role.TheVariants as role
use Rattle.sdp_counts.specs.Count.{opens}
use Rattle.std.specs.Prelude.{Ok, Err}

module _ {S : Type 0} (mk : Piece → S) (ρ : Reading S) (v : List ℕ) where
  abbrev medias_of : Reading S → ℕ
  medias_of τ = length τ.session.tables.medias

  -- m medias more
  abbrev More : ℕ → Reading S → Type 0
  More m τ = medias_of τ ≡ medias_of ρ + m

  repeat-medias : (x : Read RepeatLine) → Going (More 0) (repeated mk ρ v x)
  repeat-medias (Err w) = off _ _
  repeat-medias (Ok r) =
      past-cond _ (ltb (length ρ.session.tables.repeats) 64) _ _
      (past-cond _ (leb (length ρ.session.tables.offsets + length r.offsets) 256) _ _ (on _ _ (omega arith)) (off _ _)) (off _ _)

  pub step-medias : (x : Role) → Going (More (opens x)) (step_role mk ρ v x)
  unfolding Step.step_role
  step-medias role.Origin = past-once _ 12 (given ρ.session.head.origin) (origin_of v) _ (λ o q. on _ _ (omega arith))
  step-medias role.Name = past-once _ 13 (given ρ.session.head.name) (whole_of 34 v) _ (λ p q. on _ _ (omega arith))
  step-medias role.Description = past-once _ 14 (given ρ.session.head.description) (whole_of 35 v) _ (λ p q. on _ _ (omega arith))
  step-medias role.Uri = past-once _ 15 (given ρ.session.head.uri) (whole_of 36 v) _ (λ p q. on _ _ (omega arith))
  step-medias role.Connection = past-once _ 16 (given ρ.session.head.connection) (connection_of v) _ (λ c q. on _ _ (omega arith))
  step-medias role.Zone = past-once _ 17 ρ.zoned (zones_of v) _ (λ zs q. past-cond _ (leb (length zs) 64) _ _ (on _ _ (omega arith)) (off _ _))
  step-medias role.MediaTitle =
      past-once _ 18 (last_titled ρ.session.tables.medias) (whole_of 33 v) _ (λ p q. on _ _ (omega (arith, length_last (titled (mk p)) ρ.session.tables.medias)))
  step-medias role.Email = past_row _ 1 16 _ (whole_of 37 v) _ (λ p q. omega arith)
  step-medias role.Phone = past_row _ 2 16 _ (whole_of 38 v) _ (λ p q. omega arith)
  step-medias role.MediaConnection = past_row _ 3 64 _ (connection_of v) _ (λ c q. omega arith)
  step-medias role.Bandwidth = past_row _ 4 64 _ (bandwidth_of v) _ (λ b q. omega arith)
  step-medias role.Time = past_row _ 5 32 _ (times_of v) _ (λ t q. omega arith)
  step-medias role.Repeat = past-cond _ (eqb (length ρ.session.tables.times) 0) _ _ (off _ _) (repeat-medias (repeat_of v))
  step-medias role.Attribute = past_row _ 9 512 _ (attribute_of v) _ (λ a q. omega arith)
  step-medias role.Media = past_row _ 10 32 _ (media_of v) _ (λ m q. length-append ρ.session.tables.medias (media_in mk m ∷ []))
  step-medias role.Nothing = on _ ρ (omega arith)
