-- One line of a text: only an m line is a media more. Assumes nothing.
use Prim.Native.Nat.{ℕ, ◌+◌}
use native.Mathlib.Omega.{arith}
use mathlib.Core.Path.{◌≡◌}
use mathlib.Core.List.{List}
use lib.ListN.{length, drop}
use Rattle.std.specs.Prelude.{Some, None, Ok, Err}
use Rattle.sdp_lines.specs.Lines.{Form}
use Rattle.sdp_split.specs.declared.Piece.{Piece}
use Rattle.sdp_roles.specs.Roles.{role_at}
use Rattle.sdp_step.specs.Step.{Reading}
use Rattle.sdp_step.proofs.GoingLaws.{Going, on, off}
use Rattle.sdp_counts.specs.Count.{role_of, opens}
use Rattle.sdp_counts.proofs.MediaLaws.{step-medias}
use Rattle.sdp_read.specs.Run.{step_form}

module _ {S : Type 0} (at : ℕ → List ℕ → Piece → S) (ρ : Reading S) (p : ℕ) (l : List ℕ) where
  abbrev medias : ℕ
  medias = length ρ.session.tables.medias

  pub line-medias : (f : Form) → Going (λ τ. length τ.session.tables.medias ≡ medias + opens (role_of medias f)) (step_form at ρ p l f)
  line-medias (Ok None) = on _ ρ (omega arith)
  line-medias (Err f) = off _ _
  line-medias (Ok (Some c)) = step-medias (at (p + 2) (drop 2 l)) ρ (drop 2 l) (role_at medias c)
