-- A field that is set: what the area holds then.
-- Assumes nothing.
use Prim.Native.Nat.{ℕ, suc}
use native.Mathlib.Omega.{arith}
use mathlib.Core.Path.{◌≡◌, refl, ap}
use mathlib.Core.List.{List, [], ◌∷◌, ◌++◌}
use lib.ListN.{length}
use Rattle.sdp_lines.specs.declared.Span.{Span}
use Rattle.sdp_area.specs.Session.{Head, Media}
use Rattle.sdp_area.specs.With
use Rattle.sdp_area.specs.With.{with_medias, set_last}
use Rattle.sdp_area.specs.Area.{encode}
use Rattle.sdp_area.specs.Latest.{given}
use Rattle.sdp_step.specs.Step.{Reading}
use Rattle.sdp_step.specs.Hold.{Holds}
use Rattle.sdp_step.specs.declared.Marks.{Marks}
use Rattle.sdp_step.proofs.WithinLaws.{within_head, within-medias}

-- another head; the marks keep up with its name
pub head_kept : (ρ : Reading Span) (m m' : Marks) (a a' t : List ℕ) (x : Head Span) → Holds ρ m a t
    → m' ≡ record { named = given x.name; zoned = ρ.zoned } → a' ≡ encode (record { head = x; tables = ρ.session.tables }) ++ t
    → Holds (record { session = record { head = x; tables = ρ.session.tables }; zoned = ρ.zoned }) m' a' t
head_kept ρ m m' a a' t x h e b = record { marks = e; bytes = b; within = within_head ρ.session h.within x; unzoned = h.unzoned }

-- other medias, as many as before
pub medias-kept : (ρ : Reading Span) (m : Marks) (a a' t : List ℕ) (xs : List (Media Span)) → Holds ρ m a t
    → length xs ≡ length ρ.session.tables.medias → a' ≡ encode (with_medias ρ.session xs) ++ t
    → Holds (record { session = with_medias ρ.session xs; zoned = ρ.zoned }) m a' t
medias-kept ρ m a a' t xs h e b =
    record { marks = h.marks; bytes = b; within = within-medias ρ.session h.within xs (omega (arith, h.within.medias)); unzoned = h.unzoned }

pub length_last : {X : Type 0} (g : X → X) (xs : List X) → length (set_last g xs) ≡ length xs
unfolding With.set_last
length_last g [] = refl
length_last g (x ∷ []) = refl
length_last g (x ∷ y ∷ ys) = ap suc (length_last g (y ∷ ys))
