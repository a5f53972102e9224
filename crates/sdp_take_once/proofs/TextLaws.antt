-- A line whose value is one string, by what its code found.
-- Assumes nothing.
use Prim.Native.Nat.{ℕ}
use mathlib.Core.Path.{◌≡◌, refl, ◌∙◌}
use mathlib.Core.Bool.{true, false}
use mathlib.Core.List.{List, ◌++◌}
use Rattle.sdp_lines.specs.declared.Span.{Span}
use Rattle.sdp_split.specs.declared.Piece.{Piece}
use Rattle.sdp_judge.specs.Read.{plain, whole_of}
use Rattle.sdp_judge.specs.declared.Wrong.{Wrong}
use Rattle.sdp_cells.specs.Bytes.{le}
use Rattle.sdp_area.specs.Session.{Session}
use Rattle.sdp_area.specs.With.{with_description, with_uri, titled, with_last}
use Rattle.sdp_area.specs.Area.{span}
use Rattle.sdp_area.specs.Which.{mark_text, over_text}
use Rattle.sdp_area.specs.declared.Text.{Text}
use Rattle.sdp_area.specs.declared.Text.TheVariants.{Description, Uri, Title}
use Rattle.sdp_area.proofs.HeadLaws.{description-mark, description-set, uri-mark, uri-set}
use Rattle.sdp_area.proofs.LatestLaws.{title_mark, title_set}
use Rattle.sdp_step.specs.Step.{Reading, goes, once, keep, step_role}
use Rattle.sdp_step.specs.Hold.{Holds, Handled}
use Rattle.sdp_step.specs.declared.Marks.{Marks}
use Rattle.sdp_step.proofs.HandleLaws.{once-second, once_wrong, once-kept}
use Rattle.sdp_step.proofs.OnceLaws.{head_kept, medias-kept, length_last}
use Rattle.sdp_step.proofs.TailLaws.{tail_of}
use Rattle.sdp_take_once.specs.Onces.{text_role, text_number, text_field}
use Rattle.std.specs.Prelude.{Ok, Err}

-- the session with the string
abbrev with_text : Text → Session Span → Span → Session Span
with_text Description s p = with_description s p
with_text Uri s p = with_uri s p
with_text Title s p = with_last s (titled p)

module _ (ρ : Reading Span) (m : Marks) (a t : List ℕ) (h : Holds ρ m a t) where
  -- the string set
  text_held : (x : Text) (p : Span) (a' : List ℕ) → a' ≡ over_text x a (le 2 1 ++ span p) → Holds (record { session = with_text x ρ.session p; zoned = ρ.zoned }) m a' t
  text_held Description p a' e = head_kept ρ m m a a' t _ h h.marks (e ∙ description-set ρ.session t h.within a h.bytes p)
  text_held Uri p a' e = head_kept ρ m m a a' t _ h h.marks (e ∙ uri-set ρ.session t h.within a h.bytes p)
  text_held Title p a' e = medias-kept ρ m a a' t _ h (length_last (titled p) ρ.session.tables.medias) (e ∙ title_set ρ.session t h.within a h.bytes p)

  module _ (mk : Piece → Span) (v : List ℕ) where
    -- the step, as the area tells it
    text-step : (x : Text)
        → step_role mk ρ v (text_role x) ≡ once (text_number x) (mark_text x a) (whole_of (text_field x) v) (λ p. goes (keep mk ρ v (with_text x ρ.session (mk p))))
    unfolding step_role
    text-step Description = rw (description-mark ρ.session t h.within a h.bytes)
    text-step Uri = rw (uri-mark ρ.session t h.within a h.bytes)
    text-step Title = rw (title_mark ρ.session t h.within a h.bytes)

    module _ (x : Text) where
      pub text-second : mark_text x a ≡ true → Handled (step_role mk ρ v (text_role x)) (Err (plain (text_number x) 0)) a t
      text-second e = rw (text-step x) (once-second (text_number x) (mark_text x a) _ _ a t e (tail_of h))

      -- n is the field that the code asked for
      module _ (e : mark_text x a ≡ false) (n : ℕ) (is : n ≡ text_field x) where
        pub text_wrong : (w : Wrong) → whole_of n v ≡ Err w → Handled (step_role mk ρ v (text_role x)) (Err w) a t
        text_wrong w f = rw (text-step x, ← is) (once_wrong (text_number x) (mark_text x a) _ _ a t e w f (tail_of h))

        pub text-kept : (p : Piece) (a' : List ℕ) → whole_of n v ≡ Ok p → a' ≡ over_text x a (le 2 1 ++ span (mk p))
            → Handled (step_role mk ρ v (text_role x)) (Ok m) a' t
        text-kept p a' f b = rw (text-step x, ← is) (once-kept (text_number x) (mark_text x a) _ _ a' t e p _ m f refl (text_held x (mk p) a' b))
