-- An e or a p line, by what its code found.
-- Assumes nothing.
use Prim.Native.Nat.{ℕ}
use mathlib.Core.Path.{◌≡◌, refl, ◌∙◌}
use mathlib.Core.List.{List}
use Rattle.sdp_lines.specs.declared.Span.{Span}
use Rattle.sdp_split.specs.declared.Piece.{Piece}
use Rattle.sdp_judge.specs.Read.{whole_of}
use Rattle.sdp_judge.specs.declared.Wrong.{Wrong}
use Rattle.sdp_cells.specs.Tables.{told, grown}
use Rattle.sdp_cells.specs.declared.Full.{Full}
use Rattle.std.specs.Prelude.{Result, Ok, Err}
use Rattle.sdp_area.specs.With.{with_emails, with_phones}
use Rattle.sdp_area.specs.Area.{span}
use Rattle.sdp_area.specs.Which.{contacts_at, most_contacts}
use Rattle.sdp_area.specs.declared.Contact.{Contact}
use Rattle.sdp_area.specs.declared.Contact.TheVariants.{Email, Phone}
use Rattle.sdp_area.proofs.GrownLaws.{emails-grown, phones-grown}
use Rattle.sdp_step.specs.Step.{Reading, step_role}
use Rattle.sdp_step.specs.Hold.{Holds, Handled, stored_of}
use Rattle.sdp_step.specs.declared.Marks.{Marks}
use Rattle.sdp_step.proofs.HandleLaws.{row_wrong, row_pushed}
use Rattle.sdp_step.proofs.TailLaws.{tail_of}
use Rattle.sdp_step.proofs.WithinLaws.{within-emails, within-phones}
use Rattle.sdp_take_row.specs.Rows.{contact_role, contact_field, contact_table}

-- n is the field that the code asked for
module _ (ρ : Reading Span) (m : Marks) (a t : List ℕ) (h : Holds ρ m a t) (mk : Piece → Span) (v : List ℕ) (n : ℕ) where
  pub contact_wrong : (x : Contact) → n ≡ contact_field x → (w : Wrong) → whole_of n v ≡ Err w
      → Handled (step_role mk ρ v (contact_role x)) (Err w) a t
  unfolding step_role
  contact_wrong Email is w f = rw (← is) (row_wrong 1 16 _ _ _ a t w f (tail_of h))
  contact_wrong Phone is w f = rw (← is) (row_wrong 2 16 _ _ _ a t w f (tail_of h))

  -- p is what the push answered, and a' the area then
  pub contact_pushed : (x : Contact) → n ≡ contact_field x → (q : Piece) (p : Result (Unit {0}) Full) (a' : List ℕ) → whole_of n v ≡ Ok q
      → p ≡ told a (contacts_at x) (most_contacts x) → a' ≡ grown a (contacts_at x) (most_contacts x) (span (mk q)) → Handled (step_role mk ρ v (contact_role x)) (stored_of p (contact_table x) m) a' t
  unfolding step_role
  contact_pushed Email is q p a' f e b =
      let g = emails-grown ρ.session t h.within a h.bytes (mk q) in
      rw (← is)
      (row_pushed 1 16 ρ.session.tables.emails _ _ q f (mk q) (with_emails ρ.session) m t a a' ρ h p (e ∙ g.0) (b ∙ g.1)
      (within-emails ρ.session h.within) refl refl refl)
  contact_pushed Phone is q p a' f e b =
      let g = phones-grown ρ.session t h.within a h.bytes (mk q) in
      rw (← is)
      (row_pushed 2 16 ρ.session.tables.phones _ _ q f (mk q) (with_phones ρ.session) m t a a' ρ h p (e ∙ g.0) (b ∙ g.1)
      (within-phones ρ.session h.within) refl refl refl)
