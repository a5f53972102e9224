-- A line that is taken has a use.
-- Assumes nothing.
use mathlib.Core.List.{List}
use Rattle.std.specs.Prelude.{Result, Ok, Err}
use Prim.Native.Nat.{ℕ}
use Rattle.sdp_lines.specs.declared.Span.{Span}
use Rattle.sdp_area.specs.declared.Text.TheVariants.{Description, Uri, Title}
use Rattle.sdp_area.specs.declared.Contact.TheVariants.{Email, Phone}
use Rattle.sdp_roles.specs.Kinds.{kind_of}
use Rattle.sdp_step.specs.Step.{Stepped}
use Rattle.sdp_step.specs.Hold.{Handled, Used, Lands}
use Rattle.sdp_step.specs.declared.Marks.{Marks}
use Rattle.sdp_judge.specs.declared.Wrong.{Wrong}
use Rattle.sdp_take_once.specs.Onces.{once_role}
use Rattle.sdp_take_once.specs.declared.Once.{Once}
use Rattle.sdp_take_once.specs.declared.Once.TheVariants as once
use Rattle.sdp_take_row.specs.Rows.{row_role}
use Rattle.sdp_take_row.specs.declared.Row.{Row}
use Rattle.sdp_take_row.specs.declared.Row.TheVariants as row
use Rattle.sdp_take.specs.Shapes.{told}

module _ (σ : Stepped Span) (m : Marks) (a t : List ℕ) where
  pub used : (r : Result Marks Wrong) → Handled σ r a t → Used σ (told r) a t
  used (Ok n) h = h
  used (Err w) h = h

  module _ (r : Result Marks Wrong) (h : Handled σ r a t) where
    pub once_lands : (x : Once) → Lands (kind_of (once_role x)) σ m (told r) a t
    once_lands once.Origin = used r h
    once_lands once.Name = used r h
    once_lands (once.Text Description) = used r h
    once_lands (once.Text Uri) = used r h
    once_lands (once.Text Title) = used r h
    once_lands once.Connection = used r h

    pub row_lands : (x : Row) → Lands (kind_of (row_role x)) σ m (told r) a t
    row_lands (row.Contact Email) = used r h
    row_lands (row.Contact Phone) = used r h
    row_lands row.Bandwidth = used r h
    row_lands row.Time = used r h
    row_lands row.Attribute = used r h
    row_lands row.Media = used r h
    row_lands row.MediaConnection = used r h
