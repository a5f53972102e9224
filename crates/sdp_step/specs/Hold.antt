-- What the functions that take a line promise, for every session that the area holds: the step's answer, and the area for it.
use Rattle.std.specs.Prelude.{◌≡◌, false, List, [], ◌++◌, ℕ, length, drop, Option, Some, None, Result, Ok, Err}
use Rattle.sdp_numbers.specs.Refusals as refusals
use Rattle.sdp_lines.specs.declared.Span.{Span}
use Rattle.sdp_area.specs.Session.{Within}
use Rattle.sdp_area.specs.Area.{encode, size}
use Rattle.sdp_area.specs.Latest.{given}
use Rattle.sdp_judge.specs.Read.{plain}
use Rattle.sdp_cells.specs.declared.Full.{Full}
use Rattle.sdp_step.specs.Step.{Reading, Stepped, goes, stops, step_role}
use Rattle.sdp_strings.specs.Strings.{span_at}
use Rattle.sdp_roles.specs.Roles.{role_at}
use Rattle.sdp_roles.specs.Kinds.{Kind, unused, media, other, kind_of}
use Rattle.sdp_roles.specs.declared.Role.{Role}
use Rattle.sdp_step.specs.declared.Marks.{Marks}
use Rattle.sdp_judge.specs.declared.Wrong.{Wrong}

-- what the code keeps beside the area
abbrev pub marks_of : Reading Span → Marks
marks_of ρ = record { named = given ρ.session.head.name; zoned = ρ.zoned }

-- the area a and the marks m hold the session ρ, with t behind it; before the z line there are no zones
pub record Holds (ρ : Reading Span) (m : Marks) (a t : List ℕ) : Type 0 where
  pub marks : m ≡ marks_of ρ
  pub bytes : a ≡ encode ρ.session ++ t
  pub within : Within ρ.session
  pub unzoned : ρ.zoned ≡ false → ρ.session.tables.zones ≡ []

-- a line with a use: a step that goes on is kept in the area; after one that stops, only the bytes behind the session still count
abbrev pub Handled : Stepped Span → Result Marks Wrong → List ℕ → List ℕ → Type 0
Handled (goes ρ) (Ok m) a t = Holds ρ m a t
Handled (goes ρ) (Err w) a t = ⊥
Handled (stops w) (Ok m) a t = ⊥
Handled (stops w) (Err x) a t = (x ≡ w) × (drop size a ≡ t)

-- one line taken: whatever session the area held, the step's outcome is there
abbrev pub Takes : (Reading Span → Stepped Span) → Marks → Result Marks Wrong → List ℕ → List ℕ → Type 0
Takes f m r a a' = (ρ : Reading Span) (t : List ℕ) → Holds ρ m a t → Handled (f ρ) r a' t

-- a row that was stored, or did not fit the table
abbrev pub stored_of : Result (Unit {0}) Full → ℕ → Marks → Result Marks Wrong
stored_of (Ok _) table m = Ok m
stored_of (Err _) table m = Err (plain refusals.table_full table)

-- a line of the role x, whose value v stands at place p
abbrev pub Reads : Role → ℕ → List ℕ → Marks → Result Marks Wrong → List ℕ → List ℕ → Type 0
Reads x p v m r a a' = Takes (λ ρ. step_role (span_at p v) ρ v x) m r a a'

-- the same of a line with a use, told beside lines without
abbrev pub Used : Stepped Span → Result (Option Marks) Wrong → List ℕ → List ℕ → Type 0
Used x (Ok None) a t = ⊥
Used x (Ok (Some m)) a t = Handled x (Ok m) a t
Used x (Err w) a t = Handled x (Err w) a t

-- a line of any kind: where it has no use, no marks are told, and the marks m stay
abbrev pub Lands : Kind → Stepped Span → Marks → Result (Option Marks) Wrong → List ℕ → List ℕ → Type 0
Lands unused x m (Ok None) a t = Handled x (Ok m) a t
Lands unused x m (Ok (Some n)) a t = ⊥
Lands unused x m (Err w) a t = ⊥
Lands media x m r a t = Used x r a t
Lands other x m r a t = Used x r a t

-- a line whose role hangs on the session that the area held, its value v at place p
abbrev pub Tells : (Reading Span → Role) → ℕ → List ℕ → Marks → Result (Option Marks) Wrong → List ℕ → List ℕ → Type 0
Tells x p v m r a a' = (ρ : Reading Span) (t : List ℕ) → Holds ρ m a t → Lands (kind_of (x ρ)) (step_role (span_at p v) ρ v (x ρ)) m r a' t

-- the role of a line with the letter l, after the medias so far
abbrev pub role_in : ℕ → Reading Span → Role
role_in l ρ = role_at (length ρ.session.tables.medias) l
