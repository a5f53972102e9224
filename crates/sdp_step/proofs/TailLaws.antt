-- What stands behind the session in the area.
-- Assumes nothing.
use Prim.Native.Nat.{ℕ}
use mathlib.Core.Path.{◌≡◌, ap, ◌∙◌}
use mathlib.Core.List.{List, ◌++◌}
use lib.ListN.{drop}
use lib.Seq.{drop_at}
use Rattle.sdp_lines.specs.declared.Span.{Span}
use Rattle.sdp_area.specs.Session.{Session}
use Rattle.sdp_area.specs.Area.{encode, size}
use Rattle.sdp_area.proofs.WidthLaws.{length-encode}
use Rattle.sdp_step.specs.Step.{Reading}
use Rattle.sdp_step.specs.Hold.{Holds}
use Rattle.sdp_step.specs.declared.Marks.{Marks}

pub behind : (s : Session Span) (t : List ℕ) → drop size (encode s ++ t) ≡ t
behind s t = drop_at (encode s) t size (length-encode s)

-- the area of h. Where a law's area is not written, antt looks for it in the whole step
abbrev pub held : {ρ : Reading Span} {m : Marks} {a t : List ℕ} → Holds ρ m a t → List ℕ
held {a = a} h = a

pub tail_of : {ρ : Reading Span} {m : Marks} {a t : List ℕ} → Holds ρ m a t → drop size a ≡ t
tail_of {ρ} {m} {a} {t} h = ap (drop size) h.bytes ∙ behind ρ.session t
