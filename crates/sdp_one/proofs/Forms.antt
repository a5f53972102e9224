-- The exceptions of docs/ONE-ANSWER.md whose promises are written out in specs/Walked.antt: `.._said` ties each to the source: it is what the
-- clause of the contract says; `.._once` says the same of what a caller learns, as the toolchain reads it. Assumes nothing.
use mathlib.Core.Path.{◌≡◌, refl}
use mathlib.Core.List.{List, [], ◌∷◌}
use Prim.Native.Nat.{ℕ}
use seplogic.Ra.Ura.{Ura}
use base.Logic.{SProp}
use prog.Memory.{Memory}
use prog.Routine.{Routine}
use types.Logic.{Logic}
use contract.Lifetimes.{Lfts}
use contract.Monad.{Fun, fact}
use denote.Builtin.{u8, RefMutOf, SliceRefOf}
use denote.Exit.{Seen}
use denote.Ref.{Bor}
use denote.Signature.{type_at, plain}
use denote.Triple.Both.{Both}
use Rattle.sdp_lines.specs.declared.LineNumber.{LineNumber}
use Rattle.sdp_lines.specs.contracts.LineNumber as N
use Rattle.sdp_cutter.specs.declared.Cutter.{Cutter}
use Rattle.sdp_cutter.specs.declared.Line.{Line}
use Rattle.sdp_cutter.specs.declared.Next.{Next}
use Rattle.sdp_cutter.specs.contracts.Cutter as T
use Rattle.sdp_cutter.specs.contracts.next_line as next
use Rattle.sdp_cutter.specs.contracts.made as make
use Rattle.sdp_cutter.proofs.next_line.Reads as nextReads
use Rattle.sdp_cutter.proofs.made.Reads as madeReads
use Rattle.sdp_one.specs.One.{OneAnswer, OneState}
use Rattle.sdp_one.specs.Walked.{NextLine, Made}
use Rattle.sdp_one.proofs.OneLaws.{same}

-- ---- next_line
module _ {M : Type 1} {𝓤 : Ura M} (𝓛 : Logic 𝓤) (κs : Lfts 2) (mem : Memory → SProp 𝓤) (run : Routine → Fun 𝓤) where
  abbrev Lent : Type 0
  Lent = (type_at {n = 2} (RefMutOf (0 ∷ []) tt (plain (λ κs. T.the_row)) (λ κs. tt)) κs).Denot

  abbrev Text : Type 0
  Text = (type_at {n = 2} (SliceRefOf (1 ∷ []) tt (plain (λ κs. u8)) (λ κs. tt)) κs).Denot

  pub next_line_said : (c : Lent) (t : Text) (c' : Both Lent (Seen ((type_at {n = 2} (RefMutOf (0 ∷ []) tt (plain (λ κs. T.the_row)) (λ κs. tt)) κs).exit (next.ended).kept.0)))
      (t' : Both Text (Seen ((type_at {n = 2} (SliceRefOf (1 ∷ []) tt (plain (λ κs. u8)) (λ κs. tt)) κs).exit (next.ended).kept.1.0))) (r : Next)
      → next.ensures-1 𝓛 κs mem run c t c' t' r ≡ fact 𝓤 (NextLine c'.entry.now t'.entry.now r c'.exit.now)
  next_line_said c t c' t' r = refl

pub sdp_cutter_next_line : (c : Cutter) (s : List ℕ) (r r' : Next) (z z' : Cutter) → NextLine c s r z → NextLine c s r' z' → (r ≡ r') × (z ≡ z')
sdp_cutter_next_line c s r r' z z' p q = (same p.0 q.0, same p.1 q.1)

pub next_line_once : OneState (λ κs e. e.0.now) nextReads.Learnt
next_line_once κs a z z' e e' = sdp_cutter_next_line a.0.now a.1.0.now z z' e.0.now e'.0.now

-- ---- made
module _ {M : Type 1} {𝓤 : Ura M} (𝓛 : Logic 𝓤) (κs : Lfts 1) (mem : Memory → SProp 𝓤) (run : Routine → Fun 𝓤) where
  abbrev Number : Type 0
  Number = (type_at {n = 1} (plain (λ κs. N.the_row)) κs).Denot

  abbrev Letter : Type 0
  Letter = (type_at {n = 1} (plain (λ κs. u8)) κs).Denot

  abbrev Value : Type 0
  Value = (type_at {n = 1} (SliceRefOf (0 ∷ []) tt (plain (λ κs. u8)) (λ κs. tt)) κs).Denot

  pub made_said : (n : Number) (l : Letter) (v : Value) (n' : Both Number (Seen ((type_at {n = 1} (plain (λ κs. N.the_row)) κs).exit (make.ended).kept.0)))
      (l' : Both Letter (Seen ((type_at {n = 1} (plain (λ κs. u8)) κs).exit (make.ended).kept.1.0)))
      (v' : Both Value (Seen ((type_at {n = 1} (SliceRefOf (0 ∷ []) tt (plain (λ κs. u8)) (λ κs. tt)) κs).exit (make.ended).kept.1.1.0))) (r : Line)
      → make.ensures-1 𝓛 κs mem run n l v n' l' v' r ≡ fact 𝓤 (Made n l v'.entry r)
  made_said n l v n' l' v' r = refl

pub sdp_cutter_made : (n : LineNumber) (l : ℕ) (v : Bor (List ℕ)) (r r' : Line) → Made n l v r → Made n l v r' → r ≡ r'
sdp_cutter_made n l v r r' p q = λ i. record { number = same p.0 q.0 i; letter = same p.1.0 q.1.0 i; value = same p.1.1 q.1.1 i }

pub made_once : OneAnswer madeReads.Learnt
made_once κs a z z' e e' = sdp_cutter_made a.0 a.1.0 a.1.1.0 z z'
