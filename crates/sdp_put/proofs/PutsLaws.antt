-- Laws of an output with its place: one piece after the other. Assumes nothing.
use mathlib.Core.Path.{◌≡◌, refl, ◌∙◌}
use mathlib.Core.List.{List, [], ◌++◌}
use Prim.Native.Nat.{ℕ}
use Rattle.sdp_put.specs.declared.Out.{Out}
use Rattle.sdp_put.specs.Puts.{Puts}
use Rattle.sdp_put.proofs.OutLaws as bytes
use Rattle.sdp_put.proofs.OutLaws.{Same, Cut}

infixr 20 ◌then◌
pub ◌then◌ : {x y z : Out} {bs cs : List ℕ} → Puts x bs y → Puts y cs z → Puts x (bs ++ cs) z
p then q = record { same = q.same ∙ p.same; put = bytes.◌then◌ p.put q.put }

pub said : {x y : Out} {bs cs : List ℕ} → bs ≡ cs → Puts x bs y → Puts x cs y
said e p = record { same = p.same; put = bytes.said e p.put }

-- ---- what is left to be put: the invariant of a loop
pub record Owed (x₀ : Out) (whole : List ℕ) (x : Out) (rest : List ℕ) : Type 0 where
  pub same : x.bytes.ghost_name ≡ x₀.bytes.ghost_name
  pub owes : Same x₀.bytes.now x₀.at whole x.bytes.now x.at rest

pub begin : {x : Out} {bs bs' : List ℕ} → bs ≡ bs' → Owed x bs x bs'
begin e = record { same = refl; owes = bytes.begin e }

pub turn : {x₀ x y : Out} {whole rest xs ys : List ℕ} → Owed x₀ whole x rest → Cut rest xs ys → Puts x xs y → Owed x₀ whole y ys
turn l e p = record { same = p.same ∙ l.same; owes = bytes.turn l.owes e p.put }

pub finish : {x₀ x : Out} {whole rest : List ℕ} → Owed x₀ whole x rest → rest ≡ [] → Puts x₀ whole x
finish l e = record { same = l.same; put = bytes.finish l.owes e }

-- nothing was put
pub nothing : (x : Out) → Puts x [] x
nothing x = record { same = refl; put = bytes.nothing x.bytes.now x.at }
