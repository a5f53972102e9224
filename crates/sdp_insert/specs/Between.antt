-- Demand 3, "between whole lines": lines that stand together in a text, and others put in behind them.
use Rattle.std.specs.Prelude.{◌≡◌, false, List, [], ◌∷◌, ◌++◌, ℕ, ◌+◌, ◌≤◌, ◌<◌}
use Rattle.sdp_lines.specs.Lines.{content}
use Rattle.sdp_counts.specs.Count.{role_of, opens}
use Rattle.sdp_insert.specs.Insert.{has_lf, ended, ended_form, Idle}

-- lines, each with its LF
abbrev pub whole : List (List ℕ) → List ℕ
whole [] = []
whole (l ∷ ls) = l ++ (10 ∷ whole ls)

-- each is one line: none of them has another LF
abbrev pub NoneHasLf : List (List ℕ) → Type 0
NoneHasLf [] = Unit
NoneHasLf (l ∷ ls) = (has_lf l ≡ false) × NoneHasLf ls

-- each is empty
abbrev pub AllBlank : List (List ℕ) → Type 0
AllBlank [] = Unit
AllBlank (l ∷ ls) = (content (ended l) ≡ []) × AllBlank ls

-- the medias after them, from that many on
abbrev pub medias_after : ℕ → List (List ℕ) → ℕ
medias_after medias [] = medias
medias_after medias (l ∷ ls) = medias_after (medias + opens (role_of medias (ended_form l))) ls

-- each is empty or well_formed_lem with a letter without use
abbrev pub AllIdle : ℕ → List (List ℕ) → Type 0
AllIdle medias [] = Unit
AllIdle medias (l ∷ ls) = Idle medias (ended_form l) × AllIdle medias ls

-- above says that m lines, or bytes, were put in behind the first n lines: k lines of the first text stand above a line
pub record Below (n m : ℕ) (above : ℕ → ℕ) : Type 0 where
  pub before : (k : ℕ) → k < n → above k ≡ 0
  pub behind : (k : ℕ) → n ≤ k → above k ≡ m
