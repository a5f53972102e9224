-- Regular expressions over letters, and the lists that they describe, as in any textbook: by what may follow a letter.
use Rattle.std.specs.Prelude.{ℕ, Bool, true, false, ◌&&◌, ◌||◌, cond, List, [], ◌∷◌, ◌++◌, eqb}

infixr 40 ◌·◌
infixr 30 ◌or◌
infix 60 ◌*
infix 60 ◌⁇
infix 60 ◌+
-- no list at all; the empty list; one letter; x and then y; x or y; any number of x, one after the other
pub data Expr : Type 0 where
  nothing : Expr
  empty : Expr
  letter : ℕ → Expr
  ◌·◌ : Expr → Expr → Expr
  ◌or◌ : Expr → Expr → Expr
  ◌* : Expr → Expr

-- x, or not: x? of the paper
abbrev pub ◌⁇ : Expr → Expr
x ⁇ = x or empty

-- x, one or more times
abbrev pub ◌+ : Expr → Expr
x + = x · x *

-- e describes the empty list
unfoldable pub maybe_empty : Expr → Bool
maybe_empty nothing = false
maybe_empty empty = true
maybe_empty (letter k) = false
maybe_empty (x · y) = maybe_empty x && maybe_empty y
maybe_empty (x or y) = maybe_empty x || maybe_empty y
maybe_empty (x *) = true

-- what may follow the letter l where e is due
unfoldable pub after : ℕ → Expr → Expr
after l nothing = nothing
after l empty = nothing
after l (letter k) = cond (eqb l k) empty nothing
after l (x · y) = cond (maybe_empty x) (after l x · y or after l y) (after l x · y)
after l (x or y) = after l x or after l y
after l (x *) = after l x · x *

-- e describes the list
unfoldable pub matches : Expr → List ℕ → Bool
matches e [] = maybe_empty e
matches e (l ∷ ls) = matches (after l e) ls

-- The same by an expression's parts, in one rule for each way to build a list. `matches` says yes to exactly these lists
-- (`described` in proofs/Described.antt).
pub data Describes : Expr → List ℕ → Type 0 where
  no_letter : Describes empty []
  one_letter : (k : ℕ) → Describes (letter k) (k ∷ [])
  one_then : {x y : Expr} (ls ms : List ℕ) → Describes x ls → Describes y ms → Describes (x · y) (ls ++ ms)
  left : {x y : Expr} (ls : List ℕ) → Describes x ls → Describes (x or y) ls
  right : {x y : Expr} (ls : List ℕ) → Describes y ls → Describes (x or y) ls
  no_more : {x : Expr} → Describes (x *) []
  one_more : {x : Expr} (ls ms : List ℕ) → Describes x ls → Describes (x *) ms → Describes (x *) (ls ++ ms)
