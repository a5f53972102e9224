-- The lines from a cursor on: what the recognisers promise.
use Rattle.std.specs.Prelude.{ℕ, zero, suc, ◌<◌, ◌≤◌, ◌≡◌, Bool, false, ◌&&◌, ◌||◌, cond, List, eqb, length, drop, Option, Some, None, Result, Ok, Err}
use Rattle.sdp_lines.specs.Lines.{split}
use Rattle.sdp_lines.specs.declared.Cursor.{Cursor}
use Rattle.sdp_lines.specs.declared.Fault.{Fault}
use Rattle.sdp_order.specs.Expression.{Expr, nothing, empty, letter, ◌·◌, ◌or◌, ◌*, ◌⁇, maybe_empty, after}
use Rattle.sdp_order.specs.Order.{repeat_description, time_description, media_description, grammar, letters, run}
use Rattle.sdp_order.specs.declared.Stop.{Stop}
use Rattle.sdp_order.specs.declared.Stop.TheVariants.{Through, AtRepeats}

-- the lines from c on run as x says
unfoldable pub run_from : List ℕ → Cursor → Expr → Bool
run_from s c x = run x (letters (split (drop c.at.0 s)))

-- a list that x describes may begin with l
unfoldable pub begins : ℕ → Expr → Bool
begins l nothing = false
begins l empty = false
begins l (letter k) = eqb l k
begins l (x · y) = cond (maybe_empty x) (begins l x || begins l y) (begins l x)
begins l (x or y) = begins l x || begins l y
begins l (x *) = begins l x

-- d stands behind a line that stands at c
pub record Behind (s : List ℕ) (c d : Cursor) : Type 0 where
  pub stands : c.at.0 < length s
  pub moved : c.at.0 < d.at.0

-- the next line from c on that is not empty: it has the letter l, and the others stand behind it; or its form is bad, and
-- nothing runs; or there is none
abbrev pub Follows : List ℕ → Cursor → Result (Option (ℕ × Cursor)) Fault → Type 0
Follows s c (Ok (Some (l, d))) = Behind s c d × ((x : Expr) → run_from s c x ≡ run_from s d (after l x))
Follows s c (Err f) = (x : Expr) → run_from s c x ≡ false
Follows s c (Ok None) = (x : Expr) → run_from s c x ≡ maybe_empty x

-- whether the next letter from c on is l. It is, and the others stand behind it; or it is not, and then an x that can
-- begin with l alone is not there: what is due after it is due at c
abbrev pub Finds : List ℕ → ℕ → Cursor → Option Cursor → Type 0
Finds s l c (Some d) = Behind s c d × ((x : Expr) → run_from s c x ≡ run_from s d (after l x))
Finds s l c None = (x y : Expr) → ((k : ℕ) → eqb k l ≡ false → begins k x ≡ false) → run_from s c (x · y) ≡ maybe_empty x && run_from s c y

-- the lines from c on run as x where those from d on run as y; d is not before c
pub record Passes (s : List ℕ) (x y : Expr) (c d : Cursor) : Type 0 where
  pub onward : c.at.0 ≤ d.at.0
  pub rest : run_from s c x ≡ run_from s d y

-- the same where there may be no such d: then no lines from c on run as x
abbrev pub Leads : List ℕ → Expr → Expr → Cursor → Option Cursor → Type 0
Leads s x y c (Some d) = run_from s c x ≡ run_from s d y
Leads s x y c None = run_from s c x ≡ false

-- the same where the way to y may stop behind a line: then w is due there
abbrev pub Halts : List ℕ → Expr → Expr → Expr → Cursor → Stop → Type 0
Halts s x w y c (Through d) = run_from s c x ≡ run_from s d y
Halts s x w y c (AtRepeats d) = Behind s c d × (run_from s c x ≡ run_from s d w)

-- ---- parts of the grammar
-- y of x · y
abbrev pub second : Expr → Expr
second nothing = nothing
second empty = nothing
second (letter k) = nothing
second (x · y) = y
second (x or y) = nothing
second (x *) = nothing

-- x without its first n parts
abbrev pub parts_from : ℕ → Expr → Expr
parts_from zero x = x
parts_from (suc n) x = parts_from n (second x)

-- "i? u? e* p* c? b*" and on
abbrev pub from_title : Expr
from_title = parts_from 3 grammar

-- "one or more of (t, then optionally (r+ z?))" and on
abbrev pub from_times : Expr
from_times = parts_from 9 grammar

-- "k? a*" and on
abbrev pub from_key : Expr
from_key = parts_from 10 grammar

-- what is due behind a time's line
abbrev pub from_repeats : Expr
from_repeats = repeat_description ⁇ · (time_description * · from_key)

-- "any number of (m i? c* b* k? a*)"
abbrev pub from_media : Expr
from_media = parts_from 12 grammar

-- "(m i? c* b* k? a*)" without the m
abbrev pub in_media : Expr
in_media = parts_from 1 media_description
