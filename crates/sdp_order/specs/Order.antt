-- Document 01, "Letter order", with the zones' place by document 02, P6: the grammar of RFC 8866, section 9.
use Rattle.std.specs.Prelude.{ℕ, Bool, true, false, cond, List, [], ◌∷◌, length, ltb, Result, Ok, Err, Option, Some, None}
use Rattle.sdp_numbers.specs.Refusals as refusals
use Rattle.sdp_numbers.specs.Refusals.{longest_text}
use Rattle.sdp_lines.specs.Lines.{Raw, split, content, form_of, Form}
use Rattle.sdp_order.specs.Expression.{Expr, letter, ◌·◌, ◌*, ◌⁇, ◌+, matches}
use Rattle.sdp_order.specs.declared.Verdict.{Verdict}
use Rattle.sdp_order.specs.declared.Refusal.{Refusal}
use Rattle.sdp_order.specs.declared.Refusal.TheVariants.{TooLong}

-- ---- the letters of document 01, as bytes
abbrev v : Expr
v = letter 0x76

abbrev o : Expr
o = letter 0x6f

abbrev s : Expr
s = letter 0x73

abbrev i : Expr
i = letter 0x69

abbrev u : Expr
u = letter 0x75

abbrev e : Expr
e = letter 0x65

abbrev p : Expr
p = letter 0x70

abbrev c : Expr
c = letter 0x63

abbrev b : Expr
b = letter 0x62

abbrev t : Expr
t = letter 0x74

abbrev r : Expr
r = letter 0x72

abbrev z : Expr
z = letter 0x7a

abbrev k : Expr
k = letter 0x6b

abbrev a : Expr
a = letter 0x61

abbrev m : Expr
m = letter 0x6d

-- ---- RFC 8866, section 9, in its own names: [x] is x ⁇ here, *x is x *, 1*x is x +
-- "repeat-description = 1*repeat-field [zone-field]"
abbrev pub repeat_description : Expr
repeat_description = r + · z ⁇

-- "time-description = time-field [repeat-description]"; document 02, P6: "t, then optionally (r+ z?)"
abbrev pub time_description : Expr
time_description = t · repeat_description ⁇

-- "media-description = media-field [information-field] *connection-field *bandwidth-field [key-field] *attribute-field";
-- document 01: "(m i? c* b* k? a*)"
abbrev pub media_description : Expr
media_description = m · i ⁇ · c * · b * · k ⁇ · a *

-- "session-description = version-field origin-field session-name-field [information-field] [uri-field] *email-field *phone-field
-- [connection-field] *bandwidth-field 1*time-description [key-field] *attribute-field *media-description"; document 01 with document 02, P6:
-- "v o s i? u? e* p* c? b*", "one or more of (t, then optionally (r+ z?)), then k? a*", "then any number of (m i? c* b* k? a*)"
abbrev pub grammar : Expr
grammar = v · o · s · i ⁇ · u ⁇ · e * · p * · c ⁇ · b * · time_description + · k ⁇ · a * · media_description *

-- a line before the others by its form: an empty one has no letter; after one of bad form nothing counts
abbrev pub before : Form → Option (List ℕ) → Option (List ℕ)
before (Ok None) ls = ls
before (Err f) ls = None
before (Ok (Some l)) None = None
before (Ok (Some l)) (Some ls) = Some (l ∷ ls)

-- the letters of the lines, where "every non-empty line has good form"
unfoldable pub letters : List Raw → Option (List ℕ)
letters [] = Some []
letters (x ∷ xs) = before (form_of (content x)) (letters xs)

-- there are such letters, and they run as x says
abbrev pub run : Expr → Option (List ℕ) → Bool
run x None = false
run x (Some ls) = matches x ls

-- "Yes exactly when every non-empty line has good form and the letters run .."; "a text over 32,768 bytes is refused with 1"
unfoldable pub order_of : List ℕ → Result Bool Refusal
order_of text = cond (ltb longest_text (length text)) (Err TooLong) (Ok (run grammar (letters (split text))))

-- the answer in the paper's numbers: "1 text over 32,768 bytes", else 0; and 1 for yes, 0 for no
abbrev pub verdict_of : Result Bool Refusal → Verdict
verdict_of (Ok in_order) = record { number = 0; yes = cond in_order 1 0 }
verdict_of (Err TooLong) = record { number = refusals.text_too_long; yes = 0 }
