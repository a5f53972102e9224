-- The rest equals the whole: the lines from a cursor on are the line there, and the lines from where it goes on; so it is with their counts and with
-- the lines of what they leave.
-- Assumes nothing.
use Prim.Native.Nat.{ℕ, ◌+◌, ◌≤◌}
use native.Mathlib.Omega.{arith}
use mathlib.Core.Path.{◌≡◌, refl, sym, ap, ◌∙◌}
use mathlib.Core.Bool.{Bool, true, false, cond}
use mathlib.Core.List.{List, ◌∷◌}
use lib.Dec.{eqb}
use lib.ListN.{length, drop}
use borrow.Author.Tests.{lt-ltb}
use Rattle.sdp_numbers.specs.Refusals.{longest_text}
use Rattle.sdp_lines.specs.Lines.{split, content, width, form_of, next_line, past, cut_form, Form}
use Rattle.sdp_lines.specs.Strings.{bytes_of}
use Rattle.sdp_lines.specs.declared.Span.{Span}
use Rattle.sdp_lines.specs.declared.Cursor.{Cursor}
use Rattle.sdp_lines.specs.declared.Answer.{Answer}
use Rattle.sdp_lines.specs.declared.Cut.{Cut}
use Rattle.sdp_cutter.specs.Cutter.{move_by, move_at, standing, due}
use Rattle.sdp_cutter.specs.declared.Moved.{Moved}
use Rattle.std.specs.Prelude.{Some, None, Result, Ok, Err}
use Rattle.sdp_roles.specs.Roles.{role_at}
use Rattle.sdp_roles.specs.Kinds.{kind_of}
use Rattle.sdp_strings.specs.Strings.{span_at}
use Rattle.sdp_step.specs.Step.{Reading, Stepped, goes, stops, step, fresh}
use Rattle.sdp_area.specs.Session.{Session}
use Rattle.sdp_stamp.specs.Stamp.{no_stamps, stamped}
use Rattle.sdp_stamp.proofs.CellLaws.{stamped_none}
use Rattle.sdp_counts.specs.Count.{count_lines, from_version}
use Rattle.sdp_counts.specs.declared.Counts.{Counts}
use Rattle.sdp_counts.proofs.MediaLaws.{step-medias}
use Rattle.sdp_line.specs.Version.{no_version, bad_version, is_zero, opening_of}
use Rattle.sdp_turn.specs.Turn.{one_of, Standing, searching, reading, Lined, on, ended, stopped, unread, opened_to, stepped, line_of}
use Rattle.sdp_read.specs.Run.{Verdict, accepted, refused, after, step_form, run, version as firstLine, begin_form, begin, stamps_after, run_stamps, begin_stamps}
use Rattle.sdp_read.specs.From.{Reached, run_at, begin_at, run_stamps_at, begin_stamps_at, line_at}
use Rattle.sdp_turn.proofs.TurnLaws.{fault_told}
use Rattle.sdp_read.proofs.CutLaws.{raw, rest, span, at_cursor, value_is, then}
use Rattle.sdp_read.proofs.TallyLaws.{plus, count_from, none_left, blank_above, version_first, blank_next, good_next}

-- what the lines from d on say
abbrev pub rest_of : List ℕ → Standing → Cursor → Verdict Span
rest_of s (searching k) d = begin_at s d
rest_of s (reading ρ ls k) d = run_at s ρ d

-- after a line, the next line due at d
abbrev pub verdict_on : List ℕ → Lined → Cursor → Verdict Span
verdict_on s (on x) d = rest_of s x d
verdict_on s (ended σ ls k) d = accepted σ
verdict_on s (stopped y) d = refused y
verdict_on s (unread y) d = refused y

-- the counts so far, and those of the lines from d on
abbrev pub total_of : List ℕ → Standing → Cursor → Counts
total_of s (searching k) d = plus k (count_lines (split (drop d.at.0 s)))
total_of s (reading ρ ls k) d = plus k (count_from (length ρ.session.tables.medias) (split (drop d.at.0 s)))

-- the lines of what was read, past the lines from d on
abbrev pub stamps_on : List ℕ → Standing → Cursor → List ℕ
stamps_on s (searching k) d = begin_stamps_at s d
stamps_on s (reading ρ ls k) d = run_stamps_at s ρ ls d

-- what f says of where a reading stands is still all, after a line that is not refused; at the end g says it
abbrev Still : {A : Type 0} → (Standing → Cursor → A) → (List ℕ → Counts → A) → A → Lined → Cursor → Type 0
Still f g all (on x) d = all ≡ f x d
Still f g all (ended σ ls k) d = all ≡ g ls k
Still f g all (stopped y) d = Unit {0}
Still f g all (unread y) d = Unit {0}

-- of the counts, and of the lines of what was read
abbrev pub Totals : List ℕ → Counts → Lined → Cursor → Type 0
Totals s = Still (total_of s) (λ ls k. k)

abbrev pub Stamps : List ℕ → List ℕ → Lined → Cursor → Type 0
Stamps s = Still (stamps_on s) (λ ls k. ls)

module _ (s : List ℕ) (short : length s ≤ longest_text) (c : Cursor) (w : Reached s c) where
  abbrev next : Cursor
  next = past c (raw s c)

  -- where the cutter stands after what was cut
  abbrev moved : Cut → Moved
  moved = move_by c.at c.line

  -- the next line's number does not stay
  next_is : c.line.0 + 1 ≡ next_line c.line.0
  next_is = rw (lt-ltb c.line.0 0xffff_ffff_ffff_ffff (omega (arith, w.inside, w.counted, short)))

  run_past : (ρ : Reading Span) → run span_at ρ (c.line.0 + 1) (c.at.0 + width (raw s c)) (rest s c) ≡ run_at s ρ next
  unfolding run_at
  run_past ρ = ap (λ (n : ℕ). run span_at ρ n (c.at.0 + width (raw s c)) (rest s c)) next_is

  begin-past : begin span_at (c.line.0 + 1) (c.at.0 + width (raw s c)) (rest s c) ≡ begin_at s next
  unfolding begin_at
  begin-past = ap (λ (n : ℕ). begin span_at n (c.at.0 + width (raw s c)) (rest s c)) next_is

  -- ---- what they say
  stepped_on : (p : ℕ) (σ : Session Span) (ls : List ℕ) (k : Counts) (x : Stepped Span) → after span_at x c.line.0 p (λ τ. run span_at τ (c.line.0 + 1) (c.at.0 + width (raw s c)) (rest s c)) ≡ verdict_on s (stepped c.line.0 p σ ls k x) next
  stepped_on p σ ls k (goes ρ) = run_past ρ
  stepped_on p σ ls k (stops w) = refl

  rest_reading : (ρ : Reading Span) (ls : List ℕ) (k : Counts) → run_at s ρ c ≡ verdict_on s (line_at s (reading ρ ls k) c) (then s c)
  unfolding run_at run line_at move_at
  rest_reading ρ ls k = at_cursor s c (λ rs x. run span_at ρ c.line.0 c.at.0 rs ≡ verdict_on s (line_of s (reading ρ ls k) (moved x).next) (due (standing (moved x)))) refl (λ h f e. rw e (form f e))
    where
      form : (f : Form) → form_of (content (raw s c)) ≡ f
          → after span_at (step_form span_at ρ c.at.0 (content (raw s c)) f) c.line.0 (c.at.0 + 2) (λ τ. run span_at τ (c.line.0 + 1) (c.at.0 + width (raw s c)) (rest s c)) ≡ verdict_on s (line_of s (reading ρ ls k) (moved (cut_form c (raw s c) f)).next) (due (standing (moved (cut_form c (raw s c) f))))
      form (Ok None) e = run_past ρ
      form (Err f) e = ap refused (fault_told c.line.0 (c.at.0 + 2) f)
      form (Ok (Some l)) e = rw (value_is s c l e) (stepped_on (c.at.0 + 2) ρ.session ls _ (step (span_at (c.at.0 + 2) (drop 2 (content (raw s c)))) ρ (drop 2 (content (raw s c))) l))

  opened_on : (p l : ℕ) (v : List ℕ) (k : Counts) (x : Verdict Span) → x ≡ run_at s fresh next
      → firstLine span_at c.line.0 p v l x ≡ verdict_on s (opened_to k (opening_of c.line.0 p l v)) next
  opened_on p l v k x e = go (eqb l 0x76) (is_zero v)
    where
      go : (y z : Bool) → cond y (cond z x (refused (bad_version c.line.0 p (length v)))) (refused no_version)
          ≡ verdict_on s (opened_to k (cond y (cond z (Ok tt) (Err (bad_version c.line.0 p (length v)))) (Err no_version))) next
      go true true = e
      go true false = refl
      go false z = refl

  rest_searching : (k : Counts) → begin_at s c ≡ verdict_on s (line_at s (searching k) c) (then s c)
  unfolding begin_at begin line_at move_at
  rest_searching k = at_cursor s c (λ rs x. begin span_at c.line.0 c.at.0 rs ≡ verdict_on s (line_of s (searching k) (moved x).next) (due (standing (moved x)))) refl (λ h f e. rw e (form f e))
    where
      form : (f : Form) → form_of (content (raw s c)) ≡ f
          → begin_form span_at c.line.0 c.at.0 (content (raw s c)) f (begin span_at (c.line.0 + 1) (c.at.0 + width (raw s c)) (rest s c)) (run span_at fresh (c.line.0 + 1) (c.at.0 + width (raw s c)) (rest s c)) ≡ verdict_on s (line_of s (searching k) (moved (cut_form c (raw s c) f)).next) (due (standing (moved (cut_form c (raw s c) f))))
      form (Ok None) e = begin-past
      form (Err f) e = refl
      form (Ok (Some l)) e = rw (value_is s c l e) (opened_on (c.at.0 + 2) l (drop 2 (content (raw s c))) k _ (run_past fresh))

  pub rest_line : (x : Standing) → rest_of s x c ≡ verdict_on s (line_at s x c) (then s c)
  rest_line (searching k) = rest_searching k
  rest_line (reading ρ ls k) = rest_reading ρ ls k

  -- ---- how many they are
  total_reading : (ρ : Reading Span) (ls : List ℕ) (k : Counts) → Totals s (total_of s (reading ρ ls k) c) (line_at s (reading ρ ls k) c) (then s c)
  unfolding line_at move_at
  total_reading ρ ls k = at_cursor s c (λ rs x. Totals s (plus k (count_from medias rs)) (line_of s (reading ρ ls k) (moved x).next) (due (standing (moved x)))) (none_left k medias) (λ h f e. form f e)
    where
      medias : ℕ
      medias = length ρ.session.tables.medias

      stepped_total : (p n l : ℕ) (v : List ℕ) → form_of (content (raw s c)) ≡ Ok (Some l) → (x : Stepped Span) → step (span_at p v) ρ v l ≡ x
          → Totals s (plus k (count_from medias (raw s c ∷ rest s c))) (stepped n p ρ.session ls (one_of (kind_of (role_at medias l)) k) x) next
      stepped_total p n l v e (goes τ) q =
          good_next k (raw s c) (rest s c) medias l e ∙ ap (λ (m : ℕ). plus (one_of (kind_of (role_at medias l)) k) (count_from m (rest s c))) (sym (step-medias (span_at p v) ρ v (role_at medias l) τ q))
      stepped_total p n l v e (stops y) q = tt

      form : (f : Form) → form_of (content (raw s c)) ≡ f
          → Totals s (plus k (count_from medias (raw s c ∷ rest s c))) (line_of s (reading ρ ls k) (moved (cut_form c (raw s c) f)).next) (due (standing (moved (cut_form c (raw s c) f))))
      form (Ok None) e = blank_next k (raw s c) (rest s c) medias e
      form (Err f) e = tt
      form (Ok (Some l)) e = stepped_total (c.at.0 + 2) c.line.0 l (bytes_of s (span s c)) e _ refl

  total_searching : (k : Counts) → Totals s (total_of s (searching k) c) (line_at s (searching k) c) (then s c)
  unfolding line_at move_at
  total_searching k = at_cursor s c (λ rs x. Totals s (plus k (count_lines rs)) (line_of s (searching k) (moved x).next) (due (standing (moved x)))) tt (λ h f e. form f e)
    where
      opened_total : (l : ℕ) → form_of (content (raw s c)) ≡ Ok (Some l) → (o : Result (Unit {0}) Answer) → Totals s (plus k (count_lines (raw s c ∷ rest s c))) (opened_to k o) next
      opened_total l e (Ok u) = version_first k (raw s c) (rest s c) l e
      opened_total l e (Err x) = tt

      form : (f : Form) → form_of (content (raw s c)) ≡ f
          → Totals s (plus k (count_lines (raw s c ∷ rest s c))) (line_of s (searching k) (moved (cut_form c (raw s c) f)).next) (due (standing (moved (cut_form c (raw s c) f))))
      form (Ok None) e = blank_above k (raw s c) (rest s c) e
      form (Err f) e = tt
      form (Ok (Some l)) e = opened_total l e (opening_of c.line.0 (c.at.0 + 2) l (bytes_of s (span s c)))

  pub total_line : (x : Standing) → Totals s (total_of s x c) (line_at s x c) (then s c)
  total_line (searching k) = total_searching k
  total_line (reading ρ ls k) = total_reading ρ ls k

  -- ---- which lines they leave
  stamps_past : (ρ : Reading Span) (ls : List ℕ) → run_stamps span_at ρ ls (c.line.0 + 1) (c.at.0 + width (raw s c)) (rest s c) ≡ run_stamps_at s ρ ls next
  unfolding run_stamps_at
  stamps_past ρ ls = ap (λ (n : ℕ). run_stamps span_at ρ ls n (c.at.0 + width (raw s c)) (rest s c)) next_is

  stamps_reading : (ρ : Reading Span) (ls : List ℕ) (k : Counts) → Stamps s (run_stamps_at s ρ ls c) (line_at s (reading ρ ls k) c) (then s c)
  unfolding run_stamps_at run_stamps line_at move_at
  stamps_reading ρ ls k = at_cursor s c (λ rs x. Stamps s (run_stamps span_at ρ ls c.line.0 c.at.0 rs) (line_of s (reading ρ ls k) (moved x).next) (due (standing (moved x)))) refl (λ h f e. rw e (form f e))
    where
      more : Reading Span → List ℕ → List ℕ
      more τ ks = run_stamps span_at τ ks (c.line.0 + 1) (c.at.0 + width (raw s c)) (rest s c)

      stepped_stamps : (p : ℕ) (d : Counts) (x : Stepped Span) → Stamps s (stamps_after span_at x ρ c.line.0 ls more) (stepped c.line.0 p ρ.session ls d x) next
      stepped_stamps p d (goes τ) = stamps_past τ (stamped c.line.0 ρ.session τ.session ls)
      stepped_stamps p d (stops w) = tt

      form : (f : Form) → form_of (content (raw s c)) ≡ f
          → Stamps s (stamps_after span_at (step_form span_at ρ c.at.0 (content (raw s c)) f) ρ c.line.0 ls more) (line_of s (reading ρ ls k) (moved (cut_form c (raw s c) f)).next) (due (standing (moved (cut_form c (raw s c) f))))
      form (Ok None) e = ap (more ρ) (stamped_none c.line.0 ρ.session ls) ∙ stamps_past ρ ls
      form (Err f) e = tt
      form (Ok (Some l)) e = rw (value_is s c l e) (stepped_stamps (c.at.0 + 2) _ (step (span_at (c.at.0 + 2) (drop 2 (content (raw s c)))) ρ (drop 2 (content (raw s c))) l))

  stamps_searching : (k : Counts) → Stamps s (begin_stamps_at s c) (line_at s (searching k) c) (then s c)
  unfolding begin_stamps_at begin_stamps line_at move_at
  stamps_searching k = at_cursor s c (λ rs x. Stamps s (begin_stamps span_at c.line.0 c.at.0 rs) (line_of s (searching k) (moved x).next) (due (standing (moved x)))) tt (λ h f e. rw e (form f e))
    where
      opened_stamps : (o : Result (Unit {0}) Answer) → Stamps s (run_stamps span_at fresh no_stamps (c.line.0 + 1) (c.at.0 + width (raw s c)) (rest s c)) (opened_to k o) next
      opened_stamps (Ok u) = stamps_past fresh no_stamps
      opened_stamps (Err x) = tt

      form : (f : Form) → form_of (content (raw s c)) ≡ f
          → Stamps s (from_version f (begin_stamps span_at (c.line.0 + 1) (c.at.0 + width (raw s c)) (rest s c)) (run_stamps span_at fresh no_stamps (c.line.0 + 1) (c.at.0 + width (raw s c)) (rest s c))) (line_of s (searching k) (moved (cut_form c (raw s c) f)).next) (due (standing (moved (cut_form c (raw s c) f))))
      form (Ok None) e = ap (λ (n : ℕ). begin_stamps span_at n (c.at.0 + width (raw s c)) (rest s c)) next_is
      form (Err f) e = tt
      form (Ok (Some l)) e = opened_stamps (opening_of c.line.0 (c.at.0 + 2) l (bytes_of s (span s c)))

  pub stamps_line : (x : Standing) → Stamps s (stamps_on s x c) (line_at s x c) (then s c)
  stamps_line (searching k) = stamps_searching k
  stamps_line (reading ρ ls k) = stamps_reading ρ ls k
