-- What one line does, by what the cutter found and what the line's step answered.
-- Assumes nothing.
use Rattle.std.proofs.Common.{◌≡◌, ℕ, ◌+◌, ◌*◌, ◌%◌, ◌^◌, ◌<◌, Bool, true, false, cond, List, ◌++◌, length, drop, sym, refl, ap, ◌∙◌, mod-eq_of_lt, arith, drop-drop, drop_at, ne_eqb}
use mathlib.Core.Bool.{false≢true}
use Rattle.sdp_cells.specs.Bytes.{num}
use Rattle.sdp_cells.specs.Tables.{pairs}
use Rattle.sdp_cells.proofs.StoreLaws.{length_pairs}
use Rattle.sdp_area.specs.Area.{size, offsets_at, medias_at}
use Rattle.sdp_area.specs.Columns.{cells, area_size, area_of}
use Rattle.sdp_area.proofs.GrownLaws.{offsets_count, medias_count}
use Rattle.sdp_lines.specs.Strings.{bytes_of}
use Rattle.sdp_lines.specs.Answers.{fault_number}
use Rattle.sdp_lines.specs.declared.Span.{Span}
use Rattle.sdp_lines.specs.declared.LineNumber.{LineNumber}
use Rattle.sdp_lines.specs.declared.Fault.{Fault}
use Rattle.sdp_lines.specs.declared.Answer.{Answer}
use Rattle.sdp_lines.specs.declared.Fault.TheVariants as fault
use Rattle.sdp_judge.specs.Read.{plain}
use Rattle.sdp_judge.specs.declared.Wrong.{Wrong}
use Rattle.sdp_cutter.specs.declared.Next.TheVariants.{Found, Empty, Refused, End}
use Rattle.sdp_roles.specs.Kinds.{Kind, unused, media, other, kind_of}
use Rattle.sdp_roles.specs.Roles.{role_at}
use Rattle.sdp_roles.specs.declared.Role.{Role}
use Rattle.sdp_roles.specs.declared.Role.TheVariants as role
use Rattle.sdp_strings.specs.Strings.{span_at}
use Rattle.sdp_step.specs.Step.{Reading, Stepped, goes, stops, step}
use Rattle.sdp_step.specs.Hold.{Holds, Lands, Tells, role_in}
use Rattle.sdp_step.specs.declared.Marks.{Marks}
use Rattle.sdp_step.proofs.TailLaws.{tail_of}
use Rattle.sdp_stamp.specs.Stamp.{stamped}
use Rattle.sdp_stamp.specs.Put.{column_of, put_column}
use Rattle.sdp_stamp.proofs.CellLaws.{stamped-length}
use Rattle.sdp_stamp.proofs.StampLaws.{step_stamps}
use Rattle.sdp_counts.specs.declared.Counts.{Counts}
use Rattle.sdp_line.specs.Version.{answer, no_version, opening_of}
use Rattle.sdp_turn.specs.Turn.{wrong_at, one_empty, one_ignored, one_kept, one_of, searching, reading, Lined, opened_to, stepped, line_of}
use Rattle.sdp_turn.specs.Turn.{marks_in, counts_in, lines_in, empty_more, ignored_more, kept_more, Turn, failure_of, end_turn, opened_turn_to, opened_turn, Carries, Turned, Turns, Counted, GoodTurns, Passes}
use Rattle.sdp_turn.specs.declared.State.{State}
use Rattle.sdp_turn.specs.declared.Failure.TheVariants.{Stopped, Unread}
use Rattle.std.specs.Prelude.{Some, None, Result, Ok, Err}

-- ---- one line more
module _ (g : State) where
  empty-counted : lines_in (empty_more g) ≡ lines_in g + 1
  empty-counted = omega arith

  ignored_counted : lines_in (ignored_more g) ≡ lines_in g + 1
  ignored_counted = omega arith

  kept-counted : (m : Marks) → lines_in (kept_more g m) ≡ lines_in g + 1
  kept-counted m = omega arith

-- ---- what stands behind the lines
behind-lines : (a ls t : List ℕ) → length ls ≡ cells → drop size a ≡ pairs ls ++ t → drop area_size a ≡ t
behind-lines a ls t all e =
    sym (drop-drop 2380 size a)
    ∙ ap (drop 2380) e
    ∙ drop_at (pairs ls) t 2380 (length_pairs ls ∙ ap (λ (k : ℕ). k * 2) all)

-- ---- a line without use has one role
abbrev Only : Kind → Role → Type 0
Only unused x = x ≡ role.Nothing
Only media x = Unit {0}
Only other x = Unit {0}

only : (x : Role) → Only (kind_of x) x
only role.Origin = tt
only role.Name = tt
only role.Description = tt
only role.Uri = tt
only role.Email = tt
only role.Phone = tt
only role.Connection = tt
only role.Bandwidth = tt
only role.Time = tt
only role.Repeat = tt
only role.Zone = tt
only role.Attribute = tt
only role.Media = tt
only role.MediaTitle = tt
only role.MediaConnection = tt
only role.Nothing = refl

-- ---- a line of good form, by the step's answer
module _ (s : List ℕ) (n l : ℕ) (v : Span) (g : State) (a a' : List ℕ) where
  -- what the line of a kind does, its step's answer at hand
  abbrev after : Kind → Reading Span → List ℕ → Counts → Stepped Span → Lined
  after k ρ ls c x = stepped n v.at.0 ρ.session ls (one_of k c) x

  abbrev step_of : Reading Span → Stepped Span
  step_of ρ = step (span_at v.at.0 (bytes_of s v)) ρ (bytes_of s v) l

  module _ (ρ : Reading Span) (ls : List ℕ) (c : Counts) (t : List ℕ) (k : Carries true ρ ls c g a t) where
    -- what is put for the line, past its step
    put : (τ : Reading Span) (m : Marks) → step_of ρ ≡ goes τ → Holds τ m a' (pairs ls ++ t)
        → put_column (column_of (role_in l ρ)) (length ρ.session.tables.offsets) n a' ≡ area_of τ.session (stamped n ρ.session τ.session ls) t
    put τ m e h =
        ap (put_column (column_of (role_in l ρ)) (length ρ.session.tables.offsets) n) h.bytes
        ∙ step_stamps (span_at v.at.0 (bytes_of s v)) ρ (bytes_of s v) n ls t k.lines k.holds.unzoned (role_in l ρ) τ e h.within

    carried : (τ : Reading Span) (a'' : List ℕ) (g' : State) (d : Counts) → Holds τ (marks_in g') a' (pairs ls ++ t) → g'.begun ≡ true → counts_in g' ≡ d
        → a'' ≡ area_of τ.session (stamped n ρ.session τ.session ls) t → Carries true τ (stamped n ρ.session τ.session ls) d g' a'' t
    carried τ a'' g' d held b q is =
        record {
          begun_is = b;
          holds = record { marks = held.marks; bytes = is; within = held.within; unzoned = held.unzoned };
          lines = stamped-length n ρ.session τ.session ls held.within k.lines;
          counts = q;
        }

  -- m medias and o offsets were there before it, and the area a'' is there after its line was stamped
  pub good_kept : (m : Marks) (ms o : ℕ) (q : Role) (a'' : List ℕ) → ms ≡ num 2 a medias_at → o ≡ num 2 a offsets_at → q ≡ role_at ms l → a'' ≡ put_column (column_of q) o n a'
      → Tells (role_in l) v.at.0 (bytes_of s v) (marks_in g) (Ok (Some m)) a a' → GoodTurns s n l v g (Some (Ok (kept_more g m))) a a''
  good_kept m ms o q a'' counted before its is h = (λ ρ ls c t k. go ρ ls c t k (kind_of (role_in l ρ)) (step_of ρ) refl (h ρ (pairs ls ++ t) k.holds), kept-counted g m)
    where
      stamps : (ρ : Reading Span) (ls : List ℕ) (c : Counts) (t : List ℕ) → Carries true ρ ls c g a t → a'' ≡ put_column (column_of (role_in l ρ)) (length ρ.session.tables.offsets) n a'
      stamps ρ ls c t k =
          let i : ms ≡ length ρ.session.tables.medias = counted ∙ medias_count ρ.session (pairs ls ++ t) k.holds.within a k.holds.bytes in
          let j : o ≡ length ρ.session.tables.offsets = before ∙ offsets_count ρ.session (pairs ls ++ t) k.holds.within a k.holds.bytes in
          is ∙ rw (its, i, j)

      goes_on : (ρ : Reading Span) (ls : List ℕ) (c : Counts) (t : List ℕ) → Carries true ρ ls c g a t → (τ : Reading Span) → step_of ρ ≡ goes τ → Holds τ m a' (pairs ls ++ t)
          → Carries true τ (stamped n ρ.session τ.session ls) (one_kept c) (kept_more g m) a'' t
      goes_on ρ ls c t k τ e h = carried ρ ls c t k τ a'' (kept_more g m) (one_kept c) h refl (ap one_kept k.counts) (stamps ρ ls c t k ∙ put ρ ls c t k τ m e h)

      go : (ρ : Reading Span) (ls : List ℕ) (c : Counts) (t : List ℕ) → Carries true ρ ls c g a t → (k : Kind) (x : Stepped Span) → step_of ρ ≡ x → Lands k x (marks_in g) (Ok (Some m)) a' (pairs ls ++ t) → Turned (after k ρ ls c x) g (Some (Ok (kept_more g m))) a'' t
      go ρ ls c t k unused x e h = absurd h
      go ρ ls c t k media (goes τ) e h = goes_on ρ ls c t k τ e h
      go ρ ls c t k media (stops w) e h = absurd h
      go ρ ls c t k other (goes τ) e h = goes_on ρ ls c t k τ e h
      go ρ ls c t k other (stops w) e h = absurd h

  pub good_idle : Tells (role_in l) v.at.0 (bytes_of s v) (marks_in g) (Ok None) a a' → GoodTurns s n l v g (Some (Ok (ignored_more g))) a a'
  good_idle h = (λ ρ ls c t k. go ρ ls c t k (kind_of (role_in l ρ)) (only (role_in l ρ)) (step_of ρ) refl (h ρ (pairs ls ++ t) k.holds), ignored_counted g)
    where
      go : (ρ : Reading Span) (ls : List ℕ) (c : Counts) (t : List ℕ) → Carries true ρ ls c g a t → (k : Kind) → Only k (role_in l ρ) → (x : Stepped Span) → step_of ρ ≡ x → Lands k x (marks_in g) (Ok None) a' (pairs ls ++ t) → Turned (after k ρ ls c x) g (Some (Ok (ignored_more g))) a' t
      go ρ ls c t k unused q (goes τ) e h =
          carried ρ ls c t k τ a' (ignored_more g) (one_ignored c) h k.begun_is (ap one_ignored k.counts)
          (ap (λ (x : Role). put_column (column_of x) (length ρ.session.tables.offsets) n a') (sym q) ∙ put ρ ls c t k τ (marks_in g) e h)
      go ρ ls c t k unused q (stops w) e h = absurd h
      go ρ ls c t k media q (goes τ) e h = absurd h
      go ρ ls c t k media q (stops w) e h = absurd h
      go ρ ls c t k other q (goes τ) e h = absurd h
      go ρ ls c t k other q (stops w) e h = absurd h

  pub good_refused : (w : Wrong) (y : Answer) → ((ρ : Reading Span) → step_of ρ ≡ stops w → y ≡ wrong_at n v.at.0 w)
      → Tells (role_in l) v.at.0 (bytes_of s v) (marks_in g) (Err w) a a' → GoodTurns s n l v g (Some (Err (Stopped y))) a a'
  good_refused w y is h = (λ ρ ls c t k. go ρ ls c t k (kind_of (role_in l ρ)) (step_of ρ) refl (h ρ (pairs ls ++ t) k.holds), tt)
    where
      told : (ρ : Reading Span) (x : Wrong) → step_of ρ ≡ stops x → w ≡ x → y ≡ wrong_at n v.at.0 x
      told ρ x e q = is ρ (e ∙ ap stops (sym q)) ∙ ap (wrong_at n v.at.0) q

      go : (ρ : Reading Span) (ls : List ℕ) (c : Counts) (t : List ℕ) → Carries true ρ ls c g a t → (k : Kind) (x : Stepped Span) → step_of ρ ≡ x → Lands k x (marks_in g) (Err w) a' (pairs ls ++ t) → Turned (after k ρ ls c x) g (Some (Err (Stopped y))) a' t
      go ρ ls c t k unused x e h = absurd h
      go ρ ls c t k media (goes τ) e h = absurd h
      go ρ ls c t k media (stops x) e h = (told ρ x e h.0, behind-lines a' ls t k.lines h.1)
      go ρ ls c t k other (goes τ) e h = absurd h
      go ρ ls c t k other (stops x) e h = (told ρ x e h.0, behind-lines a' ls t k.lines h.1)

-- the answer as the code makes it: x is the sum that could wrap
pub byte_told : (n p : ℕ) (w : Wrong) (x : ℕ) → w.number ≡ 8 → x ≡ (p + w.at) % 2 ^ 64 → (w.number ≡ 8 → p + w.at < 2 ^ 64)
    → record { number = w.number; line = n; field = w.field; place = x; len = 0 } ≡ wrong_at n p w
byte_told n p w x e q h = rw (e, q, mod-eq_of_lt (h e))

pub none_told : (n p : ℕ) (w : Wrong) → (w.number ≡ 8 → ⊥) → answer w.number n w.field ≡ wrong_at n p w
none_told n p w e = rw (ne_eqb w.number 8 e)

-- the form of a line names no byte
pub fault_told : (n p : ℕ) (f : Fault) → wrong_at n p (plain (fault_number f) 0) ≡ answer (fault_number f) n 0
fault_told n p fault.NulOrCr = refl
fault_told n p fault.NoEquals = refl
fault_told n p fault.NotSecond = refl

-- ---- by what the cutter found
module _ (s : List ℕ) (g : State) (a : List ℕ) where
  pub turns_end : Turns (λ x. line_of s x End) g (end_turn g) a a × Passes End g (end_turn g)
  turns_end = (turns, passes g.begun)
    where
      turns : Turns (λ x. line_of s x End) g (end_turn g) a a
      turns (searching c) t k = rw k.begun_is (refl, k.holds.bytes)
      turns (reading ρ ls c) t k = rw k.begun_is (k.counts, k.holds.bytes)

      passes : (b : Bool) → Passes End g (cond {A = Turn} b None (Some (Err (Unread no_version))))
      passes true = tt
      passes false = tt

  pub turns_bad : (f : Fault) (n : LineNumber) → Turns (λ x. line_of s x (Refused f n)) g (Some (Err (failure_of g.begun (answer (fault_number f) n.0 0)))) a a × Passes (Refused f n) g (Some (Err (failure_of g.begun (answer (fault_number f) n.0 0))))
  turns_bad f n = (turns, passes g.begun)
    where
      turns : Turns (λ x. line_of s x (Refused f n)) g (Some (Err (failure_of g.begun (answer (fault_number f) n.0 0)))) a a
      turns (searching c) t k = rw k.begun_is (refl, k.holds.bytes)
      turns (reading ρ ls c) t k = rw k.begun_is (refl, behind-lines a ls t k.lines (tail_of k.holds))

      passes : (b : Bool) → Passes (Refused f n) g (Some (Err (failure_of b (answer (fault_number f) n.0 0))))
      passes true = tt
      passes false = tt

  pub turns_empty : Turns (λ x. line_of s x Empty) g (Some (Ok (empty_more g))) a a × Passes Empty g (Some (Ok (empty_more g)))
  turns_empty = (turns, empty-counted g)
    where
      turns : Turns (λ x. line_of s x Empty) g (Some (Ok (empty_more g))) a a
      turns (searching c) t k = record { begun_is = k.begun_is; holds = k.holds; lines = k.lines; counts = ap one_empty k.counts }
      turns (reading ρ ls c) t k = record { begun_is = k.begun_is; holds = k.holds; lines = k.lines; counts = ap one_empty k.counts }

  module _ (n : LineNumber) (l : ℕ) (v : Span) where
    pub turns_good : (r : Turn) (a' : List ℕ) → g.begun ≡ true → GoodTurns s n.0 l v g r a a' → Turns (λ x. line_of s x (Found n l v)) g r a a' × Passes (Found n l v) g r
    turns_good r a' e h = (turns, h.1)
      where
        turns : Turns (λ x. line_of s x (Found n l v)) g r a a'
        turns (searching c) t k = absurd (false≢true (sym k.begun_is ∙ e))
        turns (reading ρ ls c) t k = h.0 ρ ls c t k

    pub turns_opened : g.begun ≡ false → Turns (λ x. line_of s x (Found n l v)) g (opened_turn s g n.0 l v) a a × Passes (Found n l v) g (opened_turn s g n.0 l v)
    turns_opened e = (turns, passes (opening_of n.0 v.at.0 l (bytes_of s v)))
      where
        turns : Turns (λ x. line_of s x (Found n l v)) g (opened_turn s g n.0 l v) a a
        turns (searching c) t k = go (opening_of n.0 v.at.0 l (bytes_of s v))
          where
            go : (o : Result (Unit {0}) Answer) → Turned (opened_to c o) g (opened_turn_to g o) a t
            go (Ok u) = record { begun_is = refl; holds = k.holds; lines = k.lines; counts = ap one_kept k.counts }
            go (Err x) = (refl, k.holds.bytes)
        turns (reading ρ ls c) t k = absurd (false≢true (sym e ∙ k.begun_is))

        passes : (o : Result (Unit {0}) Answer) → Counted g (opened_turn_to g o)
        passes (Ok u) = kept-counted g (marks_in g)
        passes (Err x) = tt
