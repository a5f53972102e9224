-- What stands at a cursor, by the raw line there.
-- Assumes nothing.
use Prim.Native.Nat.{ℕ, zero, suc, ◌+◌, ◌-◌, ◌≤◌, ◌<◌}
use native.Mathlib.Decide.{dec_lt}
use native.Mathlib.Omega.{arith}
use native.Mathlib.Nat.{zero-add, suc-add}
use mathlib.Core.Path.{◌≡◌, refl, sym, ap, ◌∙◌, subst}
use mathlib.Core.Bool.{Bool, true, false, cond}
use mathlib.Core.List.{List, [], ◌∷◌}
use lib.Dec.{ltb}
use lib.ListN.{length, take, drop, length-drop, drop_of_length-le}
use lib.Seq.{drop-drop, take-nil}
use Rattle.sdp_lines.specs.Lines
use Rattle.sdp_lines.specs.Lines.{Raw, split, content, width, form_of, next_line, past, cut_form, cut_raws, cut_at, Form}
use Rattle.sdp_lines.specs.Quick.{first_raw}
use Rattle.sdp_lines.specs.Strings.{bytes_of}
use Rattle.sdp_lines.specs.declared.Span.{Span}
use Rattle.sdp_lines.specs.declared.Cursor.{Cursor}
use Rattle.std.specs.Prelude.{Some, None, Ok, Err}
use Rattle.sdp_lines.specs.declared.Cut.{Cut}
use Rattle.sdp_lines.specs.declared.Cut.TheVariants.{Line, Empty, Refused, End}
use Rattle.sdp_lines.proofs.LineLaws.{split_at_place, content-front, content-le, width-le, width_pos, good_form}
use Rattle.sdp_cutter.specs.Cutter.{move_by, move_at, standing, due}
use Rattle.sdp_cutter.specs.declared.Next.{Next}
use Rattle.sdp_turn.specs.Turn.{Inside, line_of, lines_in, Turn, Turns, Passes}
use Rattle.sdp_read.specs.From.{Reached, line_at}
use Rattle.sdp_turn.specs.declared.State.{State}

drop-take : (k m : ℕ) (u : List ℕ) → drop k (take (k + m) u) ≡ take m (drop k u)
drop-take zero m u = ap (λ (n : ℕ). take n u) (zero-add m)
drop-take (suc k) m [] = ap (λ (l : List ℕ). drop (suc k) l) (take-nil (suc k + m)) ∙ sym (take-nil m)
drop-take (suc k) m (x ∷ u) = ap (λ (n : ℕ). drop (suc k) (take n (x ∷ u))) (suc-add k m) ∙ drop-take k m u

-- d is further on than c in the text
pub record Further (s : List ℕ) (c d : Cursor) : Type 0 where
  pub forward : c.at.0 < d.at.0
  pub reached : Reached s c → Reached s d

next_le : (n : ℕ) → next_line n ≤ n + 1
next_le n = go (ltb n 0xffff_ffff_ffff_ffff)
  where
    go : (b : Bool) → cond b (n + 1) n ≤ n + 1
    go true = omega arith
    go false = omega arith

module _ (s : List ℕ) (c : Cursor) where
  -- the line there, where there is one, and those after it
  abbrev pub raw : Raw
  raw = first_raw (drop c.at.0 s)

  abbrev pub rest : List Raw
  rest = split (drop (c.at.0 + width raw) s)

  -- its value, as the cutter names it
  abbrev pub span : Span
  span = record { at = record { 0 = c.at.0 + 2 }; len = length (content raw) - 2 }

  none_left : length s ≤ c.at.0 → split (drop c.at.0 s) ≡ []
  unfolding Lines.split
  none_left h = rw (drop_of_length-le s h)

  -- what holds of the lines from here on and of what is cut, by the form of the first
  pub at_cursor : (P : List Raw → Cut → Type 0) → P [] End
      → (c.at.0 < length s → (f : Form) → form_of (content raw) ≡ f → P (raw ∷ rest) (cut_form c raw f))
      → P (split (drop c.at.0 s)) (cut_at s c)
  unfolding Lines.cut_at
  at_cursor P none line = go (dec_lt c.at.0 (length s))
    where
      go : Dec (c.at.0 < length s) → P (split (drop c.at.0 s)) (cut_raws c (split (drop c.at.0 s)))
      go (yes h) = rw (split_at_place s c.at.0 h) (line h (form_of (content raw)) refl)
      go (no h) = rw (none_left (omega arith)) none

  -- the value's bytes, out of the text and out of the line
  pub value_is : (l : ℕ) → form_of (content raw) ≡ Ok (Some l) → bytes_of s span ≡ drop 2 (content raw)
  value_is l e =
      let two = good_form (content raw) l e in
      let k : 2 + (length (content raw) - 2) ≡ length (content raw) = omega arith in
      rw (← drop-drop 2 c.at.0 s) (sym (drop-take 2 (length (content raw) - 2) (drop c.at.0 s)) ∙ ap (λ (j : ℕ). drop 2 (take j (drop c.at.0 s))) k ∙ ap (drop 2) (content-front (drop c.at.0 s)))

  past_further : c.at.0 < length s → Further s c (past c raw)
  past_further h =
      let d = length-drop c.at.0 s in
      let p = width_pos (drop c.at.0 s) (omega arith) in
      let n = next_le c.line.0 in
      record { forward = omega arith; reached = λ w. record { inside = omega (arith, width-le (drop c.at.0 s)); counted = omega (arith, w.counted) } }

  -- what was cut goes further on, and its value stands in the text
  abbrev Fine : Cut → Type 0
  Fine End = Unit {0}
  Fine (Refused f n) = Unit {0}
  Fine (Empty d) = Further s c d
  Fine (Line l v d) = Further s c d × (v.at.0 + v.len ≤ length s)

  cut_fine : Fine (cut_at s c)
  cut_fine = at_cursor (λ rs k. Fine k) tt form
    where
      form : c.at.0 < length s → (f : Form) → form_of (content raw) ≡ f → Fine (cut_form c raw f)
      form h (Ok None) e = past_further h
      form h (Err f) e = tt
      form h (Ok (Some l)) e = (past_further h, omega (arith, good_form (content raw) l e, content-le raw, width-le (drop c.at.0 s), length-drop c.at.0 s))

  -- so it is with what the cutter finds, where it then stands
  abbrev pub then : Cursor
  then = due (standing (move_at s c.at c.line))

  abbrev pub found : Next
  found = (move_at s c.at c.line).next

  pub found_inside : Inside s found
  unfolding move_at
  found_inside = go (cut_at s c) cut_fine
    where
      go : (k : Cut) → Fine k → Inside s (move_by c.at c.line k).next
      go (Line l v d) h = h.1
      go (Empty d) h = tt
      go (Refused f n) h = tt
      go End h = tt

  -- a line that a reading goes on past: further on, and one line more
  pub goes_further : (g n : State) → Passes found g (Some (Ok n)) → Further s c then × (lines_in n ≡ lines_in g + 1)
  unfolding move_at
  goes_further g n = go (cut_at s c) cut_fine
    where
      go : (k : Cut) → Fine k → Passes (move_by c.at c.line k).next g (Some (Ok n)) → Further s c (due (standing (move_by c.at c.line k))) × (lines_in n ≡ lines_in g + 1)
      go (Line l v d) h p = (h.0, p)
      go (Empty d) h p = (h, p)
      go (Refused f n) h p = absurd p
      go End h p = absurd p

  -- what the line there does, by what the cutter found
  pub turned_at : (x : Next) → x ≡ found → (g : State) (r : Turn) (a a' : List ℕ) → Turns (λ y. line_of s y x) g r a a' × Passes x g r → Turns (λ y. line_at s y c) g r a a' × Passes found g r
  unfolding line_at
  turned_at x e g r a a' h = subst (λ (z : Next). Turns (λ y. line_of s y z) g r a a' × Passes z g r) e h
