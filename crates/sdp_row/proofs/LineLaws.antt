-- Lines: what a line is made of, and its parts by cases. Assumes nothing.
use mathlib.Core.Path.{◌≡◌, sym, ap, ap₂, ◌∙◌}
use mathlib.Core.List.{List, [], ◌∷◌}
use Prim.Native.Nat.{ℕ, ◌+◌, ◌-◌, ◌≤◌, ◌<◌, min}
use native.Mathlib.Omega.{arith}
use lib.ListN.{length, take, drop, length-take, length-drop}
use borrow.Author.Tests.{eq-eqb, ne_eqb}
use Rattle.sdp_cells.specs.Bytes.{num}
use Rattle.sdp_put.specs.declared.Out.{Out}
use Rattle.sdp_put.specs.Puts.{Puts}
use Rattle.sdp_put.specs.Strings.{part, clean}
use Rattle.sdp_put.proofs.PutsLaws.{◌then◌}
use Rattle.sdp_lines.specs.Strings.{bytes_of}
use Rattle.sdp_decode.specs.Rows.{marked}
use Rattle.sdp_decode.specs.Decode.{span_of}
use Rattle.sdp_decode.proofs.CellLaws.{marked_none, marked_some}
use Rattle.sdp_row.specs.Written.{line, optional, or_dash}

-- a line: its letter, its value, its ending
pub in_line : {x y z w : Out} {v : List ℕ} {letter : ℕ} → Puts x (letter ∷ 0x3d ∷ []) y → Puts y v z → Puts z (0x0d ∷ 0x0a ∷ []) w → Puts x (line letter v) w
unfolding line
in_line p q e = p then (q then e)

-- a string by its two numbers
pub string_is : (t a : List ℕ) (p place len : ℕ) → place ≡ num 2 a p → len ≡ num 2 a (p + 2) → clean (part t place len) ≡ clean (bytes_of t (span_of a p))
string_is t a p place len e l = ap₂ (λ (i n : ℕ). clean (take n (drop i t))) e l

-- ---- what may be absent
module _ {X : Type 0} (f : X → List ℕ) (rd : List ℕ → ℕ → X) (a : List ℕ) (p n : ℕ) (e : n ≡ num 2 a p) where
  pub absent : n ≡ 0 → [] ≡ optional f (marked rd a p)
  absent z = sym (ap (optional f) (marked_none rd a p n e z))

  pub present : (n ≡ 0 → ⊥) → f (rd a (p + 2)) ≡ optional f (marked rd a p)
  present z = sym (ap (optional f) (marked_some rd a p n e z))

-- ---- the username
-- no bytes: the length is 0, or the place is past the text
pub dash : (bs : List ℕ) → length bs ≡ 0 → (0x2d ∷ []) ≡ or_dash bs
unfolding or_dash
dash bs e = rw (eq-eqb (length bs) 0 e)

pub no_dash : (bs : List ℕ) → (length bs ≡ 0 → ⊥) → clean bs ≡ or_dash bs
unfolding or_dash
no_dash bs e = rw (ne_eqb (length bs) 0 e)

module _ (t a : List ℕ) (p : ℕ) where
  length_string : length (bytes_of t (span_of a p)) ≡ min (num 2 a (p + 2)) (length t - num 2 a p)
  length_string = length-take (num 2 a (p + 2)) (drop (num 2 a p) t) ∙ ap (λ (k : ℕ). min (num 2 a (p + 2)) k) (length-drop (num 2 a p) t)

  pub name-empty : (len : ℕ) → len ≡ num 2 a (p + 2) → len ≡ 0 → (0x2d ∷ []) ≡ or_dash (bytes_of t (span_of a p))
  name-empty len l z = dash (bytes_of t (span_of a p)) (omega (arith, length_string))

  module _ (place : ℕ) (i : place ≡ num 2 a p) where
    pub name-past : length t ≤ place → (0x2d ∷ []) ≡ or_dash (bytes_of t (span_of a p))
    name-past h = dash (bytes_of t (span_of a p)) (omega (arith, length_string))

    pub name-there : (len : ℕ) → len ≡ num 2 a (p + 2) → (len ≡ 0 → ⊥) → place < length t → clean (bytes_of t (span_of a p)) ≡ or_dash (bytes_of t (span_of a p))
    name-there len l z h = no_dash (bytes_of t (span_of a p)) (λ q. z (omega (arith, q, length_string)))
