-- Laws of numbers written as two bytes each: what a row of them spells.
-- Assumes nothing.
use mathlib.Core.Path.{◌≡◌, refl, ap, ap₂, ◌∙◌}
use mathlib.Core.List.{List, [], ◌∷◌, ◌++◌, append-nil}
use lib.ListN.{length, get_or}
use Prim.Native.Nat.{ℕ, zero, suc, ◌+◌, ◌*◌, ◌/◌}
use native.Mathlib.Omega.{arith}
use Rattle.sdp_lines.specs.declared.Span.{Span}
use Rattle.sdp_cells.specs.Bytes.{le, zeros}
use Rattle.sdp_cells.specs.Tables.{flat, pairs}
use Rattle.sdp_area.specs.Area.{span, opt}
use Rattle.sdp_cells.proofs.ByteLaws.{le_eight, le_zero, length-le, zeros-add}
use Rattle.sdp_cells.proofs.StoreLaws.{length_pairs}
use Rattle.sdp_cells.proofs.TableLaws.{flat_append}
use Rattle.sdp_area.proofs.WidthLaws.{length-opt, length-maybe}
use Rattle.std.specs.Prelude.{Option}

-- ---- what numbers spell
pub record Spells (ws bs : List ℕ) : Type 0 where
  pub is : pairs ws ≡ bs

-- some numbers and then others
infixr 20 ◌and◌
pub ◌and◌ : {xs ys bs cs : List ℕ} → Spells xs bs → Spells ys cs → Spells (xs ++ ys) (bs ++ cs)
◌and◌ {xs} {ys} {bs} {cs} p q = record { is = flat_append (le 2) xs ys ∙ ap₂ (λ (b c : List ℕ). b ++ c) p.is q.is }

pub word_is : (w : ℕ) → Spells (w ∷ []) (le 2 w)
unfolding flat
word_is w = record { is = append-nil (le 2 w) }

pub span_is : (x : Span) → Spells (x.at.0 ∷ x.len ∷ []) (span x)
unfolding span
span_is x = word_is x.at.0 and word_is x.len

pub eight_is : (v : ℕ) → Spells (v ∷ v / 65536 ∷ v / 4294967296 ∷ v / 281474976710656 ∷ []) (le 8 v)
eight_is v = rw (le_eight v) (word_is v and word_is (v / 65536) and word_is (v / 4294967296) and word_is (v / 281474976710656))

-- what is absent
pub none_is : (k : ℕ) → Spells (zeros k) (zeros (k * 2))
unfolding zeros flat
none_is zero = record { is = refl }
none_is (suc k) =
    let e : 2 + k * 2 ≡ suc k * 2 = omega arith in
    record { is = (word_is 0 and none_is k).is ∙ ap (λ (l : List ℕ). l ++ zeros (k * 2)) le_zero ∙ zeros-add 2 (k * 2) ∙ ap zeros e }

-- ---- the same of the numbers at the places of a list
two_in : (xs bs : List ℕ) → length xs ≡ 2 → pairs xs ≡ bs → Spells (get_or xs 0 0 ∷ get_or xs 1 0 ∷ []) bs
two_in [] bs l e = absurd (omega arith)
two_in (a ∷ []) bs l e = absurd (omega arith)
two_in (a ∷ b ∷ []) bs l e = record { is = e }
two_in (a ∷ b ∷ c ∷ xs) bs l e = absurd (omega arith)

three_in : (xs bs : List ℕ) → length xs ≡ 3 → pairs xs ≡ bs → Spells (get_or xs 0 0 ∷ get_or xs 1 0 ∷ get_or xs 2 0 ∷ []) bs
three_in [] bs l e = absurd (omega arith)
three_in (a ∷ []) bs l e = absurd (omega arith)
three_in (a ∷ b ∷ []) bs l e = absurd (omega arith)
three_in (a ∷ b ∷ c ∷ []) bs l e = record { is = e }
three_in (a ∷ b ∷ c ∷ d ∷ xs) bs l e = absurd (omega arith)

four_in : (xs bs : List ℕ) → length xs ≡ 4 → pairs xs ≡ bs → Spells (get_or xs 0 0 ∷ get_or xs 1 0 ∷ get_or xs 2 0 ∷ get_or xs 3 0 ∷ []) bs
four_in [] bs l e = absurd (omega arith)
four_in (a ∷ []) bs l e = absurd (omega arith)
four_in (a ∷ b ∷ []) bs l e = absurd (omega arith)
four_in (a ∷ b ∷ c ∷ []) bs l e = absurd (omega arith)
four_in (a ∷ b ∷ c ∷ d ∷ []) bs l e = record { is = e }
four_in (a ∷ b ∷ c ∷ d ∷ e ∷ xs) bs l f = absurd (omega arith)

pub number_in : (xs : List ℕ) (x : Option ℕ) → pairs xs ≡ opt 2 (le 2) x → Spells (get_or xs 0 0 ∷ get_or xs 1 0 ∷ []) (opt 2 (le 2) x)
number_in xs x e = two_in xs (opt 2 (le 2) x) (omega (arith, length_pairs xs, ap length e, length-opt 2 (le 2) (length-le 2) x)) e

pub string_in : (xs : List ℕ) (x : Option Span) → pairs xs ≡ opt 4 span x → Spells (get_or xs 0 0 ∷ get_or xs 1 0 ∷ get_or xs 2 0 ∷ []) (opt 4 span x)
string_in xs x e = three_in xs (opt 4 span x) (omega (arith, length_pairs xs, ap length e, length-maybe x)) e

pub eight_in : (xs : List ℕ) (v : ℕ) → pairs xs ≡ le 8 v → Spells (get_or xs 0 0 ∷ get_or xs 1 0 ∷ get_or xs 2 0 ∷ get_or xs 3 0 ∷ []) (le 8 v)
eight_in xs v e = four_in xs (le 8 v) (omega (arith, length_pairs xs, ap length e, length-le 8 v)) e
