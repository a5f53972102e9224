-- The paper's ranges of token characters are the RFC's list; token characters are below 80 hexadecimal; all_token over the rest of a
-- list from an index. Assumes nothing.
use Prim.Native.Nat.{ℕ, zero, suc, ◌<◌, ◌≤◌}
use native.Mathlib.Decide.{dec_lt}
use native.Mathlib.Omega.{arith}
use mathlib.Core.Path.{◌≡◌, refl, sym, ap, subst, ◌∙◌}
use mathlib.Core.Bool.{Bool, true, false, ◌&&◌, not, beq, and-false, false≢true}
use mathlib.Core.List.{List, [], ◌∷◌}
use borrow.Author.Tests.{ne_eqb, lt-ltb, lt-leb, ltb-true}
use lib.Dec.{ltb, leb, eqb}
use lib.ListN.{length}
use Rattle.std.specs.List.{list_all}
use Rattle.sdp_bytes.specs.Ranges.{in_some}
use Rattle.sdp_bytes.specs.Token.{token_char, token_ranges, all_token, is_token}
use Rattle.sdp_bytes.proofs.ScanLaws.{and_left, and_right}

beq_true : (a b : Bool) → beq a b ≡ true → a ≡ b
beq_true true true e = refl
beq_true true false e = sym e
beq_true false true e = e
beq_true false false e = refl

-- two tests say the same of every number below n: where both can be computed, so can this
unfoldable agree : (ℕ → Bool) → (ℕ → Bool) → ℕ → Bool
agree p q zero = true
agree p q (suc n) = beq (p n) (q n) && agree p q n

agree_at : (p q : ℕ → Bool) (n : ℕ) → agree p q n ≡ true → (b : ℕ) → b < n → p b ≡ q b
unfolding agree
agree_at p q zero e b h = absurd (omega arith)
agree_at p q (suc n) e b h = elim (dec_lt b n) [
  | yes l ↦ agree_at p q n (and_right (beq (p n) (q n)) (agree p q n) e) b l
  | no l ↦ subst (λ (m : ℕ). p m ≡ q m) (omega arith) (beq_true (p n) (q n) (and_left (beq (p n) (q n)) (agree p q n) e))
]

-- from 80 hexadecimal on there is none, by either
module _ (b : ℕ) (h : 0x80 ≤ b) where
  other : (c : ℕ) → ltb c 0x80 ≡ true → eqb b c ≡ false
  other c l = ne_eqb b c (λ e. omega (arith, ltb-true c 0x80 l))

  past : (hi : ℕ) → ltb hi 0x80 ≡ true → leb b hi ≡ false
  past hi l = lt-leb b hi (omega (arith, ltb-true hi 0x80 l))

  not_token : token_char b ≡ false
  not_token = simp (other, past, and-false)

  not_in_ranges : in_some token_ranges b ≡ false
  unfolding in_some
  not_in_ranges = simp (past, and-false)

-- the paper's seven ranges and the RFC's list are the same set: below 80 hexadecimal this computes
pub ranges_are_token : (b : ℕ) → in_some token_ranges b ≡ token_char b
unfolding agree in_some
ranges_are_token b = elim (dec_lt b 0x80) [
  | yes h ↦ agree_at (in_some token_ranges) token_char 0x80 refl b h
  | no h ↦ not_in_ranges b (omega arith) ∙ sym (not_token b (omega arith))
]

pub token_small : (b : ℕ) → token_char b ≡ true → b < 0x80
token_small b e = elim (dec_lt b 0x80) [ yes h ↦ h | no h ↦ absurd (false≢true (sym (not_token b (omega arith)) ∙ e)) ]

-- a token, as the code asks it: of a list with a byte whether all are
all-list : (s : List ℕ) → all_token s ≡ list_all token_char s
unfolding all_token
all-list [] = refl
all-list (b ∷ s) = ap (λ (t : Bool). token_char b && t) (all-list s)

pub token-is : (s : List ℕ) → is_token s ≡ (not (eqb (length s) 0) && list_all token_char s)
unfolding is_token
token-is [] = refl
token-is (b ∷ s) =
    let l : 0 < length (b ∷ s) = omega arith in
    rw (lt-ltb 0 (length (b ∷ s)) l, ne_eqb (length (b ∷ s)) 0 (λ e. omega arith)) (all-list (b ∷ s))
