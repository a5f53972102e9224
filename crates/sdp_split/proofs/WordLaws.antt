-- Laws of specs/Split: the words of a value, and that reading word by word from a place on finds them.
-- Assumes nothing.
use Prim.Native.Nat.{ℕ, zero, suc, ◌+◌, ◌<◌, ◌≤◌}
use native.Mathlib.Decide.{dec_lt}
use native.Mathlib.Omega.{arith}
use mathlib.Core.Path.{◌≡◌, refl, sym, ap, ◌∙◌}
use mathlib.Core.Bool.{Bool, true, false, cond}
use mathlib.Core.List.{List, [], ◌∷◌}
use lib.Dec.{eqb}
use lib.ListN.{length, drop, length-drop}
use lib.Seq.{drop-drop}
use Rattle.sdp_bytes.specs.Runs.{index_of}
use Rattle.sdp_bytes.proofs.ScanLaws.{index_le}
use Rattle.sdp_split.specs.Split.{spaces, piece_from, words_from, words_at, words, next_word, later, word_at, Inside, Within}
use Rattle.sdp_split.specs.declared.Piece.{Piece}
use Rattle.std.specs.Prelude.{Some, None}
use Rattle.std.proofs.lemmas.Option.{some_pair_parts}
use Rattle.sdp_split.proofs.SplitLaws.{got_within}

-- ---- the words of a list that stands at place i
-- the bytes of a word that was read already
from_drop : (s : List ℕ) (i k : ℕ) → words_from i k s ≡ words_from (i + k) 0 (drop k s)
unfolding words_from
from_drop [] i zero = refl
from_drop [] i (suc k) = refl
from_drop (b ∷ s) i zero = let e : i ≡ i + 0 = omega arith in ap (λ (j : ℕ). words_from j 0 (b ∷ s)) e
from_drop (b ∷ s) i (suc k) = let e : suc i + k ≡ i + suc k = omega arith in from_drop s (suc i) k ∙ ap (λ (j : ℕ). words_from j 0 (drop k s)) e

-- spaces before the first word
skip : (s : List ℕ) (i : ℕ) → words_from i 0 s ≡ words_from (i + spaces s) 0 (drop (spaces s) s)
unfolding words_from spaces
skip [] i = refl
skip (b ∷ s) i = go (eqb b 0x20) refl (skip s (suc i))
  where
    go : (t : Bool) → eqb b 0x20 ≡ t → words_from (suc i) 0 s ≡ words_from (suc i + spaces s) 0 (drop (spaces s) s)
        → words_from i 0 (b ∷ s) ≡ words_from (i + cond t (suc (spaces s)) 0) 0 (drop (cond t (suc (spaces s)) 0) (b ∷ s))
    go true q h = let e : suc i + spaces s ≡ i + suc (spaces s) = omega arith in rw q (h ∙ ap (λ (j : ℕ). words_from j 0 (drop (spaces s) s)) e)
    go false q h = let e : i ≡ i + 0 = omega arith in ap (λ (j : ℕ). words_from j 0 (b ∷ s)) e

skipped : (s : List ℕ) → spaces (drop (spaces s) s) ≡ 0
unfolding spaces
skipped [] = refl
skipped (b ∷ s) = go (eqb b 0x20) refl (skipped s)
  where
    go : (t : Bool) → eqb b 0x20 ≡ t → spaces (drop (spaces s) s) ≡ 0 → spaces (drop (cond t (suc (spaces s)) 0) (b ∷ s)) ≡ 0
    go true q h = h
    go false q h = rw q

-- a list that begins with a word
first : (s : List ℕ) (i : ℕ) → spaces s ≡ 0 → 0 < length s
    → (words_from i 0 s ≡ record { at = i; len = index_of 0x20 s } ∷ words_from (i + index_of 0x20 s) 0 (drop (index_of 0x20 s) s)) × (0 < index_of 0x20 s)
unfolding words_from spaces index_of
first [] i h l = absurd (omega arith)
first (b ∷ s) i h l = go (eqb b 0x20) refl h
  where
    go : (t : Bool) → eqb b 0x20 ≡ t → cond t (suc (spaces s)) 0 ≡ 0
        → (words_from i 0 (b ∷ s) ≡ record { at = i; len = index_of 0x20 (b ∷ s) } ∷ words_from (i + index_of 0x20 (b ∷ s)) 0 (drop (index_of 0x20 (b ∷ s)) (b ∷ s))) × (0 < index_of 0x20 (b ∷ s))
    go true q h = absurd (omega arith)
    go false q h =
        let e : suc i + index_of 0x20 s ≡ i + suc (index_of 0x20 s) = omega arith in
        rw q (ap (λ ws. record { at = i; len = suc (index_of 0x20 s) } ∷ ws) (from_drop s (suc i) (index_of 0x20 s) ∙ ap (λ (j : ℕ). words_from j 0 (drop (index_of 0x20 s) s)) e), omega arith)

-- ---- the words from a place on: j is where the spaces from i on end
module _ (v : List ℕ) (i j : ℕ) (q : j ≡ i + spaces (drop i v)) where
  rest_is : drop (spaces (drop i v)) (drop i v) ≡ drop j v
  rest_is = drop-drop (spaces (drop i v)) i v ∙ ap (λ k. drop k v) (sym q)

  skip_to : words_at v i ≡ words_at v j
  unfolding words_at
  skip_to = skip (drop i v) i ∙ rw (← q) (ap (words_from j 0) rest_is)

  here : j < length v → (words_at v i ≡ record { at = j; len = index_of 0x20 (drop j v) } ∷ words_at v (j + index_of 0x20 (drop j v))) × (0 < index_of 0x20 (drop j v))
  unfolding words_at
  here l =
      let f = first (drop j v) j (rw rest_is at (skipped (drop i v))) (omega (arith, length-drop j v)) in
      (skip_to ∙ (rw (drop-drop (index_of 0x20 (drop j v)) j v) at f.0), f.1)

  gone : length v ≤ j → words_at v i ≡ []
  unfolding words_at words_from
  gone l = skip_to ∙ go (drop j v) (omega (arith, length-drop j v))
    where
      go : (s : List ℕ) → length s ≡ 0 → words_from j 0 s ≡ []
      go [] h = refl
      go (b ∷ s) h = absurd (omega arith)

-- as the code finds the word
module _ (v : List ℕ) (i n : ℕ) (q : n ≡ spaces (drop i v)) where
  pub word_here : i + n < length v → piece_from 0x20 v (i + n) ≡ word_at v i
  unfolding word_at
  word_here h = sym (ap next_word (here v i (i + n) (ap (λ (k : ℕ). i + k) q) h).0)

  pub word_past : length v ≤ i + n → None ≡ word_at v i
  unfolding word_at
  word_past h = sym (ap next_word (gone v i (i + n) (ap (λ (k : ℕ). i + k) q) h))

-- ---- one word from a place on
pub word_none : (v : List ℕ) (i : ℕ) → word_at v i ≡ None → words_at v i ≡ []
unfolding word_at
word_none v i h = go (words_at v i) h
  where
    go : (ws : List Piece) → next_word ws ≡ None → ws ≡ []
    go [] h = refl
    go (p ∷ ws) h = absurd (let z : ◌≡◌ {A = ℕ} 0 1 = cc in omega arith)

-- where it stands: behind the spaces, up to the next one
pub word_place : (v : List ℕ) (i : ℕ) (p : Piece) (e : ℕ) → word_at v i ≡ Some (p, e)
    → (words_at v i ≡ p ∷ words_at v e) × (p.at ≡ i + spaces (drop i v)) × (p.len ≡ index_of 0x20 (drop p.at v)) × (e ≡ p.at + p.len) × (0 < p.len) × (e ≤ length v)
unfolding word_at
word_place v i p e h = go (i + spaces (drop i v)) refl (dec_lt _ (length v))
  where
    go : (j : ℕ) → j ≡ i + spaces (drop i v) → Dec (j < length v)
        → (words_at v i ≡ p ∷ words_at v e) × (p.at ≡ i + spaces (drop i v)) × (p.len ≡ index_of 0x20 (drop p.at v)) × (e ≡ p.at + p.len) × (0 < p.len) × (e ≤ length v)
    go j q (yes l) =
        let w = here v i j q l in
        let k : Some (record { at = j; len = index_of 0x20 (drop j v) }, j + index_of 0x20 (drop j v)) ≡ Some (p, e) = sym (ap next_word w.0) ∙ h in
        let x = some_pair_parts (record { at = j; len = index_of 0x20 (drop j v) }) p (j + index_of 0x20 (drop j v)) e k in
        rw (← x.0, ← x.1) (w.0, q, refl, refl, w.1, omega (arith, index_le 0x20 (drop j v), length-drop j v, l))
    go j q (no l) = absurd (let k = sym (ap next_word (gone v i j q (omega arith))) ∙ h in let z : ◌≡◌ {A = ℕ} 0 1 = cc in omega arith)

pub word_next : (v : List ℕ) (i : ℕ) (p : Piece) (e : ℕ) → word_at v i ≡ Some (p, e)
    → (words_at v i ≡ p ∷ words_at v e) × ((i < e) × (e ≤ length v))
word_next v i p e h = let w = word_place v i p e h in (w.0, (omega (arith, w.1, w.3, w.4), w.5))

pub word_within : (v : List ℕ) (i : ℕ) → Within v (word_at v i)
word_within v i p e h = let w = word_place v i p e h in (omega (arith, w.3, w.5), w.5)

-- ---- all words lie within the value
abbrev pub AllInside : List ℕ → List Piece → Type 0
AllInside v [] = Unit {0}
AllInside v (p ∷ ws) = Inside v p × AllInside v ws

-- of a list that stands at place i of v and ends with it
from_inside : (v s : List ℕ) (i k : ℕ) → i + length s ≡ length v → AllInside v (words_from i k s)
unfolding words_from
from_inside v [] i k h = tt
from_inside v (b ∷ s) i (suc k) h = from_inside v s (suc i) k (omega arith)
from_inside v (b ∷ s) i zero h = go (eqb b 0x20) (from_inside v s (suc i) 0 (omega arith)) (from_inside v s (suc i) (index_of 0x20 s) (omega arith))
  where
    go : (t : Bool) → AllInside v (words_from (suc i) 0 s) → AllInside v (words_from (suc i) (index_of 0x20 s) s)
        → AllInside v (cond t (words_from (suc i) 0 s) (record { at = i; len = index_of 0x20 (b ∷ s) } ∷ words_from (suc i) (index_of 0x20 s) s))
    go true x y = x
    go false x y = (omega (arith, index_le 0x20 (b ∷ s)), y)

pub words_inside : (v : List ℕ) → AllInside v (words v)
unfolding words_at
words_inside v = from_inside v v 0 0 (omega arith)

pub next_inside : (v : List ℕ) (ws : List Piece) → AllInside v ws → Within v (next_word ws)
next_inside v [] a p e h = absurd (let z : ◌≡◌ {A = ℕ} 0 1 = cc in omega arith)
next_inside v (q ∷ ws) a p e h = got_within v q (q.at + q.len) a.0 a.0 p e h

pub later_inside : (v : List ℕ) (ws : List Piece) → AllInside v ws → AllInside v (later ws)
later_inside v [] a = tt
later_inside v (q ∷ ws) a = a.1
