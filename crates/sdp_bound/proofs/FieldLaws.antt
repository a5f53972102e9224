-- The bytes that the fields of a value take: words with a byte between them, pieces with their separators. Assumes nothing.
use mathlib.Core.Path.{◌≡◌, refl, ap, ◌∙◌}
use mathlib.Core.Bool.{Bool, true, false, cond}
use mathlib.Core.List.{List, [], ◌∷◌}
use Prim.Native.Nat.{ℕ, zero, suc, ◌+◌, ◌-◌, ◌≤◌, ◌<◌}
use native.Mathlib.Omega.{arith}
use lib.ListN.{length, take, drop, length-take, length-drop}
use lib.Dec.{eqb}
use Rattle.sdp_bytes.specs.Runs
use Rattle.sdp_bytes.specs.Runs.{index_of}
use Rattle.sdp_number.specs.Number.{Number, whole_number, typed_time}
use Rattle.sdp_number.specs.declared.NumberError.TheVariants.{Encoding, Format}
use Rattle.sdp_bytes.proofs.ScanLaws.{index_le}
use Rattle.sdp_split.specs.Split
use Rattle.sdp_split.specs.Split.{Field, part, piece_from, words_from, words, next_word, later, first_piece, piece_after, rest_after}
use Rattle.sdp_judge.specs.Read.{Read, amount_of, number_of, time_of, after}
use Rattle.sdp_split.specs.declared.Piece.{Piece}
use Rattle.sdp_split.proofs.SplitLaws.{chosen}
use Rattle.sdp_split.proofs.WordLaws.{words_inside, next_inside}
use Rattle.sdp_judge.proofs.EveryLaws.{Every, never}
use Rattle.sdp_put.specs.Digits.{digits, time_text}
use Rattle.sdp_bound.proofs.NumberLaws.{number_short, time-short}
use Rattle.sdp_room.proofs.SumLaws
use Rattle.sdp_room.proofs.SumLaws.{sum}
use Rattle.std.proofs.lemmas.Option.{some_pair_parts}
use Rattle.std.specs.Prelude.{Some, None, Ok, Err}

pub part_len : (v : List ℕ) (p : Piece) → length (part v p) ≤ p.len
part_len v p = omega (arith, length-take p.len (drop p.at v))

-- ---- words
-- each word with one byte more
abbrev pub weight : List Piece → ℕ
weight ws = sum (λ p. p.len + 1) ws

-- the words of a list, and what is left after the rest of a word that was read already
weights : (s : List ℕ) (i : ℕ) → (weight (words_from i 0 s) ≤ length s + 1) × (weight (words_from i (index_of 0x20 s) s) + index_of 0x20 s ≤ length s)
unfolding SumLaws.sum Split.words_from Runs.index_of
weights [] i = (omega arith, omega arith)
weights (b ∷ s) i = go (eqb b 0x20) refl (weights s (suc i)).0 (weights s (suc i)).1
  where
    go : (t : Bool) → eqb b 0x20 ≡ t → weight (words_from (suc i) 0 s) ≤ length s + 1 → weight (words_from (suc i) (index_of 0x20 s) s) + index_of 0x20 s ≤ length s
        → (weight (words_from i 0 (b ∷ s)) ≤ suc (length s) + 1) × (weight (words_from i (index_of 0x20 (b ∷ s)) (b ∷ s)) + index_of 0x20 (b ∷ s) ≤ suc (length s))
    go true e h k =
        let f : words_from i 0 (b ∷ s) ≡ words_from (suc i) 0 s = rw e in
        let n : index_of 0x20 (b ∷ s) ≡ 0 = rw e in
        let g : weight (words_from i (index_of 0x20 (b ∷ s)) (b ∷ s)) ≡ weight (words_from (suc i) 0 s) = ap (λ (n : ℕ). weight (words_from i n (b ∷ s))) n ∙ ap weight f in
        (omega (arith, ap weight f), omega (arith, g, n))
    go false e h k = rw e (omega arith, omega arith)

-- no word is empty
word_some : (s : List ℕ) (i k : ℕ) (p : Piece) (ws : List Piece) → words_from i k s ≡ p ∷ ws → 0 < p.len
unfolding Split.words_from Runs.index_of
word_some [] i k p ws e = absurd (let z : ◌≡◌ {A = ℕ} 0 1 = cc in omega arith)
word_some (b ∷ s) i (suc k) p ws e = word_some s (suc i) k p ws e
word_some (b ∷ s) i zero p ws e = go (eqb b 0x20) refl (word_some s (suc i) 0 p ws) e
  where
    go : (t : Bool) → eqb b 0x20 ≡ t → (words_from (suc i) 0 s ≡ p ∷ ws → 0 < p.len)
        → cond t (words_from (suc i) 0 s) (record { at = i; len = cond t 0 (suc (index_of 0x20 s)) } ∷ words_from (suc i) (index_of 0x20 s) s) ≡ p ∷ ws → 0 < p.len
    go true q ih e = ih e
    go false q ih e = let z : record { at = i; len = suc (index_of 0x20 s) } ≡ p = cc in omega (arith, ap (λ (x : Piece). x.len) z)

-- one word, and those after it
pub next_weight : (ws : List Piece) (p : Piece) (e : ℕ) → next_word ws ≡ Some (p, e) → weight ws ≡ p.len + 1 + weight (later ws)
unfolding SumLaws.sum
next_weight [] p e h = absurd (let z : ◌≡◌ {A = ℕ} 0 1 = cc in omega arith)
next_weight (q ∷ ws) p e h = ap (λ (x : Piece). x.len + 1 + weight ws) (some_pair_parts q p (q.at + q.len) e h).0

module _ (v : List ℕ) where
  pub words_weight : weight (words v) ≤ length v + 1
  unfolding Split.words_at
  words_weight = (weights v 0).0

  -- the first word has a byte
  pub first_some : (p : Piece) (e : ℕ) → next_word (words v) ≡ Some (p, e) → 0 < length (part v p)
  unfolding Split.words_at
  first_some p e h =
      let l = go (words v) refl h in
      let i = (next_inside v (words v) (words_inside v) p e h).0 in
      omega (arith, length-take p.len (drop p.at v), length-drop p.at v)
    where
      go : (ws : List Piece) → words v ≡ ws → next_word ws ≡ Some (p, e) → 0 < p.len
      go [] q h = absurd (let z : ◌≡◌ {A = ℕ} 0 1 = cc in omega arith)
      go (x ∷ ws) q h = word_some v 0 0 p ws (q ∙ ap (λ (y : Piece). y ∷ ws) (some_pair_parts x p (x.at + x.len) e h).0)

  -- ---- pieces
  same_piece : (sep i : ℕ) (p : Piece) (e : ℕ) → piece_from sep v i ≡ Some (p, e) → i ≤ length v → (i + p.len ≡ e) × (e ≤ length v)
  same_piece sep i p e h l =
      let x = some_pair_parts (record { at = i; len = index_of sep (drop i v) }) p (i + index_of sep (drop i v)) e h in
      (omega (arith, ap (λ (q : Piece). q.len) x.0, x.1), omega (arith, x.1, index_le sep (drop i v), length-drop i v))

  pub first_piece_lem : (sep : ℕ) (p : Piece) (e : ℕ) → first_piece sep v ≡ Some (p, e) → (p.len ≡ e) × (e ≤ length v)
  unfolding Split.first_piece
  first_piece_lem sep p e h = let s = same_piece sep 0 p e h (omega arith) in (omega arith, s.1)

  module _ (i : ℕ) (p : Piece) (e : ℕ) where
    pub next_piece : (sep : ℕ) → piece_after sep v i ≡ Some (p, e) → (i + 1 + p.len ≡ e) × (e ≤ length v)
    unfolding Split.piece_after
    next_piece sep h = let c = chosen i (length v) (piece_from sep v (i + 1)) p e h in same_piece sep (i + 1) p e c.1 (omega arith)

    pub rest_piece : rest_after v i ≡ Some (p, e) → i + 1 + p.len ≡ length v
    unfolding Split.rest_after
    rest_piece h =
        let c = chosen i (length v) (Some (record { at = i + 1; len = length v - (i + 1) }, length v)) p e h in
        let x = some_pair_parts (record { at = i + 1; len = length v - (i + 1) }) p (length v) e c.1 in
        omega (arith, ap (λ (q : Piece). q.len) x.0)

-- ---- what holds of every record, after a number's field f of the value v
module _ {A : Type 0} (P : A → Type 0) (w : ℕ) (v : List ℕ) (k : ℕ → ℕ → Read A) where
  read_amount : (p : Piece) (e : ℕ) (x : Number) → ((n : ℕ) → x ≡ Ok n → Every P (k n e)) → Every P (after (amount_of w v p e x) k)
  read_amount p e (Ok n) h = h n refl
  read_amount p e (Err Encoding) h = never P _
  read_amount p e (Err Format) h = never P _

  pub past_number : (f : Field) → ((n e : ℕ) (p : Piece) → f ≡ Some (p, e) → length (digits n) ≤ length (part v p) → Every P (k n e)) → Every P (after (number_of w v f) k)
  past_number None h = never P _
  past_number (Some (p, e)) h = read_amount p e (whole_number 64 (part v p)) (λ n q. h n e p refl (number_short 64 (part v p) n q))

  pub past-time : (f : Field) → ((n e : ℕ) (p : Piece) → f ≡ Some (p, e) → length (time_text n) ≤ length (part v p) → Every P (k n e)) → Every P (after (time_of w v f) k)
  past-time None h = never P _
  past-time (Some (p, e)) h = read_amount p e (typed_time (part v p)) (λ n q. h n e p refl (time-short (part v p) n q))
