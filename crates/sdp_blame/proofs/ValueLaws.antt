-- A value up to a field that is not UTF-8: what stands before it is, and the byte behind it is ASCII, so the value stops being UTF-8 where the
-- field does.
-- Assumes nothing.
use Prim.Native.Nat.{ℕ, suc, ◌+◌, ◌-◌, ◌<◌, ◌≤◌}
use native.Mathlib.Decide.{dec_lt}
use native.Mathlib.Numerals.{add-one}
use native.Mathlib.Omega.{arith}
use mathlib.Core.Path.{◌≡◌, refl, sym, ap, ◌∙◌}
use mathlib.Core.Bool.{Bool, true, false, cond}
use mathlib.Core.List.{List, [], ◌∷◌, ◌++◌, append-nil}
use borrow.Author.Tests.{eqb-true}
use lib.Dec.{eqb}
use lib.ListN.{length, get_or, take, drop, length-drop, take-append-drop, drop_of_length-le}
use lib.Seq.{take-suc, take-add, drop-cons, drop-drop, get_or-drop, length-take-le}
use Rattle.sdp_bytes.specs.Runs.{index_of}
use Rattle.sdp_bytes.proofs.ScanLaws.{index_le}
use Rattle.sdp_lines.proofs.StopLaws.{index_found}
use Rattle.sdp_utf8.specs.Utf8.{utf8_end, is_utf8, Text, none}
use Rattle.sdp_utf8.proofs.Utf8Text.{text-append, text_join, utf8_text}
use Rattle.sdp_utf8.proofs.BreakLaws.{utf8_short, break_stays}
use Rattle.sdp_split.specs.Split as split
use Rattle.sdp_split.specs.Split.{part, spaces, piece_from, words_at, words, next_word, later, word_at, first_piece, piece_after, rest_after, Inside}
use Rattle.sdp_split.specs.declared.Piece.{Piece}
use Rattle.sdp_split.proofs.SplitLaws.{chosen}
use Rattle.sdp_split.proofs.WordLaws.{word_place}
use Rattle.sdp_judge.specs.Read.{entire}
use Rattle.sdp_blame.proofs.NumberLaws.{ascii-text}
use Rattle.std.proofs.lemmas.Option.{some_pair_parts}
use Rattle.std.specs.Prelude.{Some}

-- what stands before place e of v is UTF-8
abbrev pub Clean : List ℕ → ℕ → Type 0
Clean v e = Text (take e v)

-- the byte at e, if there is one, is ASCII
abbrev pub Sealed : List ℕ → ℕ → Type 0
Sealed v e = e < length v → get_or v e 0 < 0x80

module _ (v : List ℕ) where
  -- past a field, past one byte, past spaces
  pub clean_piece : (p : Piece) → Clean v p.at → is_utf8 (part v p) ≡ true → Clean v (p.at + p.len)
  clean_piece p c u = rw (take-add p.at p.len v) (text_join c ((utf8_text (part v p)).0 u))

  pub clean_byte : (e : ℕ) → Clean v e → Sealed v e → e < length v → Clean v (e + 1)
  clean_byte e c s l = rw (add-one, take-suc v e 0 l) (text_join c (ascii-text (get_or v e 0) (s l)))

  pub clean-spaces : (i : ℕ) → Clean v i → Clean v (i + spaces (drop i v))
  unfolding split.spaces
  clean-spaces i c = rw (take-add i (spaces (drop i v)) v) (text_join c (run (drop i v)))
    where
      run : (s : List ℕ) → Text (take (spaces s) s)
      run [] = none
      run (b ∷ s) = go (eqb b 0x20) refl (run s)
        where
          go : (t : Bool) → eqb b 0x20 ≡ t → Text (take (spaces s) s) → Text (take (cond t (suc (spaces s)) 0) (b ∷ s))
          go true q h = let z = eqb-true b 0x20 q in text_join (ascii-text b (omega arith)) h
          go false q h = none

  -- a field that ends before the next separator, or with the value
  pub sealed_by : (sep i : ℕ) → sep < 0x80 → Sealed v (i + index_of sep (drop i v))
  sealed_by sep i small l =
      let n = index_of sep (drop i v) in
      let f : get_or v (i + n) 0 ≡ sep = sym (get_or-drop i v n 0) ∙ index_found sep (drop i v) (omega (arith, length-drop i v)) in
      omega arith

  -- where the value stops being UTF-8
  pub value_end : (p : Piece) → Inside v p → Clean v p.at → Sealed v (p.at + p.len) → is_utf8 (part v p) ≡ false → p.at + utf8_end (part v p) ≡ utf8_end v
  value_end p inside c s bad = go (dec_lt (p.at + p.len) (length v))
    where
      whole : v ≡ take p.at v ++ (part v p ++ drop (p.at + p.len) v)
      whole =
          sym (take-append-drop p.at v)
          ∙ ap (λ (r : List ℕ). take p.at v ++ r) (sym (take-append-drop p.len (drop p.at v)) ∙ ap (λ (r : List ℕ). part v p ++ r) (drop-drop p.len p.at v))

      before : (r : List ℕ) → utf8_end (take p.at v ++ r) ≡ p.at + utf8_end r
      before r = text-append c r ∙ ap (λ (n : ℕ). n + utf8_end r) (length-take-le p.at v (omega arith))

      go : Dec (p.at + p.len < length v) → p.at + utf8_end (part v p) ≡ utf8_end v
      go (yes l) =
          let d = drop-cons v (p.at + p.len) 0 l in
          let e : utf8_end (part v p ++ drop (p.at + p.len) v) ≡ utf8_end (part v p) = ap (λ (r : List ℕ). utf8_end (part v p ++ r)) d ∙ break_stays (get_or v (p.at + p.len) 0) (drop (suc (p.at + p.len)) v) (s l) (part v p) (utf8_short (part v p) bad) in
          sym (ap utf8_end whole ∙ before (part v p ++ drop (p.at + p.len) v) ∙ ap (λ (n : ℕ). p.at + n) e)
      go (no l) =
          let d : drop (p.at + p.len) v ≡ [] = drop_of_length-le v {i = p.at + p.len} (omega arith) in
          let e : part v p ++ drop (p.at + p.len) v ≡ part v p = ap (λ (r : List ℕ). part v p ++ r) d ∙ append-nil (part v p) in
          sym (ap utf8_end whole ∙ before (part v p ++ drop (p.at + p.len) v) ∙ ap (λ (r : List ℕ). p.at + utf8_end r) e)

-- ---- where a field stands: what is before it is UTF-8, and the byte behind it ASCII
pub record Stands (v : List ℕ) (p : Piece) : Type 0 where
  pub inside : Inside v p
  pub clean : Clean v p.at
  pub sealed : Sealed v (p.at + p.len)

-- the same of a place between fields
pub record Past (v : List ℕ) (e : ℕ) : Type 0 where
  pub clean : Clean v e
  pub sealed : Sealed v e

pub past_field : (v : List ℕ) (p : Piece) → Stands v p → is_utf8 (part v p) ≡ true → Past v (p.at + p.len)
past_field v p s u = record { clean = clean_piece v p s.clean u; sealed = s.sealed }

-- the whole value
pub entire_stands : (v : List ℕ) → Stands v (entire v)
entire_stands v = record { inside = omega arith; clean = none; sealed = λ l. absurd (omega arith) }

-- ---- pieces between separators; each ends where it says
module _ (sep : ℕ) (small : sep < 0x80) (v : List ℕ) where
  from_stands : (i : ℕ) → i ≤ length v → Clean v i → (p : Piece) (e : ℕ) → piece_from sep v i ≡ Some (p, e) → Stands v p × (e ≡ p.at + p.len)
  from_stands i l c p e h =
      let x = some_pair_parts (record { at = i; len = index_of sep (drop i v) }) p (i + index_of sep (drop i v)) e h in
      rw (← x.0, ← x.1) (record { inside = omega (arith, index_le sep (drop i v), length-drop i v); clean = c; sealed = sealed_by v sep i small }, refl)

  pub first_stands : (p : Piece) (e : ℕ) → first_piece sep v ≡ Some (p, e) → Stands v p × (e ≡ p.at + p.len)
  unfolding split.first_piece
  first_stands = from_stands 0 (omega arith) none

  pub after_stands : (i : ℕ) → Past v i → (p : Piece) (e : ℕ) → piece_after sep v i ≡ Some (p, e) → Stands v p × (e ≡ p.at + p.len)
  unfolding split.piece_after
  after_stands i b p e h =
      let c = chosen i (length v) (piece_from sep v (i + 1)) p e h in
      from_stands (i + 1) (omega (arith, c.0)) (clean_byte v i b.clean b.sealed c.0) p e c.1

pub rest_stands : (v : List ℕ) (i : ℕ) → Past v i → (p : Piece) (e : ℕ) → rest_after v i ≡ Some (p, e) → Stands v p
unfolding split.rest_after
rest_stands v i b p e h =
    let c = chosen i (length v) (Some (record { at = i + 1; len = length v - (i + 1) }, length v)) p e h in
    let x = some_pair_parts (record { at = i + 1; len = length v - (i + 1) }) p (length v) e c.1 in
    rw (← x.0) (record { inside = omega (arith, c.0); clean = clean_byte v i b.clean b.sealed c.0; sealed = λ l. absurd (omega (arith, c.0)) })

-- ---- words that are left from a place on, all before which is UTF-8
pub record Ready (v : List ℕ) (ws : List Piece) : Type 0 where
  pub from : ℕ
  pub left : ws ≡ words_at v from
  pub clean : Clean v from

pub words_ready : (v : List ℕ) → Ready v (words v)
words_ready v = record { from = 0; left = refl; clean = none }

module _ (v : List ℕ) (ws : List Piece) (r : Ready v ws) (p : Piece) (e : ℕ) (h : next_word ws ≡ Some (p, e)) where
  word_at_lem : word_at v r.from ≡ Some (p, e)
  unfolding split.word_at
  word_at_lem = ap next_word (sym r.left) ∙ h

  pub word_stands : Stands v p
  word_stands =
      let w = word_place v r.from p e word_at_lem in
      record {
        inside = omega (arith, w.3, w.5);
        clean = rw w.1 (clean-spaces v r.from r.clean);
        sealed = rw w.2 (sealed_by v 0x20 p.at (omega arith));
      }

  pub later_ready : is_utf8 (part v p) ≡ true → Ready v (later ws)
  later_ready u =
      let w = word_place v r.from p e word_at_lem in
      record { from = e; left = ap later (r.left ∙ w.0); clean = rw w.3 (clean_piece v p word_stands.clean u) }
