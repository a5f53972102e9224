-- Laws of specs/Split: runs of spaces, pieces between separators, and that a field lies within its value.
-- Assumes nothing.
use Prim.Native.Nat.{ℕ, suc, ◌+◌, ◌-◌, ◌<◌, ◌≤◌}
use native.Mathlib.Numerals.{add-one}
use native.Mathlib.Omega.{arith}
use mathlib.Core.Path.{◌≡◌, refl}
use mathlib.Core.Bool.{Bool, true, false, cond}
use mathlib.Core.List.{List, [], ◌∷◌}
use borrow.Author.Tests.{lt-ltb, le-ltb, eq-eqb, ne_eqb, ltb-true}
use lib.Dec.{ltb, eqb}
use lib.ListN.{length, get_or, take, drop, drop_of_length-le, length-drop}
use lib.Seq.{drop-cons}
use Rattle.sdp_bytes.specs.Runs.{index_of}
use Rattle.sdp_bytes.proofs.ScanLaws.{index_le, rest_from}
use Rattle.sdp_split.specs.Split.{Field, part, spaces, piece_from, first_piece, piece_after, rest_after, Inside, Within}
use Rattle.sdp_split.specs.declared.Piece.{Piece}
use Rattle.std.specs.Prelude.{Some, None}
use Rattle.std.proofs.lemmas.Option.{some_pair_parts}

-- ---- a run of spaces, by its places
module _ (v : List ℕ) (i : ℕ) where
  pub spaces_next : i < length v → get_or v i 0 ≡ 0x20 → spaces (drop i v) ≡ suc (spaces (drop (i + 1) v))
  unfolding spaces
  spaces_next h e = rw (add-one, drop-cons v i 0, eq-eqb (get_or v i 0) 0x20 e)

  pub spaces-stop : i < length v → (get_or v i 0 ≡ 0x20 → ⊥) → spaces (drop i v) ≡ 0
  unfolding spaces
  spaces-stop h e = rw (drop-cons v i 0, ne_eqb (get_or v i 0) 0x20 e)

  pub spaces_end : length v ≤ i → spaces (drop i v) ≡ 0
  unfolding spaces
  spaces_end h = rw (drop_of_length-le v h)

pub spaces-le : (s : List ℕ) → spaces s ≤ length s
unfolding spaces
spaces-le [] = omega arith
spaces-le (b ∷ s) = go (eqb b 0x20) (spaces-le s)
  where
    go : (t : Bool) → spaces s ≤ length s → cond t (suc (spaces s)) 0 ≤ suc (length s)
    go true h = omega arith
    go false h = omega arith

-- ---- the bytes of a piece, as the code cuts them
pub part_is : (v : List ℕ) (p : Piece) → take (p.at + p.len - p.at) (drop p.at v) ≡ part v p
part_is v p = let h : p.at + p.len - p.at ≡ p.len = omega arith in rw h

-- ---- the fields by their tests
module _ (sep : ℕ) (v : List ℕ) (i n : ℕ) (q : n ≡ index_of sep (take (length v - i) (drop i v))) where
  index_is : n ≡ index_of sep (drop i v)
  index_is = rw (rest_from v i) at q

  pub piece_is : Some (record { at = i; len = n }, i + n) ≡ piece_from sep v i
  piece_is = rw index_is

  pub piece_fits : i ≤ length v → i + n ≤ length v
  piece_fits h = omega (arith, index_is, index_le sep (drop i v), length-drop i v)

module _ (v : List ℕ) (i n : ℕ) (q : n ≡ spaces (drop i v)) where
  pub spaces-fit : i ≤ length v → i + n ≤ length v
  spaces-fit h = omega (arith, spaces-le (drop i v), length-drop i v)

module _ (v : List ℕ) (e : ℕ) where
  module _ (h : e < length v) where
    pub after_here : (sep : ℕ) → piece_from sep v (e + 1) ≡ piece_after sep v e
    unfolding piece_after
    after_here sep = rw (lt-ltb e (length v) h)

    pub rest_here : Some (record { at = e + 1; len = length v - (e + 1) }, length v) ≡ rest_after v e
    unfolding rest_after
    rest_here = rw (lt-ltb e (length v) h)

  module _ (h : length v ≤ e) where
    pub after-past : (sep : ℕ) → None ≡ piece_after sep v e
    unfolding piece_after
    after-past sep = rw (le-ltb e (length v) h)

    pub rest_past : None ≡ rest_after v e
    unfolding rest_after
    rest_past = rw (le-ltb e (length v) h)

-- ---- a field lies within its value
pub chosen : (a b : ℕ) (f : Field) (p : Piece) (e : ℕ) → cond (ltb a b) f None ≡ Some (p, e) → (a < b) × (f ≡ Some (p, e))
chosen a b f p e = go (ltb a b) refl
  where
    go : (t : Bool) → ltb a b ≡ t → cond t f None ≡ Some (p, e) → (a < b) × (f ≡ Some (p, e))
    go true q h = (ltb-true a b q, h)
    go false q h = absurd (let z : ◌≡◌ {A = ℕ} 0 1 = cc in omega arith)

pub got_within : (v : List ℕ) (p : Piece) (e : ℕ) → Inside v p → e ≤ length v → Within v (Some (p, e))
got_within v p e h k p' e' q =
    let x = some_pair_parts p p' e e' q in
    (rw x.0 at h, rw x.1 at k)

piece_within : (sep : ℕ) (v : List ℕ) (i : ℕ) → i ≤ length v → Within v (piece_from sep v i)
piece_within sep v i h =
    let l = index_le sep (drop i v) in
    let d = length-drop i v in
    got_within v _ _ (omega arith) (omega arith)

pub first_within : (sep : ℕ) (v : List ℕ) → Within v (first_piece sep v)
unfolding first_piece
first_within sep v = piece_within sep v 0 (omega arith)

pub after-within : (sep : ℕ) (v : List ℕ) (e : ℕ) → Within v (piece_after sep v e)
unfolding piece_after
after-within sep v i p e h =
    let q = chosen i (length v) (piece_from sep v (i + 1)) p e h in
    piece_within sep v (i + 1) (omega arith) p e q.1

pub rest_within : (v : List ℕ) (e : ℕ) → Within v (rest_after v e)
unfolding rest_after
rest_within v i p e h =
    let q = chosen i (length v) (Some (record { at = i + 1; len = length v - (i + 1) }, length v)) p e h in
    got_within v _ _ (omega arith) (omega arith) p e q.1
