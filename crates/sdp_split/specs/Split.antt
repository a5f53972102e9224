-- Document 01, "Fields": how a line's value is split. A field ends where the next separator stands, or with the value.
use Rattle.std.specs.Prelude.{ℕ, zero, suc, ◌+◌, ◌-◌, ◌≤◌, ◌≡◌, cond, List, [], ◌∷◌, length, take, drop, ltb, eqb, Option, Some, None}
use Rattle.sdp_bytes.specs.Runs.{index_of}
use Rattle.sdp_split.specs.declared.Piece.{Piece}

-- a field, as its piece and the place where it ends, or that there is none
abbrev pub Field : Type 0
Field = Option (Piece × ℕ)

-- the bytes of a piece of v
abbrev pub part : List ℕ → Piece → List ℕ
part v p = take p.len (drop p.at v)

-- how many spaces a list begins with
unfoldable pub spaces : List ℕ → ℕ
spaces [] = 0
spaces (b ∷ s) = cond (eqb b 0x20) (suc (spaces s)) 0

-- the field that starts at i and ends before the next separator, and its end
abbrev pub piece_from : ℕ → List ℕ → ℕ → Field
piece_from sep v i = Some (record { at = i; len = index_of sep (drop i v) }, i + index_of sep (drop i v))

-- the words of a list that stands at place i of the value, and whose first k bytes are the rest of a word that was read already
unfoldable pub words_from : ℕ → ℕ → List ℕ → List Piece
words_from i k [] = []
words_from i (suc k) (b ∷ s) = words_from (suc i) k s
words_from i zero (b ∷ s) =
    cond (eqb b 0x20)
    (words_from (suc i) zero s)
    (record { at = i; len = index_of 0x20 (b ∷ s) } ∷ words_from (suc i) (index_of 0x20 s) s)

-- the words of v from place i on
unfoldable pub words_at : List ℕ → ℕ → List Piece
words_at v i = words_from i 0 (drop i v)

-- o, c, t, r, z "split at runs of spaces, no empty fields": the words of v, each with its place
abbrev pub words : List ℕ → List Piece
words v = words_at v 0

-- the first of some words and its end
abbrev pub next_word : List Piece → Field
next_word [] = None
next_word (p ∷ ws) = Some (p, p.at + p.len)

-- the words after it
abbrev pub later : List Piece → List Piece
later [] = []
later (p ∷ ws) = ws

-- the first word from place i on, and its end
unfoldable pub word_at : List ℕ → ℕ → Field
word_at v i = next_word (words_at v i)

-- b, a, k, m "empty fields kept": the first field; "an empty value gives .. one empty field"
unfoldable pub first_piece : ℕ → List ℕ → Field
first_piece sep v = piece_from sep v 0

-- the field after the one that ended at e: there is one exactly where a separator stands at e
unfoldable pub piece_after : ℕ → List ℕ → ℕ → Field
piece_after sep v e = cond (ltb e (length v)) (piece_from sep v (e + 1)) None

-- all that stands after the separator at e, as one field
unfoldable pub rest_after : List ℕ → ℕ → Field
rest_after v e = cond (ltb e (length v)) (Some (record { at = e + 1; len = length v - (e + 1) }, length v)) None

-- ---- where a field stands
-- a piece lies within the value
abbrev pub Inside : List ℕ → Piece → Type 0
Inside v p = p.at + p.len ≤ length v

-- a field, if there is one, lies within the value: its piece and its end
abbrev pub Within : List ℕ → Field → Type 0
Within v f = (p : Piece) (e : ℕ) → f ≡ Some (p, e) → Inside v p × (e ≤ length v)
