-- Bytes put into a bounded output, one after the other. What would stand past the output's end is dropped, and only counted.
use Rattle.std.specs.Prelude.{◌≡◌, List, ℕ, ◌+◌, ◌-◌, ◌<◌, ◌^◌, min, length}
use Rattle.std.proofs.lemmas.List.Edits.{sets}

-- o with bs in the place of the bytes from at on, as far as o reaches
unfoldable pub put : List ℕ → ℕ → List ℕ → List ℕ
put o at bs = sets o at bs

-- a place as a number of 64 bits: the last one stays
abbrev pub placed : ℕ → ℕ
placed n = min n (2 ^ 64 - 1)

-- the output o, with bs put from at on, is o', and the next place is r. A slice's length and a place are always below 2^64
pub record Put (o : List ℕ) (at : ℕ) (bs : List ℕ) (o' : List ℕ) (r : ℕ) : Type 0 where
  pub puts : length o < 2 ^ 64 → at < 2 ^ 64 → (o' ≡ put o at bs) × (r ≡ placed (at + length bs))
