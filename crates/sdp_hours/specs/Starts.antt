-- Document 02, P3: all starts of a session in a window, and the answer.
use Rattle.std.specs.Prelude.{ℕ, Bool, false, cond, ◌||◌, List, [], ◌∷◌, length, ltb, eqb}
use Rattle.sdp_numbers.specs.Refusals as refusals
use Rattle.sdp_numbers.specs.Refusals.{most_starts}
use Rattle.sdp_lines.specs.declared.Span.{Span}
use Rattle.sdp_area.specs.Session.{Time, Repeat, Offset, Zone, Tables}
use Rattle.sdp_decode.specs.Rows.{each, mine}
use Rattle.sdp_decode.specs.Decode.{decode}
use Rattle.sdp_unfit.specs.Unfit.{unfit}
use Rattle.sdp_hours.specs.Hours.{rise, listed, repeated}
use Rattle.sdp_hours.specs.Listing.{Start, sorted}

-- one of the rows belongs to n
unfoldable pub owns : {X : Type 0} → (X → ℕ) → ℕ → List X → Bool
owns owner n [] = false
owns owner n (x ∷ xs) = eqb (owner x) n || owns owner n xs

-- "with its time and repeat number"
unfoldable pub numbered : ℕ → ℕ → List ℕ → List Start
numbered i j [] = []
numbered i j (v ∷ vs) = record { at = v; time = i; repeat = j } ∷ numbered i j vs

module _ (rs : List Repeat) (os : List Offset) (zs : List Zone) (from to : ℕ) where
  -- one offset o of repeat j, which is r, of time i, which is t
  abbrev pub of_offset : ℕ → Time → ℕ → Repeat → ℕ → List Start
  of_offset i t j r o = numbered i j (repeated t.start_time t.stop_time r.repeat_interval o zs from to)

  -- its offsets, "and one offset of 0 where none is written"
  unfoldable pub of_repeat : ℕ → Time → ℕ → Repeat → List Start
  of_repeat i t j r =
      cond (owns (λ o. o.owner) j os) (each (λ k o. mine j o.owner (of_offset i t j r o.offset)) 1 os) (of_offset i t j r 0)

  -- "A time without repeats starts once, at its start time": no zone offset is added
  abbrev pub once : ℕ → Time → List Start
  once i t = numbered i 0 (listed t.stop_time from to 0 t.start_time)

  -- "A start time of 0 is unbounded and lists nothing"
  unfoldable pub of_time : ℕ → Time → List Start
  of_time i t =
      cond (eqb t.start_time 0) []
      (cond (owns (λ r. r.owner) i rs) (each (λ j r. mine i r.owner (of_repeat i t j r)) 1 rs) (once i t))

  -- "All starts that then lie within the caller's window", in the order of the tables
  unfoldable pub starts_of : List Time → List Start
  starts_of ts = each of_time 1 ts

-- the number of the answer, and its list
pub record Told : Type 0 where
  pub number : ℕ
  pub list : List Start

-- "The returned list is zero after any refusal"
abbrev pub refused : ℕ → Told
refused n = record { number = n; list = [] }

-- "exactly one for each k and offset .. rising"; "29 more than 256 starts"
unfoldable pub answered : List Start → Told
answered xs = cond (ltb most_starts (length xs)) (refused refusals.too_many_starts) (record { number = 0; list = sorted xs })

-- "28 adjustment times fall"
unfoldable pub starts_in : Tables Span → ℕ → ℕ → Told
starts_in s from to =
    cond (rise 0 s.zones) (answered (starts_of s.repeats s.offsets s.zones from to s.times))
    (refused refusals.adjustments_fall)

-- "Refusals, in order: 2, 1, 23 as for writing"; then those of the list
unfoldable pub starts_text : List ℕ → List ℕ → ℕ → ℕ → Told
starts_text t a from to =
    cond (eqb (unfit t a) 0) (starts_in (decode a).tables from to) (refused (unfit t a))
