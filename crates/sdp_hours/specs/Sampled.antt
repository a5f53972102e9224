-- Document 02, P3: small samples, each beside the words that it is of.
use Rattle.std.specs.Prelude.{ℕ, ◌+◌, ◌-◌, ◌^◌, ◌≡◌, List, [], ◌∷◌}
use Rattle.sdp_lines.specs.declared.Span.{Span}
use Rattle.sdp_area.specs.Session.{Time, Repeat, Offset, Zone, Tables}
use Rattle.sdp_hours.specs.Listing.{Start}
use Rattle.sdp_hours.specs.Starts.{Told, starts_in}

-- ---- rows
abbrev pub time : ℕ → ℕ → Time
time start stop = record { start_time = start; stop_time = stop }

abbrev pub repeat : ℕ → ℕ → Repeat
repeat owner interval = record { owner = owner; repeat_interval = interval; active_duration = 0 }

abbrev pub offset : ℕ → ℕ → Offset
offset owner by = record { owner = owner; offset = by }

abbrev pub zone : ℕ → ℕ → Zone
zone from by = record { adjustment_time = from; offset = by }

-- the 64 bits of a negative zone offset
abbrev pub minus : ℕ → ℕ
minus v = 2 ^ 64 - v

abbrev pub tables : List Time → List Repeat → List Offset → List Zone → Tables Span
tables ts rs os zs =
    record {
      emails = [];
      phones = [];
      connections = [];
      bandwidths = [];
      times = ts;
      repeats = rs;
      offsets = os;
      zones = zs;
      attributes = [];
      medias = [];
    }

-- ---- answers
abbrev pub start : ℕ → ℕ → ℕ → Start
start at time repeat = record { at = at; time = time; repeat = repeat }

abbrev pub lists : List Start → Told
lists l = record { number = 0; list = l }

-- one time with one repeat
abbrev pub repeating : ℕ → ℕ → ℕ → List Zone → ℕ → ℕ → Told
repeating at stop interval zs from to = starts_in (tables (time at stop ∷ []) (repeat 1 interval ∷ []) [] zs) from to

-- one time alone
abbrev pub alone : ℕ → ℕ → List Zone → ℕ → ℕ → Told
alone at stop zs from to = starts_in (tables (time at stop ∷ []) [] [] zs) from to

-- ---- the samples
pub record Sampled : Type 0 where
  -- "A time without repeats starts once, at its start time": a zone offset is added "to each start of a repeat"
  pub single : alone 10 0 (zone 0 5 ∷ []) 0 25 ≡ lists (start 10 1 0 ∷ [])
  -- "A start time of 0 is unbounded and lists nothing"
  pub unbounded : alone 0 0 [] 0 25 ≡ lists []
  -- "from included, to excluded"
  pub window : repeating 10 0 5 [] 15 25 ≡ lists (start 15 1 1 ∷ start 20 1 1 ∷ [])
  -- "Starts at or after a non-zero stop time are dropped"
  pub stopped : repeating 10 20 5 [] 0 25 ≡ lists (start 10 1 1 ∷ start 15 1 1 ∷ [])
  pub stopped_single : alone 10 10 [] 0 25 ≡ lists []
  -- "only k = 0 for a zero interval"
  pub zero_interval : repeating 10 0 0 [] 0 25 ≡ lists (start 10 1 1 ∷ [])
  -- "the latest adjustment time not after it": one at the start itself counts. The start before the sum is looked up: 19 is past 18
  pub adjusted : repeating 10 0 5 (zone 15 4 ∷ zone 18 1 ∷ []) 0 20 ≡ lists (start 10 1 1 ∷ start 19 1 1 ∷ [])
  -- "adjustments are not cumulative"
  pub not_cumulative : repeating 20 0 0 (zone 15 4 ∷ zone 18 1 ∷ []) 0 99 ≡ lists (start 21 1 1 ∷ [])
  -- "of equal ones the last"
  pub last_of_equal : repeating 20 0 0 (zone 18 7 ∷ zone 18 1 ∷ []) 0 99 ≡ lists (start 21 1 1 ∷ [])
  -- "as signed": minus one hour
  pub minus_hour : repeating 7200 0 0 (zone 0 (minus 3600) ∷ []) 0 9999 ≡ lists (start 3600 1 1 ∷ [])
  -- "exactly one for each k": two that meet
  pub two_meet : repeating 10 0 5 (zone 15 (minus 5) ∷ []) 0 14 ≡ lists (start 10 1 1 ∷ start 10 1 1 ∷ [])
  -- "for k from 0": a zone offset brings starts of later k into the window
  pub later_k : repeating 1 0 1 (zone 0 (minus 5) ∷ []) 0 3 ≡ lists (start 0 1 1 ∷ start 1 1 1 ∷ start 2 1 1 ∷ [])
  -- "All sums are over whole numbers, and only the last need lie in 64 bits"
  pub comes_back :
      starts_in (tables (time (2 ^ 64 - 1) 0 ∷ []) (repeat 1 0 ∷ []) (offset 1 (2 ^ 62) ∷ []) (zone 1 (2 ^ 63) ∷ [])) 0 (2 ^ 64 - 1)
      ≡ lists (start (2 ^ 63 + 2 ^ 62 - 1) 1 1 ∷ [])
  pub below_zero : repeating 3 0 0 (zone 1 (minus 5) ∷ []) 0 9 ≡ lists []
  -- "rising, ties by time, then repeat", "and one offset of 0 where none is written": repeat 2 has two offsets, repeat 1 none
  pub ties :
      starts_in
      (tables (time 10 0 ∷ time 12 0 ∷ []) (repeat 1 9 ∷ repeat 1 0 ∷ []) (offset 2 2 ∷ offset 2 0 ∷ []) [])
      0 20
      ≡ lists (start 10 1 1 ∷ start 10 1 2 ∷ start 12 1 2 ∷ start 12 2 0 ∷ start 19 1 1 ∷ [])
  -- "28 adjustment times fall", also where nothing repeats
  pub falling : alone 10 0 (zone 5 0 ∷ zone 4 0 ∷ []) 0 25 ≡ record { number = 28; list = [] }
  -- "29 more than 256 starts"
  pub most : (repeating 1 0 1 [] 0 257).number ≡ 0
  pub too_many : repeating 1 0 1 [] 0 258 ≡ record { number = 29; list = [] }
