-- Document 02, P3: what the theorems over `starts_text` say of the listed starts, apart from how these are put in order.
use Rattle.std.specs.Prelude.{ℕ, suc, ◌+◌, ◌≤◌, ◌<◌, ◌≡◌, Bool, cond, not, ◌&&◌, ◌||◌, List, [], ◌∷◌, leb, ltb, eqb}
use Rattle.sdp_lines.specs.declared.Span.{Span}
use Rattle.sdp_area.specs.Session.{Time, Tables}
use Rattle.sdp_hours.specs.Listing.{Start}
use Rattle.sdp_hours.specs.Starts.{starts_of}

-- x and then y: "rising, ties by time, then repeat"
unfoldable pub InOrder : Start → Start → Type 0
InOrder x y = (x.at ≤ y.at) × (x.at ≡ y.at → (x.time ≤ y.time) × (x.time ≡ y.time → x.repeat ≤ y.repeat))

-- each start and the next
unfoldable pub Rises : List Start → Type 0
Rises [] = Unit {0}
Rises (x ∷ []) = Unit {0}
Rises (x ∷ y ∷ l) = InOrder x y × Rises (y ∷ l)

-- "within the caller's window (from included, to excluded)", each start
unfoldable pub InWindow : ℕ → ℕ → List Start → Type 0
InWindow from to [] = Unit {0}
InWindow from to (x ∷ l) = ((from ≤ x.at) × (x.at < to)) × InWindow from to l

-- all that a session's tables list in the window, in the order of the tables
abbrev pub found_in : Tables Span → ℕ → ℕ → List Start
found_in s from to = starts_of s.repeats s.offsets s.zones from to s.times

-- the same three numbers
abbrev pub eq_start : Start → Start → Bool
eq_start x y = eqb x.at y.at && eqb x.time y.time && eqb x.repeat y.repeat

-- how often x is in a list
unfoldable pub count_of : Start → List Start → ℕ
count_of x [] = 0
count_of x (y ∷ l) = cond (eq_start x y) (suc (count_of x l)) (count_of x l)

-- a time alone: it has a start, which is before its stop time, if it has one, and lies in the window
abbrev pub starts_once : ℕ → ℕ → Time → Bool
starts_once from to t =
    not (eqb t.start_time 0)
    && (eqb t.stop_time 0 || ltb t.start_time t.stop_time)
    && leb from t.start_time
    && ltb t.start_time to

-- the starts of times alone, counted on from i
unfoldable pub times_only : ℕ → ℕ → ℕ → List Time → List Start
times_only from to i [] = []
times_only from to i (t ∷ ts) =
    cond (starts_once from to t) (record { at = t.start_time; time = i; repeat = 0 } ∷ times_only from to (i + 1) ts)
    (times_only from to (i + 1) ts)
