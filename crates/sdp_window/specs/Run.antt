-- The numbers x, x + d, x + 2 d, .., each less w, that lie in a window, and their closed form: the first of them and how many they are. x and w
-- are whole numbers of any size; x may be less than w.
use Rattle.std.specs.Prelude.{ℕ, zero, suc, ◌+◌, ◌-◌, ◌/◌, ◌%◌, ◌^◌, cond, ◌&&◌, List, [], ◌∷◌, leb, ltb, eqb}
use Rattle.sdp_hours.specs.Hours.{east, west}
use Rattle.sdp_window.specs.declared.Run.{Run}
use Rattle.sdp_window.specs.declared.Series.{Series}
use Rattle.sdp_window.specs.declared.Part.{Part}
use Rattle.sdp_window.specs.declared.Window.{Window}
use Rattle.sdp_window.specs.declared.Sum.{Sum}
use Rattle.sdp_window.specs.declared.Sum.TheVariants.{Below, At, Above}

-- c numbers: v, v + d, ..
unfoldable pub numbers : ℕ → ℕ → ℕ → List ℕ
numbers d zero v = []
numbers d (suc c) v = v ∷ numbers d c (v + d)

-- the numbers of a run
abbrev pub of_run : ℕ → Run → List ℕ
of_run d r = numbers d r.count r.first

-- where there is none
abbrev pub no_run : Run
no_run = record { first = 0; count = 0 }

-- from lo, which is r past a number of the progression, to the next number of it
abbrev pub gap : ℕ → ℕ → ℕ
gap d r = cond (eqb r 0) 0 (d - r)

-- the first number not below lo
unfoldable pub first_of : ℕ → ℕ → ℕ → ℕ → ℕ
first_of d w lo x = cond (leb (lo + w) x) (x - w) (lo + gap d ((lo + w - x) % d))

-- the numbers of the progression from f on, below hi
unfoldable pub counted : ℕ → ℕ → ℕ → Run
counted d hi f = cond (ltb f hi) (record { first = f; count = (hi - 1 - f) / d + 1 }) no_run

-- in the window
abbrev pub run_of : ℕ → ℕ → ℕ → ℕ → ℕ → Run
run_of d w lo hi x = counted d hi (first_of d w lo x)

-- x less w, as far as it is a number of 64 bits
unfoldable pub sum_of : ℕ → ℕ → Sum
sum_of x w = cond (ltb x w) (Below (w - x)) (cond (ltb (x - w) (2 ^ 64)) (At (x - w)) Above)

-- the progression from a sum on, in the window
unfoldable pub run_in : Sum → ℕ → ℕ → ℕ → Run
run_in (Below b) d lo hi = run_of d b lo hi 0
run_in (At a) d lo hi = run_of d 0 lo hi a
run_in Above d lo hi = no_run

-- the sum alone, for an interval of 0
unfoldable pub once_in : Sum → ℕ → ℕ → Run
once_in (Below b) lo hi = no_run
once_in (At a) lo hi = cond (leb lo a && ltb a hi) (record { first = a; count = 1 }) no_run
once_in Above lo hi = no_run

-- ---- a part of the line of time that has one zone offset
-- the greater of from and a sum
unfoldable pub lowest : ℕ → Sum → ℕ
lowest from (Below b) = from
lowest from (At v) = cond (leb from v) v from
lowest from Above = 2 ^ 64 - 1

-- the lesser of to and a sum
unfoldable pub highest : ℕ → Sum → ℕ
highest to (Below b) = 0
highest to (At v) = cond (leb v to) v to
highest to Above = to

-- the window's end, where a part's end, 0 for none, with a zone offset that adds e and takes w away, may come before it
abbrev pub end_of : ℕ → ℕ → ℕ → ℕ → ℕ
end_of end e w to = cond (eqb end 0) to (highest to (sum_of (end + 0 + e) w))

-- what of a series lies in a part and, with its zone offset, in the window
unfoldable pub part_run : Series → Part → Window → Run
part_run s p w =
    cond (eqb s.interval 0)
    (once_in (sum_of (s.start + s.offset + east p.zone) (west p.zone))
    (lowest w.from (sum_of (p.after + 0 + east p.zone) (west p.zone)))
    (end_of p.end (east p.zone) (west p.zone) w.to))
    (run_in (sum_of (s.start + s.offset + east p.zone) (west p.zone)) s.interval
    (lowest w.from (sum_of (p.after + 0 + east p.zone) (west p.zone)))
    (end_of p.end (east p.zone) (west p.zone) w.to))
