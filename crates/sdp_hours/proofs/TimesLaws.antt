-- Times without repeats, and how many a session has at most. Assumes nothing.
use Prim.Native.Nat.{ℕ, suc, ◌+◌, ◌-◌, ◌≤◌}
use mathlib.Core.Path.{◌≡◌, refl, sym}
use mathlib.Core.Bool.{Bool, true, false, cond, not, ◌&&◌, ◌||◌}
use mathlib.Core.List.{List, [], ◌∷◌, ◌++◌}
use native.Mathlib.Omega.{arith}
use lib.ListN.{length}
use lib.Dec.{leb, ltb, eqb}
use borrow.Author.Tests.{leb-true, leb-false, lt-ltb, le-ltb}
use Rattle.sdp_numbers.specs.Tables.{most_emails, most_phones, most_media_connections, most_bandwidths, most_times}
use Rattle.sdp_bytes.proofs.ScanLaws.{and_left, and_right}
use Rattle.sdp_area.specs.Session.{Time, Offset, Zone}
use Rattle.sdp_area.specs.Area.{emails_at, phones_at, connections_at, bandwidths_at, times_at}
use Rattle.sdp_decode.specs.Rows as rows
use Rattle.sdp_decode.specs.Rows.{each}
use Rattle.sdp_decode.proofs.RowLaws.{length-rows}
use Rattle.sdp_decode.specs.Decode as decoded
use Rattle.sdp_decode.specs.Decode.{num2, time_of, decode}
use Rattle.sdp_valid.specs.Judge as judge
use Rattle.sdp_valid.specs.Judge.{small_counts, well_formed}
use Rattle.sdp_hours.specs.Hours as hours
use Rattle.sdp_hours.specs.Hours.{dropped, listed}
use Rattle.sdp_hours.specs.Listing.{Start}
use Rattle.sdp_hours.specs.Starts as starts
use Rattle.sdp_hours.specs.Starts.{numbered, of_time}
use Rattle.sdp_hours.specs.Rises as rising
use Rattle.sdp_hours.specs.Rises.{starts_once, times_only}

-- ---- one time
not-dropped : (stop b : ℕ) → not (dropped stop b) ≡ (eqb stop 0 || ltb b stop)
not-dropped stop b = go (eqb stop 0) (leb stop b) refl
  where
    go : (z l : Bool) → leb stop b ≡ l → not (not z && l) ≡ (z || ltb b stop)
    go true l e = refl
    go false true e = sym (le-ltb b stop (leb-true stop b e))
    go false false e = sym (lt-ltb b stop (leb-false stop b e))

-- no zone offset
listed_plain : (stop from to b : ℕ) → listed stop from to 0 b ≡ cond ((eqb stop 0 || ltb b stop) && (leb from b && ltb b to)) (b ∷ []) []
unfolding hours.listed
listed_plain stop from to b = go (from + 0) (to + 0) (b + 0) (b + 0 - 0) (omega arith) (omega arith) (omega arith) (omega arith)
  where
    go : (f t x y : ℕ) → f ≡ from → t ≡ to → x ≡ b → y ≡ b
        → cond (not (dropped stop b) && (leb f x && ltb x t)) (y ∷ []) []
        ≡ cond ((eqb stop 0 || ltb b stop) && (leb from b && ltb b to)) (b ∷ []) []
    go f t x y p q r s = rw (p, q, r, s, not-dropped stop b) refl

by_tests : (i b : ℕ) (z n l h : Bool) (rest : List Start)
    → cond z [] (numbered i 0 (cond (n && (l && h)) (b ∷ []) [])) ++ rest
    ≡ cond (not z && n && l && h) (record { at = b; time = i; repeat = 0 } ∷ rest) rest
unfolding starts.numbered
by_tests i b true n l h rest = refl
by_tests i b false true true true rest = refl
by_tests i b false true true false rest = refl
by_tests i b false true false h rest = refl
by_tests i b false false l h rest = refl

module _ (os : List Offset) (zs : List Zone) (from to : ℕ) where
  one_only : (i : ℕ) (t : Time) (rest : List Start)
      → of_time [] os zs from to i t ++ rest ≡ cond (starts_once from to t) (record { at = t.start_time; time = i; repeat = 0 } ∷ rest) rest
  unfolding starts.of_time starts.owns
  one_only i t rest =
      let b = t.start_time in
      let stop = t.stop_time in
      rw (listed_plain stop from to b) (by_tests i b (eqb b 0) (eqb stop 0 || ltb b stop) (leb from b) (ltb b to) rest)

  -- ---- a list of times
  pub only_is : (i : ℕ) (ts : List Time) → each (of_time [] os zs from to) i ts ≡ times_only from to i ts
  unfolding rows.each rising.times_only
  only_is i [] = refl
  only_is i (t ∷ ts) = rw (only_is (i + 1) ts) (one_only i t (times_only from to (i + 1) ts))

pub length_only : (from to i : ℕ) (ts : List Time) → length (times_only from to i ts) ≤ length ts
unfolding rising.times_only
length_only from to i [] = omega arith
length_only from to i (t ∷ ts) = go (starts_once from to t) _ (times_only from to (i + 1) ts) (length_only from to (i + 1) ts)
  where
    go : (b : Bool) (x : Start) (l : List Start) → length l ≤ length ts → length (cond b (x ∷ l) l) ≤ length (t ∷ ts)
    go true x l h = omega (arith, h)
    go false x l h = omega (arith, h)

-- ---- those of a well_formed_lem session
pub few_times : (a t : List ℕ) → well_formed a t ≡ true → length (decode a).tables.times ≤ most_times
unfolding judge.well_formed judge.small_counts decoded.decode
few_times a t h =
    let c : leb (num2 a times_at) most_times ≡ true =
    and_right (leb (num2 a bandwidths_at) most_bandwidths) _
    (and_right (leb (num2 a connections_at) most_media_connections) _
    (and_right (leb (num2 a phones_at) most_phones) _ (and_right (leb (num2 a emails_at) most_emails) _ (and_left (small_counts a) _ h))))
    in
    rw (length-rows time_of 16 (num2 a times_at) a (times_at + 2)) (leb-true (num2 a times_at) most_times c)
