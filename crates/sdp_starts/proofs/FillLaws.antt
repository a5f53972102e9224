-- Starts put into a list that is being made: none, a run of them, too many, one list after the other. Assumes nothing.
use mathlib.Core.Path.{◌≡◌, refl, sym, ap, ◌∙◌}
use mathlib.Core.Bool.{Bool, true, false, false≢true}
use mathlib.Core.List.{List, [], ◌++◌}
use Prim.Native.Nat.{ℕ, ◌+◌, ◌≤◌, ◌<◌}
use native.Mathlib.Omega.{arith}
use lib.ListN.{length}
use lib.Dec.{ltb}
use borrow.Author.Tests.{ltb-true, ltb-false, lt-ltb, le-ltb}
use Rattle.sdp_numbers.specs.Refusals.{most_starts}
use Rattle.sdp_hours.specs.Listing as listing
use Rattle.sdp_hours.specs.Listing.{Start, into}
use Rattle.sdp_hours.proofs.OrderLaws.{into-parts, length-into}
use Rattle.sdp_listing.specs.Columns.{Columns, put_all}
use Rattle.sdp_listing.proofs.HeldLaws.{put_all_held}
use Rattle.sdp_listing.proofs.LengthLaws.{put_all_lengths}
use Rattle.sdp_starts.specs.Fill as filling
use Rattle.sdp_starts.specs.Fill.{capped, counted, Roomy, Holds, Fills}
use Rattle.std.specs.Prelude.{Result, Ok, Err}
use Rattle.std.specs.Result.{IsErr}

-- ---- a count, as far as 257
pub capped_few : (n : ℕ) → n ≤ most_starts → capped n ≡ n
unfolding filling.capped
capped_few n h = rw (le-ltb most_starts n h) refl

pub capped_many : (n : ℕ) → most_starts < n → capped n ≡ most_starts + 1
unfolding filling.capped
capped_many n h = rw (lt-ltb most_starts n h) refl

-- what a count says of the number that it is of
pub few_is : (m n : ℕ) → n ≡ capped m → n ≤ most_starts → m ≡ n
few_is m n e h = go (ltb most_starts m) refl
  where
    go : (t : Bool) → ltb most_starts m ≡ t → m ≡ n
    go true q = absurd (omega (arith, e, capped_many m (ltb-true most_starts m q)))
    go false q = sym (e ∙ capped_few m (ltb-false most_starts m q))

pub many_is : (m n : ℕ) → n ≡ capped m → most_starts < n → (most_starts < m) × (n ≡ most_starts + 1)
many_is m n e h = go (ltb most_starts m) refl
  where
    go : (t : Bool) → ltb most_starts m ≡ t → (most_starts < m) × (n ≡ most_starts + 1)
    go true q = (ltb-true most_starts m q, e ∙ capped_many m (ltb-true most_starts m q))
    go false q = absurd (omega (arith, e, capped_few m (ltb-false most_starts m q), ltb-false most_starts m q))

-- ---- one list after the other
pub fills_none : {c : Columns} {n : ℕ} → Fills c n [] c n
unfolding listing.into
fills_none {c} {n} = record { roomy = λ r. r; holds = λ l h. h }

pub fills_then : {c c₁ c₂ : Columns} {n n₁ n₂ : ℕ} {xs ys : List Start} → Fills c n xs c₁ n₁ → Fills c₁ n₁ ys c₂ n₂ → Fills c n (xs ++ ys) c₂ n₂
fills_then {c} {c₁} {c₂} {n} {n₁} {n₂} {xs} {ys} f g =
    record { roomy = λ r. g.roomy (f.roomy r); holds = λ l h. rw (into-parts l xs ys) (g.holds (into l xs) (f.holds l h)) }

pub fills_as : {c c' : Columns} {n n' : ℕ} {xs ys : List Start} → xs ≡ ys → Fills c n xs c' n' → Fills c n ys c' n'
fills_as {c} {c'} {n} {n'} {xs} {ys} e f = rw (← e) f

-- ---- too many
-- more than 256 stay more than 256
stay_many : (c c' : Columns) (n : ℕ) (l xs : List Start) → n ≡ most_starts + 1 → most_starts < length l + length xs → Holds c' n (into l xs)
stay_many c c' n l xs e h =
    let m : most_starts < length (into l xs) = omega (arith, length-into l xs) in
    record { count = e ∙ sym (capped_many (length (into l xs)) m); held = λ k. absurd (omega arith) }

pub fills_over : (c : Columns) (n : ℕ) (xs : List Start) → most_starts < n → Fills c n xs c n
fills_over c n xs h =
    record {
      roomy = λ r. r;
      holds = λ l k. let m = many_is (length l) n k.count h in stay_many c c n l xs m.1 (omega (arith, m.0));
    }

-- the count of an answer that is an error
pub fills_err : {E : Type 0} {c c' : Columns} {n : ℕ} {xs : List Start} (r : Result (Unit {0}) E) (m : ℕ) → IsErr r → Fills c n xs c' (most_starts + 1)
    → Fills c n xs c' (counted r m)
fills_err {E} {c} {c'} {n} {xs} (Ok u) m h f = absurd (false≢true h)
fills_err {E} {c} {c'} {n} {xs} (Err e) m h f = f

-- of a list that is over already
pub fills_full : (c : Columns) (n : ℕ) (xs : List Start) → most_starts < n → Fills c n xs c (most_starts + 1)
fills_full c n xs h =
    record {
      roomy = λ r. r;
      holds = λ l k. stay_many c c (most_starts + 1) l xs refl (omega (arith, (many_is (length l) n k.count h).0));
    }

pub fills_past : (c : Columns) (n : ℕ) (xs : List Start) → n ≤ most_starts → most_starts < n + length xs → Fills c n xs c (most_starts + 1)
fills_past c n xs h o =
    record {
      roomy = λ r. r;
      holds = λ l k. stay_many c c (most_starts + 1) l xs refl (omega (arith, few_is (length l) n k.count h));
    }

-- ---- a list that fits
put_roomy : (c : Columns) (n : ℕ) (xs : List Start) → Roomy c → Roomy (put_all c n xs)
put_roomy c n xs r =
    let e = put_all_lengths c n xs in
    record { ats = e.0 ∙ r.ats; times = e.1 ∙ r.times; repeats = e.2 ∙ r.repeats }

pub fills_put : (c c' : Columns) (n m : ℕ) (xs : List Start) → n + length xs ≤ most_starts → m ≡ n + length xs → c' ≡ put_all c n xs → Fills c n xs c' m
fills_put c c' n m xs h e q =
    rw q
    (record {
      roomy = put_roomy c n xs;
      holds = λ l k. go l k (few_is (length l) n k.count (omega arith));
    })
  where
    go : (l : List Start) → Holds c n l → length l ≡ n → Holds (put_all c n xs) m (into l xs)
    go l k f =
        let s : length (into l xs) ≡ n + length xs = omega (arith, length-into l xs) in
        record {
          count = e ∙ sym (capped_few (n + length xs) h) ∙ ap capped (sym s);
          held = λ o. rw (k.held (omega arith), ← f) (put_all_held most_starts l xs (omega arith));
        }
