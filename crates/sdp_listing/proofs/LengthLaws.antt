-- The columns keep their lengths. Assumes nothing.
use Prim.Native.Nat.{ℕ, zero, suc, ◌+◌, ◌-◌}
use mathlib.Core.Path.{◌≡◌, refl, ap, ◌∙◌}
use mathlib.Core.List.{List, [], ◌∷◌}
use lib.ListN.{length}
use Rattle.sdp_hours.specs.Listing.{Start}
use Rattle.sdp_listing.specs.Columns as held
use Rattle.sdp_listing.specs.Columns.{Columns, rows_from, place_of, shift_in, put_in, put_all}

length_shift : (p m v : ℕ) (a : List ℕ) → length (shift_in p m v a) ≡ length a
unfolding held.shift_in
length_shift p m v [] = refl
length_shift (suc p) m v (x ∷ xs) = ap suc (length_shift p m v xs)
length_shift zero zero v (x ∷ xs) = refl
length_shift zero (suc m) v (x ∷ xs) = ap suc (length_shift zero m x xs)

-- each column of c' is as long as that of c
abbrev pub SameLengths : Columns → Columns → Type 0
SameLengths c' c = (length c'.ats ≡ length c.ats) × (length c'.times ≡ length c.times) × (length c'.repeats ≡ length c.repeats)

pub put_in_lengths : (c : Columns) (n : ℕ) (x : Start) → SameLengths (put_in c n x) c
unfolding held.put_in
put_in_lengths c n x =
    let p = place_of x (rows_from c 0 n) in
    (length_shift p (n - p) x.at c.ats, length_shift p (n - p) x.time c.times, length_shift p (n - p) x.repeat c.repeats)

pub put_all_lengths : (c : Columns) (n : ℕ) (xs : List Start) → SameLengths (put_all c n xs) c
unfolding held.put_all
put_all_lengths c n [] = (refl, refl, refl)
put_all_lengths c n (x ∷ xs) =
    let l = put_in_lengths c n x in
    let r = put_all_lengths (put_in c n x) (n + 1) xs in
    (r.0 ∙ l.0, r.1 ∙ l.1, r.2 ∙ l.2)
