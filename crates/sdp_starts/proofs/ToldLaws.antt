-- The answers by cases. Assumes nothing.
use mathlib.Core.Path.{◌≡◌, refl, sym, ap, ◌∙◌}
use mathlib.Core.Bool.{true, false}
use mathlib.Core.List.{List, []}
use Prim.Native.Nat.{ℕ, ◌≤◌, ◌<◌}
use native.Mathlib.Omega.{arith}
use lib.ListN.{length, replicate}
use borrow.Author.Tests.{ne_eqb, lt-ltb, le-ltb}
use Rattle.sdp_numbers.specs.Refusals.{most_starts}
use Rattle.sdp_decode.specs.Decode as decoding
use Rattle.sdp_decode.specs.Decode.{zones_in}
use Rattle.sdp_unfit.specs.Unfit.{unfit}
use Rattle.sdp_hours.specs.Hours.{rise}
use Rattle.sdp_hours.specs.Listing.{Start, sorted}
use Rattle.sdp_hours.specs.Starts as starting
use Rattle.sdp_hours.specs.Starts.{Told, refused, starts_text}
use Rattle.sdp_hours.proofs.OrderLaws.{length-into}
use Rattle.sdp_listing.specs.Columns as listing
use Rattle.sdp_listing.specs.Columns.{Columns, columns}
use Rattle.sdp_starts.specs.Fill.{Roomy, Holds, found_in}
use Rattle.sdp_starts.specs.Returned.{returned}
use Rattle.sdp_starts.specs.declared.Starts.{Starts}
use Rattle.sdp_starts.proofs.FillLaws.{capped_few, few_is, many_is}

-- an answer that is refused
pub refused_as : (r : Starts) (x y : Told) → r ≡ returned x → x ≡ y → r ≡ returned y
refused_as r x y p e = p ∙ ap returned e

-- ---- arrays of zeros: no start yet
abbrev zeros : List ℕ
zeros = replicate most_starts 0

pub none_held : Holds (columns zeros zeros zeros) 0 []
unfolding listing.cells
none_held = record { count = sym (capped_few 0 (omega arith)); held = λ h. refl }

pub zeros_roomy : Roomy (columns zeros zeros zeros)
zeros_roomy = record { ats = refl; times = refl; repeats = refl }

module _ (t a : List ℕ) (from to : ℕ) where
  abbrev found : List Start
  found = found_in a (record { from = from; to = to })

  pub told-unfit : (n : ℕ) → n ≡ unfit t a → (n ≡ 0 → ⊥) → refused n ≡ starts_text t a from to
  unfolding starting.starts_text
  told-unfit n e h = rw (← e, ne_eqb n 0 h) refl

  module _ (n : ℕ) (e : n ≡ unfit t a) (z : n ≡ 0) where
    pub told_fall : rise 0 (zones_in a) ≡ false → refused 28 ≡ starts_text t a from to
    unfolding starting.starts_text starting.starts_in decoding.decode
    told_fall h = rw (← e, z, h) refl

    module _ (r : rise 0 (zones_in a) ≡ true) (c : Columns) (m : ℕ) (f : Holds c m (sorted found)) where
      pub told_many : most_starts < m → refused 29 ≡ starts_text t a from to
      unfolding starting.starts_text starting.starts_in starting.answered decoding.decode
      told_many h =
          let l : most_starts < length found = omega (arith, (many_is (length (sorted found)) m f.count h).0, length-into [] found) in
          rw (← e, z, r, lt-ltb most_starts (length found) l) refl

      pub told_list : m ≤ most_starts → record { number = 0; count = m; at = c.ats; time = c.times; repeat = c.repeats } ≡ returned (starts_text t a from to)
      unfolding starting.starts_text starting.starts_in starting.answered decoding.decode
      told_list h =
          let k : length (sorted found) ≡ m = few_is (length (sorted found)) m f.count h in
          let l : length found ≤ most_starts = omega (arith, length-into [] found) in
          rw (← e, z, r, le-ltb most_starts (length found) l, f.held (omega arith), ← k) refl
