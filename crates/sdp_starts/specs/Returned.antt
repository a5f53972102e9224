-- The answer as C and Rust get it.
use Rattle.std.specs.Prelude.{length}
use Rattle.sdp_numbers.specs.Refusals.{most_starts}
use Rattle.sdp_hours.specs.Starts.{Told}
use Rattle.sdp_listing.specs.Columns.{cells}
use Rattle.sdp_starts.specs.declared.Starts.{Starts}

-- "The returned list is zero after any refusal and past its last start"
abbrev pub returned : Told → Starts
returned x =
    record {
      number = x.number;
      count = length x.list;
      at = cells most_starts (λ s. s.at) x.list;
      time = cells most_starts (λ s. s.time) x.list;
      repeat = cells most_starts (λ s. s.repeat) x.list;
    }
