-- The names of refusals, fields and tables run as the paper counts. Assumes nothing.
use mathlib.Core.Path.{refl}
use Rattle.sdp_numbers.specs.Numbered.{Numbered}

pub numbered : Numbered
numbered = record { refusals_run = refl; fields_run = refl; tables_run = refl; limits_are = refl; longest_is = refl; starts_are = refl; highest_is = refl }
