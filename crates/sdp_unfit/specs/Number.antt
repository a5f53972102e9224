-- The numbers of `Misfit`.
use Rattle.std.specs.Prelude.{ℕ, Result, Ok, Err}
use Rattle.sdp_numbers.specs.Refusals as refusals
use Rattle.sdp_unfit.specs.declared.Misfit.{Misfit}
use Rattle.sdp_unfit.specs.declared.Misfit.TheVariants.{AreaTooShort, TextTooLong, BadSession}

abbrev pub number_of : Misfit → ℕ
number_of AreaTooShort = refusals.area_too_short
number_of TextTooLong = refusals.text_too_long
number_of BadSession = refusals.bad_session

-- the number of a refusal, or 0. It tells all four apart
abbrev pub refusal : Result Unit Misfit → ℕ
refusal (Ok u) = 0
refusal (Err why) = number_of why
