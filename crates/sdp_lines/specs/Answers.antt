-- Document 01, "Refusal numbers": what the answers of the line cutter are in the paper's numbers.
use Rattle.std.specs.Prelude.{ℕ}
use Rattle.sdp_numbers.specs.Refusals as refusals
use Rattle.sdp_lines.specs.declared.Answer.{Answer}
use Rattle.sdp_lines.specs.declared.Fault.{Fault}
use Rattle.sdp_lines.specs.declared.Fault.TheVariants.{NulOrCr, NoEquals, NotSecond}

-- "tested, in this order, for NUL or CR (3), for having no `=` (4), for its first `=` not being its second byte (5)"
abbrev pub fault_number : Fault → ℕ
fault_number NulOrCr = refusals.nul_or_cr
fault_number NoEquals = refusals.no_equals
fault_number NotSecond = refusals.not_second

-- "Each returns number, line, field, place and length; all but the number are 0 where not named."
abbrev pub answer : ℕ → ℕ → ℕ → Answer
answer number line field = record { number = number; line = line; field = field; place = 0; len = 0 }
