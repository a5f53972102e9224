-- `sdp_lines::crlf_at` meets its contract. Assumes nothing.
use mathlib.Core.Path.{sym}
use native.Mathlib.Omega.{arith}
use Rattle.sdp_lines.proofs.StopLaws.{crlf_short, crlf_is}
use Rattle.sdp_lines.proofs.crlf_at.Goals as goal

pub returns-then-s-k : goal.returns-then-s-k
returns-then-s-k c = sym (crlf_short _ _ (omega arith))

pub returns-then-s-k-lt2 : goal.returns-then-s-k-lt2
returns-then-s-k-lt2 c = sym (crlf_short _ _ (omega arith))

pub returns : goal.returns
returns c = sym (crlf_is _ _ (omega arith))
