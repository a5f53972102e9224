-- `sdp_utf8::is_three` meets its contract. Assumes nothing.
use Rattle.sdp_utf8.proofs.Utf8Laws.{char3_at, none_three}
use mathlib.Core.Path.{sym}
use Rattle.sdp_utf8.proofs.is_three.Goals as goal

pub returns-in-len3-up : goal.returns-in-len3-up
returns-in-len3-up c =
    rw (c.inside-in-len3-up-2.ensures, c.inside.ensures, c.inside-in-len3-up.ensures) (char3_at c.args.s.now c.in-len3-up.len_at_least)

pub returns-in_default : goal.returns-in_default
returns-in_default c = sym (none_three c.args.s.now c.in_default.len_below)
