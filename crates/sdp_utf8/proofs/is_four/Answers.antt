-- `sdp_utf8::is_four` meets its contract. Assumes nothing.
use Rattle.sdp_utf8.proofs.Utf8Laws.{char4_at, none_four}
use mathlib.Core.Path.{sym}
use Rattle.sdp_utf8.proofs.is_four.Goals as goal

pub returns-in-len4-up : goal.returns-in-len4-up
returns-in-len4-up c =
    rw (c.inside-in-len4-up-3.ensures, c.inside.ensures, c.inside-in-len4-up.ensures, c.inside-in-len4-up-2.ensures) (char4_at c.args.s.now c.in-len4-up.len_at_least)

pub returns-in_default : goal.returns-in_default
returns-in_default c = sym (none_four c.args.s.now c.in_default.len_below)
