-- `sdp_read::read_lines` meets its contract. Assumes nothing.
use mathlib.Core.Path.{◌≡◌}
use Rattle.std.proofs.lemmas.Result.{err_from_is_err_and}
use Rattle.sdp_cutter.specs.Cutter.{due}
use Rattle.sdp_read.proofs.LoopLaws.{none, none_is, before_first, before_next, nearer, at_last, at_failed}
use Rattle.sdp_read.proofs.read_lines.Goals as goal

pub loop-turn-init : goal.loop-turn-init
loop-turn-init c =
    let h = c.default-state.ensures in
    let e : c.default-state.result ≡ none = none_is _ _ _ _ _ _ h.0 h.1.0 h.1.1.1.1.1 h.1.1.0 h.1.1.1.0 h.1.1.1.1.0 in
    rw e (before_first c.args.text.now c.args.c.now c.args.area.now c.requires.1.1)

pub loop-turn-smaller : goal.loop-turn-smaller
loop-turn-smaller c =
    let a = c.args in
    let l = c.loop-turn in
    nearer a.text.now c.requires.1.0 (due a.c.now) a.area.now l.c l.state l.area l.invariant _ _ c.in_ok-state.state (rw c.in_ok-state.was at c.in-Some.ensures)

pub loop-turn-preserved : goal.loop-turn-preserved
loop-turn-preserved c =
    let a = c.args in
    let l = c.loop-turn in
    before_next a.text.now c.requires.1.0 (due a.c.now) a.area.now l.c l.state l.area l.invariant _ _ c.in_ok-state.state (rw c.in_ok-state.was at c.in-Some.ensures)

pub returns : goal.returns
returns c =
    let a = c.args in
    let l = c.loop-turn in
    λ t q. rw c.counts.ensures (at_last a.text.now c.requires.1.0 (due a.c.now) a.area.now l.c l.state l.area l.invariant _ _ t q c.in_default.ensures)

pub returns-in_err-state : goal.returns-in_err-state
returns-in_err-state c =
    let a = c.args in
    let l = c.loop-turn in
    let u = err_from_is_err_and c.from_residual.result c.from_residual.ensures.1 in
    λ t q. rw (u.1, u.2) (at_failed a.text.now c.requires.1.0 (due a.c.now) a.area.now l.c l.state l.area l.invariant _ _ t q c.in_err-state.field-0.0 (rw c.in_err-state.was at c.in-Some.ensures))
