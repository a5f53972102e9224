-- `sdp_stamp::put_latest` meets its contract. Assumes nothing.
use mathlib.Core.Path.{sym, ◌∙◌}
use native.Mathlib.Omega.{arith}
use Rattle.sdp_stamp.proofs.PutLaws.{since_past, latest_none, latest-put}
use Rattle.sdp_stamp.proofs.put_latest.Goals as goal

pub returns-then-n-eq0 : goal.returns-then-n-eq0
returns-then-n-eq0 c =
    let a = c.args in
    latest_none a.area.now a.base a.most a.at a.line _ (sym c.get2-n.ensures.0) c.if-n-eq0.true

pub returns-then-most-n : goal.returns-then-most-n
returns-then-most-n c =
    let a = c.args in
    since_past a.area.now a.base a.most a.at a.line _ (sym c.get2-n.ensures.0) _ c.if-most-n.true

pub returns : goal.returns
returns c =
    let a = c.args in
    c.put_line.ensures
    ∙ sym (latest-put a.area.now a.base a.most a.at a.line _ (sym c.get2-n.ensures.0) (omega (arith, c.if-n-eq0.false)) c.if-most-n.false)
