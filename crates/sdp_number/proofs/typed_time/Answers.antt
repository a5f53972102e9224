-- `sdp_number::typed_time` meets its contract. Assumes nothing.
use mathlib.Core.Path.{sym, ap, ◌∙◌}
use native.Mathlib.Omega.{arith}
use lib.Seq.{length-take-le}
use Rattle.sdp_number.proofs.NumberLaws.{typed_none, typed_plain, typed_unit, scaled_checked}
use Rattle.std.proofs.lemmas.Result.{err_from_is_err_and}
use Rattle.sdp_number.specs.Number.{scaled}
use Rattle.sdp_number.proofs.typed_time.Goals as goal

pub returns-then-s-eq0 : goal.returns-then-s-eq0
returns-then-s-eq0 c = sym (typed_none _ c.if-s-eq0.true)

pub returns-then-k-eq0 : goal.returns-then-k-eq0
returns-then-k-eq0 c = c.number64.ensures ∙ sym (typed_plain _ (sym c.unit_of-k.ensures ∙ c.if-k-eq0.true))

pub slice_bounds-number64-end : goal.slice_bounds-number64-end
slice_bounds-number64-end c = sym (length-take-le _ _ (omega arith))

pub returns-in_err-number64 : goal.returns-in_err-number64
returns-in_err-number64 c =
    let p = err_from_is_err_and c.from_residual.result c.from_residual.ensures.1 in
    rw (p.1, p.2) (sym (typed_unit _ _ c.unit_of-k.ensures c.if-k-eq0.false ∙ ap (scaled _) (sym c.number64-2.ensures ∙ c.in_err-number64.was)))

pub returns : goal.returns
returns c =
    c.ok_or.ensures.value ∙ scaled_checked _ _ _ c.checked_mul.ensures
    ∙ sym (typed_unit _ _ c.unit_of-k.ensures c.if-k-eq0.false ∙ ap (scaled _) (sym c.number64-2.ensures ∙ c.in_ok-number64.was))
