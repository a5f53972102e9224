-- `canon::canon` meets its contract. Assumes nothing.
use Rattle.canon.proofs.CanonLaws.{read_refused, len_fits, all_written}
use lib.Seq.{length-take-le}
use mathlib.Core.Path.{refl, sym, ap}
use Rattle.sdp_lines.specs.declared.Answer.{Answer}
use Rattle.sdp_read.specs.declared.Told.{Told}
use Rattle.canon.proofs.canon.Goals as goal

abbrev answer : Told → Answer
answer told = told.answer

pub returns-then-a-ne0 : goal.returns-then-a-ne0
returns-then-a-ne0 c =
    read_refused c.args.text.now c.args.area.now _ (ap answer c.read-told.ensures.value) _ _ c.if-a-ne0.true c.refusal.ensures

pub slice_bounds-fill-end : goal.slice_bounds-fill-end
slice_bounds-fill-end c =
    len_fits c.args.text.now c.args.area.now _ (ap answer c.read-told.ensures.value) c.if-a-ne0.false _ c.read-told.ensures.area_after _ c.length-n.ensures c.args.out.now c.requires.1

pub slice_bounds-fill-end-2 : goal.slice_bounds-fill-end-2
slice_bounds-fill-end-2 c = sym (length-take-le _ _ (len_fits c.args.text.now c.args.area.now _ (ap answer c.read-told.ensures.value) c.if-a-ne0.false _ c.read-told.ensures.area_after _ c.length-n.ensures c.args.out.now c.requires.1))

pub returns : goal.returns
returns c =
    all_written c.args.text.now c.args.area.now _ (ap answer c.read-told.ensures.value) c.if-a-ne0.false _ c.read-told.ensures.area_after _ c.length-n.ensures c.args.out.now _ _ refl (len_fits c.args.text.now c.args.area.now _ (ap answer c.read-told.ensures.value) c.if-a-ne0.false _ c.read-told.ensures.area_after _ c.length-n.ensures c.args.out.now c.requires.1) c.fill.ensures.out_after
