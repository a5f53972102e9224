-- `sdp_write::fill` meets its contract. Assumes nothing.
use Rattle.sdp_write.proofs.WriteLaws.{settled, not_written, out_short, all_written, above_some, above_none, fits}
use Rattle.sdp_write.specs.Write.{text_of}
use Rattle.sdp_unfit.proofs.UnfitLaws.{numbered, fit-counted, fit-owned}
use mathlib.Core.Path.{refl, sym, ◌∙◌}
use native.Mathlib.Omega.{arith}
use Rattle.std.proofs.Common.{rules}
use lib.ListN.{length}
use Rattle.sdp_write.proofs.fill.Goals as goal

pub returns-in-Err : goal.returns-in-Err
returns-in-Err c =
    let s = settled _ _ _ _ (not_written _ _ _ _ (c.into.ensures ∙ c.in-Err.ensures) (numbered _ _ c.into.ensures)) c.told.ensures refl in
    record { value = s.0; out_after = s.1 }

pub above-n-requires : goal.above-n-requires
above-n-requires c =
    let f = sym c.in_default.ensures in record { counted = fit-counted _ _ f; area_value = fit-owned _ _ f }

pub returns-then-n-ne0 : goal.returns-then-n-ne0
returns-then-n-ne0 c =
    let n = above_some (length c.args.out.now) (length (text_of c.args.text.now c.args.area.now)) _ c.above-n.ensures c.if-n-ne0.true in
    let s = settled _ _ _ _ (out_short _ _ _ (sym c.in_default.ensures) _ n.0 (omega (arith, n.0, n.1))) c.told-then-n-ne0.ensures refl in
    record { value = s.0; out_after = s.1 }

pub put_session-requires : goal.put_session-requires
put_session-requires c =
    let f = sym c.in_default.ensures in record { counted = fit-counted _ _ f; area_value = fit-owned _ _ f }

pub returns : goal.returns
returns c =
    let t = c.args.text.now in
    let a = c.args.area.now in
    let o = c.args.out.now in
    let room = above_none (length o) (length (text_of t a)) _ c.above-n.ensures c.if-n-ne0.false in
    let f = fits o _ (text_of t a) c.put_session.new.out.at room (omega arith) c.put_session.ensures.put in
    let s = settled _ _ _ _ (all_written t a o (sym c.in_default.ensures) c.put_session.new.out.at f.0 (omega (arith, f.0, room))) c.told-2.ensures f.1 in
    record { value = s.0; out_after = let e = s.1 in let n = c.put_session.ensures.same in search rules }
