-- `sdp_write::above` meets its contract. Assumes nothing.
use Rattle.sdp_write.proofs.WriteLaws.{is_above, not-above}
use Rattle.sdp_room.proofs.RoomLaws.{written_room}
use Rattle.sdp_write.specs.Write.{text_of}
use lib.ListN.{length}
use mathlib.Core.Path.{◌∙◌}
use native.Mathlib.Omega.{arith}
use Rattle.sdp_write.proofs.above.Goals as goal

pub returns-then-room_for-full : goal.returns-then-room_for-full
returns-then-room_for-full c =
    let w = written_room c.args.text.now c.args.area.now (λ i. omega (arith, c.shared_slice_known-2-1.given i)) in
    not-above c.args.full (length (text_of c.args.text.now c.args.area.now)) (omega (arith, w, c.room_for.ensures.0, c.if-room_for-full.true))

pub returns-then-full-n : goal.returns-then-full-n
returns-then-full-n c =
    let e = c.length_of-n.ensures.0 in
    e ∙ is_above c.args.full (length (text_of c.args.text.now c.args.area.now)) (omega (arith, e, c.if-full-n.true))

pub returns : goal.returns
returns c =
    not-above c.args.full (length (text_of c.args.text.now c.args.area.now)) (omega (arith, c.length_of-n.ensures.0, c.if-full-n.false))
