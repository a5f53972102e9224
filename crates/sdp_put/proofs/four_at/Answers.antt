-- `sdp_put::four_at` meets its contract. Assumes nothing.
use Rattle.sdp_put.proofs.OutLaws.{no_room, said}
use Rattle.sdp_put.proofs.DigitLaws.{four_are}
use mathlib.Core.Path.{refl}
use Rattle.sdp_put.proofs.four_at.Goals as goal

pub returns-then-out-at : goal.returns-then-out-at
returns-then-out-at c = no_room _ _ _ 4 _ c.if-out-at.true refl c.saturating_add.ensures

pub returns : goal.returns
returns c =
    said (four_are _ _ _ _ _ c.digit.ensures c.digit-2.ensures c.digit-3.ensures c.digit-4.ensures) c.put4.ensures
