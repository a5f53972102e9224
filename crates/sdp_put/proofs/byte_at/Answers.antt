-- `sdp_put::byte_at` meets its contract. Assumes nothing.
use Rattle.sdp_put.proofs.OutLaws.{byte_in, no_room}
use mathlib.Core.Path.{refl}
use Rattle.sdp_put.proofs.byte_at.Goals as goal

pub returns-then-out-at : goal.returns-then-out-at
returns-then-out-at c = no_room _ _ _ 1 _ c.if-out-at.true refl c.saturating_add.ensures

pub returns : goal.returns
returns c = byte_in _ _ _ c.if-out-at.false
