-- `sdp_order::medias` meets its contract. Assumes nothing.
use Prim.Native.Nat.{◌-◌}
use native.Mathlib.Omega.{arith}
use mathlib.Core.Path.{◌∙◌}
use Rattle.sdp_order.specs.From.{in_media}
use Rattle.sdp_order.proofs.PassLaws.{last_came, last_none}
use Rattle.sdp_order.proofs.medias.Goals as goal

pub loop-next-smaller : goal.loop-next-smaller
loop-next-smaller c =
    let h = c.in-Some.ensures in omega (arith, h.0.stands, h.0.moved, c.media_lines-c.ensures.onward)

pub loop-next-preserved : goal.loop-next-preserved
loop-next-preserved c =
    c.loop-next.invariant ∙ last_came _ _ _ in_media _ c.in-Some.ensures ∙ c.media_lines-c.ensures.rest

pub returns : goal.returns
returns c = c.loop-next.invariant ∙ last_none _ _ _ in_media c.in_default.ensures
