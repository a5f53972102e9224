-- `sdp_take::take_line` meets its contract. Assumes nothing.
use Prim.Native.Nat.{ℕ}
use mathlib.Core.Path.{ap, ◌∙◌}
use Rattle.sdp_area.proofs.GrownLaws.{medias_count}
use Rattle.sdp_roles.specs.Roles.{role_at}
use Rattle.sdp_take.proofs.take_line.Goals as goal

pub returns : goal.returns
returns c ρ t h =
    let a = c.args in
    let m = c.medias.ensures.0 ∙ medias_count ρ.session t h.within a.area.now h.bytes in
    let e = c.role_at-role.ensures ∙ ap (λ (k : ℕ). role_at k a.letter) m in
    rw (← e) (c.take_role.ensures ρ t h)
