-- `sdp_take_once::take_connection` meets its contract. Assumes nothing.
use Rattle.std.proofs.lemmas.Result.{err_from_is_err_and}
use mathlib.Core.Path.{refl, sym, ◌∙◌}
use native.Mathlib.Omega.{arith}
use Rattle.sdp_fields.proofs.BoundLaws.{connection_within}
use Rattle.sdp_area.proofs.HeadLaws.{connection_mark, connection_set}
use Rattle.sdp_step.specs.Step.{step_role}
use Rattle.sdp_step.proofs.HandleLaws.{once-second, once_wrong, once-kept}
use Rattle.sdp_step.proofs.OnceLaws.{head_kept}
use Rattle.sdp_step.proofs.TailLaws.{held, tail_of}
use Rattle.sdp_take_once.proofs.take_connection.Goals as goal

pub returns-then-has_connection : goal.returns-then-has_connection
unfolding step_role
returns-then-has_connection c ρ t h =
    once-second 16 _ _ _ (held h) t (sym (connection_mark ρ.session t h.within _ h.bytes) ∙ sym c.has_connection.ensures ∙ c.if-has_connection.true) (tail_of h)

pub span_of-nettype-requires : goal.span_of-nettype-requires
span_of-nettype-requires c =
    omega (arith, (connection_within _ _ (sym c.parse.ensures ∙ c.in_ok-c.was)).nettype, c.requires.1)

pub span_of-addrtype-requires : goal.span_of-addrtype-requires
span_of-addrtype-requires c =
    omega (arith, (connection_within _ _ (sym c.parse.ensures ∙ c.in_ok-c.was)).addrtype, c.requires.1)

pub span_of-address-requires : goal.span_of-address-requires
span_of-address-requires c =
    omega (arith, (connection_within _ _ (sym c.parse.ensures ∙ c.in_ok-c.was)).address, c.requires.1)

pub set_connection-requires : goal.set_connection-requires
set_connection-requires c = omega (arith, c.requires.0)

pub returns-in_err-c : goal.returns-in_err-c
unfolding step_role
returns-in_err-c c ρ t h =
    let u = err_from_is_err_and c.from_residual.result c.from_residual.ensures.1 in
    rw (u.1, u.2) ((once_wrong 16 _ _ _ (held h) t (sym (connection_mark ρ.session t h.within _ h.bytes) ∙ sym c.has_connection.ensures ∙ c.if-has_connection.false) _ (sym c.parse.ensures ∙ c.in_err-c.was) (tail_of h)))

pub returns : goal.returns
unfolding step_role
returns c ρ t h =
    once-kept 16 _ _ _ _ _ (sym (connection_mark ρ.session t h.within _ h.bytes) ∙ sym c.has_connection.ensures ∙ c.if-has_connection.false) _ _ _ (sym c.parse.ensures ∙ c.in_ok-c.was) refl (head_kept ρ _ _ _ _ t _ h h.marks (c.set_connection.ensures ∙ rw (c.span_of-nettype.ensures, c.span_of-addrtype.ensures, c.span_of-address.ensures) (connection_set ρ.session t h.within _ h.bytes _)))
