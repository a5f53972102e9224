-- `sdp_take_once::take_origin` meets its contract. Assumes nothing.
use Rattle.std.proofs.lemmas.Result.{err_from_is_err_and}
use mathlib.Core.Path.{refl, sym, ◌∙◌}
use native.Mathlib.Omega.{arith}
use Rattle.sdp_fields.proofs.BoundLaws.{origin_within}
use Rattle.sdp_area.proofs.HeadLaws.{origin_mark, origin_set}
use Rattle.sdp_step.specs.Step.{step_role}
use Rattle.sdp_step.proofs.HandleLaws.{once-second, once_wrong, once-kept}
use Rattle.sdp_step.proofs.MaybeLaws.{maybe_fits}
use Rattle.sdp_step.proofs.OnceLaws.{head_kept}
use Rattle.sdp_step.proofs.TailLaws.{held, tail_of}
use Rattle.sdp_take_once.proofs.take_origin.Goals as goal

pub returns-then-has_origin : goal.returns-then-has_origin
unfolding step_role
returns-then-has_origin c ρ t h =
    once-second 12 _ _ _ (held h) t (sym (origin_mark ρ.session t h.within _ h.bytes) ∙ sym c.has_origin.ensures ∙ c.if-has_origin.true) (tail_of h)

pub maybe_of-username-requires : goal.maybe_of-username-requires
maybe_of-username-requires c =
    maybe_fits _ _ _ _ (origin_within _ _ (sym c.parse.ensures ∙ c.in_ok-o.was)).username c.requires.1

pub span_of-sess_id-requires : goal.span_of-sess_id-requires
span_of-sess_id-requires c =
    omega (arith, (origin_within _ _ (sym c.parse.ensures ∙ c.in_ok-o.was)).id, c.requires.1)

pub span_of-nettype-requires : goal.span_of-nettype-requires
span_of-nettype-requires c =
    omega (arith, (origin_within _ _ (sym c.parse.ensures ∙ c.in_ok-o.was)).nettype, c.requires.1)

pub span_of-addrtype-requires : goal.span_of-addrtype-requires
span_of-addrtype-requires c =
    omega (arith, (origin_within _ _ (sym c.parse.ensures ∙ c.in_ok-o.was)).addrtype, c.requires.1)

pub span_of-address-requires : goal.span_of-address-requires
span_of-address-requires c =
    omega (arith, (origin_within _ _ (sym c.parse.ensures ∙ c.in_ok-o.was)).address, c.requires.1)

pub set_origin-requires : goal.set_origin-requires
set_origin-requires c = omega (arith, c.requires.0)

pub returns-in_err-o : goal.returns-in_err-o
unfolding step_role
returns-in_err-o c ρ t h =
    let u = err_from_is_err_and c.from_residual.result c.from_residual.ensures.1 in
    rw (u.1, u.2) ((once_wrong 12 _ _ _ (held h) t (sym (origin_mark ρ.session t h.within _ h.bytes) ∙ sym c.has_origin.ensures ∙ c.if-has_origin.false) _ (sym c.parse.ensures ∙ c.in_err-o.was) (tail_of h)))

pub returns : goal.returns
unfolding step_role
returns c ρ t h =
    once-kept 12 _ _ _ _ _ (sym (origin_mark ρ.session t h.within _ h.bytes) ∙ sym c.has_origin.ensures ∙ c.if-has_origin.false) _ _ _ (sym c.parse.ensures ∙ c.in_ok-o.was) refl (head_kept ρ _ _ _ _ t _ h h.marks (c.set_origin.ensures ∙ rw (c.maybe_of-username.ensures, c.span_of-sess_id.ensures, c.span_of-nettype.ensures, c.span_of-addrtype.ensures, c.span_of-address.ensures) (origin_set ρ.session t h.within _ h.bytes _)))
