-- `Listing::put_run` of `sdp_listing` meets its contract. Assumes nothing.
use native.Mathlib.Omega.{arith}
use mathlib.Core.Path.{◌≡◌, refl, ◌∙◌}
use Prim.Native.Nat.{◌+◌, ◌<◌, ◌^◌}
use Rattle.sdp_listing.specs.Columns.{columns}
use Rattle.sdp_listing.proofs.RunLaws.{none_filled, one-filled, all_filled}
use Rattle.sdp_listing.proofs.Listing.put_run.Goals as goal

pub loop-k-init : goal.loop-k-init
loop-k-init c = ((refl, refl, refl), none_filled _ _ _ _ _ _ _ c.requires.3)

pub put_in-requires : goal.put_in-requires
put_in-requires c = (
  omega (arith, c.requires.0, c.loop-k.invariant.1.rows, c.loop-k.invariant.1.ats),
  omega (arith, c.requires.1, c.loop-k.invariant.1.rows, c.loop-k.invariant.1.times),
  omega (arith, c.requires.2, c.loop-k.invariant.1.rows, c.loop-k.invariant.1.repeats),
)

pub loop-k-preserved : goal.loop-k-preserved
loop-k-preserved c =
    let o = c.put_in.new.self in
    let next : c.loop-k.x + c.args.d < 2 ^ 64 → c.saturating_add-x.result ≡ c.loop-k.x + c.args.d = λ h. omega (arith, c.saturating_add-x.ensures) in
    let s = c.loop-k.invariant.0 in
    let p = c.put_in.ensures.same in
    ((p.0 ∙ s.0, p.1 ∙ s.1, p.2 ∙ s.2), rw c.put_in.ensures.len (one-filled _ _ _ _ _ _ _ _ (columns o.at.now o.time.now o.repeat.now) _ _ _ _ c.loop-k.invariant.1 c.loop-k-test.true c.put_in.ensures.columns next))

pub returns-clause-columns : goal.returns-clause-columns
returns-clause-columns c = all_filled _ _ _ _ _ _ _ _ _ _ _ c.loop-k.invariant.1 c.loop-k-test.false

pub returns-clause-len : goal.returns-clause-len
returns-clause-len c = omega (arith, c.loop-k.invariant.1.rows, c.loop-k.invariant.1.within, c.loop-k-test.false)

pub returns-clause-same : goal.returns-clause-same
returns-clause-same c = c.loop-k.invariant.0
