-- `sdp_put::text_len` meets its contract. Assumes nothing.
use Rattle.sdp_put.proofs.StringLaws.{part_upto, clean_none, upto, length-clean}
use Rattle.sdp_put.specs.Strings.{clean}
use lib.ListN.{length, drop, length-take, length-drop}
use Prim.Native.Nat.{◌-◌}
use mathlib.Core.Path.{sym, ap, ◌∙◌}
use native.Mathlib.Omega.{arith}
use Rattle.sdp_put.proofs.text_len.Goals as goal

pub returns-then-end-place : goal.returns-then-end-place
returns-then-end-place c =
    let e = c.end_of-end.ensures in
    (sym (ap (λ s. length (clean s)) (part_upto _ _ _ _ e.0 e.1.0 e.1.1) ∙ ap length (clean_none _ _ _ c.if-end-place.true)), omega arith)

pub returns-then-quiet : goal.returns-then-quiet
returns-then-quiet c =
    let t = c.args.text.now in
    let e = c.end_of-end.ensures in
    let n = length-take (c.end_of-end.result - c.args.place) (drop c.args.place t) in
    let d = length-drop c.args.place t in
    let w = ap length (ap clean (part_upto t _ c.args.place c.args.len e.0 e.1.0 e.1.1) ∙ c.quiet.ensures c.if-quiet.true) in
    (omega arith, omega arith)

pub returns : goal.returns
returns c =
    let t = c.args.text.now in
    let e = c.end_of-end.ensures in
    let n = length-take (c.end_of-end.result - c.args.place) (drop c.args.place t) in
    let d = length-drop c.args.place t in
    let w = ap (λ s. length (clean s)) (part_upto t _ c.args.place c.args.len e.0 e.1.0 e.1.1) in
    (omega arith, omega (arith, length-clean (upto t c.end_of-end.result c.args.place)))
