-- `sdp_order::repeats` and `sdp_order::times` meet their contracts. Assumes nothing.
use Rattle.sdp_order.specs.From.{from_repeats, from_key}
use Rattle.sdp_order.proofs.PassLaws.{passes_on, halts_on, came, some_none, run_came, run_none}
use Rattle.sdp_order.proofs.GrammarLaws.{first_repeat, repeats_end, zones_end, times_end}
use Rattle.sdp_order.proofs.+repeats_times.Goals as goal

pub repeats-returns-in-Some : goal.repeats-returns-in-Some
repeats-returns-in-Some t c =
    halts_on _ _ _ from_repeats from_key _ _ c.times.result
    (passes_on _ _ _ _ _ _ _ (came _ _ _ _ _ first_repeat _ c.in-Some.ensures) (passes_on _ _ _ _ _ _ _ (c.many-z.ensures _ repeats_end) (c.maybe-t.ensures _ zones_end)))
    c.times.ensures

pub repeats-returns-in-None : goal.repeats-returns-in-None
repeats-returns-in-None t c =
    halts_on _ _ _ from_repeats from_key _ _ c.times-in-None.result (some_none _ _ _ c.in-None.ensures _ _) c.times-in-None.ensures

pub times-returns-then-left-eq0 : goal.times-returns-then-left-eq0
times-returns-then-left-eq0 t c =
    let h = c.in-Some.ensures in (h.0, (run_came _ _ _ _ times_end _ _ h).rest)

pub times-returns-else-left-eq0 : goal.times-returns-else-left-eq0
times-returns-else-left-eq0 t c =
    halts_on _ _ _ from_repeats from_key _ _ c.repeats.result (run_came _ _ _ _ times_end _ _ c.in-Some.ensures) c.repeats.ensures

pub times-returns-in-None : goal.times-returns-in-None
times-returns-in-None t c = run_none _ _ _ c.in-None.ensures _ _
