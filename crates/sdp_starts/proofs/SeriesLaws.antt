-- A series, part by part between the adjustment times of an area's zones. Assumes nothing.
use mathlib.Core.Path.{◌≡◌, refl, sym, ap, ◌∙◌}
use mathlib.Core.Bool.{true, cond}
use mathlib.Core.List.{List, [], ◌++◌, append_assoc}
use Prim.Native.Nat.{ℕ, zero, suc, ◌+◌, ◌*◌, ◌-◌, ◌^◌, ◌≤◌, ◌<◌}
use native.Mathlib.Omega.{arith}
use lib.ListN.{length}
use lib.Dec.{eqb}
use borrow.Author.Tests.{eq-eqb, ne_eqb, le-leb, lt-leb}
use Rattle.sdp_numbers.specs.Refusals.{most_starts}
use Rattle.sdp_cells.specs.Bytes.{num}
use Rattle.sdp_area.specs.Session.{Zone}
use Rattle.sdp_area.specs.Area.{zones_at}
use Rattle.sdp_decode.specs.Rows as rows
use Rattle.sdp_decode.specs.Rows.{rows_at}
use Rattle.sdp_decode.specs.Decode.{zone_of, zones_in}
use Rattle.sdp_hours.specs.Hours.{rise}
use Rattle.sdp_hours.specs.Listing.{Start}
use Rattle.sdp_hours.specs.Starts as starting
use Rattle.sdp_hours.specs.Starts.{numbered, once}
use Rattle.sdp_hours.proofs.NumberedLaws.{numbered-parts, length-numbered}
use Rattle.sdp_window.specs.Run as running
use Rattle.sdp_window.specs.Run.{numbers, of_run, part_run}
use Rattle.sdp_window.specs.Parts as parting
use Rattle.sdp_window.specs.Parts.{until, steps_for, segment_from, parts}
use Rattle.sdp_window.specs.declared.Run.{Run}
use Rattle.sdp_window.specs.declared.Series.{Series}
use Rattle.sdp_window.specs.declared.Part.{Part}
use Rattle.sdp_window.specs.declared.Window.{Window}
use Rattle.sdp_window.proofs.SegmentLaws.{part-run, part-fits}
use Rattle.sdp_window.proofs.ZoneLaws.{once-part, series_parts}
use Rattle.sdp_listing.specs.Columns.{Columns, put_all}
use Rattle.sdp_listing.specs.declared.Whose.{Whose}
use Rattle.sdp_starts.specs.Fill as filling
use Rattle.sdp_starts.specs.Fill.{Roomy, Fills, part_of, before_of, series_of, whose_by, time_for}
use Rattle.sdp_starts.specs.declared.Rule.{Rule}
use Rattle.sdp_starts.proofs.FillLaws.{fills_none, fills_then, fills_as, fills_past, fills_put, fills_over}

-- ---- one part
length-numbers : (d c v : ℕ) → length (numbers d c v) ≡ c
unfolding running.numbers
length-numbers d zero v = refl
length-numbers d (suc c) v = ap suc (length-numbers d c (v + d))

module _ (x : Whose) (s : Series) (p : Part) (w : Window) (fits : w.to < 2 ^ 64) (r : Run) (e : r ≡ part_run s p w) where
  part_is : numbered x.time x.repeat (of_run s.interval r) ≡ part_of x s p w
  unfolding filling.part_of
  part_is = ap (λ (q : Run). numbered x.time x.repeat (of_run s.interval q)) e ∙ sym (ap (numbered x.time x.repeat) (part-run s p w fits))

  part_count : length (part_of x s p w) ≡ r.count
  part_count =
      sym (ap length part_is)
      ∙ length-numbered x.time x.repeat (of_run s.interval r)
      ∙ length-numbers s.interval r.count r.first

  pub part-past : (c : Columns) (n k : ℕ) → k ≡ r.count → n ≤ most_starts → most_starts < n + k → Fills c n (part_of x s p w) c (most_starts + 1)
  part-past c n k q h o = fills_past c n (part_of x s p w) h (omega (arith, part_count))

  pub part-put : (c c' : Columns) (n k : ℕ) → k ≡ r.count → n + k ≤ most_starts → c' ≡ put_all c n (numbered x.time x.repeat (of_run s.interval r)) → Fills c n (part_of x s p w) c' (n + k)
  part-put c c' n k q h f =
      fills_put c c' n (n + k) (part_of x s p w) (omega (arith, part_count)) (omega (arith, part_count)) (f ∙ ap (put_all c n) part_is)

-- what `put_run` asks of a run
pub fits-run : (s : Series) (p : Part) (w : Window) → w.to < 2 ^ 64 → (r : Run) → r ≡ part_run s p w → 0 < r.count → r.first + (r.count - 1) * s.interval < 2 ^ 64
fits-run s p w fits r e = rw e (part-fits s p w fits)

-- ---- the earlier of an end and a
pub until_free : (end a : ℕ) → end ≡ 0 → a ≡ until end a
until_free end a e = rw (eq-eqb end 0 e) refl

pub until_first : (end a : ℕ) → (end ≡ 0 → ⊥) → a ≤ end → a ≡ until end a
until_first end a e h = rw (ne_eqb end 0 e, le-leb a end h) refl

pub until_end : (end a : ℕ) → (end ≡ 0 → ⊥) → end < a → end ≡ until end a
until_end end a e h = rw (ne_eqb end 0 e, lt-leb a end h) refl

-- ---- the part before an adjustment time
module _ (x : Whose) (s : Series) (p : Part) (a : ℕ) (w : Window) where
  pub before_none : a ≡ 0 → [] ≡ before_of x s p a w
  unfolding starting.numbered filling.before_of
  before_none e = rw (eq-eqb a 0 e) refl

  pub before_some : (end : ℕ) → (a ≡ 0 → ⊥) → end ≡ until p.end a → part_of x s (record { after = p.after; end = end; zone = p.zone }) w ≡ before_of x s p a w
  unfolding filling.part_of filling.before_of
  before_some end h e = rw (ne_eqb a 0 h, e) refl

-- a time without repeats is a series in one part
pub once_is : (i start stop : ℕ) (w : Window)
    → part_of (whose_by i 0) (record { start = start; offset = 0; interval = 0 }) (record { after = 0; end = stop; zone = 0 }) w ≡ once [] [] [] w.from w.to i (time_for start stop)
unfolding filling.part_of
once_is i start stop w = sym (ap (numbered i 0) (once-part stop w.from w.to start))

-- a series from after on, over zones; z holds before the first of them
unfoldable pub over : Whose → Series → ℕ → Window → ℕ → List Zone → ℕ → List Start
over x s stop w z zs after =
    numbered x.time x.repeat
    (parts s.interval stop w.from w.to z zs after (steps_for s.interval w.to) (s.start + s.offset))

-- ---- the loop over the zones: n rows from zones_at + 2 on, the parts before the first i adjustments are put in
module _ (x : Whose) (s : Series) (stop : ℕ) (w : Window) (a : List ℕ) (n : ℕ) (c₀ : Columns) (n₀ : ℕ) where
  abbrev part_from : ℕ → ℕ → Part
  part_from after z = record { after = after; end = stop; zone = z }

  pub record Passed (c : Columns) (after z q i m : ℕ) : Type 0 where
    pub few : n < 65536
    pub near : q ≤ zones_at + 2 + i * 16
    pub done : List Start
    pub fills : Fills c₀ n₀ done c m
    pub split : done ++ over x s stop w z (rows_at zone_of 16 (n - i) a q) after ≡ over x s stop w 0 (zones_in a) 0

  pub passed_begin : n ≡ num 2 a zones_at → n < 65536 → Passed c₀ 0 0 (zones_at + 2) 0 n₀
  passed_begin e h =
      record {
        few = h;
        near = omega arith;
        done = [];
        fills = fills_none;
        split = ap (λ (k : ℕ). over x s stop w 0 (rows_at zone_of 16 k a (zones_at + 2)) 0) (let z : n - 0 ≡ num 2 a zones_at = omega arith in z);
      }

  module _ {c : Columns} {after z q i m : ℕ} (l : Passed c after z q i m) where
    next_part : i < n → over x s stop w z (rows_at zone_of 16 (n - i) a q) after
        ≡ before_of x s (part_from after z) (num 8 a q) w ++ over x s stop w (num 8 a (q + 8)) (rows_at zone_of 16 (n - (i + 1)) a (q + 16)) (num 8 a q)
    unfolding over parting.parts rows.rows_at filling.before_of
    next_part h =
        ap (λ (k : ℕ). over x s stop w z (rows_at zone_of 16 k a q) after) (let e : n - i ≡ suc (n - (i + 1)) = omega arith in e)
        ∙ numbered-parts x.time x.repeat
        (cond (eqb (num 8 a q) 0) [] (segment_from s.interval after (until stop (num 8 a q)) z w.from w.to (steps_for s.interval w.to) (s.start + s.offset)))
        (parts s.interval stop w.from w.to (num 8 a (q + 8)) (rows_at zone_of 16 (n - (i + 1)) a (q + 16)) (num 8 a q) (steps_for s.interval w.to) (s.start + s.offset))

    pub passed_turn : {c' : Columns} {m' b z' : ℕ} → i < n → b ≡ num 8 a q → z' ≡ num 8 a (q + 8) → Fills c m (before_of x s (part_from after z) b w) c' m' → Passed c' b z' (q + 16) (i + 1) m'
    passed_turn {c'} {m'} {b} {z'} h e f t =
        record {
          few = l.few;
          near = omega (arith, l.near);
          done = l.done ++ before_of x s (part_from after z) b w;
          fills = fills_then l.fills t;
          split = rw (e, f) (
              append_assoc l.done (before_of x s (part_from after z) (num 8 a q) w) (over x s stop w (num 8 a (q + 8)) (rows_at zone_of 16 (n - (i + 1)) a (q + 16)) (num 8 a q))
              ∙ ap (λ (r : List Start). l.done ++ r) (sym (next_part h))
              ∙ l.split);
        }

    pub passed_end : {c' : Columns} {m' : ℕ} → n ≤ i → Fills c m (part_of x s (part_from after z) w) c' m' → Fills c₀ n₀ (over x s stop w 0 (zones_in a) 0) c' m'
    unfolding over parting.parts rows.rows_at filling.part_of
    passed_end {c'} {m'} h t =
        let e : over x s stop w z (rows_at zone_of 16 (n - i) a q) after ≡ part_of x s (part_from after z) w = ap (λ (k : ℕ). over x s stop w z (rows_at zone_of 16 k a q) after) (let o : n - i ≡ 0 = omega arith in o) in
        fills_as (ap (λ (r : List Start). l.done ++ r) (sym e) ∙ l.split) (fills_then l.fills t)

    -- too many: the parts that are left change nothing
    pub passed_stop : {c' : Columns} {b : ℕ} → i < n → b ≡ num 8 a q → Fills c m (before_of x s (part_from after z) b w) c' (most_starts + 1)
        → Fills c₀ n₀ (over x s stop w 0 (zones_in a) 0) c' (most_starts + 1)
    passed_stop {c'} {b} h e t =
        let l' = passed_turn {c' = c'} {m' = most_starts + 1} {b = b} {z' = num 8 a (q + 8)} h e refl t in
        fills_as l'.split (fills_then l'.fills (fills_over c' (most_starts + 1) (over x s stop w (num 8 a (q + 8)) (rows_at zone_of 16 (n - (i + 1)) a (q + 16)) b) (omega arith)))

    -- the columns stay roomy
    pub passed_roomy : Roomy c₀ → Roomy c
    passed_roomy r = l.fills.roomy r

-- a whole series is its parts, where the adjustment times rise
pub series_is : (a : List ℕ) (x : Whose) (u : Rule) (o : ℕ) (w : Window) → rise 0 (zones_in a) ≡ true
    → over x (record { start = u.start; offset = o; interval = u.interval }) u.stop w 0 (zones_in a) 0 ≡ series_of a x u o w
unfolding over filling.series_of
series_is a x u o w r = sym (ap (numbered x.time x.repeat) (series_parts u.start u.stop u.interval o (zones_in a) w.from w.to r))
