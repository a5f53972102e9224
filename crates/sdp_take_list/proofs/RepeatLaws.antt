-- The loop over the offsets of an r line.
-- Assumes nothing.
use Prim.Native.Nat.{ℕ, ◌+◌, ◌≤◌, ◌<◌}
use native.Mathlib.Omega.{arith}
use mathlib.Core.Path.{◌≡◌, refl, sym, ap, ◌∙◌}
use mathlib.Core.Bool.{Bool, true, false, cond}
use mathlib.Core.List.{List, [], ◌∷◌, ◌++◌, map, append_assoc, append-nil}
use lib.Dec.{ltb, eqb}
use lib.ListN.{length, drop, length-append}
use borrow.Author.Tests.{lt-ltb, le-ltb, le-leb, lt-leb, ltb-true, ltb-false}
use Rattle.sdp_lines.specs.declared.Span.{Span}
use Rattle.sdp_split.specs.Split.{words_at}
use Rattle.sdp_judge.specs.Read.{Read, plain, and_then}
use Rattle.sdp_lists.specs.Lists.{offsets_of, repeat_of}
use Rattle.sdp_lists.specs.Answers.{repeat_head, offset_at}
use Rattle.sdp_split.specs.declared.Piece.{Piece}
use Rattle.sdp_lists.specs.declared.RepeatHead.{RepeatHead}
use Rattle.sdp_judge.specs.declared.Wrong.{Wrong}
use Rattle.sdp_lists.proofs.RestLaws.{offset_done, offset_next, offset-refused, repeat_head_lem}
use Rattle.sdp_area.specs.Session.{Repeat, Offset, Session, Within}
use Rattle.sdp_area.specs.With.{with_repeats, with_offsets}
use Rattle.sdp_cells.specs.Tables.{add, pushed, told, grown}
use Rattle.sdp_area.specs.Area.{encode, size, offset_row, offsets_at}
use Rattle.std.specs.Prelude.{Result, Ok, Err, Some, None}
use Rattle.sdp_cells.specs.declared.Full.{Full}
use Rattle.sdp_cells.specs.Tables.{full}
use Rattle.sdp_area.proofs.GrownLaws.{offsets-grown}
use Rattle.sdp_step.specs.Step.{Reading, stops, with_repeat, repeated}
use Rattle.sdp_step.specs.Hold.{Holds, Handled}
use Rattle.sdp_take_list.specs.declared.Lacking.TheVariants.{Repeats, Offsets}
use Rattle.sdp_take_list.specs.Repeats.{Room, latest_of, offsets_told, repeat_room, room_after, area_after, RoomHolds, offsets_step}
use Rattle.sdp_step.specs.declared.Marks.{Marks}
use Rattle.sdp_take_list.proofs.ListLaws as lists
use Rattle.sdp_step.proofs.TailLaws.{behind}
use Rattle.sdp_step.proofs.WithinLaws.{within-repeats, within-offsets}

-- before the offset that is due at place i: s is the session before the line, q its repeat
pub record Repeating (v : List ℕ) (from : ℕ) (s : Session Span) (q : Repeat) (t : List ℕ) (room : Room) (a : List ℕ) (i : ℕ) : Type 0 where
  pub done : List ℕ
  pub left : offsets_of v (words_at v from) ≡ and_then (offsets_of v (words_at v i)) (λ ns. Ok (done ++ ns))
  pub holds : RoomHolds s q done room a t

pub repeating-begin : (v : List ℕ) (from : ℕ) (s : Session Span) (q : Repeat) (t : List ℕ) (room : Room) (a : List ℕ) → RoomHolds s q [] room a t
    → Repeating v from s q t room a from
repeating-begin v from s q t room a h = record { done = []; left = lists.none_yet (offsets_of v (words_at v from)); holds = h }

-- an offset of the repeat
abbrev offset_in : Session Span → ℕ → Offset
offset_in s n = record { owner = length s.tables.repeats + 1; offset = n }

module _ (s : Session Span) (ok : Within s) (q : Repeat) (ns : List ℕ) (n : ℕ) (a t : List ℕ) where
  within-rows : length s.tables.repeats < 64 → length s.tables.offsets + length ns ≤ 256 → Within (with_repeat s q ns)
  within-rows r l =
      within-offsets (with_repeats s (s.tables.repeats ++ (q ∷ [])))
      (within-repeats s ok (s.tables.repeats ++ (q ∷ [])) (omega (arith, length-append s.tables.repeats (q ∷ []))))
      (s.tables.offsets ++ map (offset_in s) ns)
      (omega (arith, length-append s.tables.offsets (map (offset_in s) ns), lists.length-map (offset_in s) ns))

  rows_more : (s.tables.offsets ++ map (offset_in s) ns) ++ (offset_in s n ∷ []) ≡ s.tables.offsets ++ map (offset_in s) (ns ++ (n ∷ []))
  rows_more = append_assoc s.tables.offsets (map (offset_in s) ns) (offset_in s n ∷ []) ∙ ap (λ (l : List Offset). s.tables.offsets ++ l) (sym (lists.map_more (offset_in s) ns n))

  count_rows : length (s.tables.offsets ++ map (offset_in s) ns) ≡ length s.tables.offsets + length ns
  count_rows = length-append s.tables.offsets (map (offset_in s) ns) ∙ ap (λ (k : ℕ). length s.tables.offsets + k) (lists.length-map (offset_in s) ns)

  -- one offset more, where all fitted so far
  room_open : RoomHolds s q ns (Ok tt) a t
      → RoomHolds s q (ns ++ (n ∷ [])) (room_after (Ok tt) (told a offsets_at 256)) (grown a offsets_at 256 (offset_row (offset_in s n))) t
  room_open h =
      let w = within-rows h.0 h.1 in
      let g = offsets-grown (with_repeat s q ns) t w a h.2 (offset_in s n) in
      rw (g.0, g.1) (go (ltb (length (s.tables.offsets ++ map (offset_in s) ns)) 256) refl)
    where
      go : (b : Bool) → ltb (length (s.tables.offsets ++ map (offset_in s) ns)) 256 ≡ b
          → RoomHolds s q (ns ++ (n ∷ [])) (room_after (Ok tt) (cond b (Ok tt) (Err full)))
          (encode (with_offsets (with_repeat s q ns) (cond b ((s.tables.offsets ++ map (offset_in s) ns) ++ (offset_in s n ∷ [])) (s.tables.offsets ++ map (offset_in s) ns))) ++ t) t
      go true e = (h.0, omega (arith, ltb-true (length (s.tables.offsets ++ map (offset_in s) ns)) 256 e, count_rows, lists.length_more ns n), ap (λ (l : List Offset). encode (with_offsets (with_repeat s q ns) l) ++ t) rows_more)
      go false e = (h.0, omega (arith, ltb-false (length (s.tables.offsets ++ map (offset_in s) ns)) 256 e, count_rows, lists.length_more ns n), behind (with_offsets (with_repeat s q ns) (s.tables.offsets ++ map (offset_in s) ns)) t)

  pub room_next : (room : Room) → RoomHolds s q ns room a t
      → RoomHolds s q (ns ++ (n ∷ [])) (room_after room (told a offsets_at 256)) (area_after room a (grown a offsets_at 256 (offset_row (offset_in s n)))) t
  room_next (Ok _) h = room_open h
  room_next (Err Repeats) h = h
  room_next (Err Offsets) h = (h.0, omega (arith, h.1, lists.length_more ns n), h.2)

module _ (v : List ℕ) (from : ℕ) (s : Session Span) (ok : Within s) (q : Repeat) (t : List ℕ) (room : Room) (a : List ℕ) (i : ℕ) (z : Repeating v from s q t room a i) where
  pub repeating_next : (n e : ℕ) (room' : Room) (a' : List ℕ) → offset_at v i ≡ Ok (Some (n, e)) → room' ≡ room_after room (told a offsets_at 256)
      → a' ≡ area_after room a (grown a offsets_at 256 (offset_row (offset_in s n))) → Repeating v from s q t room' a' e
  repeating_next n e room' a' p r b =
      record {
        done = z.done ++ (n ∷ []);
        left = z.left ∙ rw (offset_next v i n e p).0 (lists.one_more (offsets_of v (words_at v e)) z.done n);
        holds = rw (r, b) (room_next s ok q z.done n a t room z.holds);
      }

  pub repeating_wrong : (w : Wrong) → offset_at v i ≡ Err w → offsets_of v (words_at v from) ≡ Err w
  repeating_wrong w p = z.left ∙ rw (offset-refused v i w p)

  pub repeating_all : offset_at v i ≡ Ok None → offsets_of v (words_at v from) ≡ Ok z.done
  repeating_all p = z.left ∙ rw (offset_done v i p) (lists.all_read z.done)

-- the bytes behind the session stay
pub room_tail : (s : Session Span) (q : Repeat) (ns : List ℕ) (room : Room) (a t : List ℕ) → RoomHolds s q ns room a t → drop size a ≡ t
room_tail s q ns (Ok _) a t h = ap (drop size) h.2 ∙ behind (with_repeat s q ns) t
room_tail s q ns (Err Repeats) a t h = h.1
room_tail s q ns (Err Offsets) a t h = h.2

-- ---- the answers after the last offset
module _ (ρ : Reading Span) (m : Marks) (a₀ t a : List ℕ) (h : Holds ρ m a₀ t) (q : Repeat) (r : Read (List ℕ)) where
  pub offsets_wrong : (w : Wrong) (room : Room) (ns : List ℕ) → r ≡ Err w → RoomHolds ρ.session q ns room a t
      → Handled (offsets_step ρ q r) (Err w) a t
  offsets_wrong w room ns e k = rw e (refl, room_tail ρ.session q ns room a t k)

  module _ (ns : List ℕ) (e : r ≡ Ok ns) where
    pub offsets_end : (room : Room) → RoomHolds ρ.session q ns room a t → Handled (offsets_step ρ q r) (offsets_told room m) a t
    offsets_end (Ok _) k =
        rw (e, lt-ltb (length ρ.session.tables.repeats) 64 k.0, le-leb (length ρ.session.tables.offsets + length ns) 256 k.1)
        (record { marks = h.marks; bytes = k.2; within = within-rows ρ.session h.within q ns 0 a t k.0 k.1; unzoned = h.unzoned })
    offsets_end (Err Repeats) k = rw (e, le-ltb (length ρ.session.tables.repeats) 64 k.0) (refl, k.1)
    offsets_end (Err Offsets) k =
        rw (e, lt-ltb (length ρ.session.tables.repeats) 64 k.0, lt-leb (length ρ.session.tables.offsets + length ns) 256 k.1) (refl, k.2)

-- ---- the r line before its offsets
-- whether there is a latest time
pub none_latest : (n : ℕ) → latest_of n ≡ None → eqb n 0 ≡ true
none_latest n = go (eqb n 0)
  where
    go : (b : Bool) → cond b None (Some n) ≡ None → b ≡ true
    go true e = refl
    go false e = absurd (let z : ◌≡◌ {A = ℕ} 0 1 = cc in omega arith)

pub some_latest : (n k : ℕ) → latest_of n ≡ Some k → (eqb n 0 ≡ false) × (k ≡ n)
some_latest n k = go (eqb n 0)
  where
    go : (b : Bool) → cond b None (Some n) ≡ Some k → (b ≡ false) × (k ≡ n)
    go true e = absurd (let z : ◌≡◌ {A = ℕ} 0 1 = cc in omega arith)
    go false e = (refl, cc)

-- the repeat pushed
pub room_begin : (s : Session Span) (ok : Within s) (q : Repeat) (p : Result (Unit {0}) Full) (a t : List ℕ) → p ≡ pushed 64 s.tables.repeats
    → a ≡ encode (with_repeats s (add 64 s.tables.repeats q)) ++ t → RoomHolds s q [] (repeat_room p) a t
room_begin s ok q p a t e b = rw e (go (ltb (length s.tables.repeats) 64) refl b)
  where
    go : (c : Bool) → ltb (length s.tables.repeats) 64 ≡ c → a ≡ encode (with_repeats s (cond c (s.tables.repeats ++ (q ∷ [])) s.tables.repeats)) ++ t
        → RoomHolds s q [] (repeat_room (cond c (Ok tt) (Err full))) a t
    go true f u =
        (ltb-true (length s.tables.repeats) 64 f, omega (arith, ok.offsets), u ∙ ap (λ (l : List Offset). encode (with_offsets (with_repeats s (s.tables.repeats ++ (q ∷ []))) l) ++ t) (sym (append-nil s.tables.offsets)))
    go false f u = (ltb-false (length s.tables.repeats) 64 f, ap (drop size) u ∙ behind (with_repeats s s.tables.repeats) t)

-- the step by the line's head
module _ (mk : Piece → Span) (ρ : Reading Span) (v : List ℕ) where
  pub head_wrong : (w : Wrong) → repeat_head v ≡ Err w → repeated mk ρ v (repeat_of v) ≡ stops w
  head_wrong w e = rw (repeat_head_lem v, e)

  pub head_got : (x : RepeatHead) → repeat_head v ≡ Ok x
      → repeated mk ρ v (repeat_of v)
      ≡ offsets_step ρ (record { owner = length ρ.session.tables.times; repeat_interval = x.repeat_interval; active_duration = x.active_duration }) (offsets_of v (words_at v x.next))
  head_got x e = rw (repeat_head_lem v, e) (go (offsets_of v (words_at v x.next)))
    where
      go : (r : Read (List ℕ))
          → repeated mk ρ v (and_then r (λ os. Ok (record { interval = x.repeat_interval; duration = x.active_duration; offsets = os })))
          ≡ offsets_step ρ (record { owner = length ρ.session.tables.times; repeat_interval = x.repeat_interval; active_duration = x.active_duration }) r
      go (Ok os) = refl
      go (Err w) = refl
