-- The exceptions of docs/ONE-ANSWER.md that take a line: where the area holds a session, each has one answer too. Assumes nothing.
use mathlib.Core.Path.{◌≡◌, refl, ap}
use mathlib.Core.Bool.{Bool, true, false}
use mathlib.Core.List.{List}
use Prim.Native.Nat.{ℕ}
use Rattle.sdp_lines.specs.declared.Span.{Span}
use Rattle.sdp_lines.specs.declared.Answer.{Answer}
use Rattle.sdp_counts.specs.declared.Counts.{Counts}
use Rattle.sdp_strings.specs.Strings.{span_at}
use Rattle.sdp_roles.specs.Kinds.{Kind, unused, media, other, kind_of}
use Rattle.sdp_roles.specs.declared.Role.{Role}
use Rattle.sdp_roles.specs.declared.Role.TheVariants as role
use Rattle.sdp_step.specs.Step.{Reading, Stepped, goes, stops, step_role, fresh}
use Rattle.sdp_step.specs.Hold.{Holds, Handled, Takes, Used, Lands, Tells, role_in}
use Rattle.sdp_step.specs.declared.Marks.{Marks}
use Rattle.sdp_judge.specs.declared.Wrong.{Wrong}
use Rattle.std.specs.Prelude.{Option, Some, None, Result, Ok, Err}
use Rattle.sdp_stamp.specs.Stamp.{no_stamps}
use Rattle.sdp_take_once.specs.Onces.{once_role}
use Rattle.sdp_take_row.specs.Rows.{row_role}
use Rattle.sdp_take_once.proofs.take_once.Reads as takeOnce
use Rattle.sdp_take_row.proofs.take_row.Reads as take_row
use Rattle.sdp_take_list.proofs.take_repeat.Reads as takeRepeat
use Rattle.sdp_take_list.proofs.take_zone.Reads as takeZone
use Rattle.sdp_take.proofs.take_line.Reads as takeLine
use Rattle.sdp_line.proofs.take.Reads as lineTake
use Rattle.sdp_turn.specs.Turn.{Standing, searching, reading, Lined, on, ended, stopped, unread, line_of, marks_in, counts_in, Turn, Carries, Stands, Turned}
use Rattle.sdp_turn.specs.declared.State.{State}
use Rattle.sdp_turn.specs.declared.Failure.TheVariants.{Stopped, Unread}
use Rattle.std.specs.Prelude.{Some, None, Ok, Err}
use Rattle.sdp_turn.proofs.turn_of.Reads as turn_of
use Rattle.sdp_one.specs.One.{OneWhere}
use Rattle.sdp_one.specs.Seen.{seen, seen_turn}
use Rattle.sdp_one.proofs.OneLaws.{same}

handled_once : (x : Stepped Span) (r r' : Result Marks Wrong) (a a' t : List ℕ) → Handled x r a t → Handled x r' a' t → (r ≡ r') × (seen r a ≡ seen r' a')
handled_once (goes ρ) (Ok m) (Ok m') a a' t h k = (ap Ok (same h.marks k.marks), same h.bytes k.bytes)
handled_once (goes ρ) (Ok m) (Err w) a a' t h k = absurd k
handled_once (goes ρ) (Err w) r' a a' t h k = absurd h
handled_once (stops w) (Ok m) r' a a' t h k = absurd h
handled_once (stops w) (Err x) (Ok m) a a' t h k = absurd k
handled_once (stops w) (Err x) (Err y) a a' t h k = (ap Err (same h.0 k.0), same h.1 k.1)

used_once : (x : Stepped Span) (r r' : Result (Option Marks) Wrong) (a a' t : List ℕ) → Used x r a t → Used x r' a' t → (r ≡ r') × (seen r a ≡ seen r' a')
used_once (goes ρ) (Ok (Some m)) (Ok (Some m')) a a' t h k = (ap (λ (n : Marks). Ok (Some n)) (same h.marks k.marks), same h.bytes k.bytes)
used_once (goes ρ) (Ok (Some m)) (Ok None) a a' t h k = absurd k
used_once (goes ρ) (Ok (Some m)) (Err w) a a' t h k = absurd k
used_once (goes ρ) (Ok None) r' a a' t h k = absurd h
used_once (goes ρ) (Err w) r' a a' t h k = absurd h
used_once (stops w) (Ok (Some m)) r' a a' t h k = absurd h
used_once (stops w) (Ok None) r' a a' t h k = absurd h
used_once (stops w) (Err x) (Ok (Some m)) a a' t h k = absurd k
used_once (stops w) (Err x) (Ok None) a a' t h k = absurd k
used_once (stops w) (Err x) (Err y) a a' t h k = (ap Err (same h.0 k.0), same h.1 k.1)

lands_once : (y : Kind) (x : Stepped Span) (m : Marks) (r r' : Result (Option Marks) Wrong) (a a' t : List ℕ) → Lands y x m r a t → Lands y x m r' a' t → (r ≡ r') × (seen r a ≡ seen r' a')
lands_once unused x m (Ok (Some n)) r' a a' t h k = absurd h
lands_once unused x m (Err w) r' a a' t h k = absurd h
lands_once unused x m (Ok None) (Ok (Some n)) a a' t h k = absurd k
lands_once unused x m (Ok None) (Err w) a a' t h k = absurd k
lands_once unused x m (Ok None) (Ok None) a a' t h k = (refl, (handled_once x (Ok m) (Ok m) a a' t h k).1)
lands_once media x m r r' a a' t h k = used_once x r r' a a' t h k
lands_once other x m r r' a a' t h k = used_once x r r' a a' t h k

-- two states that hold the same
states_once : (b : Bool) (ρ : Reading Span) (ls : List ℕ) (c : Counts) (g g' : State) (a a' t : List ℕ) → Carries b ρ ls c g a t → Carries b ρ ls c g' a' t → (g ≡ g') × (a ≡ a')
states_once b ρ ls c g g' a a' t h k =
    let m : marks_in g ≡ marks_in g' = same h.holds.marks k.holds.marks in
    let n : counts_in g ≡ counts_in g' = same h.counts k.counts in
    let e : g.begun ≡ g'.begun = same h.begun_is k.begun_is in
    ((λ d. record { named = (m d).named; zoned = (m d).zoned; begun = e d; empty = (n d).empty; ignored = (n d).ignored; kept = (n d).kept }), same h.holds.bytes k.holds.bytes)

turned_once : (x : Lined) (f : State) (r r' : Turn) (a a' t : List ℕ) → Turned x f r a t → Turned x f r' a' t → (r ≡ r') × (seen_turn r a ≡ seen_turn r' a')
turned_once (on (searching c)) f (Some (Ok g)) (Some (Ok g')) a a' t h k = let s = states_once false fresh no_stamps c g g' a a' t h k in (ap (λ (z : State). Some (Ok z)) s.0, s.1)
turned_once (on (reading ρ ls c)) f (Some (Ok g)) (Some (Ok g')) a a' t h k = let s = states_once true ρ ls c g g' a a' t h k in (ap (λ (z : State). Some (Ok z)) s.0, s.1)
turned_once (on x) f (Some (Ok g)) None a a' t h k = absurd k
turned_once (on x) f (Some (Ok g)) (Some (Err e)) a a' t h k = absurd k
turned_once (on x) f None r' a a' t h k = absurd h
turned_once (on x) f (Some (Err e)) r' a a' t h k = absurd h
turned_once (ended σ ls c) f (Some (Ok g)) r' a a' t h k = absurd h
turned_once (ended σ ls c) f (Some (Err e)) r' a a' t h k = absurd h
turned_once (ended σ ls c) f None (Some (Ok g)) a a' t h k = absurd k
turned_once (ended σ ls c) f None (Some (Err e)) a a' t h k = absurd k
turned_once (ended σ ls c) f None None a a' t h k = (refl, same h.1 k.1)
turned_once (stopped x) f None r' a a' t h k = absurd h
turned_once (stopped x) f (Some (Ok g)) r' a a' t h k = absurd h
turned_once (stopped x) f (Some (Err (Unread y))) r' a a' t h k = absurd h
turned_once (stopped x) f (Some (Err (Stopped y))) None a a' t h k = absurd k
turned_once (stopped x) f (Some (Err (Stopped y))) (Some (Ok g)) a a' t h k = absurd k
turned_once (stopped x) f (Some (Err (Stopped y))) (Some (Err (Unread z))) a a' t h k = absurd k
turned_once (stopped x) f (Some (Err (Stopped y))) (Some (Err (Stopped y'))) a a' t h k = (ap (λ (z : Answer). Some (Err (Stopped z))) (same h.0 k.0), same h.1 k.1)
turned_once (unread x) f None r' a a' t h k = absurd h
turned_once (unread x) f (Some (Ok g)) r' a a' t h k = absurd h
turned_once (unread x) f (Some (Err (Stopped y))) r' a a' t h k = absurd h
turned_once (unread x) f (Some (Err (Unread y))) None a a' t h k = absurd k
turned_once (unread x) f (Some (Err (Unread y))) (Some (Ok g)) a a' t h k = absurd k
turned_once (unread x) f (Some (Err (Unread y))) (Some (Err (Stopped z))) a a' t h k = absurd k
turned_once (unread x) f (Some (Err (Unread y))) (Some (Err (Unread y'))) a a' t h k = (ap (λ (z : Answer). Some (Err (Unread z))) (same h.0 k.0), same h.1 k.1)

module _ (ρ : Reading Span) (t : List ℕ) where
  -- what takes a line by any step f
  taken_once : (f : Reading Span → Stepped Span) {m : Marks} {a : List ℕ} (r r' : Result Marks Wrong) (z z' : List ℕ) → Holds ρ m a t
      → Takes f m r a z → Takes f m r' a z' → (r ≡ r') × (seen r z ≡ seen r' z')
  taken_once f r r' z z' h p q = handled_once (f ρ) r r' z z' t (p ρ t h) (q ρ t h)

  pub sdp_take_once_take_once : OneWhere (λ κs a. Holds ρ a.1.1.1.0 a.0.now t) (λ κs r e. seen r e.0.now) takeOnce.Learnt
  sdp_take_once_take_once κs a r r' e e' =
      let v = a.1.0.now in
      taken_once (λ ρ. step_role (span_at a.1.1.0 v) ρ v (once_role a.1.1.1.1.0)) r r' e.0.now e'.0.now

  pub sdp_take_row_take_row : OneWhere (λ κs a. Holds ρ a.1.1.1.0 a.0.now t) (λ κs r e. seen r e.0.now) take_row.Learnt
  sdp_take_row_take_row κs a r r' e e' =
      let v = a.1.0.now in
      taken_once (λ ρ. step_role (span_at a.1.1.0 v) ρ v (row_role a.1.1.1.1.0)) r r' e.0.now e'.0.now

  pub sdp_take_list_take_repeat : OneWhere (λ κs a. Holds ρ a.1.1.1.0 a.0.now t) (λ κs r e. seen r e.0.now) takeRepeat.Learnt
  sdp_take_list_take_repeat κs a r r' e e' =
      let v = a.1.0.now in
      taken_once (λ ρ. step_role (span_at a.1.1.0 v) ρ v role.Repeat) r r' e.0.now e'.0.now

  pub sdp_take_list_take_zone : OneWhere (λ κs a. Holds ρ a.1.1.1.0 a.0.now t) (λ κs r e. seen r e.0.now) takeZone.Learnt
  sdp_take_list_take_zone κs a r r' e e' =
      let v = a.1.0.now in
      taken_once (λ ρ. step_role (span_at a.1.1.0 v) ρ v role.Zone) r r' e.0.now e'.0.now

  -- what takes a line by the role x
  told-once : (x : Reading Span → Role) (p : ℕ) (v : List ℕ) {m : Marks} {a : List ℕ} (r r' : Result (Option Marks) Wrong) (z z' : List ℕ) → Holds ρ m a t
      → Tells x p v m r a z → Tells x p v m r' a z' → (r ≡ r') × (seen r z ≡ seen r' z')
  told-once x p v {m} r r' z z' h q q' = lands_once (kind_of (x ρ)) (step_role (span_at p v) ρ v (x ρ)) m r r' z z' t (q ρ t h) (q' ρ t h)

  pub sdp_take_take_line : OneWhere (λ κs a. Holds ρ a.1.1.0 a.0.now t) (λ κs r e. seen r e.0.now) takeLine.Learnt
  sdp_take_take_line κs a r r' e e' = told-once (role_in a.1.1.1.0) a.1.0.0 a.1.1.1.1.0.now r r' e.0.now e'.0.now

  pub sdp_line_take : OneWhere (λ κs a. Holds ρ a.1.1.0 a.0.now t) (λ κs r e. seen r e.0.now) lineTake.Learnt
  sdp_line_take κs a r r' e e' = told-once (role_in a.1.1.1.1.0) a.1.0.0 a.1.1.1.1.1.0.now r r' e.0.now e'.0.now

module _ (x : Standing) (t : List ℕ) where
  pub sdp_turn_turn_of : OneWhere (λ κs a. Stands x a.1.1.0 a.1.0.now t) (λ κs r e. seen_turn r e.1.0.now) turn_of.Learnt
  sdp_turn_turn_of κs a r r' e e' h p q = turned_once (line_of a.0.now x a.1.1.1.0) a.1.1.0 r r' e.1.0.now e'.1.0.now t (p.0 x t h) (q.0 x t h)
