-- One line: a session grows by no more than the line's value, its letter, equals sign, CR and LF. Assumes nothing.
use mathlib.Core.Path.{◌≡◌, refl}
use mathlib.Core.List.{List, [], ◌∷◌, ◌++◌, map}
use Prim.Native.Nat.{ℕ, ◌+◌, ◌≤◌}
use native.Mathlib.Omega.{arith}
use lib.ListN.{length}
use lib.Dec.{ltb, leb, eqb}
use Rattle.sdp_split.specs.Split.{part}
use Rattle.sdp_judge.specs.Read.{Read, whole_of}
use Rattle.sdp_fields.specs.Records.{origin_of, connection_of, bandwidth_of, times_of, attribute_of}
use Rattle.sdp_media_line.specs.MediaLine.{media_of}
use Rattle.sdp_lists.specs.Lists.{RepeatLine, repeat_of, zones_of}
use Rattle.sdp_area.specs.Session.{Time, Media, Offset}
use Rattle.sdp_area.specs.With.{titled}
use Rattle.sdp_area.specs.Latest.{given, last_titled}
use Rattle.sdp_step.specs.Step
use Rattle.sdp_step.specs.Step.{Reading, bandwidth_in, attribute_in, media_connection_in, media_in, time_in, repeated, step_role}
use Rattle.sdp_roles.specs.declared.Role.{Role}
use Rattle.sdp_roles.specs.declared.Role.TheVariants as role
use Rattle.sdp_step.proofs.GoingLaws.{Going, on, off, past-cond, past-once, past_row}
use Rattle.sdp_counts.specs.Count.{uses}
use Rattle.sdp_row.specs.Written
use Rattle.sdp_row.specs.Written.{string_line, media_line}
use Rattle.sdp_same.proofs.WrittenLaws.{id}
use Rattle.sdp_room.proofs.SumLaws
use Rattle.sdp_room.proofs.SumLaws.{sum}
use Rattle.sdp_bound.proofs.RowLaws.{sum_append, sum_more, sum_map, sum_last}
use Rattle.sdp_bound.proofs.RecordLaws.{whole-short, connection_short, origin_short, times-short, bandwidth-short, attribute-short, media-short, offsets_size, repeat_size, repeat_short, zones-short}
use Rattle.sdp_room.proofs.CostLaws
use Rattle.sdp_room.proofs.CostLaws.{cost, time_cost, times_cost, repeat_cost, offset_cost, connection_cost, bandwidth_cost, attribute_cost, media_cost}
use Rattle.std.specs.Prelude.{Ok, Err}

-- at most n bytes more
abbrev pub Grown : ℕ → Reading (List ℕ) → Reading (List ℕ) → Type 0
Grown n ρ τ = cost id τ.session ≤ cost id ρ.session + n

-- one time more
times_more : (ts : List Time) (t : Time) → times_cost (ts ++ (t ∷ [])) ≤ times_cost ts + time_cost t
unfolding CostLaws.times_cost SumLaws.sum
times_more [] t = omega arith
times_more (x ∷ ts) t = let e = sum_more time_cost ts t in omega arith

-- a title
titled_more : (x : List ℕ) (m : Media (List ℕ)) → media_cost id (titled x m) ≤ media_cost id m + length (string_line id 0x69 x)
unfolding Written.media_line
titled_more x m = let e : length (media_line id (titled x m)) ≡ length (media_line id m) = refl in omega arith

module _ (ρ : Reading (List ℕ)) (v : List ℕ) where
  -- an r line, with its offsets
  repeat-grown : Going (Grown (length v + 4) ρ) (repeated (part v) ρ v (repeat_of v))
  unfolding CostLaws.cost repeat_size offsets_size
  repeat-grown = go (repeat_of v) (repeat_short v)
    where
      offset : ℕ → Offset
      offset n = record { owner = length ρ.session.tables.repeats + 1; offset = n }

      go : (x : Read RepeatLine) → ((r : RepeatLine) → x ≡ Ok r → repeat_size r ≤ length v) → Going (Grown (length v + 4) ρ) (repeated (part v) ρ v x)
      go (Err w) h = off _ _
      go (Ok r) h =
          past-cond _ (ltb (length ρ.session.tables.repeats) 64) _ _
          (past-cond _ (leb (length ρ.session.tables.offsets + length r.offsets) 256) _ _
          (on _ _ (omega (
            arith,
            h r refl,
            sum_more repeat_cost ρ.session.tables.repeats (record { owner = length ρ.session.tables.times; repeat_interval = r.interval; active_duration = r.duration }),
            sum_append offset_cost ρ.session.tables.offsets (map offset r.offsets),
            sum_map offset_cost offset r.offsets,
          )))
          (off _ _)) (off _ _)

  -- 4 bytes besides the value where the line has a use; 3 are enough for any other
  pub step-grown : (x : Role) → Going (Grown (length v + (3 + uses x)) ρ) (step_role (part v) ρ v x)
  unfolding Step.step_role CostLaws.cost
  step-grown role.Origin = past-once _ 12 (given ρ.session.head.origin) (origin_of v) _ (λ o q. on _ _ (omega (arith, origin_short v o q)))
  step-grown role.Name = past-once _ 13 (given ρ.session.head.name) (whole_of 34 v) _ (λ p q. on _ _ (omega (arith, whole-short 0x73 34 v p q)))
  step-grown role.Description = past-once _ 14 (given ρ.session.head.description) (whole_of 35 v) _ (λ p q. on _ _ (omega (arith, whole-short 0x69 35 v p q)))
  step-grown role.Uri = past-once _ 15 (given ρ.session.head.uri) (whole_of 36 v) _ (λ p q. on _ _ (omega (arith, whole-short 0x75 36 v p q)))
  step-grown role.Connection = past-once _ 16 (given ρ.session.head.connection) (connection_of v) _ (λ c q. on _ _ (omega (arith, connection_short v c q)))
  step-grown role.Zone =
      past-once _ 17 ρ.zoned (zones_of v) _ (λ zs q. past-cond _ (leb (length zs) 64) _ _ (on _ _ (omega (arith, zones-short v zs q))) (off _ _))
  step-grown role.MediaTitle =
      past-once _ 18 (last_titled ρ.session.tables.medias) (whole_of 33 v) _ (λ p q. on _ _ (omega (
        arith,
        sum_last (media_cost id) (titled (part v p)) (length v + 4) (λ m. omega (arith, titled_more (part v p) m, whole-short 0x69 33 v p q)) ρ.session.tables.medias,
      )))
  step-grown role.Email =
      past_row _ 1 16 _ (whole_of 37 v) _ (λ p q. omega (arith, sum_more (λ x. length (string_line id 0x65 x)) ρ.session.tables.emails (part v p), whole-short 0x65 37 v p q))
  step-grown role.Phone =
      past_row _ 2 16 _ (whole_of 38 v) _ (λ p q. omega (arith, sum_more (λ x. length (string_line id 0x70 x)) ρ.session.tables.phones (part v p), whole-short 0x70 38 v p q))
  step-grown role.MediaConnection =
      past_row _ 3 64 _ (connection_of v) _ (λ c q. omega (arith, sum_more (connection_cost id) ρ.session.tables.connections (media_connection_in (part v) (length ρ.session.tables.medias) c), connection_short v c q))
  step-grown role.Bandwidth =
      past_row _ 4 64 _ (bandwidth_of v) _ (λ b q.
      let n = length ρ.session.tables.medias in
      omega (arith, sum_more (bandwidth_cost id) ρ.session.tables.bandwidths (bandwidth_in (part v) n b), bandwidth-short v n b q))
  step-grown role.Time =
      past_row _ 5 32 _ (times_of v) _ (λ t q. omega (arith, times_more ρ.session.tables.times (time_in t), times-short v t q))
  step-grown role.Repeat = past-cond _ (eqb (length ρ.session.tables.times) 0) _ _ (off _ _) repeat-grown
  step-grown role.Attribute =
      past_row _ 9 512 _ (attribute_of v) _ (λ a q.
      let n = length ρ.session.tables.medias in
      omega (arith, sum_more (attribute_cost id) ρ.session.tables.attributes (attribute_in (part v) n a), attribute-short v n a q))
  step-grown role.Media =
      past_row _ 10 32 _ (media_of v) _ (λ m q. omega (arith, sum_more (media_cost id) ρ.session.tables.medias (media_in (part v) m), media-short v m q))
  step-grown role.Nothing = on _ ρ (omega arith)
