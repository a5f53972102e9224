-- Laws of specs/Lists: reading one offset or one pair from a place on finds the offsets or the pairs of the rest.
-- Assumes nothing.
use Prim.Native.Nat.{ℕ, ◌<◌, ◌≤◌}
use native.Mathlib.Omega.{arith}
use mathlib.Core.Path.{◌≡◌, refl, ap, ◌∙◌}
use mathlib.Core.List.{List, [], ◌∷◌}
use lib.ListN.{length}
use Rattle.sdp_number.specs.Number.{Number, whole_number, typed_time}
use Rattle.sdp_number.specs.declared.NumberError.TheVariants.{Encoding, Format}
use Rattle.sdp_split.specs.Split.{Field, part, words_at, word_at}
use Rattle.sdp_judge.specs.Read.{Read, and_then, missing, amount_of, time_of, after, next_time}
use Rattle.sdp_judge.specs.Offset.{zone_offset, offset_of}
use Rattle.sdp_lists.specs.Lists.{numbered, offsets_of, RepeatLine, repeat_of, pairs_of}
use Rattle.sdp_lists.specs.Answers.{repeat_head, offset_field, offset_at, zone_field, zone_at}
use Rattle.sdp_split.specs.declared.Piece.{Piece}
use Rattle.sdp_judge.specs.declared.Wrong.{Wrong}
use Rattle.sdp_lists.specs.declared.Zone.{Zone}
use Rattle.sdp_lists.specs.declared.RepeatHead.{RepeatHead}
use Rattle.sdp_split.proofs.WordLaws.{word_within, word_none, word_next}
use Rattle.sdp_judge.proofs.ReadLaws.{time-within, time_next}
use Rattle.sdp_judge.proofs.EveryLaws.{every_got, every_amount}
use Rattle.std.specs.Prelude.{Option, Some, None, Ok, Err}

-- ---- the offsets of a repeat line
-- an offset that was judged
abbrev offset_taken : Read (ℕ × ℕ) → Read (Option (ℕ × ℕ))
offset_taken r = and_then r (λ n. Ok (Some n))

-- the offsets of the rest by what reading one says
abbrev offset_step : List ℕ → Read (Option (ℕ × ℕ)) → Read (List ℕ)
offset_step v (Ok (Some (n, e))) = and_then (offsets_of v (words_at v e)) (λ ns. Ok (n ∷ ns))
offset_step v (Ok None) = Ok []
offset_step v (Err x) = Err x

module _ (v : List ℕ) (i : ℕ) where
  offset_step_lem : offsets_of v (words_at v i) ≡ offset_step v (offset_at v i)
  unfolding offsets_of offset_at
  offset_step_lem = go (word_at v i) refl
    where
      read : (p : Piece) (e : ℕ) (t : Number)
          → and_then (numbered 20 v p t) (λ n. and_then (offsets_of v (words_at v e)) (λ ns. Ok (n ∷ ns))) ≡ offset_step v (offset_taken (amount_of 20 v p e t))
      read p e (Ok n) = refl
      read p e (Err Encoding) = refl
      read p e (Err Format) = refl

      go : (f : Field) → word_at v i ≡ f → offsets_of v (words_at v i) ≡ offset_step v (offset_field v f)
      go (Some (p, e)) q = rw (word_next v i p e q).0 (read p e (typed_time (part v p)))
      go None q = rw (word_none v i q)

  pub offset_done : offset_at v i ≡ Ok None → offsets_of v (words_at v i) ≡ Ok []
  offset_done h = offset_step_lem ∙ ap (offset_step v) h

  pub offset-refused : (x : Wrong) → offset_at v i ≡ Err x → offsets_of v (words_at v i) ≡ Err x
  offset-refused x h = offset_step_lem ∙ ap (offset_step v) h

  pub offset_next : (n e : ℕ) → offset_at v i ≡ Ok (Some (n, e))
      → (offsets_of v (words_at v i) ≡ and_then (offsets_of v (words_at v e)) (λ ns. Ok (n ∷ ns))) × ((i < e) × (e ≤ length v))
  unfolding offset_at
  offset_next n e h = (offset_step_lem ∙ ap (offset_step v) h, go (word_at v i) refl h)
    where
      ends : (p : Piece) (e' : ℕ) (t : Number) → offset_taken (amount_of 20 v p e' t) ≡ Ok (Some (n, e)) → e' ≡ e
      ends p e' (Ok m) h = let z : ◌≡◌ {A = ℕ × ℕ} (m, e') (n, e) = cc in ap (λ (z : ℕ × ℕ). z.1) z
      ends p e' (Err Encoding) h = absurd (let z : ◌≡◌ {A = ℕ} 0 1 = cc in omega arith)
      ends p e' (Err Format) h = absurd (let z : ◌≡◌ {A = ℕ} 0 1 = cc in omega arith)

      go : (f : Field) → word_at v i ≡ f → offset_field v f ≡ Ok (Some (n, e)) → (i < e) × (e ≤ length v)
      go (Some (p, e')) q h = rw (ends p e' (typed_time (part v p)) h) at (word_next v i p e' q).1
      go None q h = absurd (let z : ◌≡◌ {A = ℕ} 0 1 = cc in omega arith)

-- ---- the pairs of a zone line
-- a pair whose adjustment time is n and whose offset was judged
abbrev zone_done : ℕ → Read (ℕ × ℕ) → Read (Option (Zone × ℕ))
zone_done n r = after r (λ m e. Ok (Some (record { adjustment_time = n; offset = m }, e)))

-- what follows its first field
abbrev zone_first : List ℕ → Read (ℕ × ℕ) → Read (Option (Zone × ℕ))
zone_first v r = after r (λ n e. zone_done n (offset_of 22 v (word_at v e)))

-- the pairs of the rest by what reading one says
abbrev zone_step : List ℕ → Read (Option (Zone × ℕ)) → Read (List Zone)
zone_step v (Ok (Some (z, e))) = and_then (pairs_of v (words_at v e)) (λ zs. Ok (z ∷ zs))
zone_step v (Ok None) = Ok []
zone_step v (Err x) = Err x

-- the second word of a pair whose first is a, from e on
pair_step : (v : List ℕ) (a : Piece) (e : ℕ) (f : Field) → word_at v e ≡ f
    → pairs_of v (a ∷ words_at v e) ≡ zone_step v (zone_first v (amount_of 21 v a e (whole_number 64 (part v a))))
unfolding pairs_of
pair_step v a e (Some (o, e')) q = rw (word_next v e o e' q).0 (read (whole_number 64 (part v a)))
  where
    sign : (n : ℕ) (t : Number)
        → and_then (numbered 22 v o t) (λ m. and_then (pairs_of v (words_at v e')) (λ zs. Ok (record { adjustment_time = n; offset = m } ∷ zs)))
        ≡ zone_step v (zone_done n (amount_of 22 v o e' t))
    sign n (Ok m) = refl
    sign n (Err Encoding) = refl
    sign n (Err Format) = refl

    read : (t : Number)
        → and_then (numbered 21 v a t) (λ n. and_then (numbered 22 v o (zone_offset (part v o))) (λ m. and_then (pairs_of v (words_at v e')) (λ zs. Ok (record { adjustment_time = n; offset = m } ∷ zs))))
        ≡ zone_step v (zone_first v (amount_of 21 v a e t))
    read (Ok n) = rw q (sign n (zone_offset (part v o)))
    read (Err Encoding) = refl
    read (Err Format) = refl
pair_step v a e None q = rw (word_none v e q) (read (whole_number 64 (part v a)))
  where
    read : (t : Number) → and_then (numbered 21 v a t) (λ n. Err (missing 22)) ≡ zone_step v (zone_first v (amount_of 21 v a e t))
    read (Ok n) = rw q
    read (Err Encoding) = refl
    read (Err Format) = refl

module _ (v : List ℕ) (i : ℕ) where
  zone-step : pairs_of v (words_at v i) ≡ zone_step v (zone_at v i)
  unfolding pairs_of zone_at
  zone-step = go (word_at v i) refl
    where
      go : (f : Field) → word_at v i ≡ f → pairs_of v (words_at v i) ≡ zone_step v (zone_field v f)
      go (Some (p, e)) q = rw (word_next v i p e q).0 (pair_step v p e (word_at v e) refl)
      go None q = rw (word_none v i q)

  pub zone_done_lem : zone_at v i ≡ Ok None → pairs_of v (words_at v i) ≡ Ok []
  zone_done_lem h = zone-step ∙ ap (zone_step v) h

  pub zone-refused : (x : Wrong) → zone_at v i ≡ Err x → pairs_of v (words_at v i) ≡ Err x
  zone-refused x h = zone-step ∙ ap (zone_step v) h

  pub zone_next : (z : Zone) (e : ℕ) → zone_at v i ≡ Ok (Some (z, e))
      → (pairs_of v (words_at v i) ≡ and_then (pairs_of v (words_at v e)) (λ zs. Ok (z ∷ zs))) × ((i < e) × (e ≤ length v))
  unfolding zone_at
  zone_next z e h = (zone-step ∙ ap (zone_step v) h, go (word_at v i) refl h)
    where
      ends : (n e' : ℕ) (o : Piece) (t : Number) → zone_done n (amount_of 22 v o e' t) ≡ Ok (Some (z, e)) → e' ≡ e
      ends n e' o (Ok m) h = let x : ◌≡◌ {A = Zone × ℕ} (record { adjustment_time = n; offset = m }, e') (z, e) = cc in ap (λ (x : Zone × ℕ). x.1) x
      ends n e' o (Err Encoding) h = absurd (let z : ◌≡◌ {A = ℕ} 0 1 = cc in omega arith)
      ends n e' o (Err Format) h = absurd (let z : ◌≡◌ {A = ℕ} 0 1 = cc in omega arith)

      second : (n e' : ℕ) (f : Field) → word_at v e' ≡ f → zone_done n (offset_of 22 v f) ≡ Ok (Some (z, e)) → (e' < e) × (e ≤ length v)
      second n e' (Some (o, e'')) q h = rw (ends n e'' o (zone_offset (part v o)) h) at (word_next v e' o e'' q).1
      second n e' None q h = absurd (let z : ◌≡◌ {A = ℕ} 0 1 = cc in omega arith)

      read : (p : Piece) (e' : ℕ) (t : Number) → zone_first v (amount_of 21 v p e' t) ≡ Ok (Some (z, e)) → (e' < e) × (e ≤ length v)
      read p e' (Ok n) h = second n e' (word_at v e') refl h
      read p e' (Err Encoding) h = absurd (let z : ◌≡◌ {A = ℕ} 0 1 = cc in omega arith)
      read p e' (Err Format) h = absurd (let z : ◌≡◌ {A = ℕ} 0 1 = cc in omega arith)

      go : (f : Field) → word_at v i ≡ f → zone_field v f ≡ Ok (Some (z, e)) → (i < e) × (e ≤ length v)
      go (Some (p, e')) q h =
          let w = (word_next v i p e' q).1 in
          let b = read p e' (whole_number 64 (part v p)) h in
          (omega arith, b.1)
      go None q h = absurd (let z : ◌≡◌ {A = ℕ} 0 1 = cc in omega arith)

-- ---- the offsets begin within the line
pub head_next : (v : List ℕ) (h : RepeatHead) → repeat_head v ≡ Ok h → h.next ≤ length v
unfolding repeat_head
head_next v =
    every_amount _ (time_of 18 v (word_at v 0)) _ (λ n i p.
    every_amount _ (time_of 19 v (word_at v i)) _ (λ m e q.
    every_got _ _ (time-within 19 v (word_at v i) m e (word_within v i) q)))

-- ---- an r line by its head: the offsets are the words from where it ends
abbrev pub after_head : List ℕ → RepeatHead → Read RepeatLine
after_head v h =
    and_then (offsets_of v (words_at v h.next)) (λ os.
    Ok (record { interval = h.repeat_interval; duration = h.active_duration; offsets = os }))

pub repeat_head_lem : (v : List ℕ) → repeat_of v ≡ and_then (repeat_head v) (after_head v)
unfolding repeat_of repeat_head
repeat_head_lem v = time_next 18 v 0 _ refl refl ∙ first (time_of 18 v (word_at v 0))
  where
    second : (n : ℕ) (t : Read (ℕ × ℕ))
        → after t (λ m e. after_head v (record { repeat_interval = n; active_duration = m; next = e }))
        ≡ and_then (after t (λ m e. Ok (record { repeat_interval = n; active_duration = m; next = e }))) (after_head v)
    second n (Ok (m, e)) = refl
    second n (Err x) = refl

    first : (t : Read (ℕ × ℕ))
        → after t (λ n e. next_time 19 v (words_at v e) (λ m ws. and_then (offsets_of v ws) (λ os. Ok (record { interval = n; duration = m; offsets = os }))))
        ≡ and_then (after t (λ n e. after (time_of 19 v (word_at v e)) (λ m e. Ok (record { repeat_interval = n; active_duration = m; next = e })))) (after_head v)
    first (Ok (n, e)) = time_next 19 v e _ refl refl ∙ second n (time_of 19 v (word_at v e))
    first (Err x) = refl
