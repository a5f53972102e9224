-- The t, r and z lines: what is written of numbers that have 64 bits is read again. Assumes nothing.
use mathlib.Core.Path.{◌≡◌, refl, ap, ◌∙◌}
use mathlib.Core.Bool.{true}
use mathlib.Core.List.{List, [], ◌∷◌, ◌++◌, map, append-nil, append_assoc}
use Prim.Native.Nat.{ℕ, ◌+◌, ◌^◌, ◌<◌}
use native.Mathlib.Omega.{arith}
use borrow.Author.Tests.{ne_eqb}
use Rattle.sdp_number.specs.Number.{whole_number}
use Rattle.sdp_split.specs.Split.{part, words, next_word, later}
use Rattle.sdp_split.specs.declared.Piece.{Piece}
use Rattle.sdp_judge.specs.Read as judge
use Rattle.sdp_judge.specs.Read.{Read, and_then}
use Rattle.sdp_fields.specs.Records as records
use Rattle.sdp_fields.specs.Records.{times_of}
use Rattle.sdp_lists.specs.Lists as lists
use Rattle.sdp_lists.specs.Lists.{repeat_of, offsets_of, pairs_of, zones_of}
use Rattle.sdp_lists.specs.declared.Zone as zone
use Rattle.sdp_area.specs.Session.{Time, Zone}
use Rattle.sdp_step.specs.Step.{time_in, zone_in}
use Rattle.sdp_put.specs.Digits.{digits, time_text}
use Rattle.sdp_put.proofs.DigitLaws.{offset_form}
use Rattle.sdp_decode.specs.Rows as rows
use Rattle.sdp_decode.specs.Rows.{each}
use Rattle.sdp_row.specs.Written as form
use Rattle.sdp_row.specs.Written.{spaced, time_value, signed_text, zone_text}
use Rattle.sdp_same.specs.Fits.{Each, FitTime, FitZone}
use Rattle.sdp_put.proofs.ByteLaws.{every, bare}
use Rattle.sdp_back.proofs.NumberLaws.{number_back, time_back, offset_back}
use Rattle.sdp_back.proofs.WordLaws.{Word, spell, tails, joined_bare, words_back, digits_word, time_word}
use Rattle.sdp_back.proofs.FieldLaws.{Backs, map_read, on_seen, unseen, first, amount_in, see_number, see_end, see_next}
use Rattle.std.specs.Prelude.{Ok, Err}

-- ---- t
times_from : List (List ℕ) → Read Time
times_from ws =
    on_seen (first ws) (λ s ws. and_then (amount_in (whole_number 64 s)) (λ start.
    on_seen (first ws) (λ s ws. and_then (amount_in (whole_number 64 s)) (λ stop.
    unseen (first ws) (Ok (record { start_time = start; stop_time = stop }))))))

see_times : (v : List ℕ) → map_read time_in (times_of v) ≡ times_from (spell v)
unfolding times_from records.times_of judge.next_number
see_times v =
    let ws = words v in
    see_number _ 15 v _ (next_word ws) _ (see_next v ws) _ _ (λ start e.
    see_number _ 16 v _ (next_word (later ws)) _ (see_next v (later ws)) _ _ (λ stop e.
    see_end _ 17 v _ (next_word (later (later ws))) _ (see_next v (later (later ws))) (Ok _)))

pub time_line_back : (t : Time) → FitTime t → Backs times_of (λ v. time_in) (time_value t) t
unfolding times_from tails
time_line_back t f =
    rw (← (let z : digits t.start_time ++ tails (digits t.stop_time ∷ []) ≡ time_value t = simp append-nil in z)) (record {
      says = see_times _ ∙ ap times_from (words_back (digits t.start_time) (digits t.stop_time ∷ []) (digits_word t.start_time) (digits_word t.stop_time, tt)) ∙ rw (number_back 64 t.start_time f.start_time, number_back 64 t.stop_time f.stop_time);
      bare = joined_bare (digits t.start_time) (digits t.stop_time ∷ []) (digits_word t.start_time) (digits_word t.stop_time, tt);
    })

-- ---- r
-- words that spell times
module _ (v : List ℕ) where
  offsets_back : (ws : List Piece) (ns : List ℕ) → map (part v) ws ≡ map time_text ns → Each (λ n. n < 2 ^ 64) ns → offsets_of v ws ≡ Ok ns
  unfolding lists.offsets_of
  offsets_back [] [] e h = refl
  offsets_back [] (n ∷ ns) e h = absurd (let z : ◌≡◌ {A = ℕ} 0 1 = cc in omega arith)
  offsets_back (p ∷ ws) [] e h = absurd (let z : ◌≡◌ {A = ℕ} 0 1 = cc in omega arith)
  offsets_back (p ∷ ws) (n ∷ ns) e h =
      let x : part v p ≡ time_text n = cc in
      let y : map (part v) ws ≡ map time_text ns = cc in
      rw (x, time_back n h.0, offsets_back ws ns y h.1)

  repeat_back : (ws : List Piece) (interval duration : ℕ) (ns : List ℕ) → words v ≡ ws → map (part v) ws ≡ time_text interval ∷ time_text duration ∷ map time_text ns
      → interval < 2 ^ 64 → duration < 2 ^ 64 → Each (λ n. n < 2 ^ 64) ns → repeat_of v ≡ Ok (record { interval = interval; duration = duration; offsets = ns })
  unfolding lists.repeat_of judge.next_time
  repeat_back [] interval duration ns q e a b h = absurd (let z : ◌≡◌ {A = ℕ} 0 1 = cc in omega arith)
  repeat_back (p ∷ []) interval duration ns q e a b h = absurd (let z : ◌≡◌ {A = ℕ} 0 1 = cc in omega arith)
  repeat_back (p ∷ r ∷ ws) interval duration ns q e a b h =
      let x : part v p ≡ time_text interval = cc in
      let y : part v r ≡ time_text duration = cc in
      let z : map (part v) ws ≡ map time_text ns = cc in
      rw (q, x, time_back interval a, y, time_back duration b, offsets_back ws ns z h)

times_words : (ns : List ℕ) → Each Word (map time_text ns)
times_words [] = tt
times_words (n ∷ ns) = (time_word n, times_words ns)

-- interval, duration and offsets, as they are written
abbrev pub repeat_value : ℕ → ℕ → List ℕ → List ℕ
repeat_value interval duration ns = time_text interval ++ tails (time_text duration ∷ map time_text ns)

pub repeat_line_back : (interval duration : ℕ) (ns : List ℕ) → interval < 2 ^ 64 → duration < 2 ^ 64 → Each (λ n. n < 2 ^ 64) ns
    → (repeat_of (repeat_value interval duration ns) ≡ Ok (record { interval = interval; duration = duration; offsets = ns })) × (bare (repeat_value interval duration ns) ≡ true)
repeat_line_back interval duration ns a b h =
    let w : Each Word (time_text duration ∷ map time_text ns) = (time_word duration, times_words ns) in (
      repeat_back (repeat_value interval duration ns) _ interval duration ns refl (words_back (time_text interval) (time_text duration ∷ map time_text ns) (time_word interval) w) a b h,
      joined_bare (time_text interval) (time_text duration ∷ map time_text ns) (time_word interval) w,
    )

-- ---- z
-- adjustment time and offset of each pair
abbrev pair_words : List Zone → List (List ℕ)
pair_words [] = []
pair_words (z ∷ zs) = digits z.adjustment_time ∷ signed_text z.offset ∷ pair_words zs

minus_word : (t : ℕ) → Word ((0x2d ∷ []) ++ time_text t)
unfolding every
minus_word t = record { some = omega arith; whole = (time_word t).whole; bare = (time_word t).bare }

signed_word : (n : ℕ) → Word (signed_text n)
signed_word n = offset_form Word time_word minus_word _ _

pairs-words : (zs : List Zone) → Each Word (pair_words zs)
pairs-words [] = tt
pairs-words (z ∷ zs) = (digits_word z.adjustment_time, (signed_word z.offset, pairs-words zs))

pairs_back : (v : List ℕ) (ws : List Piece) (zs : List Zone) → map (part v) ws ≡ pair_words zs → Each FitZone zs → map_read (map zone_in) (pairs_of v ws) ≡ Ok zs
unfolding lists.pairs_of
pairs_back v [] [] e h = refl
pairs_back v [] (z ∷ zs) e h = absurd (let z : ◌≡◌ {A = ℕ} 0 1 = cc in omega arith)
pairs_back v (a ∷ ws) [] e h = absurd (let z : ◌≡◌ {A = ℕ} 0 1 = cc in omega arith)
pairs_back v (a ∷ []) (z ∷ zs) e h = absurd (let z : ◌≡◌ {A = ℕ} 0 1 = cc in omega arith)
pairs_back v (a ∷ o ∷ ws) (z ∷ zs) e h =
    let x : part v a ≡ digits z.adjustment_time = cc in
    let y : part v o ≡ signed_text z.offset = cc in
    let r : map (part v) ws ≡ pair_words zs = cc in
    rw (x, number_back 64 z.adjustment_time h.0.adjustment_time, y, offset_back z.offset h.0.offset) (go (pairs_of v ws) (pairs_back v ws zs r h.1))
  where
    go : (r : Read (List zone.Zone)) → map_read (map zone_in) r ≡ Ok zs → map_read (map zone_in) (and_then r (λ zs. Ok (record { adjustment_time = z.adjustment_time; offset = z.offset } ∷ zs))) ≡ Ok (z ∷ zs)
    go (Ok ys) e = let q : map zone_in ys ≡ zs = cc in ap (λ xs. Ok (z ∷ xs)) q
    go (Err w) e = absurd (let q : ◌≡◌ {A = ℕ} 0 1 = cc in omega arith)

-- the pairs after the first have a space before them
later-text : (k : ℕ) (zs : List Zone) → 1 < k → each zone_text k zs ≡ tails (pair_words zs)
unfolding rows.each form.zone_text tails
later-text k [] h = refl
later-text k (z ∷ zs) h = rw (ne_eqb k 1 (λ e. omega arith), later-text (k + 1) zs (omega arith)) (ap (λ (l : List ℕ). 0x20 ∷ l) (append_assoc (digits z.adjustment_time) (spaced (signed_text z.offset)) (tails (pair_words zs))))

abbrev pub zones_value : Zone → List Zone → List ℕ
zones_value z zs = each zone_text 1 (z ∷ zs)

pub zones_line_back : (z : Zone) (zs : List Zone) → Each FitZone (z ∷ zs) → Backs zones_of (λ v. map zone_in) (zones_value z zs) (z ∷ zs)
unfolding rows.each form.zone_text tails lists.zones_of
zones_line_back z zs h =
    let q : zones_value z zs ≡ digits z.adjustment_time ++ tails (signed_text z.offset ∷ pair_words zs) = rw (later-text 2 zs (omega arith)) (append_assoc (digits z.adjustment_time) (spaced (signed_text z.offset)) (tails (pair_words zs))) in
    let w : Each Word (signed_text z.offset ∷ pair_words zs) = (signed_word z.offset, pairs-words zs) in
    rw q (record {
      says = pairs_back _ (words _) (z ∷ zs) (words_back (digits z.adjustment_time) (signed_text z.offset ∷ pair_words zs) (digits_word z.adjustment_time) w) h;
      bare = joined_bare (digits z.adjustment_time) (signed_text z.offset ∷ pair_words zs) (digits_word z.adjustment_time) w;
    })
