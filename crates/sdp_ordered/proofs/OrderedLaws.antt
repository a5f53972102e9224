-- What is written of an area is in order where it has no zones or its last time has a repeat, and else it is not. Assumes nothing.
use Prim.Native.Nat.{ℕ}
use mathlib.Core.Path.{◌≡◌, refl, ap, ◌∙◌}
use mathlib.Core.Logic.{inr}
use mathlib.Core.Bool.{Bool, true, false, ◌||◌, true≢false}
use mathlib.Core.List.{List, [], ◌∷◌, ◌++◌, append_assoc}
use lib.ListN.{length}
use borrow.Author.Tests.{le-ltb}
use Rattle.sdp_lines.specs.Lines.{split}
use Rattle.sdp_lines.specs.Strings.{bytes_of}
use Rattle.sdp_area.specs.Session.{Time, Repeat, Zone, Media, Head, Tables, Session}
use Rattle.sdp_decode.specs.Decode.{decode}
use Rattle.sdp_decode.specs.Rows.{each}
use Rattle.sdp_row.specs.Written.{written}
use Rattle.sdp_write.proofs.WriteLaws.{wrote-text}
use Rattle.sdp_order.specs.Expression as expression
use Rattle.sdp_order.specs.Expression.{letter, matches, Describes, one_letter}
use Rattle.sdp_order.specs.Order as order
use Rattle.sdp_order.specs.Order.{time_description, media_description, grammar, letters, run, order_of}
use Rattle.sdp_order.specs.From as from
use Rattle.sdp_order.proofs.Described.{described}
use Rattle.sdp_ordered.specs.Ordered.{last_repeats, no_zones, zones_fit, WrittenOrder}
use Rattle.sdp_ordered.proofs.LetterLaws as spelt
use Rattle.sdp_ordered.proofs.LetterLaws.{given_letter, times_letters, zones_letters, bandwidth_letters, attribute_letters, media_letters, head_letters, written_letters, written-letters}
use Rattle.sdp_ordered.proofs.NextLaws as neighbour
use Rattle.sdp_ordered.proofs.NextLaws.{never_next}
use Rattle.sdp_ordered.proofs.MatchLaws.{◌then◌, regrouped, absent, given, each_many, every_row, own-rows, all_times_run, last_time}

-- ---- z directly behind t
zones_apart : (front back : List ℕ) (rs : List Repeat) (ts : List Time) (zs : List Zone) → no_zones zs || last_repeats ts rs ≡ false → matches grammar (front ++ ((times_letters rs ts ++ zones_letters zs) ++ back)) ≡ false
unfolding spelt.zones_letters neighbour.next neighbour.ends from.begins expression.maybe_empty
zones_apart front back rs ts [] h = absurd (true≢false h)
zones_apart front back rs ts (z ∷ zs) h =
    let l = last_time rs ts h in
    let f = l.front in
    let e : front ++ ((times_letters rs ts ++ (0x7a ∷ [])) ++ back) ≡ (front ++ f) ++ (0x74 ∷ 0x7a ∷ back) = rw l.is (simp append_assoc) in
    ap (matches grammar) e ∙ never_next 0x74 0x7a grammar refl (front ++ f) back

module _ {S : Type 0} (s : Session S) where
  abbrev T : Tables S
  T = s.tables

  abbrev H : Head S
  H = s.head

  -- the letters up to the times, those of times and zones, and those behind the zones
  abbrev front : List ℕ
  front =
      head_letters H
      ++ (each (λ k x. 0x65 ∷ []) 1 T.emails
      ++ (each (λ k x. 0x70 ∷ []) 1 T.phones ++ (given_letter 0x63 H.connection ++ bandwidth_letters T 0)))

  abbrev middle : List ℕ
  middle = times_letters T.repeats T.times ++ zones_letters T.zones

  abbrev back : List ℕ
  back = attribute_letters T 0 ++ each (media_letters T) 1 T.medias

  parted : written_letters s ≡ front ++ (middle ++ back)
  parted = simp append_assoc

  media_runs : (n : ℕ) (m : Media S) → Describes media_description (media_letters T n m)
  media_runs n m =
      one_letter 0x6d
      then given 0x69 m.media_title
      then own-rows 0x63 (λ c. c.owner) n 1 T.connections
      then own-rows 0x62 (λ b. b.owner) n 1 T.bandwidths
      then absent {x = letter 0x6b}
      then own-rows 0x61 (λ a. a.owner) n 1 T.attributes

  all_run : Describes (expression.◌+ time_description) middle → Describes grammar (front ++ (middle ++ back))
  all_run times =
      regrouped
      (one_letter 0x76
      then one_letter 0x6f
      then one_letter 0x73
      then given 0x69 H.description
      then given 0x75 H.uri
      then every_row 0x65 T.emails
      then every_row 0x70 T.phones
      then given 0x63 H.connection
      then own-rows 0x62 (λ b. b.owner) 0 1 T.bandwidths
      then times
      then absent {x = letter 0x6b}
      then own-rows 0x61 (λ a. a.owner) 0 1 T.attributes
      then each_many media_description (media_letters T) (λ n m. inr (media_runs n m)) 1 T.medias)
      (simp append_assoc)

  letters-run : matches grammar (written_letters s) ≡ zones_fit s
  letters-run = ap (matches grammar) parted ∙ go (zones_fit s) refl
    where
      go : (b : Bool) → zones_fit s ≡ b → matches grammar (front ++ (middle ++ back)) ≡ b
      go true e = (described grammar _).1 (all_run (all_times_run T.repeats T.times T.zones e))
      go false e = zones_apart front back T.repeats T.times T.zones e

  -- of any session, over any strings
  session_order : (str : S → List ℕ) → run grammar (letters (split (written str s))) ≡ zones_fit s
  session_order str = ap (run grammar) (written-letters str s) ∙ letters-run

pub written_order : (t a o : List ℕ) → WrittenOrder t a o
unfolding order.order_of
written_order t a o h l =
    let w = wrote-text t a o h in
    rw w (rw (le-ltb 32768 (length (written (bytes_of t) (decode a))) (rw w at l), session_order (decode a) (bytes_of t)))
