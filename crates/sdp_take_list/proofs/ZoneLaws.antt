-- The loop over the pairs of a z line.
-- Assumes nothing.
use Prim.Native.Nat.{ℕ, ◌+◌, ◌≤◌, ◌<◌}
use native.Mathlib.Omega.{arith}
use mathlib.Core.Path.{◌≡◌, refl, sym, ap, ◌∙◌}
use mathlib.Core.Bool.{true, false≢true}
use mathlib.Core.List.{List, [], ◌∷◌, ◌++◌, map}
use lib.ListN.{length, drop}
use borrow.Author.Tests.{le-leb, lt-leb}
use Rattle.sdp_lines.specs.declared.Span.{Span}
use Rattle.sdp_split.specs.Split.{words, words_at}
use Rattle.sdp_judge.specs.Read.{plain, and_then}
use Rattle.sdp_lists.specs.Lists
use Rattle.sdp_lists.specs.Lists.{pairs_of, zones_of}
use Rattle.sdp_lists.specs.Answers.{zone_at}
use Rattle.sdp_split.specs.declared.Piece.{Piece}
use Rattle.sdp_judge.specs.declared.Wrong.{Wrong}
use Rattle.sdp_lists.specs.declared.Zone as field
use Rattle.sdp_lists.proofs.RestLaws.{zone_done_lem, zone_next, zone-refused}
use Rattle.sdp_area.specs.Session.{Zone, Session, Within}
use Rattle.sdp_area.specs.With.{with_zones}
use Rattle.sdp_cells.specs.Tables.{add, grown}
use Rattle.sdp_area.specs.Area.{encode, size, zone_row, zones_at}
use Rattle.sdp_area.proofs.GrownLaws.{zones-grown}
use Rattle.sdp_step.specs.Step.{Reading, zone_in, zones_taken}
use Rattle.sdp_step.specs.Hold.{Holds, Handled}
use Rattle.sdp_step.specs.declared.Marks.{Marks}
use Rattle.sdp_take_list.proofs.ListLaws as lists
use Rattle.sdp_step.proofs.TailLaws.{behind}
use Rattle.sdp_step.proofs.WithinLaws.{within-zones}
use Rattle.std.specs.Prelude.{Some, None, Ok, Err}

-- after n pairs, of which the next is due at place i: s is the session before the line
pub record Zoning (v : List ℕ) (s : Session Span) (t a : List ℕ) (i n : ℕ) : Type 0 where
  pub done : List field.Zone
  pub count : n ≡ length done
  pub left : zones_of v ≡ and_then (pairs_of v (words_at v i)) (λ zs. Ok (done ++ zs))
  pub rows : List Zone
  pub kept : lists.Kept zone_in 64 rows done
  pub bytes : a ≡ encode (with_zones s rows) ++ t

pub zoning_begin : (v : List ℕ) (s : Session Span) (t a : List ℕ) → s.tables.zones ≡ [] → a ≡ encode s ++ t → Zoning v s t a 0 0
unfolding Lists.zones_of
zoning_begin v s t a e b =
    record {
      done = [];
      count = refl;
      left = lists.none_yet (pairs_of v (words v));
      rows = [];
      kept = lists.kept_none zone_in 64;
      bytes = b ∙ ap (λ (zs : List Zone). encode (with_zones s zs) ++ t) e;
    }

module _ (v : List ℕ) (s : Session Span) (ok : Within s) (t a : List ℕ) (i n : ℕ) (z : Zoning v s t a i n) where
  pub zoning_next : (x : field.Zone) (e : ℕ) (a' : List ℕ) → zone_at v i ≡ Ok (Some (x, e)) → a' ≡ grown a zones_at 64 (zone_row (zone_in x)) → Zoning v s t a' e (n + 1)
  zoning_next x e a' q b =
      record {
        done = z.done ++ (x ∷ []);
        count = let l = lists.length_more z.done x in let k = z.count in omega arith;
        left = z.left ∙ rw (zone_next v i x e q).0 (lists.one_more (pairs_of v (words_at v e)) z.done x);
        rows = add 64 z.rows (zone_in x);
        kept = lists.kept_more_lem zone_in 64 z.rows z.done x z.kept;
        bytes = b ∙ (zones-grown (with_zones s z.rows) t (within-zones s ok z.rows z.kept.fits) a z.bytes (zone_in x)).1;
      }

  pub zoning_wrong : (w : Wrong) → zone_at v i ≡ Err w → zones_of v ≡ Err w
  zoning_wrong w q = z.left ∙ rw (zone-refused v i w q)

  pub zoning_all : zone_at v i ≡ Ok None → zones_of v ≡ Ok z.done
  zoning_all q = z.left ∙ rw (zone_done_lem v i q) (lists.all_read z.done)

  pub zoning_tail : drop size a ≡ t
  zoning_tail = ap (drop size) z.bytes ∙ behind (with_zones s z.rows) t

-- ---- the answers after the last pair
module _ (mk : Piece → Span) (v : List ℕ) (ρ : Reading Span) (m : Marks) (a₀ t a : List ℕ) (h : Holds ρ m a₀ t) (i n : ℕ) (z : Zoning v ρ.session t a i n) where
  pub zones_full : 64 < n → Handled (zones_taken mk ρ v z.done) (Err (plain 21 8)) a t
  zones_full l =
      let k = z.count in
      rw (lt-leb (length z.done) 64 (omega arith)) (refl, zoning_tail v ρ.session h.within t a i n z)

  pub zones-kept : n ≤ 64 → Handled (zones_taken mk ρ v z.done) (Ok (record { named = m.named; zoned = true })) a t
  zones-kept l =
      let k = z.count in
      let d : length z.done ≤ 64 = omega arith in
      let e : z.rows ≡ map zone_in z.done = z.kept.same d in
      rw (le-leb (length z.done) 64 d)
      (record {
        marks = ap (λ (x : Marks). record { named = x.named; zoned = true }) h.marks;
        bytes = z.bytes ∙ ap (λ (zs : List Zone). encode (with_zones ρ.session zs) ++ t) e;
        within = within-zones ρ.session h.within (map zone_in z.done) (omega (arith, lists.length-map zone_in z.done));
        unzoned = λ f. absurd (false≢true (sym f));
      })
