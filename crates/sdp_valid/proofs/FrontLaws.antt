-- The judge looks at a session's bytes alone: what stands behind them changes nothing. Assumes nothing.
use mathlib.Core.Path.{◌≡◌, refl, sym, ap, ap₂, ◌∙◌}
use mathlib.Core.Bool.{Bool, true, false, ◌&&◌}
use mathlib.Core.List.{List, ◌++◌}
use Prim.Native.Nat.{ℕ, zero, suc, ◌+◌, ◌*◌, ◌≤◌}
use native.Mathlib.Nat.{suc-mul}
use native.Mathlib.Omega.{arith}
use lib.ListN.{length, get_or-append}
use lib.Dec.{leb}
use Rattle.sdp_cells.specs.Bytes as bytes
use Rattle.sdp_cells.specs.Bytes.{num}
use Rattle.sdp_area.specs.Area.{size, origin_at, name_at, description_at, uri_at, connection_at, key_at}
use Rattle.sdp_area.specs.Area.{emails_at, phones_at, connections_at, bandwidths_at, times_at, repeats_at, offsets_at, zones_at, attributes_at, medias_at}
use Rattle.sdp_valid.specs.Judge.{every_at, judged, fine_if, rising, owned, rows, small_counts, large_counts, owners, fine_string, fine_origin, fine_connection, fine_pair, fine_media, fine_head, fine_tables, well_formed}
use Rattle.sdp_valid.specs.Counted.{Counted, Inside}
use Rattle.sdp_valid.proofs.JudgeLaws.{small_no, large_no, counts_known}
use Rattle.sdp_valid.proofs.CountedLaws.{emails_inside, phones_inside, connections_inside, bandwidths_inside, repeats_inside, offsets_inside, attributes_inside, medias_inside}

-- ---- two tests that agree on all rows before the end
every_same : (f g : ℕ → Bool) (w end : ℕ) → ((p : ℕ) → p + w ≤ end → f p ≡ g p) → (k p : ℕ) → p + k * w ≤ end → every_at f w k p ≡ every_at g w k p
unfolding every_at
every_same f g w end e zero p h = refl
every_same f g w end e (suc k) p h = let m = suc-mul k w in ap₂ ◌&&◌ (e p (omega arith)) (every_same f g w end e k (p + w) (omega arith))

-- ---- the area b has the numbers that the area a has, as far as a goes
module _ (a b : List ℕ) (same : (p : ℕ) → p + 2 ≤ length a → num 2 b p ≡ num 2 a p) where
  -- ---- owners
  rising_same : (w most : ℕ) → 2 ≤ w → (k lo p : ℕ) → p + k * w ≤ length a → rising b w most k lo p ≡ rising a w most k lo p
  unfolding rising
  rising_same w most l zero lo p h = refl
  rising_same w most l (suc k) lo p h =
      let m = suc-mul k w in
      let i = rising_same w most l k (num 2 a p) (p + w) (omega arith) in
      rw (same p (omega arith)) (ap (λ (r : Bool). (leb lo (num 2 a p) && leb (num 2 a p) most) && r) i)

  owned_same : (base w low from : ℕ) → 2 ≤ w → Inside a base w → from + 2 ≤ length a → owned b base w low from ≡ owned a base w low from
  owned_same base w low from l h k = rw (same from k, same base (omega arith)) (rising_same w (num 2 a from) l (num 2 a base) low (base + 2) h)

  -- ---- what is marked
  if_same : (f g : ℕ → Bool) (w : ℕ) → ((p : ℕ) → p + w ≤ length a → f p ≡ g p) → (p : ℕ) → p + 2 + w ≤ length a → fine_if b f p ≡ fine_if a g p
  if_same f g w e p h = ap₂ judged (same p (omega arith)) (e (p + 2) h)

  -- ---- records
  module _ (t : List ℕ) where
    string_same : (p : ℕ) → p + 4 ≤ length a → fine_string b t p ≡ fine_string a t p
    unfolding fine_string
    string_same p h = rw (same p (omega arith), same (p + 2) (omega arith))

    maybe_same : (p : ℕ) → p + 6 ≤ length a → fine_if b (fine_string b t) p ≡ fine_if a (fine_string a t) p
    maybe_same p h = if_same (fine_string b t) (fine_string a t) 4 string_same p (omega arith)

    origin_same : (p : ℕ) → p + 30 ≤ length a → fine_origin b t p ≡ fine_origin a t p
    unfolding fine_origin
    origin_same p h =
        ap₂ ◌&&◌ (maybe_same p (omega arith))
        (ap₂ ◌&&◌ (string_same (p + 6) (omega arith))
        (ap₂ ◌&&◌ (string_same (p + 18) (omega arith)) (ap₂ ◌&&◌ (string_same (p + 22) (omega arith)) (string_same (p + 26) (omega arith)))))

    connection_same : (p : ℕ) → p + 12 ≤ length a → fine_connection b t p ≡ fine_connection a t p
    unfolding fine_connection
    connection_same p h = ap₂ ◌&&◌ (string_same p (omega arith)) (ap₂ ◌&&◌ (string_same (p + 4) (omega arith)) (string_same (p + 8) (omega arith)))

    pair_same : (p : ℕ) → p + 10 ≤ length a → fine_pair b t p ≡ fine_pair a t p
    unfolding fine_pair
    pair_same p h = ap₂ ◌&&◌ (string_same p (omega arith)) (maybe_same (p + 4) (omega arith))

    media_same : (p : ℕ) → p + 36 ≤ length a → fine_media b t p ≡ fine_media a t p
    unfolding fine_media
    media_same p h =
        ap₂ ◌&&◌ (string_same p (omega arith))
        (ap₂ ◌&&◌ (if_same (λ q. true) (λ q. true) 2 (λ q l. refl) (p + 6) (omega arith))
        (ap₂ ◌&&◌ (string_same (p + 10) (omega arith))
        (ap₂ ◌&&◌ (string_same (p + 14) (omega arith))
        (ap₂ ◌&&◌ (maybe_same (p + 18) (omega arith)) (if_same (fine_pair b t) (fine_pair a t) 10 pair_same (p + 24) (omega arith))))))

  -- ---- the rows of a table
  rows_same : (f g : ℕ → Bool) (base w : ℕ) → ((p : ℕ) → p + w ≤ length a → f p ≡ g p) → Inside a base w → rows b f base w ≡ rows a g base w
  rows_same f g base w e h = rw (same base (omega arith)) (every_same f g w (length a) e (num 2 a base) (base + 2) h)

  -- ---- the parts of a session
  module _ (whole : size ≤ length a) where
    small_same : small_counts b ≡ small_counts a
    unfolding small_counts
    small_same =
        rw (same emails_at (omega arith), same phones_at (omega arith), same connections_at (omega arith), same bandwidths_at (omega arith), same times_at (omega arith))

    large_same : large_counts b ≡ large_counts a
    unfolding large_counts
    large_same =
        rw (same repeats_at (omega arith), same offsets_at (omega arith), same zones_at (omega arith), same attributes_at (omega arith), same medias_at (omega arith))

    head_same : (t : List ℕ) → fine_head b t ≡ fine_head a t
    unfolding fine_head
    head_same t =
        ap₂ ◌&&◌ (if_same (fine_origin b t) (fine_origin a t) 30 (origin_same t) origin_at (omega arith))
        (ap₂ ◌&&◌ (string_same t name_at (omega arith))
        (ap₂ ◌&&◌ (maybe_same t description_at (omega arith))
        (ap₂ ◌&&◌ (maybe_same t uri_at (omega arith))
        (ap₂ ◌&&◌ (if_same (fine_connection b t) (fine_connection a t) 12 (connection_same t) connection_at (omega arith))
        (if_same (fine_pair b t) (fine_pair a t) 10 (pair_same t) key_at (omega arith))))))

  module _ (c : Counted a) where
    owners_same : owners b ≡ owners a
    unfolding owners
    owners_same =
        let h = c.whole in
        ap₂ ◌&&◌ (owned_same connections_at 14 1 medias_at (omega arith) (connections_inside a c) (omega arith))
        (ap₂ ◌&&◌ (owned_same bandwidths_at 14 0 medias_at (omega arith) (bandwidths_inside a c) (omega arith))
        (ap₂ ◌&&◌ (owned_same repeats_at 18 1 times_at (omega arith) (repeats_inside a c) (omega arith))
        (ap₂ ◌&&◌ (owned_same offsets_at 10 1 repeats_at (omega arith) (offsets_inside a c) (omega arith))
        (owned_same attributes_at 12 0 medias_at (omega arith) (attributes_inside a c) (omega arith)))))

    tables_same : (t : List ℕ) → fine_tables b t ≡ fine_tables a t
    unfolding fine_tables
    tables_same t =
        ap₂ ◌&&◌ (rows_same (fine_string b t) (fine_string a t) emails_at 4 (string_same t) (emails_inside a c))
        (ap₂ ◌&&◌ (rows_same (fine_string b t) (fine_string a t) phones_at 4 (string_same t) (phones_inside a c))
        (ap₂ ◌&&◌ (rows_same _ _ connections_at 14 (λ p h. connection_same t (p + 2) (omega arith)) (connections_inside a c))
        (ap₂ ◌&&◌ (rows_same _ _ bandwidths_at 14 (λ p h. string_same t (p + 2) (omega arith)) (bandwidths_inside a c))
        (ap₂ ◌&&◌ (rows_same _ _ attributes_at 12 (λ p h. pair_same t (p + 2) (omega arith)) (attributes_inside a c))
        (rows_same (fine_media b t) (fine_media a t) medias_at 36 (media_same t) (medias_inside a c))))))

  -- ---- the whole, by what the counts are: rows of a table with too high a count are not looked at
  formed_same : (t : List ℕ) → size ≤ length a → well_formed b t ≡ well_formed a t
  unfolding well_formed
  formed_same t h = go (small_counts a) (large_counts a) refl refl
    where
      go : (s l : Bool) → small_counts a ≡ s → large_counts a ≡ l → well_formed b t ≡ well_formed a t
      go false l e f = small_no b t (small_same h ∙ e) ∙ sym (small_no a t e)
      go true false e f = large_no b t (large_same h ∙ f) ∙ sym (large_no a t f)
      go true true e f =
          let c = counts_known a h e f in
          ap₂ ◌&&◌ (small_same h) (ap₂ ◌&&◌ (large_same h) (ap₂ ◌&&◌ (owners_same c) (ap₂ ◌&&◌ (head_same h t) (tables_same c t))))

-- ---- what stands behind an area
num-front : (k : ℕ) (a x : List ℕ) (p : ℕ) → p + k ≤ length a → num k (a ++ x) p ≡ num k a p
unfolding bytes.num
num-front zero a x p h = refl
num-front (suc k) a x p h = omega (arith, get_or-append a x 0 p (omega arith), num-front k a x (p + 1) (omega arith))

pub formed_front : (a x t : List ℕ) → size ≤ length a → well_formed (a ++ x) t ≡ well_formed a t
formed_front a x t h = formed_same a (a ++ x) (num-front 2 a x) t h
