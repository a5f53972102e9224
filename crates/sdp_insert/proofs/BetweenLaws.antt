-- Lines without use may be put in behind any whole lines from the version on: texts x ++ y and x ++ (lines ++ y). Assumes nothing.
use mathlib.Core.Path.{◌≡◌, refl, ap, ◌∙◌}
use mathlib.Core.List.{List, [], ◌∷◌, ◌++◌, append_assoc}
use Prim.Native.Nat.{ℕ, zero, suc, ◌+◌, ◌≤◌, ◌<◌}
use native.Mathlib.Omega.{arith}
use lib.ListN.{length, length-append}
use Rattle.sdp_lines.specs.Lines.{content}
use Rattle.sdp_counts.specs.Count.{role_of, opens}
use Rattle.sdp_insert.specs.Insert.{ended, ended_form, InsertedFrom, same, keep, put, version, Inserted, blank, begun, above_from, above, bytes_from, bytes_above}
use Rattle.sdp_insert.specs.Between.{whole, NoneHasLf, AllBlank, medias_after, AllIdle, Below}

-- past one line more
below_next : (n m : ℕ) (f g : ℕ → ℕ) → g 0 ≡ 0 → ((k : ℕ) → g (suc k) ≡ f k) → Below n m f → Below (suc n) m g
below_next n m f g z e h = record { before = first; behind = last }
  where
    first : (k : ℕ) → k < suc n → g k ≡ 0
    first zero l = z
    first (suc k) l = e k ∙ h.before k (omega arith)

    last : (k : ℕ) → suc n ≤ k → g k ≡ m
    last zero l = absurd (omega arith)
    last (suc k) l = e k ∙ h.behind k (omega arith)

put_all : (xs : List (List ℕ)) (medias : ℕ) (y : List ℕ) → NoneHasLf xs → AllIdle medias xs
    → (i : InsertedFrom medias y (whole xs ++ y)) × Below 0 (length xs) (above_from i) × Below 0 (length (whole xs)) (bytes_from i)
put_all [] medias y h u = (same medias y, record { before = λ k l. refl; behind = λ k l. refl }, record { before = λ k l. refl; behind = λ k l. refl })
put_all (x ∷ xs) medias y h u =
    let ih = put_all xs medias y h.1 u.1 in
    rw (append_assoc x (10 ∷ whole xs) y) (
      put x h.0 u.0 ih.0,
      record { before = λ k l. absurd (omega arith); behind = λ k l. ap suc (ih.1.behind k l) },
      record { before = λ k l. absurd (omega arith); behind = λ k l. omega (arith, ih.2.behind k l, length-append x (10 ∷ whole xs)) },
    )

put-between : (ls xs : List (List ℕ)) (medias : ℕ) (y : List ℕ) → NoneHasLf ls → NoneHasLf xs → AllIdle (medias_after medias ls) xs
    → (i : InsertedFrom medias (whole ls ++ y) (whole ls ++ (whole xs ++ y))) × Below (length ls) (length xs) (above_from i) × Below (length ls) (length (whole xs)) (bytes_from i)
put-between [] xs medias y g h u = put_all xs medias y h u
put-between (l ∷ ls) xs medias y g h u =
    let ih = put-between ls xs (medias + opens (role_of medias (ended_form l))) y g.1 h u in
    rw (append_assoc l (10 ∷ whole ls) y, append_assoc l (10 ∷ whole ls) (whole xs ++ y)) (
      keep l g.0 ih.0,
      below_next (length ls) (length xs) (above_from ih.0) (above_from (keep l g.0 ih.0)) refl (λ k. refl) ih.1,
      below_next (length ls) (length (whole xs)) (bytes_from ih.0) (bytes_from (keep l g.0 ih.0)) refl (λ k. refl) ih.2,
    )

-- empty lines bs, the version line v and lines ls stay, the lines xs are put in behind them, and the rest y follows: what stands in y moves
-- down by all of xs, and its bytes by all bytes of xs
pub text-between : (bs : List (List ℕ)) (v : List ℕ) (ls xs : List (List ℕ)) (y : List ℕ) → AllBlank bs → content (ended v) ≡ version
    → NoneHasLf (bs ++ (v ∷ ls)) → NoneHasLf xs → AllIdle (medias_after 0 ls) xs
    → (i : Inserted (whole (bs ++ (v ∷ ls)) ++ y) (whole (bs ++ (v ∷ ls)) ++ (whole xs ++ y))) × Below (length (bs ++ (v ∷ ls))) (length xs) (above i)
    × Below (length (bs ++ (v ∷ ls))) (length (whole xs)) (bytes_above i)
text-between [] v ls xs y b e g h u =
    let r = put-between ls xs 0 y g.1 h u in
    rw (append_assoc v (10 ∷ whole ls) y, append_assoc v (10 ∷ whole ls) (whole xs ++ y)) (
      begun v g.0 e r.0,
      below_next (length ls) (length xs) (above_from r.0) (above (begun v g.0 e r.0)) refl (λ k. refl) r.1,
      below_next (length ls) (length (whole xs)) (bytes_from r.0) (bytes_above (begun v g.0 e r.0)) refl (λ k. refl) r.2,
    )
text-between (l ∷ bs) v ls xs y b e g h u =
    let ih = text-between bs v ls xs y b.1 e g.1 h u in
    rw (append_assoc l (10 ∷ whole (bs ++ (v ∷ ls))) y, append_assoc l (10 ∷ whole (bs ++ (v ∷ ls))) (whole xs ++ y)) (
      blank l g.0 b.0 ih.0,
      below_next (length (bs ++ (v ∷ ls))) (length xs) (above ih.0) (above (blank l g.0 b.0 ih.0)) refl (λ k. refl) ih.1,
      below_next (length (bs ++ (v ∷ ls))) (length (whole xs)) (bytes_above ih.0) (bytes_above (blank l g.0 b.0 ih.0)) refl (λ k. refl) ih.2,
    )
