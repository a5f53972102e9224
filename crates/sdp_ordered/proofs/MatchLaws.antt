-- The letters of a session beside the grammar: it describes them part by part; or z stands directly behind t. Assumes nothing.
use Prim.Native.Nat.{ℕ, ◌+◌}
use native.Mathlib.Omega.{arith}
use mathlib.Core.Path.{◌≡◌, refl, sym, ap, ◌∙◌}
use mathlib.Core.Logic.{◌⊎◌, inl, inr}
use mathlib.Core.Bool.{Bool, true, false, ◌||◌, cond, true≢false, false≢true}
use mathlib.Core.List.{List, [], ◌∷◌, ◌++◌, append-nil, append_assoc}
use Rattle.std.specs.Prelude.{Option, Some, None}
use lib.ListN.{length}
use lib.Dec.{eqb}
use Rattle.sdp_area.specs.Session.{Time, Repeat, Zone}
use Rattle.sdp_decode.specs.Rows as rows
use Rattle.sdp_decode.specs.Rows.{each, mine}
use Rattle.sdp_order.specs.Expression as expression
use Rattle.sdp_order.specs.Expression.{Expr, letter, ◌·◌, ◌*, ◌⁇, Describes, no_letter, one_letter, one_then, left, right, no_more, one_more}
use Rattle.sdp_order.specs.Order.{repeat_description, time_description}
use Rattle.sdp_ordered.specs.Ordered as ordered
use Rattle.sdp_ordered.specs.Ordered.{has_repeat, last_repeats, no_zones}
use Rattle.sdp_ordered.proofs.LetterLaws as spelt
use Rattle.sdp_ordered.proofs.LetterLaws.{given_letter, time_letters, times_letters, zones_letters}

-- ls ends with l
pub record EndsWith (l : ℕ) (ls : List ℕ) : Type 0 where
  pub front : List ℕ
  pub is : ls ≡ front ++ (l ∷ [])

-- ---- lists that an expression describes
infixr 50 ◌then◌
pub ◌then◌ : {x y : Expr} {ls ms : List ℕ} → Describes x ls → Describes y ms → Describes (x · y) (ls ++ ms)
f then g = one_then _ _ f g

pub regrouped : {x : Expr} {ls ms : List ℕ} → Describes x ls → ms ≡ ls → Describes x ms
regrouped f e = rw e f

pub absent : {x : Expr} → Describes (x ⁇) []
absent = right [] no_letter

pub given : {X : Type 0} (l : ℕ) (o : Option X) → Describes (letter l ⁇) (given_letter l o)
given l None = absent
given l (Some x) = left _ (one_letter l)

-- one or more of them are any number
some_more : {x : Expr} {ls : List ℕ} → Describes (x · x *) ls → Describes (x *) ls
some_more (one_then ls ms f g) = one_more ls ms f g

-- rows that give nothing, or what x describes
pub each_many : {X : Type 0} (x : Expr) (f : ℕ → X → List ℕ) → ((k : ℕ) (r : X) → (f k r ≡ []) ⊎ Describes x (f k r)) → (n : ℕ) (rs : List X) → Describes (x *) (each f n rs)
unfolding rows.each
each_many x f h n [] = no_more
each_many x f h n (r ∷ rs) = go (h n r) (each_many x f h (n + 1) rs)
  where
    go : (f n r ≡ []) ⊎ Describes x (f n r) → Describes (x *) (each f (n + 1) rs) → Describes (x *) (f n r ++ each f (n + 1) rs)
    go (inl e) i = rw e i
    go (inr e) i = one_more _ _ e i

pub every_row : {X : Type 0} (l : ℕ) (rs : List X) → Describes (letter l *) (each (λ k r. l ∷ []) 1 rs)
every_row l rs = each_many (letter l) _ (λ k r. inr (one_letter l)) 1 rs

pub own-rows : {X : Type 0} (l : ℕ) (owner : X → ℕ) (n k : ℕ) (rs : List X) → Describes (letter l *) (each (λ i r. mine n (owner r) (l ∷ [])) k rs)
unfolding rows.mine
own-rows l owner n k rs = each_many (letter l) _ (λ i r. go (eqb (owner r) n)) k rs
  where
    go : (b : Bool) → (cond b (l ∷ []) [] ≡ []) ⊎ Describes (letter l) (cond b (l ∷ []) [])
    go true = inr (one_letter l)
    go false = inl refl

-- ---- the repeats of a time
abbrev repeats_from : ℕ → ℕ → List Repeat → List ℕ
repeats_from n k rs = each (λ i r. mine n r.owner (0x72 ∷ [])) k rs

some_repeats : (n k : ℕ) (rs : List Repeat) → has_repeat n rs ≡ true → Describes (expression.◌+ (letter 0x72)) (repeats_from n k rs)
unfolding rows.each rows.mine ordered.has_repeat
some_repeats n k [] h = absurd (false≢true h)
some_repeats n k (r ∷ rs) h = go (eqb r.owner n) h (λ e. some_repeats n (k + 1) rs e)
  where
    go : (b : Bool) → b || has_repeat n rs ≡ true → (has_repeat n rs ≡ true → Describes (expression.◌+ (letter 0x72)) (repeats_from n (k + 1) rs)) → Describes (expression.◌+ (letter 0x72)) (cond b (0x72 ∷ []) [] ++ repeats_from n (k + 1) rs)
    go true e i = one_letter 0x72 then own-rows 0x72 (λ r. r.owner) n (k + 1) rs
    go false e i = i e

no_repeats : (n k : ℕ) (rs : List Repeat) → has_repeat n rs ≡ false → repeats_from n k rs ≡ []
unfolding rows.each rows.mine ordered.has_repeat
no_repeats n k [] h = refl
no_repeats n k (r ∷ rs) h = go (eqb r.owner n) h (λ e. no_repeats n (k + 1) rs e)
  where
    go : (b : Bool) → b || has_repeat n rs ≡ false → (has_repeat n rs ≡ false → repeats_from n (k + 1) rs ≡ []) → cond b (0x72 ∷ []) [] ++ repeats_from n (k + 1) rs ≡ []
    go true e i = absurd (true≢false e)
    go false e i = i e

-- ---- times, and the zones behind the last
zones-run : (zs : List Zone) → Describes (letter 0x7a ⁇) (zones_letters zs)
unfolding spelt.zones_letters
zones-run [] = absent
zones-run (z ∷ zs) = left _ (one_letter 0x7a)

module _ (rs : List Repeat) where
  time_runs : (n : ℕ) (t : Time) (zs : List Zone) → no_zones zs || has_repeat n rs ≡ true → Describes time_description (time_letters rs n t ++ zones_letters zs)
  unfolding spelt.zones_letters
  time_runs n t zs h = one_letter 0x74 then go (has_repeat n rs) refl zs h
    where
      go : (b : Bool) → has_repeat n rs ≡ b → (zs : List Zone) → no_zones zs || b ≡ true → Describes (repeat_description ⁇) (repeats_from n 1 rs ++ zones_letters zs)
      go true e zs g = left _ (some_repeats n 1 rs e then zones-run zs)
      go false e [] g = rw (no_repeats n 1 rs e) absent
      go false e (z ∷ zs) g = absurd (false≢true g)

  times-run : (n : ℕ) (t : Time) (ts : List Time) (zs : List Zone) → no_zones zs || has_repeat (n + length ts) rs ≡ true → Describes (expression.◌+ time_description) (each (time_letters rs) n (t ∷ ts) ++ zones_letters zs)
  unfolding rows.each spelt.zones_letters
  times-run n t [] zs h =
      let e : n + 0 ≡ n = omega arith in
      regrouped (time_runs n t zs (rw e at h) then no_more) (ap (λ (l : List ℕ). l ++ zones_letters zs) (append-nil (time_letters rs n t)) ∙ sym (append-nil _))
  times-run n t (u ∷ us) zs h =
      let e : n + length (u ∷ us) ≡ n + 1 + length us = omega arith in
      let first = regrouped (time_runs n t [] refl) (sym (append-nil (time_letters rs n t))) in
      regrouped (first then some_more (times-run (n + 1) u us zs (rw e at h))) (append_assoc (time_letters rs n t) _ (zones_letters zs))

  pub all_times_run : (ts : List Time) (zs : List Zone) → no_zones zs || last_repeats ts rs ≡ true → Describes (expression.◌+ time_description) (times_letters rs ts ++ zones_letters zs)
  unfolding spelt.zones_letters spelt.times_letters ordered.last_repeats
  all_times_run [] [] h = (one_letter 0x74 then absent) then no_more
  all_times_run [] (z ∷ zs) h = absurd (false≢true h)
  all_times_run (t ∷ ts) zs h =
      let e : length (t ∷ ts) ≡ 1 + length ts = omega arith in
      times-run 1 t ts zs (rw e at h)

  -- ---- without a repeat of the last time its letter is the last
  times_last : (n : ℕ) (t : Time) (ts : List Time) → has_repeat (n + length ts) rs ≡ false → EndsWith 0x74 (each (time_letters rs) n (t ∷ ts))
  unfolding rows.each
  times_last n t [] h =
      let e : n + 0 ≡ n = omega arith in
      record { front = []; is = rw (no_repeats n 1 rs (rw e at h)) }
  times_last n t (u ∷ us) h =
      let e : n + length (u ∷ us) ≡ n + 1 + length us = omega arith in
      let i = times_last (n + 1) u us (rw e at h) in
      record { front = time_letters rs n t ++ i.front; is = ap (λ (l : List ℕ). time_letters rs n t ++ l) i.is ∙ sym (append_assoc (time_letters rs n t) i.front (0x74 ∷ [])) }

  pub last_time : (ts : List Time) → last_repeats ts rs ≡ false → EndsWith 0x74 (times_letters rs ts)
  unfolding spelt.times_letters ordered.last_repeats
  last_time [] h = record { front = []; is = refl }
  last_time (t ∷ ts) h =
      let e : length (t ∷ ts) ≡ 1 + length ts = omega arith in
      times_last 1 t ts (rw e at h)
