-- The whole: the answers by cases, and what is put. Assumes nothing.
use mathlib.Core.Path.{◌≡◌, refl, sym, ap, ◌∙◌}
use mathlib.Core.Bool.{Bool, true, false, cond}
use mathlib.Core.List.{List, ◌++◌}
use Prim.Native.Nat.{ℕ, ◌≤◌, ◌<◌, ◌^◌}
use native.Mathlib.Omega.{arith}
use lib.ListN.{length, drop}
use lib.Seq.{take_at}
use lib.Dec.{ltb, eqb}
use borrow.Author.Tests.{lt-ltb, le-ltb, ltb-true, ltb-false, ne_eqb, eqb-false}
use Rattle.sdp_lines.specs.declared.Answer.{Answer}
use Rattle.sdp_put.specs.Out.{Put}
use Rattle.sdp_put.proofs.OutLaws.{put_room}
use Rattle.sdp_unfit.specs.Unfit.{unfit}
use Rattle.sdp_write.specs.Write.{Outcome, answer, text_of, length_text, wrote, fill, fill_text}

-- what an answer and an output must be, by a case of the outcome
pub settled : (r : Answer) (o' : List ℕ) (x y : Outcome) → y ≡ x → r ≡ x.answer → o' ≡ x.out → (r ≡ y.answer) × (o' ≡ y.out)
settled r o' x y e p q = (p ∙ sym (ap (λ (z : Outcome). z.answer) e), q ∙ sym (ap (λ (z : Outcome). z.out) e))

-- ---- the answers
module _ (t a : List ℕ) where
  pub no_length : (n : ℕ) → n ≡ unfit t a → (n ≡ 0 → ⊥) → length_text t a ≡ answer n 0
  unfolding length_text
  no_length n e h = rw (← e, ne_eqb n 0 h)

  pub its_length : unfit t a ≡ 0 → (n : ℕ) → n ≡ length (text_of t a) → length_text t a ≡ answer 0 n
  unfolding length_text
  its_length f n e = rw (f, ← e)

module _ (t a o : List ℕ) where
  pub not_written : (n : ℕ) → n ≡ unfit t a → (n ≡ 0 → ⊥) → fill_text t a o ≡ record { answer = answer n 0; out = o }
  unfolding fill_text
  not_written n e h = rw (← e, ne_eqb n 0 h)

  module _ (f : unfit t a ≡ 0) (n : ℕ) (e : n ≡ length (text_of t a)) where
    pub out_short : length o < n → fill_text t a o ≡ record { answer = answer 22 n; out = o }
    unfolding fill_text
    out_short h = rw (f, ← e, lt-ltb (length o) n h)

    pub all_written : n ≤ length o → fill_text t a o ≡ record { answer = answer 0 n; out = text_of t a ++ drop n o }
    unfolding fill_text
    all_written h = rw (f, ← e, le-ltb (length o) n h)

-- ---- what was written, where the answer is 0
pub wrote-fill : (w o : List ℕ) → (fill w o).answer.number ≡ 0 → wrote (fill w o) ≡ w
wrote-fill w o = go (ltb (length o) (length w))
  where
    go : (b : Bool) → (let r : Outcome = cond b (record { answer = answer 22 (length w); out = o }) (record { answer = answer 0 (length w); out = w ++ drop (length w) o }) in r.answer.number ≡ 0 → wrote r ≡ w)
    go true n = absurd (let z : ◌≡◌ {A = ℕ} 22 0 = n in omega arith)
    go false n = take_at w (drop (length w) o) (length w) refl

pub wrote-text : (t a o : List ℕ) → (fill_text t a o).answer.number ≡ 0 → wrote (fill_text t a o) ≡ text_of t a
unfolding fill_text
wrote-text t a o = go (eqb (unfit t a) 0) refl
  where
    go : (b : Bool) → eqb (unfit t a) 0 ≡ b → (let r : Outcome = cond b (fill (text_of t a) o) (record { answer = answer (unfit t a) 0; out = o }) in r.answer.number ≡ 0 → wrote r ≡ text_of t a)
    go true e n = wrote-fill (text_of t a) o n
    go false e n = absurd (eqb-false (unfit t a) 0 e n)

-- ---- what stands above full, and whether anything does
module _ (full m r : ℕ) (e : r ≡ cond (ltb full m) m 0) where
  pub above_some : (r ≡ 0 → ⊥) → (r ≡ m) × (full < m)
  above_some = go (ltb full m) refl e
    where
      go : (b : Bool) → ltb full m ≡ b → r ≡ cond b m 0 → (r ≡ 0 → ⊥) → (r ≡ m) × (full < m)
      go true t e n = (e, ltb-true full m t)
      go false t e n = absurd (n e)

  pub above_none : r ≡ 0 → m ≤ full
  above_none = go (ltb full m) refl e
    where
      go : (b : Bool) → ltb full m ≡ b → r ≡ cond b m 0 → r ≡ 0 → m ≤ full
      go true t e n = absurd (omega (arith, e, ltb-true full m t))
      go false t e n = ltb-false full m t

pub is_above : (full m : ℕ) → full < m → m ≡ cond (ltb full m) m 0
is_above full m h = rw (lt-ltb full m h)

pub not-above : (full m : ℕ) → m ≤ full → 0 ≡ cond (ltb full m) m 0
not-above full m h = rw (le-ltb full m h)

-- ---- put where there is room
pub fits : (o o₁ w : List ℕ) (end : ℕ) → length w ≤ length o → length o < 2 ^ 63 → Put o 0 w o₁ end → (end ≡ length w) × (o₁ ≡ w ++ drop end o)
fits o o₁ w end room far one =
    let f = one.puts (omega arith) (omega arith) in
    let e : end ≡ length w = omega (arith, f.1) in
    (e, f.0 ∙ put_room w o room ∙ ap (λ (k : ℕ). w ++ drop k o) (sym e))
