-- Laws of specs/Read: one field judged by what the code tests, and what follows a field that was read or refused.
-- Assumes nothing.
use Prim.Native.Nat.{ℕ, ◌+◌, ◌-◌, ◌≤◌}
use native.Mathlib.Omega.{arith}
use mathlib.Core.Path.{◌≡◌, refl, sym, ap, ◌∙◌}
use mathlib.Core.Bool.{Bool, true, false, cond}
use mathlib.Core.List.{List}
use lib.ListN.{length, take, drop, length-take}
use Rattle.sdp_utf8.specs.Utf8.{utf8_end, is_utf8}
use Rattle.sdp_utf8.proofs.BreakLaws.{utf8_le}
use Rattle.sdp_number.specs.Number.{Number, whole_number, typed_time}
use Rattle.sdp_number.specs.declared.NumberError.TheVariants.{Encoding, Format}
use Rattle.sdp_split.specs.Split.{Field, part, words_at, next_word, later, word_at, Inside, Within}
use Rattle.sdp_judge.specs.Read.{Read, bad_byte, text_of, token_of, amount_of, number_of, time_of, after, and_then, trailing, ending, next_text, next_token, next_number, next_time}
use Rattle.sdp_split.specs.declared.Piece.{Piece}
use Rattle.sdp_split.proofs.SplitLaws.{part_is}
use Rattle.sdp_split.proofs.WordLaws.{word_next}
use Rattle.sdp_judge.specs.declared.Wrong.{Wrong}
use Rattle.sdp_bytes.specs.Token.{is_token}
use Rattle.sdp_split.specs.Split as split
use Rattle.std.specs.Prelude.{Option, Some, None, Ok, Err, IsErr, IsErrAnd, is_some}
use Rattle.std.proofs.lemmas.Result.{err_from_is_err_and}

-- what a test of the bytes that the code cuts out says of the piece
pub judged : {A : Type 0} (test : List ℕ → A) (v : List ℕ) (p : Piece) (r x : A) → r ≡ test (take (p.at + p.len - p.at) (drop p.at v)) → r ≡ x → test (part v p) ≡ x
judged test v p r x e q = sym (e ∙ ap test (part_is v p)) ∙ q

-- the bad byte of a field stands in the value, or at its end
pub bad_inside : (v : List ℕ) (p : Piece) → Inside v p → bad_byte v p ≤ length v
bad_inside v p h = omega (arith, utf8_le (part v p), length-take p.len (drop p.at v))

-- n is what the code finds as its end
pub bad_fits : (v : List ℕ) (p : Piece) (n : ℕ) → n ≡ utf8_end (take (p.at + p.len - p.at) (drop p.at v)) → Inside v p → p.at + n ≤ length v
bad_fits v p n e h = let k = e ∙ ap utf8_end (part_is v p) in omega (arith, bad_inside v p h)

-- ---- what follows: r is the code's answer, t the definition's, x the case at hand
told : {T B : Type 0} (f : T → B) {r t x : T} → r ≡ t → r ≡ x → f t ≡ f x
told f e q = ap f (sym e ∙ q)

module _ {A : Type 0} where
  pub by_then : {B : Type 0} {r t x : Read B} (k : B → Read A) → r ≡ t → r ≡ x → and_then t k ≡ and_then x k
  by_then k = told (λ t. and_then t k)

  pub by_after : {B : Type 0} {r t x : Read (B × ℕ)} (k : B → ℕ → Read A) → r ≡ t → r ≡ x → after t k ≡ after x k
  by_after k = told (λ t. after t k)

  -- b is what the code's test whether there is a field says
  pub by_some : {f t : Field} {b : Bool} (w : ℕ) (k : Read A) → f ≡ t → b ≡ is_some f → b ≡ true → ending w t k ≡ Err (trailing w)
  by_some {f} w k q e h = rw (← q) (go f (sym e ∙ h))
    where
      go : (f : Field) → is_some f ≡ true → ending w f k ≡ Err (trailing w)
      go (Some (p, e)) h = refl
      go None h = absurd (let z : ◌≡◌ {A = ℕ} 0 1 = cc in omega arith)

  pub by_none : {f t : Field} {b : Bool} (w : ℕ) (k : Read A) → f ≡ t → b ≡ is_some f → b ≡ false → ending w t k ≡ k
  by_none {f} w k q e h = rw (← q) (go f (sym e ∙ h))
    where
      go : (f : Field) → is_some f ≡ false → ending w f k ≡ k
      go (Some (p, e)) h = absurd (let z : ◌≡◌ {A = ℕ} 0 1 = cc in omega arith)
      go None h = refl

  -- what leaves by a `?`
  pub left : {r t : Read A} {x : Wrong} → IsErr r × IsErrAnd r (λ y. y ≡ x) → t ≡ Err x → r ≡ t
  left {r} h e = let p = err_from_is_err_and r h.1 in rw (p.1, p.2) (sym e)

-- ---- what was read stands in a field of the value, and ends with it
tested : (b : Bool) (p q : Piece) (e e' : ℕ) (x : Wrong) → ◌≡◌ {A = Read (Piece × ℕ)} (cond b (Ok (p, e)) (Err x)) (Ok (q, e')) → ◌≡◌ {A = Field} (Some (p, e)) (Some (q, e'))
tested true p q e e' x h = cc
tested false p q e e' x h = absurd (let z : ◌≡◌ {A = ℕ} 0 1 = cc in omega arith)

counted : (n : Number) (w : ℕ) (v : List ℕ) (p : Piece) (e m e' : ℕ) → amount_of w v p e n ≡ Ok (m, e') → ◌≡◌ {A = Field} (Some (p, e)) (Some (p, e'))
counted (Ok k) w v p e m e' q = let z : ◌≡◌ {A = ℕ × ℕ} (k, e) (m, e') = cc in ap (λ (z : ℕ × ℕ). Some (p, z.1)) z
counted (Err Encoding) w v p e m e' q = absurd (let z : ◌≡◌ {A = ℕ} 0 1 = cc in omega arith)
counted (Err Format) w v p e m e' q = absurd (let z : ◌≡◌ {A = ℕ} 0 1 = cc in omega arith)

module _ (w : ℕ) (v : List ℕ) where
  text_field_lem : (f : Field) (p : Piece) (e : ℕ) → text_of w v f ≡ Ok (p, e) → f ≡ Some (p, e)
  text_field_lem (Some (q, e')) p e h = tested (is_utf8 (part v q)) q p e' e _ h
  text_field_lem None p e h = absurd (let z : ◌≡◌ {A = ℕ} 0 1 = cc in omega arith)

  token_field : (f : Field) (p : Piece) (e : ℕ) → token_of w v f ≡ Ok (p, e) → f ≡ Some (p, e)
  token_field (Some (q, e')) p e h = tested (is_token (part v q)) q p e' e _ h
  token_field None p e h = absurd (let z : ◌≡◌ {A = ℕ} 0 1 = cc in omega arith)

  number_field : (f : Field) (n e : ℕ) → number_of w v f ≡ Ok (n, e) → (p : Piece) × (f ≡ Some (p, e))
  number_field (Some (p, e')) n e h = (p, counted (whole_number 64 (part v p)) w v p e' n e h)
  number_field None n e h = absurd (let z : ◌≡◌ {A = ℕ} 0 1 = cc in omega arith)

  time_field : (f : Field) (n e : ℕ) → time_of w v f ≡ Ok (n, e) → (p : Piece) × (f ≡ Some (p, e))
  time_field (Some (p, e')) n e h = (p, counted (typed_time (part v p)) w v p e' n e h)
  time_field None n e h = absurd (let z : ◌≡◌ {A = ℕ} 0 1 = cc in omega arith)

  pub text-within : (f : Field) (p : Piece) (e : ℕ) → Within v f → text_of w v f ≡ Ok (p, e) → Inside v p × (e ≤ length v)
  text-within f p e h q = h p e (text_field_lem f p e q)

  pub time-within : (f : Field) (n e : ℕ) → Within v f → time_of w v f ≡ Ok (n, e) → e ≤ length v
  time-within f n e h q = let z = time_field f n e q in (h z.0 e z.1).1

-- ---- the next of the words from place i on: r is the code's answer, x the case at hand. Where it ends, the words that are left begin
later_at : (v : List ℕ) (i : ℕ) (p : Piece) (e : ℕ) → word_at v i ≡ Some (p, e) → later (words_at v i) ≡ words_at v e
later_at v i p e h = ap later (word_next v i p e h).0

module _ {A : Type 0} (w : ℕ) (v : List ℕ) (i : ℕ) where
  -- no word may be left
  module _ {f : Field} {b : Bool} (k : Read A) (q : f ≡ word_at v i) (e : b ≡ is_some f) where
    pub more_next : b ≡ true → ending w (next_word (words_at v i)) k ≡ Err (trailing w)
    unfolding split.word_at
    more_next h = by_some w k q e h

    pub end_next : b ≡ false → ending w (next_word (words_at v i)) k ≡ k
    unfolding split.word_at
    end_next h = by_none w k q e h

  module _ {r x : Read (Piece × ℕ)} (k : Piece → List Piece → Read A) where
    -- by whatever judges it
    string_next : (judge : Field → Read (Piece × ℕ)) → ((f : Field) (p : Piece) (e : ℕ) → judge f ≡ Ok (p, e) → f ≡ Some (p, e)) → r ≡ judge (word_at v i) → r ≡ x
        → after (judge (word_at v i)) (λ p e. k p (later (words_at v i))) ≡ after x (λ p e. k p (words_at v e))
    string_next judge fielded d q = go (judge (word_at v i)) refl ∙ by_after (λ p e. k p (words_at v e)) d q
      where
        go : (t : Read (Piece × ℕ)) → judge (word_at v i) ≡ t → after t (λ p e. k p (later (words_at v i))) ≡ after t (λ p e. k p (words_at v e))
        go (Ok (p, e)) h = ap (k p) (later_at v i p e (fielded (word_at v i) p e h))
        go (Err x) h = refl

    pub text_next : r ≡ text_of w v (word_at v i) → r ≡ x → next_text w v (words_at v i) k ≡ after x (λ p e. k p (words_at v e))
    unfolding next_text split.word_at
    text_next = string_next (text_of w v) (text_field_lem w v)

    pub token_next : r ≡ token_of w v (word_at v i) → r ≡ x → next_token w v (words_at v i) k ≡ after x (λ p e. k p (words_at v e))
    unfolding next_token split.word_at
    token_next = string_next (token_of w v) (token_field w v)

  module _ {r x : Read (ℕ × ℕ)} (k : ℕ → List Piece → Read A) where
    amount_next : (judge : Field → Read (ℕ × ℕ)) → ((f : Field) (n e : ℕ) → judge f ≡ Ok (n, e) → (p : Piece) × (f ≡ Some (p, e))) → r ≡ judge (word_at v i) → r ≡ x
        → after (judge (word_at v i)) (λ n e. k n (later (words_at v i))) ≡ after x (λ n e. k n (words_at v e))
    amount_next judge fielded d q = go (judge (word_at v i)) refl ∙ by_after (λ n e. k n (words_at v e)) d q
      where
        go : (t : Read (ℕ × ℕ)) → judge (word_at v i) ≡ t → after t (λ n e. k n (later (words_at v i))) ≡ after t (λ n e. k n (words_at v e))
        go (Ok (n, e)) h = let z = fielded (word_at v i) n e h in ap (k n) (later_at v i z.0 e z.1)
        go (Err x) h = refl

    pub number_next : r ≡ number_of w v (word_at v i) → r ≡ x → next_number w v (words_at v i) k ≡ after x (λ n e. k n (words_at v e))
    unfolding next_number split.word_at
    number_next = amount_next (number_of w v) (number_field w v)

    pub time_next : r ≡ time_of w v (word_at v i) → r ≡ x → next_time w v (words_at v i) k ≡ after x (λ n e. k n (words_at v e))
    unfolding next_time split.word_at
    time_next = amount_next (time_of w v) (time_field w v)
