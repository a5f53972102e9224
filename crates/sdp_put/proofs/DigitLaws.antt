-- Laws of digits. Assumes nothing.
use mathlib.Core.Path.{◌≡◌, refl, sym, ap, ◌∙◌}
use mathlib.Core.Bool.{Bool, true, false, cond, not}
use mathlib.Core.List.{List, [], ◌∷◌, ◌++◌, append_assoc}
use Prim.Native.Nat.{ℕ, zero, suc, ◌+◌, ◌/◌, ◌%◌, ◌≤◌, ◌<◌}
use native.Mathlib.Omega.{arith}
use lib.Dec.{ltb, eqb}
use borrow.Author.Tests.{lt-ltb, le-ltb, ltb-true, ltb-false, eq-eqb, ne_eqb, eqb-true, eqb-false}
use Rattle.sdp_put.specs.Digits.{digits_in, digits, four_digits, time_text, offset_text}
use Rattle.sdp_put.specs.Strings.{dropped}
use Rattle.sdp_put.proofs.ByteLaws.{every, every_append, bare}

-- more steps than the number change nothing
steps : (n m v : ℕ) → v ≤ n → v ≤ m → digits_in n v ≡ digits_in m v
unfolding digits_in
steps zero zero v p q = refl
steps zero (suc m) v p q = let z : v ≡ 0 = omega arith in rw z
steps (suc n) zero v p q = let z : v ≡ 0 = omega arith in rw z
steps (suc n) (suc m) v p q = go (ltb v 10) refl (λ h. steps n m (v / 10) (omega arith) (omega arith))
  where
    go : (b : Bool) → ltb v 10 ≡ b → (10 ≤ v → digits_in n (v / 10) ≡ digits_in m (v / 10)) → cond b ((0x30 + v) ∷ []) (digits_in n (v / 10) ++ ((0x30 + v % 10) ∷ [])) ≡ cond b ((0x30 + v) ∷ []) (digits_in m (v / 10) ++ ((0x30 + v % 10) ∷ []))
    go true e ih = refl
    go false e ih = ap (λ (l : List ℕ). l ++ ((0x30 + v % 10) ∷ [])) (ih (ltb-false v 10 e))

-- the plain rule
pub digits-one : (v : ℕ) → v < 10 → digits v ≡ (0x30 + v) ∷ []
unfolding digits digits_in
digits-one zero h = refl
digits-one (suc n) h = rw (lt-ltb (suc n) 10 h)

pub digits_more : (v : ℕ) → 10 ≤ v → digits v ≡ digits (v / 10) ++ ((0x30 + v % 10) ∷ [])
unfolding digits digits_in
digits_more zero h = absurd (omega arith)
digits_more (suc n) h =
    rw (le-ltb (suc n) 10 h) (ap (λ (l : List ℕ). l ++ ((0x30 + suc n % 10) ∷ [])) (steps n (suc n / 10) (suc n / 10) (omega arith) (omega arith)))

-- ---- up to four digits
one-digit : (v : ℕ) → v < 10 → digits v ≡ (0x30 + v % 10) ∷ []
one-digit v h = digits-one v h ∙ ap (λ (d : ℕ). (0x30 + d) ∷ []) (let e : v ≡ v % 10 = omega arith in e)

-- one digit more behind those of v / 10
behind : (v : ℕ) (p ds : List ℕ) → 10 ≤ v → digits (v / 10) ≡ p ++ ds → digits v ≡ p ++ (ds ++ ((0x30 + v % 10) ∷ []))
behind v p ds h e =
    digits_more v h ∙ ap (λ (l : List ℕ). l ++ ((0x30 + v % 10) ∷ [])) e ∙ append_assoc p ds ((0x30 + v % 10) ∷ [])

tenth : (v : ℕ) → v / 10 / 10 ≡ v / 100
tenth v = omega arith

hundredth : (v : ℕ) → v / 10 / 100 ≡ v / 1000
hundredth v = omega arith

two_digits : (v : ℕ) → 10 ≤ v → v < 100 → digits v ≡ (0x30 + v / 10 % 10) ∷ (0x30 + v % 10) ∷ []
two_digits v h l = behind v [] _ h (one-digit (v / 10) (omega arith))

three-digits : (v : ℕ) → 100 ≤ v → v < 1000 → digits v ≡ (0x30 + v / 100 % 10) ∷ (0x30 + v / 10 % 10) ∷ (0x30 + v % 10) ∷ []
three-digits v h l =
    behind v [] _ (omega arith) (rw (tenth v) at (two_digits (v / 10) (omega arith) (omega arith)))

pub four_digits_lem : (v : ℕ) → 1000 ≤ v → v < 10000 → digits v ≡ four_digits v
four_digits_lem v h l =
    behind v [] _ (omega arith) (rw (hundredth v, tenth v) at (three-digits (v / 10) (omega arith) (omega arith)))

pub one_is : (v a : ℕ) → v < 10 → a ≡ 0x30 + v % 10 → a ∷ [] ≡ digits v
one_is v a h e = rw e (sym (one-digit v h))

pub two_are : (v a b : ℕ) → 10 ≤ v → v < 100 → a ≡ 0x30 + v / 10 % 10 → b ≡ 0x30 + v % 10 → a ∷ b ∷ [] ≡ digits v
two_are v a b h l e f = rw (e, f) (sym (two_digits v h l))

pub three_are : (v a b c : ℕ) → 100 ≤ v → v < 1000 → a ≡ 0x30 + v / 100 % 10 → b ≡ 0x30 + v / 10 % 10 → c ≡ 0x30 + v % 10 → a ∷ b ∷ c ∷ [] ≡ digits v
three_are v a b c h l e f g = rw (e, f, g) (sym (three-digits v h l))

pub four_are : (v a b c d : ℕ) → a ≡ 0x30 + v / 1000 % 10 → b ≡ 0x30 + v / 100 % 10 → c ≡ 0x30 + v / 10 % 10 → d ≡ 0x30 + v % 10
    → a ∷ b ∷ c ∷ d ∷ [] ≡ four_digits v
four_are v a b c d e f g h = rw (e, f, g, h)

-- ---- four digits at once
four_last : (v : ℕ) → four_digits (v % 10000) ≡ four_digits v
four_last v =
    four_are v _ _ _ _ (let e : 0x30 + v % 10000 / 1000 % 10 ≡ 0x30 + v / 1000 % 10 = omega arith in e)
    (let e : 0x30 + v % 10000 / 100 % 10 ≡ 0x30 + v / 100 % 10 = omega arith in e)
    (let e : 0x30 + v % 10000 / 10 % 10 ≡ 0x30 + v / 10 % 10 = omega arith in e)
    (let e : 0x30 + v % 10000 % 10 ≡ 0x30 + v % 10 = omega arith in e)

pub digits_four : (v : ℕ) → 10000 ≤ v → digits (v / 10000) ++ four_digits (v % 10000) ≡ digits v
digits_four v h =
    let a : v / 1000 / 10 ≡ v / 10000 = omega arith in
    let b : v / 100 / 10 ≡ v / 1000 = omega arith in
    let p = digits (v / 10000) in
    let e = rw a at (digits_more (v / 1000) (omega arith)) in
    let f = behind (v / 100) p _ (omega arith) (ap digits b ∙ e) in
    let g = behind (v / 10) p _ (omega arith) (ap digits (tenth v) ∙ f) in
    ap (λ (l : List ℕ). p ++ l) (four_last v) ∙ sym (behind v p _ (omega arith) g)

-- ---- times
module _ (t : ℕ) where
  pub time_zero : t ≡ 0 → time_text t ≡ digits t
  unfolding time_text
  time_zero e = rw (eq-eqb t 0 e)

  module _ (z : t ≡ 0 → ⊥) where
    pub time_day : t % 86400 ≡ 0 → time_text t ≡ digits (t / 86400) ++ (0x64 ∷ [])
    unfolding time_text
    time_day e = rw (ne_eqb t 0 z, eq-eqb (t % 86400) 0 e)

    module _ (d : t % 86400 ≡ 0 → ⊥) where
      pub time_hour : t % 3600 ≡ 0 → time_text t ≡ digits (t / 3600) ++ (0x68 ∷ [])
      unfolding time_text
      time_hour e = rw (ne_eqb t 0 z, ne_eqb (t % 86400) 0 d, eq-eqb (t % 3600) 0 e)

      module _ (h : t % 3600 ≡ 0 → ⊥) where
        pub time_minute : t % 60 ≡ 0 → time_text t ≡ digits (t / 60) ++ (0x6d ∷ [])
        unfolding time_text
        time_minute e = rw (ne_eqb t 0 z, ne_eqb (t % 86400) 0 d, ne_eqb (t % 3600) 0 h, eq-eqb (t % 60) 0 e)

        pub time-plain : (t % 60 ≡ 0 → ⊥) → time_text t ≡ digits t
        unfolding time_text
        time-plain e = rw (ne_eqb t 0 z, ne_eqb (t % 86400) 0 d, ne_eqb (t % 3600) 0 h, ne_eqb (t % 60) 0 e)

pub offset-minus : (n : Bool) (t : ℕ) → n ≡ true → offset_text n t ≡ (0x2d ∷ []) ++ time_text t
unfolding offset_text
offset-minus n t e = rw e

pub offset-plain : (n : Bool) (t : ℕ) → n ≡ false → offset_text n t ≡ time_text t
unfolding offset_text
offset-plain n t e = rw e

-- what holds of a time's text, where it holds of each of its forms: by zero, whole days, hours, minutes, and else
module _ (P : List ℕ → Type 0) (v : ℕ) where
  pub time_form : (v ≡ 0 → P (digits v))
      → ((v ≡ 0 → ⊥) → v % 86400 ≡ 0 → P (digits (v / 86400) ++ (0x64 ∷ [])))
      → ((v % 86400 ≡ 0 → ⊥) → v % 3600 ≡ 0 → P (digits (v / 3600) ++ (0x68 ∷ [])))
      → ((v % 3600 ≡ 0 → ⊥) → v % 60 ≡ 0 → P (digits (v / 60) ++ (0x6d ∷ [])))
      → ((v % 60 ≡ 0 → ⊥) → P (digits v))
      → P (time_text v)
  time_form z d h m p = go (eqb v 0) (eqb (v % 86400) 0) (eqb (v % 3600) 0) (eqb (v % 60) 0) refl refl refl refl
    where
      go : (a b c e : Bool) → eqb v 0 ≡ a → eqb (v % 86400) 0 ≡ b → eqb (v % 3600) 0 ≡ c → eqb (v % 60) 0 ≡ e → P (time_text v)
      go true b c e q r s t = rw (time_zero v (eqb-true v 0 q)) (z (eqb-true v 0 q))
      go false true c e q r s t = rw (time_day v (eqb-false v 0 q) (eqb-true _ 0 r)) (d (eqb-false v 0 q) (eqb-true _ 0 r))
      go false false true e q r s t = rw (time_hour v (eqb-false v 0 q) (eqb-false _ 0 r) (eqb-true _ 0 s)) (h (eqb-false _ 0 r) (eqb-true _ 0 s))
      go false false false true q r s t = rw (time_minute v (eqb-false v 0 q) (eqb-false _ 0 r) (eqb-false _ 0 s) (eqb-true _ 0 t)) (m (eqb-false _ 0 s) (eqb-true _ 0 t))
      go false false false false q r s t = rw (time-plain v (eqb-false v 0 q) (eqb-false _ 0 r) (eqb-false _ 0 s) (eqb-false _ 0 t)) (p (eqb-false _ 0 t))

-- and of an offset's text, where it holds of a time's text and of one behind a minus sign
pub offset_form : (P : List ℕ → Type 0) → ((t : ℕ) → P (time_text t)) → ((t : ℕ) → P (0x2d ∷ time_text t)) → (negative : Bool) (t : ℕ) → P (offset_text negative t)
unfolding offset_text
offset_form P f g true t = g t
offset_form P f g false t = f t

-- ---- tests that digits pass, and digits and units
module _ (p : ℕ → Bool) (h : (b : ℕ) → 0x30 ≤ b → b ≤ 0x39 → p b ≡ true) where
  digits_in_pass : (n v : ℕ) → every p (digits_in n v) ≡ true
  unfolding digits_in every
  digits_in_pass zero v = rw (h (0x30 + v % 10) (omega arith) (omega arith))
  digits_in_pass (suc n) v = go (ltb v 10) refl (digits_in_pass n (v / 10))
    where
      go : (b : Bool) → ltb v 10 ≡ b → every p (digits_in n (v / 10)) ≡ true → every p (cond b ((0x30 + v) ∷ []) (digits_in n (v / 10) ++ ((0x30 + v % 10) ∷ []))) ≡ true
      go true e i = rw (h (0x30 + v) (omega arith) (omega (arith, ltb-true v 10 e)))
      go false e i = every_append p (digits_in n (v / 10)) _ i (rw (h (0x30 + v % 10) (omega arith) (omega arith)))

  pub digits_pass : (v : ℕ) → every p (digits v) ≡ true
  unfolding digits
  digits_pass v = digits_in_pass v v

pub time_pass : (p : ℕ → Bool) → ((b : ℕ) → 0x30 ≤ b → b ≤ 0x39 → p b ≡ true) → p 0x64 ≡ true → p 0x68 ≡ true → p 0x6d ≡ true → (v : ℕ) → every p (time_text v) ≡ true
unfolding every
time_pass p h d k m v =
    time_form (λ s. every p s ≡ true) v (λ e. digits_pass p h v) (λ z e. more (v / 86400) 0x64 d) (λ z e. more (v / 3600) 0x68 k) (λ z e. more (v / 60) 0x6d m) (λ z. digits_pass p h v)
  where
    more : (n x : ℕ) → p x ≡ true → every p (digits n ++ (x ∷ [])) ≡ true
    more n x q = every_append p (digits n) (x ∷ []) (digits_pass p h n) (rw q)

digit_bare : (b : ℕ) → 0x30 ≤ b → b ≤ 0x39 → not (dropped b) ≡ true
digit_bare b l g = rw (ne_eqb b 0 (λ e. omega arith), ne_eqb b 13 (λ e. omega arith), ne_eqb b 10 (λ e. omega arith))

pub digits_bare : (v : ℕ) → bare (digits v) ≡ true
digits_bare v = digits_pass (λ b. not (dropped b)) digit_bare v

pub time_bare : (v : ℕ) → bare (time_text v) ≡ true
time_bare v = time_pass (λ b. not (dropped b)) digit_bare refl refl refl v
