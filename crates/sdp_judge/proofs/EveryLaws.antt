-- What holds of every record that is read: each field on the way to it, and what follows.
-- Assumes nothing.
use Prim.Native.Nat.{ℕ}
use native.Mathlib.Omega.{arith}
use mathlib.Core.Path.{◌≡◌, refl}
use mathlib.Core.Bool.{Bool, true, false, cond}
use mathlib.Core.List.{List}
use Rattle.sdp_utf8.specs.Utf8.{is_utf8}
use Rattle.sdp_bytes.specs.Token.{is_token}
use Rattle.sdp_split.specs.Split.{Field, part, Inside}
use Rattle.sdp_judge.specs.Read.{Read, encoding, format, and_then, text_of, token_of, choice_of, after, ending, whole_of}
use Rattle.sdp_split.specs.declared.Piece.{Piece}
use Rattle.sdp_judge.specs.declared.Wrong.{Wrong}
use Rattle.std.specs.Prelude.{Option, Some, None, Ok, Err}

abbrev pub Every : {A : Type 0} → (A → Type 0) → Read A → Type 0
Every {A} P r = (a : A) → r ≡ Ok a → P a

module _ {A : Type 0} (P : A → Type 0) where
  pub every_got : (a : A) → P a → Every P (Ok a)
  every_got a h b q = let z : a ≡ b = cc in rw z at h

  pub never : (x : Wrong) → Every P (Err x)
  never x b q = absurd (let z : ◌≡◌ {A = ℕ} 0 1 = cc in omega arith)

  pub every_cond : (b : Bool) (r s : Read A) → Every P r → Every P s → Every P (cond b r s)
  every_cond true r s h k = h
  every_cond false r s h k = k

  pub every_then : {B : Type 0} (Q : B → Type 0) (r : Read B) (k : B → Read A) → Every Q r → ((b : B) → Q b → Every P (k b)) → Every P (and_then r k)
  every_then Q (Ok b) k q h = h b (q b refl)
  every_then Q (Err x) k q h = never x

  -- a part that may be absent, and is there
  pub every_some : {B : Type 0} (r : Read B) (k : Option B → Read A) → Every P (and_then r (λ b. k (Some b))) → Every P (and_then (and_then r (λ b. Ok (Some b))) k)
  every_some (Ok b) k h = h
  every_some (Err x) k h = h

  pub every_amount : (t : Read (ℕ × ℕ)) (k : ℕ → ℕ → Read A) → ((n e : ℕ) → t ≡ Ok (n, e) → Every P (k n e)) → Every P (after t k)
  every_amount (Ok (n, e)) k h = h n e refl
  every_amount (Err x) k h = never x

  pub every_end : (w : ℕ) (f : Field) (r : Read A) → Every P r → Every P (ending w f r)
  every_end w (Some (p, e)) r h = never _
  every_end w None r h = h

  -- after a field f of the value v
  module _ (w : ℕ) (v : List ℕ) where
    module _ (k : Piece → ℕ → Read A) where
      tested : (b : Bool) (p : Piece) (e : ℕ) (x : Wrong) → Every P (k p e) → Every P (after (cond b (Ok (p, e)) (Err x)) k)
      tested true p e x h = h
      tested false p e x h = never x

      pub every_text : (f : Field) → ((p : Piece) (e : ℕ) → f ≡ Some (p, e) → Every P (k p e)) → Every P (after (text_of w v f) k)
      every_text (Some (p, e)) h = tested (is_utf8 (part v p)) p e (encoding w v p) (h p e refl)
      every_text None h = never _

      pub every_token : (f : Field) → ((p : Piece) (e : ℕ) → f ≡ Some (p, e) → Every P (k p e)) → Every P (after (token_of w v f) k)
      every_token (Some (p, e)) h = tested (is_token (part v p)) p e (format w) (h p e refl)
      every_token None h = never _

    pub every_choice : (k : Option Piece → Read A) (f : Field) → ((p : Piece) (e : ℕ) → f ≡ Some (p, e) → Every P (k (Some p))) → Every P (k None)
        → Every P (and_then (choice_of w v f) k)
    every_choice k None h g = g
    every_choice k (Some (p, e)) h g = go (is_utf8 (part v p)) (h p e refl)
      where
        go : (b : Bool) → Every P (k (Some p)) → Every P (and_then (cond b (Ok (Some p)) (Err (encoding w v p))) k)
        go true h = h
        go false h = never _

pub whole-within : (w : ℕ) (v : List ℕ) (p : Piece) → whole_of w v ≡ Ok p → Inside v p
unfolding whole_of
whole-within w v = every_cond _ (is_utf8 v) _ _ (every_got _ _ (omega arith)) (never _ _)
