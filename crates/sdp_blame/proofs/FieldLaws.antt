-- One field on the way to a record: where it is refused with 8, its bad byte is named, else none.
-- Assumes nothing.
use Prim.Native.Nat.{ℕ}
use native.Mathlib.Omega.{arith}
use mathlib.Core.Path.{◌≡◌, refl}
use mathlib.Core.Bool.{Bool, true, false, cond}
use mathlib.Core.List.{List}
use Rattle.sdp_bytes.specs.Token.{is_token}
use Rattle.sdp_utf8.specs.Utf8.{is_utf8}
use Rattle.sdp_utf8.proofs.TokenLaws.{token_utf8}
use Rattle.sdp_number.specs.Number.{Number, whole_number, typed_time}
use Rattle.sdp_number.specs.declared.NumberError.TheVariants.{Encoding, Format}
use Rattle.sdp_split.specs.Split.{Field, part}
use Rattle.sdp_split.specs.declared.Piece.{Piece}
use Rattle.sdp_judge.specs.Read.{Read, plain, encoding, text_of, token_of, amount_of, number_of, time_of, choice_of, and_then, after, ending}
use Rattle.sdp_lists.specs.Lists.{numbered}
use Rattle.sdp_blame.specs.Field.{FieldOf}
use Rattle.sdp_blame.specs.Blame.{Blames}
use Rattle.sdp_blame.proofs.NumberLaws.{Honest, number_honest, time_honest}
use Rattle.sdp_blame.proofs.ValueLaws.{Stands, value_end}
use Rattle.std.specs.Prelude.{Option, Some, None, Ok, Err}

-- a piece of v that is its field w behind the letter l, and where it stands
pub record Known (l : ℕ) (v : List ℕ) (w : ℕ) (p : Piece) : Type 0 where
  pub field : FieldOf v l w p
  pub stands : Stands v p

module _ (l : ℕ) (v : List ℕ) where
  pub plain_blames : (n w : ℕ) → (n ≡ 8 → ⊥) → Blames l v (plain n w)
  plain_blames n w h = record { byte = λ e. absurd (h e); none = λ e. refl }

  pub byte_blames : (w : ℕ) (p : Piece) → Known l v w p → is_utf8 (part v p) ≡ false → Blames l v (encoding w v p)
  byte_blames w p k h =
      let s = k.stands in
      record {
        byte = λ e. record { piece = p; field = k.field; inside = s.inside; at = refl; bad = h; first = value_end v p s.inside s.clean s.sealed h };
        none = λ n. absurd (n refl);
      }

  -- a refusal blames as it should
  abbrev pub Fair : {A : Type 0} → Read A → Type 0
  Fair (Ok a) = Unit {0}
  Fair (Err w) = Blames l v w

  -- a field is the field w of v
  abbrev pub Knows : ℕ → Field → Type 0
  Knows w f = (p : Piece) (e : ℕ) → f ≡ Some (p, e) → Known l v w p

  module _ {A : Type 0} where
    pub fair_cond : (b : Bool) (r s : Read A) → (b ≡ true → Fair r) → (b ≡ false → Fair s) → Fair (cond b r s)
    fair_cond true r s h k = h refl
    fair_cond false r s h k = k refl

    pub fair_then : {B : Type 0} (r : Read B) → Fair r → (k : B → Read A) → ((b : B) → Fair (k b)) → Fair (and_then r k)
    fair_then (Ok b) g k h = h b
    fair_then (Err x) g k h = g

    pub fair_end : (w : ℕ) (f : Field) (r : Read A) → Fair r → Fair (ending w f r)
    fair_end w (Some (p, e)) r h = plain_blames 11 w (λ e. omega arith)
    fair_end w None r h = h

    pub fair_text : (w : ℕ) (f : Field) → Knows w f → (k : Piece → ℕ → Read A) → ((p : Piece) (e : ℕ) → f ≡ Some (p, e) → is_utf8 (part v p) ≡ true → Fair (k p e)) → Fair (after (text_of w v f) k)
    fair_text w None g k h = plain_blames 10 w (λ e. omega arith)
    fair_text w (Some (p, e)) g k h = go (is_utf8 (part v p)) refl
      where
        go : (b : Bool) → is_utf8 (part v p) ≡ b → Fair (after (cond b (Ok (p, e)) (Err (encoding w v p))) k)
        go true q = h p e refl q
        go false q = byte_blames w p (g p e refl) q

    pub fair_token : (w : ℕ) (f : Field) (k : Piece → ℕ → Read A) → ((p : Piece) (e : ℕ) → f ≡ Some (p, e) → is_utf8 (part v p) ≡ true → Fair (k p e)) → Fair (after (token_of w v f) k)
    fair_token w None k h = plain_blames 10 w (λ e. omega arith)
    fair_token w (Some (p, e)) k h = go (is_token (part v p)) refl
      where
        go : (b : Bool) → is_token (part v p) ≡ b → Fair (after (cond b (Ok (p, e)) (Err (plain 9 w))) k)
        go true q = h p e refl (token_utf8 (part v p) q)
        go false q = plain_blames 9 w (λ e. omega arith)

    pub fair_choice : (w : ℕ) (f : Field) → Knows w f → (k : Option Piece → Read A) → ((m : Option Piece) → Fair (k m)) → Fair (and_then (choice_of w v f) k)
    fair_choice w None g k h = h None
    fair_choice w (Some (p, e)) g k h = go (is_utf8 (part v p)) refl
      where
        go : (b : Bool) → is_utf8 (part v p) ≡ b → Fair (and_then (cond b (Ok (Some p)) (Err (encoding w v p))) k)
        go true q = h (Some p)
        go false q = byte_blames w p (g p e refl) q

    -- a number that a rule reads in the field p
    fair_amount : (rule : List ℕ → Number) → Honest rule → (w : ℕ) (p : Piece) (e : ℕ) → Known l v w p → (k : ℕ → ℕ → Read A) → ((n : ℕ) → is_utf8 (part v p) ≡ true → Fair (k n e)) → Fair (after (amount_of w v p e (rule (part v p))) k)
    fair_amount rule honest w p e g k h = go (rule (part v p)) refl
      where
        go : (x : Number) → rule (part v p) ≡ x → Fair (after (amount_of w v p e x) k)
        go (Ok n) q = h n (honest.good (part v p) n q)
        go (Err Encoding) q = byte_blames w p g (honest.bad (part v p) q)
        go (Err Format) q = plain_blames 9 w (λ e. omega arith)

    pub fair_number : (w : ℕ) (f : Field) → Knows w f → (k : ℕ → ℕ → Read A) → ((n e : ℕ) (p : Piece) → f ≡ Some (p, e) → is_utf8 (part v p) ≡ true → Fair (k n e)) → Fair (after (number_of w v f) k)
    fair_number w None g k h = plain_blames 10 w (λ e. omega arith)
    fair_number w (Some (p, e)) g k h = fair_amount (whole_number 64) (number_honest 64) w p e (g p e refl) k (λ n. h n e p refl)

    pub fair_time : (w : ℕ) (f : Field) → Knows w f → (k : ℕ → ℕ → Read A) → ((n e : ℕ) (p : Piece) → f ≡ Some (p, e) → is_utf8 (part v p) ≡ true → Fair (k n e)) → Fair (after (time_of w v f) k)
    fair_time w None g k h = plain_blames 10 w (λ e. omega arith)
    fair_time w (Some (p, e)) g k h = fair_amount typed_time time_honest w p e (g p e refl) k (λ n. h n e p refl)

    -- the same of a word of a list
    pub fair_numbered : (rule : List ℕ → Number) → Honest rule → (w : ℕ) (p : Piece) → Known l v w p → (k : ℕ → Read A) → ((n : ℕ) → is_utf8 (part v p) ≡ true → Fair (k n))
        → Fair (and_then (numbered w v p (rule (part v p))) k)
    fair_numbered rule honest w p g k h = go (rule (part v p)) refl
      where
        go : (x : Number) → rule (part v p) ≡ x → Fair (and_then (numbered w v p x) k)
        go (Ok n) q = h n (honest.good (part v p) n q)
        go (Err Encoding) q = byte_blames w p g (honest.bad (part v p) q)
        go (Err Format) q = plain_blames 9 w (λ e. omega arith)
