-- Reading a value field by field, seen as reading the list of its words, or its cuts: places are left out, and so are refusals. Assumes nothing.
use mathlib.Core.Path.{◌≡◌, refl, ap, ◌∙◌}
use mathlib.Core.Bool.{Bool, true, false, cond}
use mathlib.Core.List.{List, [], ◌∷◌, map}
use Rattle.std.specs.Prelude.{Option, Some, None, option_map, Ok, Err}
use Prim.Native.Nat.{ℕ, ◌+◌, ◌-◌}
use native.Mathlib.Omega.{arith}
use lib.ListN.{length, take, drop, length-drop}
use lib.Seq.{drop-drop, take_all}
use lib.Dec.{ltb}
use borrow.Author.Tests.{lt-ltb, le-ltb, ltb-true, ltb-false}
use Rattle.sdp_bytes.specs.Runs.{index_of}
use Rattle.sdp_bytes.specs.Token.{is_token}
use Rattle.sdp_utf8.specs.Utf8.{is_utf8}
use Rattle.sdp_number.specs.Number.{Number, whole_number}
use Rattle.sdp_number.specs.declared.NumberError.TheVariants.{Encoding, Format}
use Rattle.sdp_split.specs.Split as split
use Rattle.sdp_split.specs.Split.{Field, part, next_word, later, first_piece, piece_after, rest_after}
use Rattle.sdp_split.specs.declared.Piece.{Piece}
use Rattle.sdp_judge.specs.Read.{Read, plain, encoding, format, missing, text_of, token_of, amount_of, number_of, choice_of, and_then, after, ending}
use Rattle.sdp_judge.specs.declared.Wrong.{Wrong}
use Rattle.sdp_media_line.specs.MediaLine as media
use Rattle.sdp_media_line.specs.MediaLine.{ports_of, port_field}
use Rattle.sdp_media_line.specs.declared.Port.{Port}
use Rattle.sdp_step.specs.Step.{maybe_in}
use Rattle.sdp_same.specs.Fits.{Each}
use Rattle.sdp_put.proofs.ByteLaws.{bare}
use Rattle.sdp_back.proofs.WordLaws.{Word, behind, cut}

-- nothing was read; which refusal it was, with its place, is left out
abbrev pub lost : {A : Type 0} → Read A
lost = Err (plain 0 0)

-- what was read, as f says it
abbrev pub map_read : {A B : Type 0} → (A → B) → Read A → Read B
map_read f (Ok a) = Ok (f a)
map_read f (Err w) = lost

-- a value v without NUL, CR and LF that read says to be x
pub record Backs {A X : Type 0} (read : List ℕ → Read A) (mk : List ℕ → A → X) (v : List ℕ) (x : X) : Type 0 where
  pub says : map_read (mk v) (read v) ≡ Ok x
  pub bare : bare v ≡ true

-- a field's bytes, and what place says of its end
abbrev seen : {R : Type 0} → List ℕ → (ℕ → R) → Field → Option (List ℕ × R)
seen v place (Some (p, e)) = Some (part v p, place e)
seen v place None = None

-- a field that must be there
abbrev pub on_seen : {R B : Type 0} → Option (List ℕ × R) → (List ℕ → R → Read B) → Read B
on_seen None k = lost
on_seen (Some x) k = k x.0 x.1

-- and one that must not
abbrev pub unseen : {X B : Type 0} → Option X → Read B → Read B
unseen None r = r
unseen (Some x) r = lost

-- ---- one field judged
abbrev pub tested : (List ℕ → Bool) → List ℕ → Read (List ℕ)
tested test s = cond (test s) (Ok s) lost

abbrev pub text_in : List ℕ → Read (List ℕ)
text_in s = tested is_utf8 s

abbrev pub token_in : List ℕ → Read (List ℕ)
token_in s = tested is_token s

abbrev pub amount_in : Number → Read ℕ
amount_in (Ok n) = Ok n
amount_in (Err Encoding) = lost
amount_in (Err Format) = lost

abbrev pub port_in : List ℕ → Read Port
port_in s = cond (is_utf8 s) (map_read (λ p. p) (ports_of s)) lost

-- a string that may be absent
abbrev pub choice_in : Option (List ℕ) → Read (Option (List ℕ))
choice_in None = Ok None
choice_in (Some s) = map_read Some (text_in s)

module _ {A B R : Type 0} (f : A → B) (w : ℕ) (v : List ℕ) (place : ℕ → R) (F : Field) (X : Option (List ℕ × R)) (q : seen v place F ≡ X) where
  -- a string that passes a test
  module _ (k : Piece → ℕ → Read A) (k' : List ℕ → R → Read B) (h : (p : Piece) (e : ℕ) → F ≡ Some (p, e) → map_read f (k p e) ≡ k' (part v p) (place e)) where
    see_string : (test : List ℕ → Bool) (x : Piece → Wrong) (judge : Field → Read (Piece × ℕ)) → ((p : Piece) (e : ℕ) → judge (Some (p, e)) ≡ cond (test (part v p)) (Ok (p, e)) (Err (x p))) → judge None ≡ Err (missing w)
        → map_read f (after (judge F) k) ≡ on_seen X (λ s r. and_then (tested test s) (λ a. k' a r))
    see_string test x judge here gone = go F refl ∙ ap (λ y. on_seen y (λ s r. and_then (tested test s) (λ a. k' a r))) q
      where
        pick : (b : Bool) (p : Piece) (e : ℕ) → F ≡ Some (p, e) → map_read f (after (cond b (Ok (p, e)) (Err (x p))) k) ≡ and_then (cond b (Ok (part v p)) lost) (λ s. k' s (place e))
        pick true p e z = h p e z
        pick false p e z = refl

        go : (G : Field) → F ≡ G → map_read f (after (judge G) k) ≡ on_seen (seen v place G) (λ s r. and_then (tested test s) (λ a. k' a r))
        go (Some (p, e)) z = rw (here p e) (pick (test (part v p)) p e z)
        go None z = rw gone

    pub see_text : map_read f (after (text_of w v F) k) ≡ on_seen X (λ s r. and_then (text_in s) (λ a. k' a r))
    see_text = see_string is_utf8 (encoding w v) (text_of w v) (λ p e. refl) refl

    pub see_token : map_read f (after (token_of w v F) k) ≡ on_seen X (λ s r. and_then (token_in s) (λ a. k' a r))
    see_token = see_string is_token (λ p. format w) (token_of w v) (λ p e. refl) refl

  pub see_number : (k : ℕ → ℕ → Read A) (k' : ℕ → R → Read B) → ((n e : ℕ) → map_read f (k n e) ≡ k' n (place e))
      → map_read f (after (number_of w v F) k) ≡ on_seen X (λ s r. and_then (amount_in (whole_number 64 s)) (λ n. k' n r))
  see_number k k' h = go F ∙ ap (λ y. on_seen y (λ s r. and_then (amount_in (whole_number 64 s)) (λ n. k' n r))) q
    where
      pick : (p : Piece) (e : ℕ) (n : Number) → map_read f (after (amount_of w v p e n) k) ≡ and_then (amount_in n) (λ m. k' m (place e))
      pick p e (Ok n) = h n e
      pick p e (Err Encoding) = refl
      pick p e (Err Format) = refl

      go : (G : Field) → map_read f (after (number_of w v G) k) ≡ on_seen (seen v place G) (λ s r. and_then (amount_in (whole_number 64 s)) (λ n. k' n r))
      go (Some (p, e)) = pick p e (whole_number 64 (part v p))
      go None = refl

  pub see_port : (k : Port → ℕ → Read A) (k' : Port → R → Read B) → ((p : Port) (e : ℕ) → map_read f (k p e) ≡ k' p (place e))
      → map_read f (after (port_field v F) k) ≡ on_seen X (λ s r. and_then (port_in s) (λ p. k' p r))
  unfolding media.port_of
  see_port k k' h = go F ∙ ap (λ x. on_seen x (λ s r. and_then (port_in s) (λ p. k' p r))) q
    where
      port : (e : ℕ) (r : Read Port) → map_read f (after (and_then r (λ p. Ok (p, e))) k) ≡ and_then (map_read (λ p. p) r) (λ p. k' p (place e))
      port e (Ok p) = h p e
      port e (Err x) = refl

      pick : (b : Bool) (x : Wrong) (e : ℕ) (r : Read Port) → map_read f (after (and_then (cond b r (Err x)) (λ p. Ok (p, e))) k) ≡ and_then (cond b (map_read (λ p. p) r) lost) (λ p. k' p (place e))
      pick true x e r = port e r
      pick false x e r = refl

      go : (F : Field) → map_read f (after (port_field v F) k) ≡ on_seen (seen v place F) (λ s r. and_then (port_in s) (λ p. k' p r))
      go (Some (p, e)) = pick (is_utf8 (part v p)) (encoding 29 v p) e (ports_of (part v p))
      go None = refl

  pub see_end : (r : Read A) → map_read f (ending w F r) ≡ unseen X (map_read f r)
  see_end r = go F ∙ ap (λ x. unseen x (map_read f r)) q
    where
      go : (F : Field) → map_read f (ending w F r) ≡ unseen (seen v place F) (map_read f r)
      go (Some (p, e)) = refl
      go None = refl

-- the first of the words, and the others
abbrev pub first : List (List ℕ) → Option (List ℕ × List (List ℕ))
first [] = None
first (x ∷ xs) = Some (x, xs)

-- ---- what holds of what is read
abbrev pub Gives : {A : Type 0} → (A → Type 0) → Read A → Type 0
Gives P (Ok a) = P a
Gives P (Err w) = Unit {0}

module _ {A : Type 0} (P : A → Type 0) where
  pub gives_got : (r : Read A) (a : A) → r ≡ Ok a → Gives P r → P a
  gives_got r a e g = rw e at g

  pub gives_then : {B : Type 0} (Q : B → Type 0) (r : Read B) (k : B → Read A) → Gives Q r → ((b : B) → Q b → Gives P (k b)) → Gives P (and_then r k)
  gives_then Q (Ok b) k g h = h b g
  gives_then Q (Err w) k g h = tt

  pub gives_test : (test : List ℕ → Bool) (s : List ℕ) (k : List ℕ → Read A) → (test s ≡ true → Gives P (k s)) → Gives P (and_then (tested test s) k)
  gives_test test s k h = go (test s) refl
    where
      go : (b : Bool) → test s ≡ b → Gives P (and_then (cond b (Ok s) lost) k)
      go true e = h e
      go false e = tt

  pub gives_number : (x : Number) (k : ℕ → Read A) → ((n : ℕ) → x ≡ Ok n → Gives P (k n)) → Gives P (and_then (amount_in x) k)
  gives_number (Ok n) k h = h n refl
  gives_number (Err Encoding) k h = tt
  gives_number (Err Format) k h = tt

  pub gives_unseen : {X : Type 0} (o : Option X) (r : Read A) → Gives P r → Gives P (unseen o r)
  gives_unseen None r g = g
  gives_unseen (Some x) r g = tt

  pub gives_word : (ws : List (List ℕ)) (k : List ℕ → List (List ℕ) → Read A) → Each Word ws → ((x : List ℕ) (xs : List (List ℕ)) → Word x → Each Word xs → Gives P (k x xs))
      → Gives P (on_seen (first ws) k)
  gives_word [] k e h = tt
  gives_word (x ∷ xs) k e h = h x xs e.0 e.1

-- ---- where the fields stand
-- the next of the words ws, and the bytes of the others
pub see_next : (v : List ℕ) (ws : List Piece) → seen v (λ e. map (part v) (later ws)) (next_word ws) ≡ first (map (part v) ws)
see_next v [] = refl
see_next v (p ∷ ws) = refl

-- all that is left, as one field
abbrev pub alone : List ℕ → List ℕ × Unit {0}
alone r = (r, tt)

module _ (v : List ℕ) where
  behind-drop : (i j : ℕ) → behind v (i + j) ≡ behind (drop i v) j
  behind-drop i j = go (ltb (i + j) (length v)) refl
    where
      go : (b : Bool) → ltb (i + j) (length v) ≡ b → cond b (Some (drop (i + j + 1) v)) None ≡ behind (drop i v) j
      go true e =
          let l : ltb j (length (drop i v)) ≡ true = lt-ltb j (length (drop i v)) (omega (arith, length-drop i v, ltb-true (i + j) (length v) e)) in
          let d : drop (j + 1) (drop i v) ≡ drop (i + j + 1) v = drop-drop (j + 1) i v ∙ ap (λ (n : ℕ). drop n v) (let z : i + (j + 1) ≡ i + j + 1 = omega arith in z) in
          rw (l, d)
      go false e =
          let l : ltb j (length (drop i v)) ≡ false = le-ltb j (length (drop i v)) (omega (arith, length-drop i v, ltb-false (i + j) (length v) e)) in
          rw l

  pub see_first : (sep : ℕ) → seen v (behind v) (first_piece sep v) ≡ Some (cut sep v)
  unfolding cut split.first_piece
  see_first sep = ap (λ (n : ℕ). Some (take (index_of sep v) v, behind v n)) (let z : 0 + index_of sep v ≡ index_of sep v = omega arith in z)

  pub see_after : (sep e : ℕ) → seen v (behind v) (piece_after sep v e) ≡ option_map (cut sep) (behind v e)
  unfolding cut split.piece_after
  see_after sep e = go (ltb e (length v))
    where
      go : (b : Bool) → seen v (behind v) (cond b (split.piece_from sep v (e + 1)) None) ≡ option_map (cut sep) (cond b (Some (drop (e + 1) v)) None)
      go true = ap (λ o. Some (take (index_of sep (drop (e + 1) v)) (drop (e + 1) v), o)) (behind-drop (e + 1) (index_of sep (drop (e + 1) v)))
      go false = refl

  rest_part : (e : ℕ) → take (length v - (e + 1)) (drop (e + 1) v) ≡ drop (e + 1) v
  rest_part e = take_all (length v - (e + 1)) (drop (e + 1) v) (omega (arith, length-drop (e + 1) v))

  pub see_rest : (e : ℕ) → seen v (λ i. tt) (rest_after v e) ≡ option_map alone (behind v e)
  unfolding split.rest_after
  see_rest e = go (ltb e (length v))
    where
      go : (b : Bool) → seen v (λ i. tt) (cond b (Some (record { at = e + 1; len = length v - (e + 1) }, length v)) None) ≡ option_map alone (cond b (Some (drop (e + 1) v)) None)
      go true = ap (λ r. Some (alone r)) (rest_part e)
      go false = refl

  pub see_choice : {A B : Type 0} (f : A → B) (w e : ℕ) (k : Option Piece → Read A) (k' : Option (List ℕ) → Read B) → ((m : Option Piece) → map_read f (k m) ≡ k' (maybe_in (part v) m))
      → map_read f (and_then (choice_of w v (rest_after v e)) k) ≡ and_then (choice_in (behind v e)) k'
  unfolding split.rest_after
  see_choice f w e k k' h = go (ltb e (length v))
    where
      go : (b : Bool) → map_read f (and_then (choice_of w v (cond b (Some (record { at = e + 1; len = length v - (e + 1) }, length v)) None)) k) ≡ and_then (choice_in (cond b (Some (drop (e + 1) v)) None)) k'
      go false = h None
      go true = rw (rest_part e) (test (is_utf8 (drop (e + 1) v)) _)
        where
          test : (b : Bool) (x : Wrong) → map_read f (and_then (cond b (Ok (Some (record { at = e + 1; len = length v - (e + 1) }))) (Err x)) k) ≡ and_then (map_read Some (cond b (Ok (drop (e + 1) v)) lost)) k'
          test true x = h (Some (record { at = e + 1; len = length v - (e + 1) })) ∙ ap (λ s. k' (Some s)) (rest_part e)
          test false x = refl

-- ---- a record within a record
pub see_then : {A B C D : Type 0} (f : A → B) (g : C → D) (r : Read C) (r' : Read D) → map_read g r ≡ r' → (k : C → Read A) (k' : D → Read B) → ((c : C) → map_read f (k c) ≡ k' (g c)) → map_read f (and_then r k) ≡ and_then r' k'
see_then f g (Ok c) r' q k k' h = h c ∙ ap (λ x. and_then x k') q
see_then f g (Err w) r' q k k' h = ap (λ x. and_then x k') q
