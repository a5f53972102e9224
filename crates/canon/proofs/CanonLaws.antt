-- Laws of what `canon` prints. Assumes nothing.
use Prim.Native.Nat.{ℕ, ◌≤◌, ◌<◌, ◌^◌}
use native.Mathlib.Omega.{arith}
use mathlib.Core.Path.{◌≡◌, refl, sym, ap, ◌∙◌}
use mathlib.Core.List.{List, [], ◌∷◌, ◌++◌, append_assoc}
use lib.ListN.{length, take, drop, length-append}
use lib.Seq.{take_at, length-take-le}
use borrow.Author.Tests.{eq-eqb, ne_eqb}
use Rattle.sdp_lines.specs.declared.Answer.{Answer}
use Rattle.sdp_put.specs.Digits.{digits}
use Rattle.sdp_put.specs.Out.{Put}
use Rattle.sdp_put.proofs.OutLaws.{put_room}
use Rattle.sdp_read.specs.Run.{read_text}
use Rattle.sdp_write.specs.Write.{Outcome, answer, text_of, length_text, fill_text}
use Rattle.sdp_fills.proofs.FillLaws.{length_then_fill}
use Rattle.sdp_bound.specs.Bound.{room_of_any}
use Rattle.sdp_bound.proofs.RoomLaws.{room}
use Rattle.sdp_room.proofs.LengthLaws.{digits_20}
use Rattle.canon.specs.Canon.{refused_line, printed, Holds}

-- ---- what an output begins with
begins : (bs rest o : List ℕ) (r : ℕ) → r ≡ length bs → o ≡ bs ++ rest → Holds bs o r
begins bs rest o r n e = record {
  within = omega (arith, n, ap length e, length-append bs rest);
  first = ap (λ (k : ℕ). take k o) n ∙ ap (take (length bs)) e ∙ take_at bs rest (length bs) refl;
}

said : {bs bs' o : List ℕ} {r : ℕ} → bs ≡ bs' → Holds bs o r → Holds bs' o r
said e h = record { within = h.within; first = h.first ∙ e }

-- ---- the line of a refusal
pub length-refused : (x : Answer) → x.number < 2 ^ 64 → x.line < 2 ^ 64 → x.field < 2 ^ 64 → length (refused_line x) ≤ 100
length-refused x p q s =
    let n = digits x.number in
    let l = digits x.line in
    let f = digits x.field in
    let w2 : List ℕ = 0x20 ∷ 0x66 ∷ 0x69 ∷ 0x65 ∷ 0x6c ∷ 0x64 ∷ 0x20 ∷ [] in
    let w1 : List ℕ = 0x20 ∷ 0x6c ∷ 0x69 ∷ 0x6e ∷ 0x65 ∷ 0x20 ∷ [] in
    omega (arith, digits_20 _ p, digits_20 _ q, digits_20 _ s, length-append n (w1 ++ (l ++ (w2 ++ (f ++ (0x0a ∷ []))))), length-append l (w2 ++ (f ++ (0x0a ∷ []))), length-append f (0x0a ∷ []))

pub told : (o o' bs : List ℕ) (r : ℕ) → length bs ≤ 100 → 100 ≤ length o → length o < 2 ^ 64 → Put o 0 bs o' r → Holds bs o' r
told o o' bs r short long small p =
    let f = p.puts small (omega arith) in
    begins bs (drop (length bs) o) o' r (omega (arith, f.1)) (f.0 ∙ put_room bs o (omega arith))

-- the output that was lent is o'
pub told_in : (o o' o'' bs : List ℕ) (r : ℕ) → length bs ≤ 100 → 100 ≤ length o → length o < 2 ^ 64 → Put o 0 bs o' r → o'' ≡ o' → Holds bs o'' r
told_in o o' o'' bs r short long small p e = rw e (told o o' bs r short long small p)

-- ---- the two ways to print
number_of_lem : {x y : Answer} → x ≡ y → y.number ≡ x.number
number_of_lem e = sym (ap (λ (z : Answer). z.number) e)

module _ (t a : List ℕ) (x : Answer) (ex : x ≡ (read_text t a).answer) where
  pub read_refused : (o' : List ℕ) (r : ℕ) → (x.number ≡ 0 → ⊥) → Holds (refused_line x) o' r → Holds (printed t a) o' r
  read_refused o' r n h = said (rw (ne_eqb (read_text t a).answer.number 0 (λ z. n (sym (number_of_lem ex) ∙ z))) (ap refused_line ex)) h

  -- the text is read, and l is the answer of the length call
  module _ (z : x.number ≡ 0) (a' : List ℕ) (ea : a' ≡ (read_text t a).area) (l : Answer) (el : l ≡ length_text t a') where
    accepted : (read_text t a).answer.number ≡ 0
    accepted = number_of_lem ex ∙ z

    abbrev form : List ℕ
    form = text_of t (read_text t a).area

    known : l ≡ answer 0 (length form)
    known = el ∙ ap (length_text t) ea ∙ (room t a accepted).known

    len_of : l.len ≡ length form
    len_of = ap (λ (y : Answer). y.len) known

    pub len_fits : (o : List ℕ) → room_of_any ≤ length o → l.len ≤ length o
    len_fits o big = omega (arith, len_of, (room t a accepted).short)

    -- so many bytes of the output were filled
    pub all_written : (o o₁ : List ℕ) (n : ℕ) → n ≡ l.len → n ≤ length o → o₁ ≡ (fill_text t a' (take n o)).out → Holds (printed t a) (o₁ ++ drop n o) n
    all_written o o₁ n e h eo =
        let c : length_text t (read_text t a).area ≡ l = sym (el ∙ ap (length_text t) ea) in
        let k : (length_text t (read_text t a).area).len ≡ n = ap (λ (y : Answer). y.len) c ∙ sym e in
        let f = ((length_then_fill t (read_text t a).area).needs (ap (λ (y : Answer). y.number) (c ∙ known))).enough (take n o) (omega (arith, k, length-take-le n o h)) in
        let w = eo ∙ ap (λ (b : List ℕ). (fill_text t b (take n o)).out) ea ∙ ap (λ (y : Outcome). y.out) f in
        let p : form ≡ printed t a = rw (eq-eqb (read_text t a).answer.number 0 accepted) in
        said p
        (begins form _ (o₁ ++ drop n o) n (omega (arith, e, len_of))
        (ap (λ (y : List ℕ). y ++ drop n o) w ∙ append_assoc form _ (drop n o)))
