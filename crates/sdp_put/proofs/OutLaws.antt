-- Laws of a bounded output: none of them asks for room. Assumes nothing.
use mathlib.Core.Path.{◌≡◌, refl, sym, ap, ap₂, ◌∙◌}
use mathlib.Core.Bool.{Bool, true, false}
use mathlib.Core.List.{List, [], ◌∷◌, ◌++◌, append-nil, append_assoc}
use Prim.Native.Nat.{ℕ, suc, ◌+◌, ◌-◌, ◌≤◌, ◌<◌, ◌^◌, min}
use native.Mathlib.Nat.{add-suc, suc-add, add-zero}
use native.Mathlib.Numerals.{add-one, add-two, add-three, add-four, add_five, add_six, add_seven}
use native.Mathlib.Omega.{arith}
use lib.ListN.{length, take, drop, set, length-append, length-set, length-drop, drop_of_length-le, take-append-drop}
use lib.Seq.{sets, sets-eq, length-sets, length-take-le, set_out, take-add, take_all, take-take, take-append-le, take-append-add, drop-append-add, drop-drop}
use lib.Dec.{ltb}
use borrow.Author.Tests.{ltb-true, ltb-false}
use Rattle.sdp_put.specs.Out.{put, placed, Put}

sets_next : (xs ys o : List ℕ) (i : ℕ) → sets (sets o i xs) (i + length xs) ys ≡ sets o i (xs ++ ys)
sets_next [] ys o i = ap (λ (k : ℕ). sets o k ys) (add-zero i)
sets_next (x ∷ xs) ys o i =
    ap (λ (k : ℕ). sets (sets (set o i x) (suc i) xs) k ys) (add-suc i (length xs) ∙ sym (suc-add i (length xs)))
    ∙ sets_next xs ys (set o i x) (suc i)

put_next : (o xs ys : List ℕ) (i : ℕ) → put (put o i xs) (i + length xs) ys ≡ put o i (xs ++ ys)
unfolding put
put_next o xs ys i = sets_next xs ys o i

pub length-put : (o : List ℕ) (at : ℕ) (bs : List ℕ) → length (put o at bs) ≡ length o
unfolding put
length-put o at bs = length-sets o at bs

-- past the end nothing changes
pub put_out : (bs o : List ℕ) (at : ℕ) → length o ≤ at → put o at bs ≡ o
unfolding put
put_out [] o at h = refl
put_out (b ∷ bs) o at h =
    put_out bs (set o at b) (suc at) (omega (arith, length-set o at b)) ∙ set_out o at b h

-- all of s, where there is room for it
pub put_here : (o s : List ℕ) (at k : ℕ) → at + length s ≤ length o → k ≡ length s → take at o ++ (s ++ drop k (drop at o)) ≡ put o at s
unfolding put
put_here o s at k h e =
    let d : drop (at + length s) o ≡ drop k (drop at o) = ap (λ (i : ℕ). drop i o) (let z : at + length s ≡ at + k = omega arith in z) ∙ sym (drop-drop k at o) in
    sym (sets-eq s o at h ∙ append_assoc (take at o) s (drop (at + length s) o) ∙ ap (λ (x : List ℕ). take at o ++ (s ++ x)) d)

-- as much of s as there is room for, in the place of what stands there
module _ (o s : List ℕ) (at a n k : ℕ) (e : a ≡ min at (length o)) (f : n ≡ min (length s) (length o - a)) where
  placed_part : k ≡ n → take a o ++ (take n s ++ drop k (drop a o)) ≡ put o a (take n s)
  placed_part g =
      let m : length (take n s) ≡ n = length-take-le n s (omega arith) in put_here o (take n s) a k (omega arith) (omega arith)

  whole_part : put o a (take n s) ≡ put o at s
  whole_part = go (ltb (length s) (length o - a)) (ltb at (length o)) refl refl
    where
      go : (b c : Bool) → ltb (length s) (length o - a) ≡ b → ltb at (length o) ≡ c → put o a (take n s) ≡ put o at s
      go true c p q =
          let h = ltb-true (length s) (length o - a) p in
          ap₂ (λ (i : ℕ) (x : List ℕ). put o i x) (let z : a ≡ at = omega arith in z) (take_all n s (omega arith))
      go false true p q =
          let h = ltb-false (length s) (length o - a) p in
          let l = ltb-true at (length o) q in
          let m : length (take n s) ≡ n = length-take-le n s (omega arith) in
          ap (λ (i : ℕ). put o i (take n s)) (let z : a ≡ at = omega arith in z)
          ∙ sym (put_out (drop n s) (put o at (take n s)) (at + length (take n s)) (omega (arith, length-put o at (take n s))))
          ∙ put_next o (take n s) (drop n s) at
          ∙ ap (put o at) (take-append-drop n s)
      go false false p q =
          let l = ltb-false at (length o) q in
          put_out (take n s) o a (omega arith) ∙ sym (put_out s o at l)

  pub put_part : k ≡ n → take a o ++ (take n s ++ drop k (drop a o)) ≡ put o at s
  put_part g = placed_part g ∙ whole_part

-- with room, the bytes stand where they were put, and nothing else changed
pub put_room : (bs o : List ℕ) → length bs ≤ length o → put o 0 bs ≡ bs ++ drop (length bs) o
unfolding put
put_room bs o h =
    sets-eq bs o 0 (omega arith)
    ∙ ap (λ (k : ℕ). bs ++ drop k o) (let e : 0 + length bs ≡ length bs = omega arith in e)

-- all of an output
pub put_whole : (bs o : List ℕ) → length o ≡ length bs → put o 0 bs ≡ bs
put_whole bs o e =
    put_room bs o (omega arith)
    ∙ ap (λ (s : List ℕ). bs ++ s) (drop_of_length-le o (let h : length o ≤ length bs = omega arith in h))
    ∙ append-nil bs

-- the bytes of s are put one part after the other
module _ (o s : List ℕ) (at : ℕ) where
  pub put_more : (i : ℕ) → i + 8 ≤ length s → put (put o at (take i s)) (at + i) (take 8 (drop i s)) ≡ put o at (take (i + 8) s)
  put_more i h =
      ap (λ (k : ℕ). put (put o at (take i s)) k (take 8 (drop i s))) (let z : at + i ≡ at + length (take i s) = omega (arith, length-take-le i s (omega arith)) in z)
      ∙ put_next o (take i s) (take 8 (drop i s)) at
      ∙ ap (put o at) (sym (take-add i 8 s))

  -- with room, the last part may lie over what stands there
  pub put-over : (i k : ℕ) → k ≤ i → i ≤ length s → at + length s ≤ length o → put (put o at (take i s)) (at + k) (drop k s) ≡ put o at s
  unfolding put
  put-over i k l h room =
      let m = length-take-le i s h in
      let n = length-append (take at o) (take i s) in
      let a = length-take-le at o (omega arith) in
      let first = sets-eq (take i s) o at (omega arith) in
      sets-eq (drop k s) (sets o at (take i s)) (at + k) (omega (arith, length-drop k s, length-sets o at (take i s)))
      ∙ ap₂ (λ (x y : List ℕ). x ++ drop k s ++ y) (begins first a m n) (rests first (omega arith))
      ∙ ap (λ (x : List ℕ). x ++ drop (at + length s) o) (append_assoc (take at o) (take k s) (drop k s) ∙ ap (λ (x : List ℕ). take at o ++ x) (take-append-drop k s))
      ∙ sym (sets-eq s o at room)
    where
      begins : sets o at (take i s) ≡ take at o ++ take i s ++ drop (at + length (take i s)) o → length (take at o) ≡ at → length (take i s) ≡ i
          → length (take at o ++ take i s) ≡ length (take at o) + length (take i s) → take (at + k) (sets o at (take i s)) ≡ take at o ++ take k s
      begins first a m n =
          ap (take (at + k)) first
          ∙ take-append-le (at + k) (take at o ++ take i s) (drop (at + length (take i s)) o) (omega arith)
          ∙ ap (λ (x : ℕ). take (x + k) (take at o ++ take i s)) (sym a)
          ∙ take-append-add (take at o) (take i s) k
          ∙ ap (λ (x : List ℕ). take at o ++ x) (take-take k i s l)

      rests : sets o at (take i s) ≡ take at o ++ take i s ++ drop (at + length (take i s)) o → length (take at o ++ take i s) ≡ at + length (take i s)
          → drop (at + k + length (drop k s)) (sets o at (take i s)) ≡ drop (at + length s) o
      rests first n =
          ap₂ drop (let z : at + k + length (drop k s) ≡ length (take at o ++ take i s) + (length s - i) = omega (arith, length-drop k s, length-take-le i s h) in z) first
          ∙ drop-append-add (take at o ++ take i s) (drop (at + length (take i s)) o) (length s - i)
          ∙ drop-drop (length s - i) (at + length (take i s)) o
          ∙ ap (λ (x : ℕ). drop x o) (let z : at + length (take i s) + (length s - i) ≡ at + length s = omega (arith, length-take-le i s h) in z)

-- a slice never reaches the machine's last place
put-placed : (a ys : List ℕ) (k : ℕ) → length a < 2 ^ 64 → put a (placed k) ys ≡ put a k ys
put-placed a ys k l = go (ltb k (2 ^ 64 - 1)) refl
  where
    go : (b : Bool) → ltb k (2 ^ 64 - 1) ≡ b → put a (placed k) ys ≡ put a k ys
    go true e = let h = ltb-true k (2 ^ 64 - 1) e in ap (λ (n : ℕ). put a n ys) (let z : placed k ≡ k = omega arith in z)
    go false e =
        let h = ltb-false k (2 ^ 64 - 1) e in
        put_out ys a (placed k) (omega arith) ∙ sym (put_out ys a k (omega arith))

put_both : (o xs ys : List ℕ) (at : ℕ) → length o < 2 ^ 64 → put (put o at xs) (placed (at + length xs)) ys ≡ put o at (xs ++ ys)
put_both o xs ys at l = put-placed (put o at xs) ys (at + length xs) (omega (arith, length-put o at xs)) ∙ put_next o xs ys at

-- ---- one piece after the other
infixr 20 ◌then◌
pub ◌then◌ : {o o₁ o₂ xs ys : List ℕ} {at r₁ r₂ : ℕ} → Put o at xs o₁ r₁ → Put o₁ r₁ ys o₂ r₂ → Put o at (xs ++ ys) o₂ r₂
◌then◌ {o} {o₁} {o₂} {xs} {ys} {at} {r₁} {r₂} p q =
    record {
      puts = λ l h.
          let f = p.puts l h in
          let n : length o₁ ≡ length o = ap length f.0 ∙ length-put o at xs in
          let g = q.puts (omega arith) (omega (arith, f.1)) in
          (g.0 ∙ ap₂ (λ (a : List ℕ) (k : ℕ). put a k ys) f.0 f.1 ∙ put_both o xs ys at l, omega (arith, length-append xs ys, f.1, g.1));
    }

pub said : {o o₁ xs ys : List ℕ} {at r : ℕ} → xs ≡ ys → Put o at xs o₁ r → Put o at ys o₁ r
said {o} {o₁} {xs} {ys} {at} {r} e p = rw (← e) p

-- nothing was put
pub nothing : (o : List ℕ) (at : ℕ) → Put o at [] o at
unfolding put
nothing o at = record { puts = λ l h. (refl, omega arith) }

pub byte_in : (o : List ℕ) (at b : ℕ) → at < length o → Put o at (b ∷ []) (set o at b) (at + 1)
unfolding put
byte_in o at b i = record { puts = λ l h. (refl, omega arith) }

pub no_room : (o bs : List ℕ) (at n r : ℕ) → length o ≤ at → length bs ≡ n → r ≡ placed (at + n) → Put o at bs o r
no_room o bs at n r i m e = record { puts = λ l h. (sym (put_out bs o at i), e ∙ ap (λ (k : ℕ). placed (at + k)) (sym m)) }

-- several stores, one after the other
pub four_in : (o : List ℕ) (at a b c d : ℕ) → at + 4 ≤ length o
    → Put o at (a ∷ b ∷ c ∷ d ∷ []) (set (set (set (set o at a) (at + 1) b) (at + 2) c) (at + 3) d) (at + 4)
unfolding put
four_in o at a b c d i = record { puts = λ l h. (rw (add-one, add-two, add-three), omega arith) }

pub eight_in : (o : List ℕ) (at a b c d e f g h : ℕ) → at + 8 ≤ length o
    → Put o at (a ∷ b ∷ c ∷ d ∷ e ∷ f ∷ g ∷ h ∷ [])
    (set (set (set (set (set (set (set (set o at a) (at + 1) b) (at + 2) c) (at + 3) d) (at + 4) e) (at + 5) f) (at + 6) g) (at + 7) h) (at + 8)
unfolding put
eight_in o at a b c d e f g h i =
    record { puts = λ l k. (rw (add-one, add-two, add-three, add-four, add_five, add_six, add_seven), omega arith) }

-- ---- what is left to be put: the invariant of a loop
pub record Same (o₀ : List ℕ) (at₀ : ℕ) (whole : List ℕ) (o : List ℕ) (at : ℕ) (rest : List ℕ) : Type 0 where
  pub puts : length o₀ < 2 ^ 64 → at₀ < 2 ^ 64 → (put o₀ at₀ whole ≡ put o at rest) × (placed (at₀ + length whole) ≡ placed (at + length rest)) × (length o ≡ length o₀) × (at < 2 ^ 64)

-- rest is xs and then ys. (A record, so that a use of it says what xs and ys are.)
pub record Cut (rest xs ys : List ℕ) : Type 0 where
  pub is : rest ≡ xs ++ ys

pub begin : {o bs bs' : List ℕ} {at : ℕ} → bs ≡ bs' → Same o at bs o at bs'
begin {o} {bs} {bs'} {at} e = record { puts = λ l h. (ap (put o at) e, ap (λ (s : List ℕ). placed (at + length s)) e, refl, h) }

pub turn : {o₀ bs₀ o o' xs ys rest : List ℕ} {at₀ at r : ℕ} → Same o₀ at₀ bs₀ o at rest → Cut rest xs ys → Put o at xs o' r → Same o₀ at₀ bs₀ o' r ys
turn {o₀} {bs₀} {o} {o'} {xs} {ys} {rest} {at₀} {at} {r} s e p =
    record {
      puts = λ l h.
          let f = s.puts l h in
          let fits : length o < 2 ^ 64 = omega (arith, f.2) in
          let g = p.puts fits f.3 in
          let n : length o' ≡ length o = ap length g.0 ∙ length-put o at xs in (
            f.0 ∙ ap (put o at) e.is ∙ sym (put_both o xs ys at fits) ∙ sym (ap₂ (λ (a : List ℕ) (k : ℕ). put a k ys) g.0 g.1),
            omega (arith, length-append xs ys, ap length e.is, f.1, g.1),
            n ∙ f.2,
            omega (arith, g.1),
          );
    }

pub finish : {o₀ bs₀ o rest : List ℕ} {at₀ at : ℕ} → Same o₀ at₀ bs₀ o at rest → rest ≡ [] → Put o₀ at₀ bs₀ o at
unfolding put
finish {o₀} {bs₀} {o} {rest} {at₀} {at} s e =
    record {
      puts = λ l h.
          let f = s.puts l h in
          (sym (f.0 ∙ ap (put o at) e), omega (arith, ap length e, f.1, f.3));
    }

-- the rest was put
pub ends : {o₀ bs₀ o o' rest : List ℕ} {at₀ at r : ℕ} → Same o₀ at₀ bs₀ o at rest → Put o at rest o' r → Put o₀ at₀ bs₀ o' r
ends {rest = rest} s p = finish (turn s (record { is = sym (append-nil rest) }) p) refl
