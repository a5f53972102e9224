-- Laws of bytes: what is written over a list, a number's bytes, and zeros.
-- Assumes nothing.
use mathlib.Core.Path.{◌≡◌, refl, sym, ap, ◌∙◌}
use mathlib.Core.List.{List, [], ◌∷◌, ◌++◌, append_assoc}
use Prim.Native.Nat.{ℕ, zero, suc, ◌+◌, ◌*◌, ◌-◌, ◌/◌, ◌%◌, ◌^◌, ◌≤◌, ◌<◌}
use native.Mathlib.Nat.{add-suc, suc-add, add-zero, add_assoc, pow-suc, div-div-eq-div-mul}
use native.Mathlib.Omega.{arith}
use lib.ListN.{length, take, drop, get_or, set, length-append, length-drop, length-replicate, replicate-append-replicate, take-append-drop}
use lib.Seq.{sets, sets-eq, length-sets, take_all, take_at, drop_at, drop-append-add, get_or-append-add, get_or-drop}
use Rattle.sdp_cells.specs.Bytes.{le, num, over, zeros}

-- ---- written over a list
-- what stands between p and q is replaced by as many bytes
pub over_at : (p m q bs : List ℕ) (n : ℕ) → length p ≡ n → length m ≡ length bs → over (p ++ (m ++ q)) n bs ≡ p ++ (bs ++ q)
unfolding over
over_at p m q bs n e f =
    ap (λ (x : List ℕ). x ++ (bs ++ drop (n + length bs) (p ++ (m ++ q)))) (take_at p (m ++ q) n e)
    ∙ ap (λ (x : List ℕ). p ++ (bs ++ x))
    (ap (λ (k : ℕ). drop (k + length bs) (p ++ (m ++ q))) (sym e) ∙ drop-append-add p (m ++ q) (length bs) ∙ drop_at m q (length bs) f)

pub over_none : (a : List ℕ) (at : ℕ) → a ≡ over a at []
unfolding over
over_none a at = sym (ap (λ (k : ℕ). take at a ++ drop k a) (add-zero at) ∙ take-append-drop at a)

-- as stores of single bytes
pub over_sets : (a bs : List ℕ) (i : ℕ) → i + length bs ≤ length a → over a i bs ≡ sets a i bs
unfolding over
over_sets a bs i h = sym (sets-eq bs a i h ∙ append_assoc (take i a) bs (drop (i + length bs) a))

sets_app : (xs ys a : List ℕ) (i : ℕ) → sets (sets a i xs) (i + length xs) ys ≡ sets a i (xs ++ ys)
sets_app [] ys a i = ap (λ (k : ℕ). sets a k ys) (add-zero i)
sets_app (x ∷ xs) ys a i =
    ap (λ (k : ℕ). sets (sets (set a i x) (suc i) xs) k ys) (add-suc i (length xs) ∙ sym (suc-add i (length xs)))
    ∙ sets_app xs ys (set a i x) (suc i)

-- two runs, one right behind the other, are one run
pub over_next : (a xs ys : List ℕ) (i j : ℕ) → i + length xs ≡ j → j + length ys ≤ length a → over (over a i xs) j ys ≡ over a i (xs ++ ys)
over_next a xs ys i j e h =
    let h₁ : i + length xs ≤ length a = omega arith in
    let l : length (over a i xs) ≡ length a = ap length (over_sets a xs i h₁) ∙ length-sets a i xs in
    over_sets (over a i xs) ys j (rw l h)
    ∙ ap (λ (l : List ℕ). sets l j ys) (over_sets a xs i h₁)
    ∙ ap (λ (k : ℕ). sets (sets a i xs) k ys) (sym e)
    ∙ sets_app xs ys a i
    ∙ sym (over_sets a (xs ++ ys) i (rw length-append (omega arith)))

-- ---- a number's bytes
pub length-le : (k v : ℕ) → length (le k v) ≡ k
unfolding le
length-le zero v = refl
length-le (suc k) v = ap suc (length-le k (v / 256))

num_skip : (k : ℕ) (p a : List ℕ) (i : ℕ) → num k (p ++ a) (length p + i) ≡ num k a i
unfolding num
num_skip zero p a i = refl
num_skip (suc k) p a i =
    let h : get_or (p ++ a) (length p + i) 0 ≡ get_or a i 0 = get_or-append-add p a i 0 in
    let t : num k (p ++ a) (length p + i + 1) ≡ num k a (i + 1) = ap (num k (p ++ a)) (add_assoc (length p) i 1) ∙ num_skip k p a (i + 1) in
    omega (arith, h, t)

num-le : (k v : ℕ) (q : List ℕ) → v < 256 ^ k → num k (le k v ++ q) 0 ≡ v
unfolding num le
num-le zero v q h = let e : v < 1 = h in omega arith
num-le (suc k) v q h =
    let e : v < 256 ^ k * 256 = rw (← (pow-suc 256 k)) h in
    let t : num k (le k (v / 256) ++ q) 0 ≡ v / 256 = num-le k (v / 256) q (omega arith) in
    let s : num k ((v % 256 ∷ []) ++ (le k (v / 256) ++ q)) (1 + 0) ≡ num k (le k (v / 256) ++ q) 0 = num_skip k (v % 256 ∷ []) (le k (v / 256) ++ q) 0 in
    omega (arith, s, t)

-- they spell it
pub num_at : (k v : ℕ) (p q : List ℕ) (n : ℕ) → length p ≡ n → v < 256 ^ k → num k (p ++ (le k v ++ q)) n ≡ v
num_at k v p q n e h =
    ap (num k (p ++ (le k v ++ q))) (sym e ∙ sym (add-zero (length p)))
    ∙ num_skip k p (le k v ++ q) 0
    ∙ num-le k v q h

-- bytes spell no more than their number allows
pub num_below : (a : List ℕ) → ((i : ℕ) → get_or a i 0 < 256) → (k p : ℕ) → num k a p < 256 ^ k
unfolding num
num_below a byte zero p = omega arith
num_below a byte (suc k) p = omega (arith, byte p, num_below a byte k (p + 1), pow-suc 256 k)

-- what the rest from i on spells
num-drop : (a : List ℕ) (i k n : ℕ) → num k (drop i a) n ≡ num k a (i + n)
unfolding num
num-drop a i zero n = refl
num-drop a i (suc k) n =
    omega (arith, get_or-drop i a n 0, num-drop a i k (n + 1), ap (num k a) (add_assoc i n 1))

pub num_rest : (a : List ℕ) (i k n : ℕ) → num k (take (length a - i) (drop i a)) n ≡ num k a (i + n)
num_rest a i k n = ap (λ (s : List ℕ). num k s n) (take_all (length a - i) (drop i a) (omega (arith, length-drop i a))) ∙ num-drop a i k n

-- ---- eight bytes, two at a time
num_cong : (k : ℕ) (a : List ℕ) {i j : ℕ} → i ≡ j → num k a i ≡ num k a j
num_cong k a e = ap (num k a) e

-- two bytes, and k behind them
num_two : (k : ℕ) (a : List ℕ) (i : ℕ) → num (suc (suc k)) a i ≡ num 2 a i + 65536 * num k a (i + 2)
unfolding num
num_two k a i = omega (arith, num_cong k a (add_assoc i 1 1))

pub num_eight : (a : List ℕ) (i : ℕ) → num 8 a i ≡ num 2 a i + 65536 * (num 2 a (i + 2) + 65536 * (num 2 a (i + 4) + 65536 * num 2 a (i + 6)))
num_eight a i =
    omega (arith, num_two 6 a i, num_two 4 a (i + 2), num_two 2 a (i + 4), num_cong 4 a (add_assoc i 2 2), num_cong 2 a (add_assoc i 4 2))

le_two : (k v : ℕ) → le (suc (suc k)) v ≡ le 2 v ++ le k (v / 65536)
unfolding le
le_two k v = ap (λ (x : ℕ). v % 256 ∷ v / 256 % 256 ∷ le k x) (div-div-eq-div-mul v 256 256)

pub le_eight : (v : ℕ) → le 8 v ≡ le 2 v ++ (le 2 (v / 65536) ++ (le 2 (v / 4294967296) ++ le 2 (v / 281474976710656)))
le_eight v =
    le_two 6 v
    ∙ ap (λ (l : List ℕ). le 2 v ++ l)
    (le_two 4 (v / 65536)
    ∙ ap (λ (l : List ℕ). le 2 (v / 65536) ++ l)
    (ap (le 4) (div-div-eq-div-mul v 65536 65536)
    ∙ le_two 2 (v / 4294967296)
    ∙ ap (λ (x : ℕ). le 2 (v / 4294967296) ++ le 2 x) (div-div-eq-div-mul v 4294967296 65536)))

-- ---- zeros
pub length-zeros : (n : ℕ) → length (zeros n) ≡ n
unfolding zeros
length-zeros n = length-replicate n 0

pub zeros-add : (n m : ℕ) → zeros n ++ zeros m ≡ zeros (n + m)
unfolding zeros
zeros-add n m = replicate-append-replicate n m 0

-- the number 0 is zeros
pub le_zero : le 2 0 ≡ zeros 2
unfolding le zeros
le_zero = refl
