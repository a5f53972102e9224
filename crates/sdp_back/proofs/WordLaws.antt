-- Words with a space between them, read again, are the words; and a value cut at its first separator. Assumes nothing.
use mathlib.Core.Path.{◌≡◌, refl, sym, ap, ◌∙◌}
use mathlib.Core.Bool.{Bool, true, false, cond, not}
use mathlib.Core.List.{List, [], ◌∷◌, ◌++◌, map, append-nil}
use Rattle.std.specs.Prelude.{Option, Some, None}
use Prim.Native.Nat.{ℕ, zero, suc, ◌+◌, ◌≤◌, ◌<◌}
use native.Mathlib.Omega.{arith}
use lib.ListN.{length, take, drop, length-append}
use lib.Seq.{take_at, drop_at, drop-drop, take-length, drop-append-add}
use lib.Dec.{ltb, eqb}
use borrow.Author.Tests.{lt-ltb, le-ltb, eq-eqb, ne_eqb, not-true}
use Rattle.sdp_bytes.specs.Runs as runs
use Rattle.sdp_bytes.specs.Runs.{index_of}
use Rattle.sdp_bytes.proofs.ScanLaws.{and_left, and_right}
use Rattle.sdp_split.specs.Split as split
use Rattle.sdp_split.specs.Split.{part, spaces, words_from, words_at, words, word_at}
use Rattle.sdp_split.proofs.WordLaws.{word_here, word_next}
use Rattle.sdp_put.specs.Strings.{dropped}
use Rattle.sdp_put.specs.Digits.{digits, time_text}
use Rattle.sdp_put.proofs.DigitLaws.{digits_pass, time_pass, digits_bare, time_bare}
use Rattle.sdp_row.specs.Written.{spaced}
use Rattle.sdp_same.specs.Fits.{Each}
use Rattle.sdp_put.proofs.ByteLaws.{every, every_append, every_take, lacks, before_lacks, bare}
use Rattle.sdp_bound.proofs.NumberLaws.{digits_some}
use Rattle.sdp_back.proofs.NumberLaws.{time_some}

index_append : (c : ℕ) (a r : List ℕ) → lacks c a ≡ true → index_of c (a ++ r) ≡ length a + index_of c r
unfolding runs.index_of every
index_append c [] r h = omega arith
index_append c (b ∷ a) r h = rw (not-true (eqb b c) (and_left (not (eqb b c)) _ h)) (omega (arith, index_append c a r (and_right (not (eqb b c)) _ h)))

-- ---- a word: some bytes, none of them a space, NUL, CR or LF
pub record Word (x : List ℕ) : Type 0 where
  pub some : 0 < length x
  pub whole : lacks 0x20 x ≡ true
  pub bare : bare x ≡ true

-- ---- the bytes of the words of a list
abbrev pub spell : List ℕ → List (List ℕ)
spell s = map (part s) (words s)

-- the rest of a list from its second byte on
drop_more : (v s : List ℕ) (i b : ℕ) → drop i v ≡ b ∷ s → drop (suc i) v ≡ s
drop_more v s i b h = let n : suc i ≡ i + 1 = omega arith in ap (λ (k : ℕ). drop k v) n ∙ sym (drop-drop 1 i v) ∙ ap (drop 1) h

-- they don't hang on where the list stands
spell_from : (v s : List ℕ) (i j k : ℕ) (u : List ℕ) → drop i v ≡ s → drop j u ≡ s → map (part v) (words_from i k s) ≡ map (part u) (words_from j k s)
unfolding split.words_from
spell_from v [] i j k u h g = refl
spell_from v (b ∷ s) i j (suc k) u h g = spell_from v s (suc i) (suc j) k u (drop_more v s i b h) (drop_more u s j b g)
spell_from v (b ∷ s) i j zero u h g =
    go (eqb b 0x20) (spell_from v s (suc i) (suc j) 0 u (drop_more v s i b h) (drop_more u s j b g))
    (spell_from v s (suc i) (suc j) (index_of 0x20 s) u (drop_more v s i b h) (drop_more u s j b g))
  where
    n : ℕ
    n = index_of 0x20 (b ∷ s)

    go : (t : Bool) → map (part v) (words_from (suc i) 0 s) ≡ map (part u) (words_from (suc j) 0 s)
        → map (part v) (words_from (suc i) (index_of 0x20 s) s) ≡ map (part u) (words_from (suc j) (index_of 0x20 s) s)
        → map (part v) (cond t (words_from (suc i) 0 s) (record { at = i; len = index_of 0x20 (b ∷ s) } ∷ words_from (suc i) (index_of 0x20 s) s))
        ≡ map (part u) (cond t (words_from (suc j) 0 s) (record { at = j; len = index_of 0x20 (b ∷ s) } ∷ words_from (suc j) (index_of 0x20 s) s))
    go true x y = x
    go false x y = λ d. (ap (take (index_of 0x20 (b ∷ s))) (h ∙ sym g)) d ∷ y d

spell_at : (v : List ℕ) (i : ℕ) → map (part v) (words_at v i) ≡ spell (drop i v)
unfolding split.words_at
spell_at v i = spell_from v (drop i v) i 0 0 (drop i v) refl refl

-- each is a word
from_words : (v s : List ℕ) (i k : ℕ) → drop i v ≡ s → bare s ≡ true → Each Word (map (part v) (words_from i k s))
unfolding split.words_from every runs.index_of
from_words v [] i k d h = tt
from_words v (b ∷ s) i (suc k) d h = from_words v s (suc i) k (drop_more v s i b d) (and_right (not (dropped b)) _ h)
from_words v (b ∷ s) i zero d h =
    go (eqb b 0x20) refl (from_words v s (suc i) 0 (drop_more v s i b d) (and_right (not (dropped b)) _ h)) (from_words v s (suc i) (index_of 0x20 s) (drop_more v s i b d) (and_right (not (dropped b)) _ h))
  where
    go : (t : Bool) → eqb b 0x20 ≡ t → Each Word (map (part v) (words_from (suc i) 0 s)) → Each Word (map (part v) (words_from (suc i) (index_of 0x20 s) s))
        → Each Word (map (part v) (cond t (words_from (suc i) 0 s) (record { at = i; len = cond t 0 (suc (index_of 0x20 s)) } ∷ words_from (suc i) (index_of 0x20 s) s)))
    go true e x y = x
    go false e x y =
        (rw d (record { some = omega arith; whole = rw e (before_lacks 0x20 s); bare = every_take (λ c. not (dropped c)) (suc (index_of 0x20 s)) (b ∷ s) h }), y)

pub are_words : (s : List ℕ) → bare s ≡ true → Each Word (spell s)
unfolding split.words_at
are_words s h = from_words s s 0 0 refl h

-- ---- words with a space before each
unfoldable pub tails : List (List ℕ) → List ℕ
tails [] = []
tails (x ∷ xs) = spaced x ++ tails xs

-- a word, and what begins with a space or nothing
word_first : (x r : List ℕ) → Word x → index_of 0x20 r ≡ 0 → spell (x ++ r) ≡ x ∷ spell r
unfolding split.spaces every
word_first [] r w e = absurd (let l : 0 < 0 = w.some in omega arith)
word_first (b ∷ y) r w e =
    let x : List ℕ = b ∷ y in
    let s : spaces (x ++ r) ≡ 0 = rw (not-true (eqb b 0x20) (and_left (not (eqb b 0x20)) _ w.whole)) in
    let i : index_of 0x20 (x ++ r) ≡ length x = index_append 0x20 x r w.whole ∙ (let z : length x + index_of 0x20 r ≡ length x = omega arith in z) in
    let f : word_at (x ++ r) 0 ≡ Some (record { at = 0; len = length x }, 0 + length x) = sym (word_here (x ++ r) 0 0 (sym s) (omega (arith, length-append x r))) ∙ rw i in
    let t : take (length x) (x ++ r) ≡ x = take_at x r (length x) refl in
    let d : drop (0 + length x) (x ++ r) ≡ r = drop_at x r (0 + length x) (omega arith) in
    let w = ap (map (part (x ++ r))) (word_next (x ++ r) 0 _ _ f).0 in
    w ∙ (λ k. t k ∷ (spell_at (x ++ r) (0 + length x) ∙ ap spell d) k)

spell_space : (s : List ℕ) → spell (0x20 ∷ s) ≡ spell s
unfolding split.words_at split.words_from
spell_space s = spell_from (0x20 ∷ s) s 1 0 0 s refl refl

tails_start : (xs : List (List ℕ)) → index_of 0x20 (tails xs) ≡ 0
unfolding tails runs.index_of
tails_start [] = refl
tails_start (x ∷ xs) = refl

tails_back : (xs : List (List ℕ)) → Each Word xs → spell (tails xs) ≡ xs
unfolding tails split.words_at split.words_from
tails_back [] h = refl
tails_back (x ∷ xs) h = spell_space (x ++ tails xs) ∙ word_first x (tails xs) h.0 (tails_start xs) ∙ ap (λ ws. x ∷ ws) (tails_back xs h.1)

-- words with a space between them
pub words_back : (x : List ℕ) (xs : List (List ℕ)) → Word x → Each Word xs → spell (x ++ tails xs) ≡ x ∷ xs
words_back x xs w h = word_first x (tails xs) w (tails_start xs) ∙ ap (λ ws. x ∷ ws) (tails_back xs h)

tails_bare : (xs : List (List ℕ)) → Each Word xs → bare (tails xs) ≡ true
unfolding tails every
tails_bare [] h = refl
tails_bare (x ∷ xs) h = every_append (λ b. not (dropped b)) x (tails xs) h.0.bare (tails_bare xs h.1)

pub joined_bare : (x : List ℕ) (xs : List (List ℕ)) → Word x → Each Word xs → bare (x ++ tails xs) ≡ true
joined_bare x xs w h = every_append (λ b. not (dropped b)) x (tails xs) w.bare (tails_bare xs h)

-- ---- numbers and times are words
-- a byte that is no digit
pub digits_lack : (c v : ℕ) → (0x30 ≤ c → c ≤ 0x39 → ⊥) → lacks c (digits v) ≡ true
digits_lack c v h = digits_pass (λ b. not (eqb b c)) (λ b l g. rw (ne_eqb b c (λ e. h (omega arith) (omega arith)))) v

pub digits_word : (v : ℕ) → Word (digits v)
digits_word v = record { some = digits_some v; whole = digits_lack 0x20 v (λ l g. omega arith); bare = digits_bare v }

pub time_word : (v : ℕ) → Word (time_text v)
time_word v = record {
  some = time_some v;
  whole = time_pass (λ b. not (eqb b 0x20)) (λ b l g. rw (ne_eqb b 0x20 (λ e. omega arith))) refl refl refl v;
  bare = time_bare v;
}

-- ---- a value cut at its first separator
-- what stands after the separator at e
abbrev pub behind : List ℕ → ℕ → Option (List ℕ)
behind v e = cond (ltb e (length v)) (Some (drop (e + 1) v)) None

-- the bytes before it, and those after it where there is one
unfoldable pub cut : ℕ → List ℕ → List ℕ × Option (List ℕ)
cut sep s = (take (index_of sep s) s, behind s (index_of sep s))

-- what is written after the front
abbrev pub sep_text : ℕ → Option (List ℕ) → List ℕ
sep_text sep None = []
sep_text sep (Some r) = (sep ∷ []) ++ r

pub cut_none : (sep : ℕ) (a : List ℕ) → lacks sep a ≡ true → cut sep a ≡ (a, None)
unfolding cut runs.index_of
cut_none sep a h =
    let i : index_of sep a ≡ length a = ap (index_of sep) (sym (append-nil a)) ∙ index_append sep a [] h ∙ (let z : length a + 0 ≡ length a = omega arith in z) in
    rw (i, le-ltb (length a) (length a) (omega arith), take-length a)

pub cut_back : (sep : ℕ) (a : List ℕ) (o : Option (List ℕ)) → lacks sep a ≡ true → cut sep (a ++ sep_text sep o) ≡ (a, o)
unfolding cut runs.index_of
cut_back sep a None h = ap (cut sep) (append-nil a) ∙ cut_none sep a h
cut_back sep a (Some r) h =
    let i : index_of sep (a ++ (sep ∷ r)) ≡ length a = index_append sep a (sep ∷ r) h ∙ rw (eq-eqb sep sep refl) (let z : length a + 0 ≡ length a = omega arith in z) in
    let l : ltb (length a) (length (a ++ (sep ∷ r))) ≡ true = lt-ltb (length a) (length (a ++ (sep ∷ r))) (omega (arith, length-append a (sep ∷ r))) in
    let t : take (length a) (a ++ (sep ∷ r)) ≡ a = take_at a (sep ∷ r) (length a) refl in
    let d : drop (length a + 1) (a ++ (sep ∷ r)) ≡ r = drop-append-add a (sep ∷ r) 1 in
    rw (i, l, t, d)
