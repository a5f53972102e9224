-- Eight bytes tested at once, as one number: what holds of each byte of the number holds of the bytes that it is made of.
-- Assumes nothing.
use Prim.Native.Nat.{ℕ, zero, suc, ◌+◌, ◌-◌, ◌*◌, ◌/◌, ◌%◌, ◌^◌, ◌<◌, ◌≤◌}
use native.Mathlib.Nat.{pow-suc}
use native.Mathlib.Omega.{arith}
use mathlib.Core.Path.{◌≡◌, refl, sym, ap, ap₂, ◌∙◌}
use mathlib.Core.Bool.{Bool, true, false, ◌&&◌}
use mathlib.Core.List.{List}
use borrow.Author.Tests.{eq-eqb, ne_eqb, le-leb, lt-leb, leb-true, leb-false, eqb-true, eqb-false}
use lib.Dec.{eqb, leb}
use lib.ListN.{length, get_or}
use lib.Bits.{bit_and, bit_or, and_block, or_block, or_lt, and_le_r, and_mask, and_high, or_shr, and_zero_r}
use lib.Pow.{split}
use Rattle.sdp_cells.specs.Bytes as bytes
use Rattle.sdp_cells.specs.Bytes.{le, num}
use Rattle.sdp_bytes.specs.Ranges.{◌to◌, within}
use Rattle.sdp_bytes.specs.Runs.{run}
use Rattle.sdp_cells.proofs.ByteLaws.{num_below}
use Rattle.sdp_bytes.proofs.ScanLaws.{run_at, run_at_lem}

-- ---- the top bits of all bytes at once
-- the number of k bytes m
abbrev pub same : ℕ → ℕ → ℕ
same zero m = 0
same (suc k) m = same k m * 256 + m

-- the top bits of the bytes of x, each set where the byte's low seven bits are 128 - a or more, or its top bit is set
abbrev pub tops : ℕ → ℕ → ℕ → ℕ
tops a k x = bit_and (bit_or (bit_and x (same k 127) + same k a) x) (same k 128)

module _ (a lo b : ℕ) (e : a + lo ≡ 128) (l : b < 256) where
  top : eqb (bit_and (bit_or (b % 128 + a) b) 128) 128 ≡ leb lo b
  top = rw (and_high (bit_or (b % 128 + a) b) 1 7, or_shr (b % 128 + a) b 7) (go ((b % 128 + a) / 128) (b / 128) refl refl)
    where
      go : (p q : ℕ) → (b % 128 + a) / 128 ≡ p → b / 128 ≡ q → eqb (bit_or p q % 2 * 128) 128 ≡ leb lo b
      go zero zero f g = sym (lt-leb lo b (omega arith))
      go zero (suc zero) f g = sym (le-leb lo b (omega arith))
      go (suc zero) zero f g = sym (le-leb lo b (omega arith))
      go (suc zero) (suc zero) f g = sym (le-leb lo b (omega arith))
      go (suc (suc p)) q f g = absurd (omega arith)
      go zero (suc (suc q)) f g = absurd (omega arith)
      go (suc zero) (suc (suc q)) f g = absurd (omega arith)

-- two numbers are the same where their lowest bytes are and what stands above them is
same_both : (u v x y : ℕ) → x < 256 → y < 256 → eqb (u * 256 + x) (v * 256 + y) ≡ (eqb x y && eqb u v)
same_both u v x y h k = go (eqb x y) (eqb u v) refl refl
  where
    go : (s t : Bool) → eqb x y ≡ s → eqb u v ≡ t → eqb (u * 256 + x) (v * 256 + y) ≡ (s && t)
    go true true p q = eq-eqb (u * 256 + x) (v * 256 + y) (omega (arith, eqb-true x y p, eqb-true u v q))
    go true false p q = ne_eqb _ _ (λ (z : u * 256 + x ≡ v * 256 + y). eqb-false u v q (omega arith))
    go false t p q = ne_eqb _ _ (λ (z : u * 256 + x ≡ v * 256 + y). eqb-false x y p (omega arith))

module _ (a k x : ℕ) (h : a ≤ 128) where
  low : bit_and x (same k 127 * 256 + 127) ≡ bit_and (x / 256) (same k 127) * 256 + (x % 256) % 128
  low =
      ap (λ (n : ℕ). bit_and n (same k 127 * 256 + 127)) (sym (split x 8))
      ∙ and_block 8 (x / 256) (same k 127) (x % 256) 127 (omega arith) (omega arith)
      ∙ ap (λ (n : ℕ). bit_and (x / 256) (same k 127) * 256 + n) (and_mask (x % 256) 7)

  sum : bit_and x (same k 127 * 256 + 127) + (same k a * 256 + a) ≡ (bit_and (x / 256) (same k 127) + same k a) * 256 + ((x % 256) % 128 + a)
  sum = omega (arith, low)

  either : bit_or (bit_and x (same k 127 * 256 + 127) + (same k a * 256 + a)) x ≡ bit_or (bit_and (x / 256) (same k 127) + same k a) (x / 256) * 256 + bit_or ((x % 256) % 128 + a) (x % 256)
  either =
      ap₂ bit_or sum (sym (split x 8))
      ∙ or_block 8 (bit_and (x / 256) (same k 127) + same k a) (x / 256) ((x % 256) % 128 + a) (x % 256) (omega arith) (omega arith)

  tops_suc : tops a (suc k) x ≡ tops a k (x / 256) * 256 + bit_and (bit_or ((x % 256) % 128 + a) (x % 256)) 128
  tops_suc =
      ap (λ (n : ℕ). bit_and n (same k 128 * 256 + 128)) either
      ∙ and_block 8 (bit_or (bit_and (x / 256) (same k 127) + same k a) (x / 256)) (same k 128) (bit_or ((x % 256) % 128 + a) (x % 256)) 128 (or_lt 8 ((x % 256) % 128 + a) (x % 256) (omega arith) (omega arith)) (omega arith)

pub all_tops : (a lo k x : ℕ) → a + lo ≡ 128 → eqb (tops a k x) (same k 128) ≡ run (leb lo) k (le k x)
unfolding run bytes.le
all_tops a lo zero x e = rw and_zero_r refl
all_tops a lo (suc k) x e =
    ap (λ (n : ℕ). eqb n (same k 128 * 256 + 128)) (tops_suc a k x (omega arith))
    ∙ same_both (tops a k (x / 256)) (same k 128) _ 128 (omega (arith, and_le_r (bit_or (x % 256 % 128 + a) (x % 256)) 128)) (omega arith)
    ∙ ap₂ ◌&&◌ (top a lo (x % 256) e (omega arith)) (all_tops a lo k (x / 256) e)

-- as the program computes it
pub tops8 : (lo x : ℕ) → lo ≤ 128
    → eqb (bit_and (bit_or (bit_and x 0x7f7f_7f7f_7f7f_7f7f + (128 - lo) * 0x0101_0101_0101_0101) x) 0x8080_8080_8080_8080) 0x8080_8080_8080_8080 ≡ run (leb lo) 8 (le 8 x)
tops8 lo x h =
    let e : (128 - lo) * 0x0101_0101_0101_0101 ≡ same 8 (128 - lo) = omega arith in
    ap (λ (n : ℕ). eqb (bit_and (bit_or (bit_and x 0x7f7f_7f7f_7f7f_7f7f + n) x) 0x8080_8080_8080_8080) 0x8080_8080_8080_8080) e
    ∙ all_tops (128 - lo) lo 8 x (omega arith)

-- ---- the bytes that a number is made of
swap : (p q r s : Bool) → ((p && q) && (r && s)) ≡ ((p && r) && (q && s))
swap true true r s = refl
swap true false true s = refl
swap true false false s = refl
swap false q r s = refl

run_cons : (p : ℕ → Bool) (k b n : ℕ) → b < 256 → run p (suc k) (le (suc k) (b + 256 * n)) ≡ (p b && run p k (le k n))
unfolding run bytes.le
run_cons p k b n l =
    let e : (b + 256 * n) % 256 ≡ b = omega arith in
    let f : (b + 256 * n) / 256 ≡ n = omega arith in
    ap₂ (λ (x y : ℕ). p x && run p k (le k y)) e f

module _ (s : List ℕ) (byte : (i : ℕ) → get_or s i 0 < 256) (lo hi : ℕ) (h : hi ≤ 255) where
  below : (b : ℕ) → b < 256 → leb (255 - hi) (255 - b) ≡ leb b hi
  below b l = go (leb b hi) refl
    where
      go : (t : Bool) → leb b hi ≡ t → leb (255 - hi) (255 - b) ≡ t
      go true e = le-leb (255 - hi) (255 - b) (omega (arith, leb-true b hi e))
      go false e = lt-leb (255 - hi) (255 - b) (omega (arith, leb-false b hi e))

  each : (k i : ℕ) → (run (leb lo) k (le k (num k s i)) && run (leb (255 - hi)) k (le k (256 ^ k - 1 - num k s i))) ≡ run_at (within (lo to hi)) k s i
  unfolding run bytes.num
  each zero i = refl
  each (suc k) i =
      let b = get_or s i 0 in
      let n = num k s (i + 1) in
      let c = byte i in
      let l = num_below s byte k (i + 1) in
      let e : 256 ^ suc k - 1 - (b + 256 * n) ≡ 255 - b + 256 * (256 ^ k - 1 - n) = omega (arith, pow-suc 256 k) in
      ap₂ ◌&&◌
      (run_cons (leb lo) k b n c)
      (ap (λ (x : ℕ). run (leb (255 - hi)) (suc k) (le (suc k) x)) e
      ∙ run_cons (leb (255 - hi)) k (255 - b) (256 ^ k - 1 - n) (omega arith)
      ∙ ap (λ (t : Bool). t && run (leb (255 - hi)) k (le k (256 ^ k - 1 - n))) (below b c))
      ∙ swap (leb lo b) (run (leb lo) k (le k n)) (leb b hi) (run (leb (255 - hi)) k (le k (256 ^ k - 1 - n)))
      ∙ ap (λ (t : Bool). within (lo to hi) b && t) (each k (i + 1))

  pub eight_is : 8 ≤ length s → (x : ℕ) → x ≡ num 8 s 0
      → (run (leb lo) 8 (le 8 x) && run (leb (255 - hi)) 8 (le 8 (0xffff_ffff_ffff_ffff - x))) ≡ run (within (lo to hi)) 8 s
  eight_is l x e = rw e (each 8 0) ∙ sym (run_at_lem (within (lo to hi)) 8 s 0 l)
