-- What holds of every session that a step goes on with, by the step's shape.
-- Assumes nothing.
use mathlib.Core.Path.{◌≡◌, refl}
use mathlib.Core.Bool.{Bool, true, false, cond}
use Prim.Native.Nat.{ℕ}
use native.Mathlib.Omega.{arith}
use lib.Dec.{ltb}
use Rattle.sdp_judge.specs.declared.Wrong.{Wrong}
use Rattle.sdp_judge.specs.Read.{Read}
use Rattle.sdp_step.specs.Step
use Rattle.sdp_step.specs.Step.{Reading, Stepped, goes, stops, stop, once, row}
use Rattle.std.specs.Prelude.{Ok, Err}

abbrev pub Going : {S : Type 0} → (Reading S → Type 0) → Stepped S → Type 0
Going P σ = (ρ : Reading _) → σ ≡ goes ρ → P ρ

module _ {S : Type 0} (P : Reading S → Type 0) where
  pub on : (ρ : Reading S) → P ρ → Going P (goes ρ)
  on ρ h τ e = let z : ρ ≡ τ = cc in rw z at h

  pub off : (w : Wrong) → Going P (stops w)
  off w τ e = absurd (let z : ◌≡◌ {A = ℕ} 0 1 = cc in omega arith)

  pub past-cond : (b : Bool) (σ τ : Stepped S) → Going P σ → Going P τ → Going P (cond b σ τ)
  past-cond true σ τ h k = h
  past-cond false σ τ h k = k

  module _ {A : Type 0} where
    -- there was none before
    pub past_first : (n : ℕ) (b : Bool) (r : Read A) (k : A → Stepped S) → (b ≡ false → (x : A) → r ≡ Ok x → Going P (k x)) → Going P (once n b r k)
    past_first n true r k h = off _
    past_first n false (Ok x) k h = h refl x refl
    past_first n false (Err w) k h = off w

    pub past-once : (n : ℕ) (b : Bool) (r : Read A) (k : A → Stepped S) → ((x : A) → r ≡ Ok x → Going P (k x)) → Going P (once n b r k)
    past-once n b r k h = past_first n b r k (λ e. h)

    pub past_row : (table cap c : ℕ) (r : Read A) (k : A → Reading S) → ((x : A) → r ≡ Ok x → P (k x)) → Going P (row table cap c r k)
    unfolding Step.row
    past_row table cap c (Ok x) k h = past-cond (ltb c cap) (goes (k x)) (stop 21 table) (on (k x) (h x refl)) (off _)
    past_row table cap c (Err w) k h = off w
