-- The two shapes of a step, at most once and one row more, by what their code found.
-- Assumes nothing.
use Prim.Native.Nat.{ℕ, ◌≤◌, ◌<◌}
use mathlib.Core.Path.{◌≡◌, refl, sym, ap, ◌∙◌}
use mathlib.Core.Bool.{Bool, true, false, cond}
use mathlib.Core.List.{List, [], ◌∷◌, ◌++◌}
use lib.Dec.{ltb}
use lib.ListN.{length, drop, length-append}
use native.Mathlib.Omega.{arith}
use borrow.Author.Tests.{ltb-true}
use Rattle.sdp_lines.specs.declared.Span.{Span}
use Rattle.sdp_judge.specs.Read.{Read, plain}
use Rattle.sdp_judge.specs.declared.Wrong.{Wrong}
use Rattle.std.specs.Prelude.{Option, Result, Ok, Err}
use Rattle.sdp_area.specs.Session.{Session, Within}
use Rattle.sdp_area.specs.Latest.{given}
use Rattle.sdp_area.specs.Area.{encode, size}
use Rattle.sdp_cells.specs.Tables.{add, full, pushed}
use Rattle.sdp_cells.specs.declared.Full.{Full}
use Rattle.sdp_step.specs.Step.{Reading, Stepped, goes, stop, once, row}
use Rattle.sdp_step.specs.Hold.{Holds, Handled, stored_of}
use Rattle.sdp_step.specs.declared.Marks.{Marks}
use Rattle.sdp_step.proofs.TailLaws.{behind}

-- ---- at most once
module _ {A : Type 0} (n : ℕ) (b : Bool) (r : Read A) (k : A → Stepped Span) (a t : List ℕ) where
  pub once-second : b ≡ true → drop size a ≡ t → Handled (once n b r k) (Err (plain n 0)) a t
  once-second e d = rw e (refl, d)

  module _ (e : b ≡ false) where
    pub once_wrong : (w : Wrong) → r ≡ Err w → drop size a ≡ t → Handled (once n b r k) (Err w) a t
    once_wrong w f d = rw (e, f) (refl, d)

    pub once_then : (x : A) (y : Result Marks Wrong) → r ≡ Ok x → Handled (k x) y a t → Handled (once n b r k) y a t
    once_then x y f h = rw (e, f) h

    pub once-kept : (x : A) (ρ : Reading Span) (m : Marks) → r ≡ Ok x → k x ≡ goes ρ → Holds ρ m a t → Handled (once n b r k) (Ok m) a t
    once-kept x ρ m f g h = rw (e, f, g) h

-- ---- one row more
module _ {A : Type 0} (table cap c : ℕ) (r : Read A) (k : A → Reading Span) (a t : List ℕ) where
  pub row_wrong : (w : Wrong) → r ≡ Err w → drop size a ≡ t → Handled (row table cap c r k) (Err w) a t
  unfolding row
  row_wrong w f d = rw f (refl, d)

-- p is what the push of q behind the rows xs answered, and a the area then; the session has a head and zones as before
module _ {A X : Type 0} (table cap : ℕ) (xs : List X) (r : Read A) (k : A → Reading Span) (x : A) (f : r ≡ Ok x) (q : X) (put : List X → Session Span)
    (m : Marks) (t a₀ a : List ℕ) (ρ : Reading Span) (h : Holds ρ m a₀ t) (p : Result (Unit {0}) Full) (told : p ≡ pushed cap xs) (bytes : a ≡ encode (put (add cap xs q)) ++ t)
    (within : (ys : List X) → length ys ≤ cap → Within (put ys)) (is : k x ≡ record { session = put (xs ++ (q ∷ [])); zoned = ρ.zoned })
    (name : (put (xs ++ (q ∷ []))).head.name ≡ ρ.session.head.name) (zones : (put (xs ++ (q ∷ []))).tables.zones ≡ ρ.session.tables.zones) where
  kept : length xs < cap → a ≡ encode (put (xs ++ (q ∷ []))) ++ t → Holds (record { session = put (xs ++ (q ∷ [])); zoned = ρ.zoned }) m a t
  kept l e =
      record {
        marks = h.marks ∙ sym (ap (λ (n : Option Span). record { named = given n; zoned = ρ.zoned }) name);
        bytes = e;
        within = within (xs ++ (q ∷ [])) (omega (arith, length-append xs (q ∷ [])));
        unzoned = λ z. zones ∙ h.unzoned z;
      }

  pub row_pushed : Handled (row table cap (length xs) r k) (stored_of p table m) a t
  unfolding row
  row_pushed = rw (f, told, is) (go (ltb (length xs) cap) refl bytes)
    where
      go : (b : Bool) → ltb (length xs) cap ≡ b → a ≡ encode (put (cond b (xs ++ (q ∷ [])) xs)) ++ t
          → Handled (cond b (goes (record { session = put (xs ++ (q ∷ [])); zoned = ρ.zoned })) (stop 21 table)) (stored_of (cond b (Ok tt) (Err full)) table m) a t
      go true e u = kept (ltb-true (length xs) cap e) u
      go false e u = (refl, ap (drop size) u ∙ behind (put xs) t)
