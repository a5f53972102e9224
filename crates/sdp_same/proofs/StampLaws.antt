-- The lines of what is read from a text: one for each cell, and none above the limit. Assumes nothing.
use Prim.Native.Nat.{ℕ, zero, suc, ◌+◌, ◌-◌, ◌≤◌}
use native.Mathlib.Omega.{arith}
use mathlib.Core.Path.{◌≡◌, refl}
use mathlib.Core.Bool.{Bool, true, false, cond}
use mathlib.Core.List.{List, [], ◌∷◌}
use lib.Dec.{eqb}
use lib.ListN.{length, take, drop, replicate}
use Rattle.sdp_numbers.specs.Refusals.{highest_line}
use Rattle.sdp_lines.specs.Lines as cut
use Rattle.sdp_lines.specs.Lines.{Raw, onto, split, content, width, form_of, Form}
use Rattle.sdp_lines.specs.declared.Span.{Span}
use Rattle.std.specs.Prelude.{Some, None, Ok, Err}
use Rattle.sdp_cells.specs.Bytes as bytes
use Rattle.sdp_cells.proofs.ByteLaws.{length-zeros}
use Rattle.sdp_area.specs.Session.{Session, Within}
use Rattle.sdp_area.specs.Columns.{cells}
use Rattle.sdp_strings.specs.Strings.{span_at}
use Rattle.sdp_step.specs.Step.{Reading, Stepped, goes, stops, fresh}
use Rattle.sdp_stamp.specs.Stamp as stamps
use Rattle.sdp_stamp.specs.Stamp.{no_stamps, stamp_rows, stamp_all, begins, rows_in, title_cell, title_rows, stamped}
use Rattle.sdp_stamp.proofs.CellLaws.{stamped-length}
use Rattle.sdp_counts.specs.Count.{from_version}
use Rattle.sdp_read.specs.Run as reader
use Rattle.sdp_read.specs.Run.{step_form, stamps_after, run_stamps, begin_stamps, stamps_of}
use Rattle.sdp_same.specs.Fits.{Each}
use Rattle.sdp_same.specs.Sound.{FineIn, Sound}
use Rattle.sdp_same.proofs.LinesLaws.{first_stands}
use Rattle.sdp_same.proofs.RowLaws.{each_append}
use Rattle.sdp_same.proofs.KeptLaws.{Goes}
use Rattle.sdp_same.proofs.SoundLaws.{Kept, empty_sound, form_sound}

-- what holds of each number in a list, and of those that are stamped over it
module _ (P : ℕ → Type 0) where
  each_take : (k : ℕ) (l : List ℕ) → Each P l → Each P (take k l)
  each_take zero l h = tt
  each_take (suc k) [] h = tt
  each_take (suc k) (x ∷ l) h = (h.0, each_take k l h.1)

  each-drop : (k : ℕ) (l : List ℕ) → Each P l → Each P (drop k l)
  each-drop zero l h = h
  each-drop (suc k) [] h = tt
  each-drop (suc k) (x ∷ l) h = each-drop k l h.1

  each_copy : (n : ℕ) → P n → (k : ℕ) → Each P (replicate k n)
  each_copy n p zero = tt
  each_copy n p (suc k) = (p, each_copy n p k)

  module _ (n : ℕ) (p : P n) where
    each_rows : (c i j : ℕ) (l : List ℕ) → Each P l → Each P (stamp_rows n c i j l)
    unfolding stamps.stamp_rows bytes.over
    each_rows c i j l h =
        let bs : List ℕ = replicate (j - i) n in
        each_append P (take (c + i) l) _ (each_take (c + i) l h) (each_append P bs _ (each_copy n p (j - i)) (each-drop (c + i + length bs) l h))

    each_all : (cs is js l : List ℕ) → Each P l → Each P (stamp_all n cs is js l)
    unfolding stamps.stamp_all
    each_all [] is js l h = h
    each_all (c ∷ cs) [] js l h = h
    each_all (c ∷ cs) (i ∷ is) [] l h = h
    each_all (c ∷ cs) (i ∷ is) (j ∷ js) l h = each_all cs is js (stamp_rows n c i j l) (each_rows c i j l h)

    each-stamped : {S : Type 0} (s s' : Session S) (l : List ℕ) → Each P l → Each P (stamped n s s' l)
    unfolding stamps.stamped
    each-stamped s s' l h = each_all begins (rows_in s) (rows_in s') _ (each_rows (title_cell s') (title_rows s) (title_rows s') l h)

-- a line for each cell, and none above the limit
pub record LowLines (ls : List ℕ) : Type 0 where
  pub all : length ls ≡ cells
  pub low : Each (λ n. n ≤ highest_line) ls

none_low : LowLines no_stamps
unfolding bytes.zeros
none_low = record { all = length-zeros cells; low = each_copy (λ n. n ≤ highest_line) 0 (omega arith) cells }

pub sound_within : (P : Span → Type 0) (s : Session Span) → Sound P s → Within s
sound_within P s h = let T = h.fits.tables in record {
  emails = T.emails.few;
  phones = T.phones.few;
  connections = T.connections.few;
  bandwidths = T.bandwidths.few;
  times = T.times.few;
  repeats = T.repeats.few;
  offsets = T.offsets.few;
  zones = T.zones.few;
  attributes = T.attributes.few;
  medias = T.medias.few;
}

-- a text has no more lines than bytes
line-each : (t : List ℕ) → length (split t) ≤ length t
unfolding cut.split
line-each [] = omega arith
line-each (b ∷ t) = go (eqb b 10) (split t) (line-each t)
  where
    go : (e : Bool) (rs : List Raw) → length rs ≤ length t → length (cond e (record { body = []; ended = true } ∷ rs) (onto b rs)) ≤ suc (length t)
    go true rs h = omega arith
    go false [] h = omega arith
    go false (r ∷ rs) h = omega arith

-- ---- line by line: n is the number of the first of the lines
version_low : (g : Form) (skip here : List ℕ) → LowLines skip → LowLines here → LowLines (from_version g skip here)
version_low (Ok None) skip here a b = a
version_low (Ok (Some c)) skip here a b = b
version_low (Err x) skip here a b = b

module _ (t : List ℕ) where
  after_low : (x : Stepped Span) (ρ : Reading Span) (n : ℕ) (ls : List ℕ) (k : Reading Span → List ℕ → List ℕ) → Goes (Kept t) x → n ≤ highest_line → LowLines ls
      → ((τ : Reading Span) (ks : List ℕ) → Kept t τ → LowLines ks → LowLines (k τ ks)) → LowLines (stamps_after span_at x ρ n ls k)
  after_low (goes τ) ρ n ls k g l f h =
      h τ _ g
      (record { all = stamped-length n ρ.session τ.session ls (sound_within (FineIn t) τ.session g) f.all; low = each-stamped (λ m. m ≤ highest_line) n l ρ.session τ.session ls f.low })
  after_low (stops w) ρ n ls k g l f h = f

  run_low : (rs : List Raw) (ρ : Reading Span) (ls : List ℕ) (n p : ℕ) → Kept t ρ → split (drop p t) ≡ rs → n + length rs ≤ highest_line + 1 → LowLines ls
      → LowLines (run_stamps span_at ρ ls n p rs)
  unfolding reader.run_stamps
  run_low [] ρ ls n p h e l f = f
  run_low (r ∷ rs) ρ ls n p h e l f =
      let w = first_stands t p r rs e in
      after_low (step_form span_at ρ p (content r) (form_of (content r))) ρ n ls (λ τ ks. run_stamps span_at τ ks (n + 1) (p + width r) rs)
      (form_sound t p (content r) w.0 ρ h (form_of (content r)) refl) (omega arith) f (λ τ ks k g. run_low rs τ ks (n + 1) (p + width r) k w.1 (omega arith) g)

  begin_low : (rs : List Raw) (n p : ℕ) → split (drop p t) ≡ rs → n + length rs ≤ highest_line + 1 → LowLines (begin_stamps span_at n p rs)
  unfolding reader.begin_stamps
  begin_low [] n p e l = none_low
  begin_low (r ∷ rs) n p e l =
      let w = first_stands t p r rs e in
      version_low (form_of (content r)) _ _ (begin_low rs (n + 1) (p + width r) w.1 (omega arith))
      (run_low rs fresh no_stamps (n + 1) (p + width r) (empty_sound (FineIn t)) w.1 (omega arith) none_low)

  pub stamps_low : length t ≤ 32768 → LowLines (stamps_of t)
  stamps_low short = begin_low (split t) 1 0 refl (omega (arith, line-each t))
