-- The lines after the version: those put in have no effect, and the others stand further down. Assumes nothing.
use mathlib.Core.Path.{◌≡◌, refl, ap, ◌∙◌}
use mathlib.Core.Logic.{◌⊎◌, inl, inr}
use mathlib.Core.List.{List, [], ◌∷◌}
use Prim.Native.Nat.{ℕ, suc, ◌+◌}
use native.Mathlib.Omega.{arith}
use lib.ListN.{length, drop}
use Rattle.sdp_lines.specs.Lines
use Rattle.sdp_lines.specs.Lines.{Raw, split, content, width, form_of, Form}
use Rattle.std.specs.Prelude.{Some, None, Ok, Err}
use Rattle.sdp_area.specs.Session.{Session}
use Rattle.sdp_step.specs.Step
use Rattle.sdp_step.specs.Step.{Reading, Stepped, goes, stops, step_role}
use Rattle.sdp_counts.specs.Count.{role_of, opens}
use Rattle.sdp_read.specs.Run
use Rattle.sdp_read.specs.Run.{Verdict, accepted, after, step_form, run}
use Rattle.sdp_same.specs.Said.{bytes_at}
use Rattle.sdp_same.proofs.MediaLaws.{line-medias}
use Rattle.sdp_insert.specs.Insert.{ended, ended_form, Idle, InsertedFrom, same, keep, put, above_from, bytes_from, on_byte}
use Rattle.sdp_insert.proofs.SplitLaws.{split-line}

-- ---- two verdicts
-- the same session
pub record Accepts (v v' : Verdict (List ℕ)) : Type 0 where
  pub session : Session (List ℕ)
  pub first : v ≡ accepted session
  pub second : v' ≡ accepted session

-- the same refusal: of a line with k lines from number n on above it, and in the second text `more k` lines besides, of `bytes k` bytes
pub record Refuses (n : ℕ) (more bytes : ℕ → ℕ) (v v' : Verdict (List ℕ)) : Type 0 where
  pub number : ℕ
  pub field : ℕ
  pub k : ℕ
  pub place : ℕ
  pub first : v ≡ on_byte number (n + k) field place
  pub second : v' ≡ on_byte number (n + k + more k) field (place + bytes k)

-- one of the two
abbrev pub Follows : ℕ → (ℕ → ℕ) → (ℕ → ℕ) → Verdict (List ℕ) → Verdict (List ℕ) → Type 0
Follows n more bytes v v' = Accepts v v' ⊎ Refuses n more bytes v v'

-- ---- one line
module _ (n : ℕ) (f g f' g' : ℕ → ℕ) (v v' : Verdict (List ℕ)) where
  follows_same : ((k : ℕ) → f k ≡ g k) → ((k : ℕ) → f' k ≡ g' k) → Follows n f f' v v' → Follows n g g' v v'
  follows_same e e' (inl h) = inl h
  follows_same e e' (inr h) =
      inr (record {
        number = h.number;
        field = h.field;
        k = h.k;
        place = h.place;
        first = h.first;
        second = h.second ∙ (λ d. on_byte h.number (n + h.k + e h.k d) h.field (h.place + e' h.k d));
      })

  -- past a line of both texts
  pub follows_past : ((k : ℕ) → f k ≡ g (suc k)) → ((k : ℕ) → f' k ≡ g' (suc k)) → Follows (n + 1) f f' v v' → Follows n g g' v v'
  follows_past e e' (inl h) = inl h
  follows_past e e' (inr h) =
      let x : n + 1 + h.k ≡ n + suc h.k = omega arith in
      let y : n + 1 + h.k + f h.k ≡ n + suc h.k + g (suc h.k) = omega (arith, e h.k) in
      inr (record {
        number = h.number;
        field = h.field;
        k = suc h.k;
        place = h.place;
        first = h.first ∙ ap (λ (m : ℕ). on_byte h.number m h.field h.place) x;
        second = h.second ∙ (λ d. on_byte h.number (y d) h.field (h.place + e' h.k d));
      })

-- a line of both texts, whose value stands at p in the first; in the second it stands d lines further down, and c bytes
line_follows : (σ σ' : Stepped (List ℕ)) → σ ≡ σ' → (n d p c : ℕ) (f g f' g' : ℕ → ℕ) (j j' : Reading (List ℕ) → Verdict (List ℕ)) → g 0 ≡ d → g' 0 ≡ c
    → ((k : ℕ) → f k ≡ g (suc k)) → ((k : ℕ) → f' k ≡ g' (suc k))
    → ((τ : Reading (List ℕ)) → σ ≡ goes τ → Follows (n + 1) f f' (j τ) (j' τ)) → Follows n g g' (after bytes_at σ n (p + 2) j) (after bytes_at σ' (n + d) (p + c + 2) j')
line_follows (goes τ) σ' q n d p c f g f' g' j j' z z' e e' h = rw (← q) (follows_past n f g f' g' (j τ) (j' τ) e e' (h τ refl))
line_follows (stops w) σ' q n d p c f g f' g' j j' z z' e e' h =
    let x : n ≡ n + 0 = omega arith in
    let y : n + d ≡ n + 0 + g 0 = omega arith in
    let b : p + c + 2 + w.at ≡ p + 2 + w.at + g' 0 = omega arith in
    rw (← q) (inr (record {
      number = w.number;
      field = w.field;
      k = 0;
      place = p + 2 + w.at;
      first = ap (λ (m : ℕ). on_byte w.number m w.field (p + 2 + w.at)) x;
      second = λ i. on_byte w.number (y i) w.field (b i);
    }))

-- strings as bytes look at no place
any_place : (ρ : Reading (List ℕ)) (p q : ℕ) (l : List ℕ) (f : Form) → step_form bytes_at ρ p l f ≡ step_form bytes_at ρ q l f
any_place ρ p q l (Ok None) = refl
any_place ρ p q l (Ok (Some c)) = refl
any_place ρ p q l (Err f) = refl

-- a line without use
idle_goes : (ρ : Reading (List ℕ)) (p : ℕ) (l : List ℕ) (f : Form) → Idle (length ρ.session.tables.medias) f → step_form bytes_at ρ p l f ≡ goes ρ
unfolding Step.step_role
idle_goes ρ p l (Ok None) h = refl
idle_goes ρ p l (Ok (Some c)) h = ap (step_role (bytes_at (p + 2) (drop 2 l)) ρ (drop 2 l)) h
idle_goes ρ p l (Err f) h = absurd h

-- a line with its LF
ended-width : (l : List ℕ) → width (ended l) ≡ length l + 1
unfolding Lines.width
ended-width l = refl

-- ---- all lines
-- the same lines, d further down, and c bytes
run_down : (rs : List Raw) (ρ : Reading (List ℕ)) (n d p c : ℕ) → Follows n (λ k. d) (λ k. c) (run bytes_at ρ n p rs) (run bytes_at ρ (n + d) (p + c) rs)
unfolding Run.run
run_down [] ρ n d p c = inl (record { session = ρ.session; first = refl; second = refl })
run_down (r ∷ rs) ρ n d p c =
    line_follows (step_form bytes_at ρ p (content r) (form_of (content r))) _ (any_place ρ p (p + c) (content r) (form_of (content r))) n d p c (λ k. d) (λ k. d) (λ k. c) (λ k. c)
    (λ τ. run bytes_at τ (n + 1) (p + width r) rs) (λ τ. run bytes_at τ (n + d + 1) (p + c + width r) rs) refl refl (λ k. refl) (λ k. refl)
    (λ τ q.
    let x : n + 1 + d ≡ n + d + 1 = omega arith in
    let y : p + width r + c ≡ p + c + width r = omega arith in
    rw (← x, ← y) (run_down rs τ (n + 1) d (p + width r) c))

-- with lines put in, besides d above, and c bytes
pub run_follows : {medias : ℕ} {t t' : List ℕ} (i : InsertedFrom medias t t') (ρ : Reading (List ℕ)) → length ρ.session.tables.medias ≡ medias → (n d p c : ℕ)
    → Follows n (λ k. d + above_from i k) (λ k. c + bytes_from i k) (run bytes_at ρ n p (split t)) (run bytes_at ρ (n + d) (p + c) (split t'))
unfolding Run.run
run_follows (same medias t) ρ e n d p c =
    follows_same n (λ k. d) (λ k. d + 0) (λ k. c) (λ k. c + 0) _ _ (λ k. omega arith) (λ k. omega arith) (run_down (split t) ρ n d p c)
run_follows (keep {t = t} {t' = t'} l h i) ρ e n d p c =
    rw (split-line l t h, split-line l t' h)
    (line_follows (step_form bytes_at ρ p (content (ended l)) (ended_form l)) _ (any_place ρ p (p + c) (content (ended l)) (ended_form l)) n d p c
    (λ k. d + above_from i k) (λ k. d + above_from (keep l h i) k) (λ k. c + bytes_from i k) (λ k. c + bytes_from (keep l h i) k)
    (λ τ. run bytes_at τ (n + 1) (p + width (ended l)) (split t)) (λ τ. run bytes_at τ (n + d + 1) (p + c + width (ended l)) (split t')) (omega arith) (omega arith) (λ k. refl) (λ k. refl)
    (λ τ q.
    let x : n + 1 + d ≡ n + d + 1 = omega arith in
    let y : p + width (ended l) + c ≡ p + c + width (ended l) = omega arith in
    rw (← x, ← y) (run_follows i τ (line-medias bytes_at ρ p (content (ended l)) (ended_form l) τ q ∙ ap (λ (m : ℕ). m + opens (role_of m (ended_form l))) e) (n + 1) d (p + width (ended l)) c)))
run_follows (put {t = t} {t' = t'} l h u i) ρ e n d p c =
    let x : n + (d + 1) ≡ n + d + 1 = omega arith in
    let y : p + (c + (length l + 1)) ≡ p + c + width (ended l) = omega (arith, ended-width l) in
    let g : step_form bytes_at ρ (p + c) (content (ended l)) (ended_form l) ≡ goes ρ = idle_goes ρ (p + c) (content (ended l)) (ended_form l) (rw (← e) at u) in
    rw (split-line l t' h, g, ← x, ← y)
    (follows_same n (λ k. d + 1 + above_from i k) (λ k. d + suc (above_from i k)) (λ k. c + (length l + 1) + bytes_from i k) (λ k. c + (length l + 1 + bytes_from i k)) _ _
    (λ k. omega arith) (λ k. omega arith) (run_follows i ρ e n (d + 1) p (c + (length l + 1))))
