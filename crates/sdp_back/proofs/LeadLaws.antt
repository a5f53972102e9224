-- What is read of written lines, one after another: where the session leads. Assumes nothing.
use mathlib.Core.Path.{◌≡◌, refl, ap}
use mathlib.Core.Bool.{Bool, true, false, cond}
use mathlib.Core.List.{List, [], ◌∷◌, ◌++◌, append-nil, append_assoc}
use Rattle.std.specs.Prelude.{Option, Some, None}
use Prim.Native.Nat.{ℕ, ◌+◌, ◌≤◌, ◌<◌}
use native.Mathlib.Omega.{arith}
use lib.ListN.{length, length-append}
use lib.Dec.{ltb, eqb}
use borrow.Author.Tests.{ltb-true, ltb-false, lt-ltb, le-ltb, eqb-true, eqb-false, ne_eqb}
use Rattle.sdp_lines.specs.Lines as cutter
use Rattle.sdp_lines.specs.Lines.{split, content}
use Rattle.sdp_split.specs.Split.{part}
use Rattle.sdp_area.specs.Session.{Session}
use Rattle.sdp_step.specs.Step.{Reading, goes, step, fresh}
use Rattle.sdp_read.specs.Run as reader
use Rattle.sdp_read.specs.Run.{accepted, run, lines}
use Rattle.sdp_decode.specs.Rows as rows
use Rattle.sdp_decode.specs.Rows.{each, mine}
use Rattle.sdp_row.specs.Written.{line, optional}
use Rattle.sdp_row.proofs.FormLaws.{letter, chop-cr, line_form, line-split}
use Rattle.sdp_same.specs.Fits.{IfGiven, Each}
use Rattle.sdp_same.specs.Sound.{Rising}
use Rattle.sdp_same.specs.Said.{bytes_at}
use Rattle.sdp_put.proofs.ByteLaws.{every, bare}

-- ---- where reading leads: with xs before them, the lines after xs are read from τ on in place of ρ
pub record Leads (ρ : Reading (List ℕ)) (xs : List ℕ) (τ : Reading (List ℕ)) : Type 0 where
  pub read : (rest : List ℕ) (s : Session (List ℕ)) → ((n p : ℕ) → run bytes_at τ n p (split rest) ≡ accepted s) → (n p : ℕ) → run bytes_at ρ n p (split (xs ++ rest)) ≡ accepted s

pub stay : {ρ : Reading (List ℕ)} → Leads ρ [] ρ
stay = record { read = λ rest s h. h }

infixr 50 ◌then◌
pub ◌then◌ : {ρ σ τ : Reading (List ℕ)} {xs ys : List ℕ} → Leads ρ xs σ → Leads σ ys τ → Leads ρ (xs ++ ys) τ
◌then◌ {xs = xs} {ys = ys} a b = record { read = λ rest s h n p. rw (append_assoc xs ys rest) (a.read (ys ++ rest) s (b.read rest s h) n p) }

pub line_leads : (ρ τ : Reading (List ℕ)) (l : ℕ) (v : List ℕ) → letter l ≡ true → bare v ≡ true → step (part v) ρ v l ≡ goes τ → Leads ρ (line l v) τ
unfolding reader.run cutter.content
line_leads ρ τ l v good b e = record {
  read = λ rest s h n p. rw (line-split l v good b rest, chop-cr (l ∷ 0x3d ∷ v), line_form l v good b, e) (h (n + 1) _);
}

-- what may be absent
pub optional_leads : {X : Type 0} (P : X → Type 0) (f : X → List ℕ) (at : Option X → Reading (List ℕ)) → ((x : X) → P x → Leads (at None) (f x) (at (Some x))) → (o : Option X) → IfGiven P o → Leads (at None) (optional f o) (at o)
optional_leads P f at go None h = stay
optional_leads P f at go (Some x) h = go x h

-- the version line, and the lines after it
pub begin_leads : (rest : List ℕ) (s : Session (List ℕ)) → ((n p : ℕ) → run bytes_at fresh n p (split rest) ≡ accepted s) → lines bytes_at (line 0x76 (0x30 ∷ []) ++ rest) ≡ accepted s
unfolding reader.lines reader.begin cutter.content every
begin_leads rest s h = rw (line-split 0x76 (0x30 ∷ []) refl refl rest, chop-cr (0x76 ∷ 0x3d ∷ 0x30 ∷ []), line_form 0x76 (0x30 ∷ []) refl refl) (h 2 _)

-- ---- rows
-- the state after rows of a table, and the bytes of the k-th row
module _ {X : Type 0} (P : X → Type 0) (cap : ℕ) (f : ℕ → X → List ℕ) (at : List X → Reading (List ℕ)) where
  rows-after : ((xs : List X) (x : X) → P x → length xs < cap → Leads (at xs) (f (length xs + 1) x) (at (xs ++ (x ∷ []))))
      → (xs ys : List X) → Each P ys → length xs + length ys ≤ cap → Leads (at xs) (each f (length xs + 1) ys) (at (xs ++ ys))
  unfolding rows.each
  rows-after go xs [] h l = rw (append-nil xs) stay
  rows-after go xs (y ∷ ys) h l =
      let n : length (xs ++ (y ∷ [])) ≡ length xs + 1 = length-append xs (y ∷ []) in
      let a : xs ++ (y ∷ []) ++ ys ≡ xs ++ (y ∷ ys) = append_assoc xs (y ∷ []) ys in
      go xs y h.0 (omega arith) then (rw (n, a) at (rows-after go (xs ++ (y ∷ [])) ys h.1 (omega arith)))

  pub rows_lead : ((xs : List X) (x : X) → P x → length xs < cap → Leads (at xs) (f (length xs + 1) x) (at (xs ++ (x ∷ []))))
      → (ys : List X) → Each P ys → length ys ≤ cap → Leads (at []) (each f 1 ys) (at ys)
  rows_lead go ys h l = rows-after go [] ys h (omega arith)

-- ---- rows with an owner
module _ {X : Type 0} (owner : X → ℕ) where
  -- the rows of the owners before n, where owners never fall
  unfoldable pub below : ℕ → List X → List X
  below n [] = []
  below n (x ∷ xs) = cond (ltb (owner x) n) (x ∷ below n xs) []

  pub below_none : (n most lo : ℕ) (xs : List X) → Rising owner most lo xs → n ≤ lo → below n xs ≡ []
  unfolding below
  below_none n most lo [] r h = refl
  below_none n most lo (x ∷ xs) r h = let l = r.0 in rw (le-ltb (owner x) n (omega arith))

  pub below_all : (n most lo : ℕ) (xs : List X) → Rising owner most lo xs → most < n → below n xs ≡ xs
  unfolding below
  below_all n most lo [] r h = refl
  below_all n most lo (x ∷ xs) r h = let l = r.1 in rw (lt-ltb (owner x) n (omega arith)) (ap (λ ys. x ∷ ys) (below_all n most (owner x) xs r.2 h))

  module _ (P : X → Type 0) (cap n : ℕ) (f : ℕ → X → List ℕ) (at : List X → Reading (List ℕ)) where
    abbrev owned : ℕ → List X → List ℕ
    owned k xs = each (λ k x. mine n (owner x) (f k x)) k xs

    none_owned : (k most lo : ℕ) (xs : List X) → Rising owner most lo xs → n < lo → owned k xs ≡ []
    unfolding rows.each rows.mine
    none_owned k most lo [] r h = refl
    none_owned k most lo (x ∷ xs) r h = let l = r.0 in rw (ne_eqb (owner x) n (λ e. omega arith)) (none_owned (k + 1) most (owner x) xs r.2 (omega arith))

    from_lead : ((xs : List X) (x : X) → P x → owner x ≡ n → length xs < cap → Leads (at xs) (f (length xs + 1) x) (at (xs ++ (x ∷ []))))
        → (xs ys : List X) (most lo : ℕ) → Rising owner most lo ys → Each P ys → length xs + length ys ≤ cap → Leads (at (xs ++ below n ys)) (owned (length xs + 1) ys) (at (xs ++ below (n + 1) ys))
    unfolding rows.each rows.mine below
    from_lead go xs [] most lo r h l = stay
    from_lead go xs (y ∷ ys) most lo r h l =
        by (ltb (owner y) n) (eqb (owner y) n) refl refl
        (rw (length-append xs (y ∷ []), append_assoc xs (y ∷ []) (below n ys), append_assoc xs (y ∷ []) (below (n + 1) ys)) at (from_lead go (xs ++ (y ∷ [])) ys most (owner y) r.2 h.1 (omega (arith, length-append xs (y ∷ [])))))
      where
        by : (a b : Bool) → ltb (owner y) n ≡ a → eqb (owner y) n ≡ b
            → Leads (at (xs ++ (y ∷ below n ys))) (owned (length xs + 1 + 1) ys) (at (xs ++ (y ∷ below (n + 1) ys)))
            → Leads (at (xs ++ cond a (y ∷ below n ys) [])) (cond b (f (length xs + 1) y) [] ++ owned (length xs + 1 + 1) ys) (at (xs ++ cond (ltb (owner y) (n + 1)) (y ∷ below (n + 1) ys) []))
        by true true p q ih = absurd (omega (arith, ltb-true (owner y) n p, eqb-true (owner y) n q))
        by true false p q ih = rw (lt-ltb (owner y) (n + 1) (omega (arith, ltb-true (owner y) n p))) ih
        by false true p q ih =
            let e = eqb-true (owner y) n q in
            let z : below n ys ≡ [] = below_none n most (owner y) ys r.2 (omega arith) in
            rw (lt-ltb (owner y) (n + 1) (omega arith), append-nil xs) (go xs y h.0 e (omega arith) then (rw z at ih))
        by false false p q ih =
            let d = eqb-false (owner y) n q in
            let c = ltb-false (owner y) n p in
            rw (le-ltb (owner y) (n + 1) (omega arith), none_owned (length xs + 1 + 1) most (owner y) ys r.2 (omega arith)) stay

    pub owned_lead : ((xs : List X) (x : X) → P x → owner x ≡ n → length xs < cap → Leads (at xs) (f (length xs + 1) x) (at (xs ++ (x ∷ []))))
        → (ys : List X) (most lo : ℕ) → Rising owner most lo ys → Each P ys → length ys ≤ cap → Leads (at (below n ys)) (owned 1 ys) (at (below (n + 1) ys))
    owned_lead go ys most lo r h l = from_lead go [] ys most lo r h (omega arith)
