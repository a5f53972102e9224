-- Each record of an accepted text came with the line in its cell: line by line, with what the lines before it say.
-- Assumes nothing.
use Prim.Native.Nat.{ℕ, zero, suc, ◌+◌, ◌-◌, ◌<◌}
use native.Mathlib.Omega.{arith}
use native.Mathlib.Decide.{dec_lt}
use mathlib.Core.Path.{◌≡◌, refl, sym, ap, subst, ◌∙◌}
use mathlib.Core.Logic.{inl, inr}
use mathlib.Core.Bool.{Bool, true, false, cond, ◌||◌, and-false}
use mathlib.Core.List.{List, [], ◌∷◌, ◌++◌, append_assoc, append-nil}
use lib.Dec.{leb, eqb}
use lib.ListN.{length, take, drop, get_or, replicate, length-append}
use lib.Seq.{take_at}
use Rattle.sdp_lines.specs.Lines.{Raw, split, content, width, form_of, Form}
use Rattle.sdp_lines.specs.declared.Span.{Span}
use Rattle.std.specs.Prelude.{Some, None, Ok, Err}
use Rattle.sdp_cells.specs.Bytes as bytes
use Rattle.sdp_cells.specs.Bytes.{num, zeros}
use Rattle.sdp_cells.proofs.ByteLaws.{length-zeros}
use Rattle.sdp_area.specs.Session.{Session, empty}
use Rattle.sdp_area.specs.Columns.{cells, cell_at, area_size}
use Rattle.sdp_roles.specs.Roles.{role_at}
use Rattle.sdp_strings.specs.Strings.{span_at}
use Rattle.sdp_step.specs.Step.{Reading, Stepped, goes, stops, fresh}
use Rattle.sdp_step.proofs.GoingLaws.{on, off}
use Rattle.sdp_stamp.specs.Stamp.{no_stamps, begins, stamped}
use Rattle.sdp_stamp.proofs.CellLaws.{stamped-length}
use Rattle.sdp_read.specs.Run as reader
use Rattle.sdp_read.specs.Run.{Verdict, accepted, refused, no_version, bad_version, is_zero, after, step_form, run, version, begin, begin_form, lines, stamps_after, run_stamps, begin_stamps, stamps_of}
use Rattle.sdp_same.specs.Sound.{FineIn}
use Rattle.sdp_counts.specs.Count.{from_version}
use Rattle.sdp_same.proofs.StandsLaws.{Stands}
use Rattle.sdp_same.proofs.LinesLaws.{first_stands}
use Rattle.sdp_same.proofs.KeptLaws.{Goes}
use Rattle.sdp_same.proofs.SoundLaws.{Kept, empty_sound, form_sound}
use Rattle.sdp_same.proofs.StampLaws.{sound_within}
use Rattle.sdp_same.proofs.ColumnLaws.{line_in}
use Rattle.sdp_same.proofs.SameLaws.{read_is, read_fits, read_then_write}
use Rattle.sdp_whence.specs.Whence as cell
use Rattle.sdp_whence.specs.Whence.{in_rows, in_any, there, Came, CellSays, Whence}
use Rattle.sdp_whence.proofs.PointLaws.{Moves, before-rows, behind-rows}
use Rattle.sdp_whence.proofs.GrowLaws.{Unzoned, Grown, not-grown, step_grows}
use Rattle.sdp_whence.proofs.ThereLaws.{there_moves}

-- ---- one line
form_grows : (ρ τ : Reading Span) (p : ℕ) (l : List ℕ) → Unzoned ρ → (f : Form) → step_form span_at ρ p l f ≡ goes τ → Grown ρ τ
form_grows ρ τ p l z (Ok None) e = on (Grown ρ) ρ (not-grown ρ z) τ e
form_grows ρ τ p l z (Err f) e = off (Grown ρ) _ τ e
form_grows ρ τ p l z (Ok (Some c)) e = step_grows (span_at (p + 2) (drop 2 l)) ρ (drop 2 l) z (role_at (length ρ.session.tables.medias) c) τ e

-- ---- an empty session has nothing, and no line
none_any : (cs : List ℕ) (k i : ℕ) → in_any cs (replicate k 0) i ≡ false
unfolding cell.in_any
none_any [] k i = refl
none_any (c ∷ cs) zero i = refl
none_any (c ∷ cs) (suc k) i = go (dec_lt i c) (none_any cs k i)
  where
    go : Dec (i < c) → in_any cs (replicate k 0) i ≡ false → in_rows c 0 i || in_any cs (replicate k 0) i ≡ false
    go (yes h) e = rw (before-rows c 0 i h) e
    go (no h) e = rw (behind-rows c 0 i (omega arith)) e

none_there : (i : ℕ) → there {S = Span} empty i ≡ false
unfolding cell.there
none_there i = rw (and-false (leb 1126 i), and-false (leb 1158 i)) (none_any begins 16 i)

zero_at : (n i : ℕ) → get_or (zeros n) i 0 ≡ 0
unfolding bytes.zeros
zero_at zero i = refl
zero_at (suc n) zero = refl
zero_at (suc n) (suc i) = zero_at n i

module _ (t : List ℕ) where
  -- the lines pre make the session ρ with the lines ls; rs are left, from number n and place p on
  record Read (pre rs : List Raw) (ρ : Reading Span) (ls : List ℕ) (n p : ℕ) : Type 0 where
    cut : split t ≡ pre ++ rs
    number : length pre + 1 ≡ n
    leads : (q : List Raw) → begin span_at 1 0 (pre ++ q) ≡ run span_at ρ n p q
    kept : Kept t ρ
    unzoned : Unzoned ρ
    here : split (drop p t) ≡ rs
    long : length ls ≡ cells
    tells : (i : ℕ) → CellSays t ρ.session i (get_or ls i 0)

  -- pre are the first lines of the text
  first_lines : (pre rs : List Raw) (n : ℕ) → split t ≡ pre ++ rs → length pre ≡ n → take n (split t) ≡ pre
  first_lines pre rs n e l = ap (take n) e ∙ take_at pre rs n l

  module _ (pre : List Raw) (r : Raw) (rs : List Raw) (ρ τ : Reading Span) (ls : List ℕ) (n p : ℕ) (h : Read pre (r ∷ rs) ρ ls n p)
      (e : step_form span_at ρ p (content r) (form_of (content r)) ≡ goes τ) where
    abbrev with : List Raw
    with = pre ++ (r ∷ [])

    cut_on : split t ≡ with ++ rs
    cut_on = h.cut ∙ sym (append_assoc pre (r ∷ []) rs)

    leads_on : (q : List Raw) → begin span_at 1 0 (with ++ q) ≡ run span_at τ (n + 1) (p + width r) q
    unfolding reader.run
    leads_on q = ap (begin span_at 1 0) (append_assoc pre (r ∷ []) q) ∙ h.leads (r ∷ q) ∙ ap (λ (σ : Stepped Span). after span_at σ n (p + 2) (λ υ. run span_at υ (n + 1) (p + width r) q)) e

    more : length with ≡ n
    more = length-append pre (r ∷ []) ∙ h.number

    came : (i : ℕ) → there ρ.session i ≡ false → there τ.session i ≡ true → Came t i n
    unfolding reader.run
    came i x y =
        let l = h.number in
        let k : length pre ≡ n - 1 = omega arith in
        record {
          before = ρ.session;
          with = τ.session;
          before_is = ap (begin span_at 1 0) (first_lines pre (r ∷ rs) (n - 1) h.cut k ∙ sym (append-nil pre)) ∙ h.leads [];
          with_is = ap (begin span_at 1 0) (first_lines with rs n cut_on more ∙ sym (append-nil with)) ∙ leads_on [];
          inside = (omega arith, omega (arith, more, ap length cut_on, length-append with rs));
          not_yet = x;
          now = y;
        }

    next : Read with rs τ (stamped n ρ.session τ.session ls) (n + 1) (p + width r)
    next =
        let w = first_stands t p r rs h.here in
        let g = form_grows ρ τ p (content r) h.unzoned (form_of (content r)) e in
        let k : Kept t τ = subst (Goes (Kept t)) e (form_sound t p (content r) w.0 ρ h.kept (form_of (content r)) refl) in
        let old = sound_within (FineIn t) ρ.session h.kept in
        let new = sound_within (FineIn t) τ.session k in
        record {
          cut = cut_on;
          number = ap (λ (k : ℕ). k + 1) more;
          leads = leads_on;
          kept = k;
          unzoned = g.unzoned;
          here = w.1;
          long = stamped-length n ρ.session τ.session ls new h.long;
          tells = λ i. go i (there_moves n ρ.session τ.session g.rows g.medias old new ls h.long i);
        }
      where
        go : (i : ℕ) → Moves (there ρ.session i) (there τ.session i) (get_or ls i 0) (get_or (stamped n ρ.session τ.session ls) i 0) n
            → CellSays t τ.session i (get_or (stamped n ρ.session τ.session ls) i 0)
        go i (inl m) = rw (m.0, m.1) (h.tells i)
        go i (inr m) = rw m.2 (inr (m.1, came i m.0 m.1))

  -- ---- the lines after the version
  module _ (x : Session Span) (i : ℕ) where
    past-step : (σ : Stepped Span) (ρ : Reading Span) (n p : ℕ) (ls : List ℕ) (k : Reading Span → Verdict Span) (f : Reading Span → List ℕ → List ℕ)
        → ((τ : Reading Span) → σ ≡ goes τ → k τ ≡ accepted x → CellSays t x i (get_or (f τ (stamped n ρ.session τ.session ls)) i 0))
        → after span_at σ n p k ≡ accepted x → CellSays t x i (get_or (stamps_after span_at σ ρ n ls f) i 0)
    past-step (goes τ) ρ n p ls k f h e = h τ refl e
    past-step (stops w) ρ n p ls k f h e = absurd (let z : ◌≡◌ {A = ℕ} 0 1 = cc in omega arith)

    run_whence : (rs pre : List Raw) (ρ : Reading Span) (ls : List ℕ) (n p : ℕ) → Read pre rs ρ ls n p → run span_at ρ n p rs ≡ accepted x
        → CellSays t x i (get_or (run_stamps span_at ρ ls n p rs) i 0)
    unfolding reader.run reader.run_stamps
    run_whence [] pre ρ ls n p h e = let z : ρ.session ≡ x = cc in rw z at (h.tells i)
    run_whence (r ∷ rs) pre ρ ls n p h e =
        past-step (step_form span_at ρ p (content r) (form_of (content r))) ρ n (p + 2) ls (λ τ. run span_at τ (n + 1) (p + width r) rs) (λ τ ks. run_stamps span_at τ ks (n + 1) (p + width r) rs)
        (λ τ q. run_whence rs (pre ++ (r ∷ [])) τ (stamped n ρ.session τ.session ls) (n + 1) (p + width r) (next pre r rs ρ τ ls n p h q)) e

  -- ---- the version line
  -- what it lets pass, it lets pass whatever follows
  version_passes : (x : Session Span) (n p : ℕ) (v : List ℕ) (c : ℕ) (k k' : Verdict Span) → version span_at n p v c k ≡ accepted x → version span_at n p v c k' ≡ k'
  version_passes x n p v c k k' = go (eqb c 0x76) (is_zero v)
    where
      go : (a b : Bool) → cond a (cond b k (refused (bad_version n p (length v)))) (refused no_version) ≡ accepted x
          → cond a (cond b k' (refused (bad_version n p (length v)))) (refused no_version) ≡ k'
      go true true e = refl
      go true false e = absurd (let z : ◌≡◌ {A = ℕ} 0 1 = cc in omega arith)
      go false b e = absurd (let z : ◌≡◌ {A = ℕ} 0 1 = cc in omega arith)

  -- ---- all lines
  module _ (x : Session Span) (i : ℕ) where
    begin_whence : (rs pre : List Raw) (n p : ℕ) → split t ≡ pre ++ rs → length pre + 1 ≡ n → ((q : List Raw) → begin span_at 1 0 (pre ++ q) ≡ begin span_at n p q) → split (drop p t) ≡ rs
        → begin span_at n p rs ≡ accepted x → CellSays t x i (get_or (begin_stamps span_at n p rs) i 0)
    unfolding reader.begin reader.begin_stamps
    begin_whence [] pre n p cut number leads here e = absurd (let z : ◌≡◌ {A = ℕ} 0 1 = cc in omega arith)
    begin_whence (r ∷ rs) pre n p cut number leads here e =
        form (form_of (content r)) refl (λ leads_on. begin_whence rs (pre ++ (r ∷ [])) (n + 1) (p + width r) cut_on (ap (λ (k : ℕ). k + 1) more) leads_on w.1) e
      where
        w : Stands t p (content r) × (split (drop (p + width r) t) ≡ rs)
        w = first_stands t p r rs here

        cut_on : split t ≡ (pre ++ (r ∷ [])) ++ rs
        cut_on = cut ∙ sym (append_assoc pre (r ∷ []) rs)

        more : length (pre ++ (r ∷ [])) ≡ n
        more = length-append pre (r ∷ []) ∙ number

        -- the lines up to this one, whatever follows
        leads_to : (q : List Raw) → begin span_at 1 0 ((pre ++ (r ∷ [])) ++ q) ≡ begin span_at n p (r ∷ q)
        leads_to q = ap (begin span_at 1 0) (append_assoc pre (r ∷ []) q) ∙ leads (r ∷ q)

        skip : List Raw → Verdict Span
        skip q = begin span_at (n + 1) (p + width r) q

        here_on : List Raw → Verdict Span
        here_on q = run span_at fresh (n + 1) (p + width r) q

        form : (f : Form) → form_of (content r) ≡ f
            → (((q : List Raw) → begin span_at 1 0 ((pre ++ (r ∷ [])) ++ q) ≡ skip q) → skip rs ≡ accepted x → CellSays t x i (get_or (begin_stamps span_at (n + 1) (p + width r) rs) i 0))
            → begin_form span_at n p (content r) f (skip rs) (here_on rs) ≡ accepted x
            → CellSays t x i (get_or (from_version f (begin_stamps span_at (n + 1) (p + width r) rs) (run_stamps span_at fresh no_stamps (n + 1) (p + width r) rs)) i 0)
        form (Ok None) g ih e = ih (λ q. leads_to q ∙ ap (λ (f : Form). begin_form span_at n p (content r) f (skip q) (here_on q)) g) e
        form (Err f) g ih e = absurd (let z : ◌≡◌ {A = ℕ} 0 1 = cc in omega arith)
        form (Ok (Some c)) g ih e =
            let v : List ℕ = drop 2 (content r) in
            run_whence x i rs (pre ++ (r ∷ [])) fresh no_stamps (n + 1) (p + width r)
            (record {
              cut = cut_on;
              number = ap (λ (k : ℕ). k + 1) more;
              leads = λ q. leads_to q ∙ ap (λ (f : Form). begin_form span_at n p (content r) f (skip q) (here_on q)) g ∙ version_passes x n (p + 2) v c (here_on rs) (here_on q) e;
              kept = empty_sound (FineIn t);
              unzoned = λ z. refl;
              here = w.1;
              long = length-zeros cells;
              tells = λ j. inl (none_there j, zero_at cells j);
            })
            (sym (version_passes x n (p + 2) v c (here_on rs) (here_on rs) e) ∙ e)

  lines_whence : (x : Session Span) → lines span_at t ≡ accepted x → (i : ℕ) → CellSays t x i (get_or (stamps_of t) i 0)
  unfolding reader.lines
  lines_whence x e i = begin_whence x i (split t) [] 1 0 refl refl (λ q. refl) refl e

-- every cell of the area that reading leaves
pub whence : (t a : List ℕ) → Whence t a
whence t a n =
    let r = read_then_write t a [] n in
    let f = read_fits t a n in
    let x = r.session in (
      x,
      (
        r.read,
        λ i l. subst (λ (b : List ℕ). CellSays t x i (num 2 b (cell_at i)))
            (sym (ap (λ o. o.area) (read_is t a f.0 f.1 (accepted x) r.read)))
            (rw (line_in t f.0 x (drop area_size a) i l) (lines_whence t x r.read i)),
      ),
    )
