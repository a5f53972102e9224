-- Lines that may be put in, and one that may not, at places of a sample. Assumes nothing.
use mathlib.Core.Path.{◌≡◌, refl}
use mathlib.Core.Bool.{Bool, true, false, cond}
use mathlib.Core.List.{List, [], ◌∷◌, ◌++◌}
use Prim.Native.Nat.{ℕ}
use native.Mathlib.Omega.{arith}
use lib.Dec.{eqb}
use Rattle.sdp_bytes.specs.Runs
use Rattle.sdp_lines.specs.Lines
use Rattle.std.specs.Prelude.{Some, Ok}
use Rattle.sdp_roles.specs.Roles
use Rattle.sdp_roles.specs.Roles.{before_media, from_media}
use Rattle.sdp_roles.specs.declared.Role.TheVariants.{Nothing}
use Rattle.sdp_insert.specs.Insert.{has_lf, ended_form, Idle, version, Inserted, begun, same, keep, put, above, bytes_above, lines_put, empty_put, idle_put}

-- m=a 1 b c
abbrev media : List ℕ
media = 0x6d ∷ 0x3d ∷ 0x61 ∷ 0x20 ∷ 0x31 ∷ 0x20 ∷ 0x62 ∷ 0x20 ∷ 0x63 ∷ []

-- a=x, which has no LF
abbrev attribute : List ℕ
attribute = 0x61 ∷ 0x3d ∷ 0x78 ∷ []

-- v=1 and t=
abbrev later : List ℕ
later = 0x76 ∷ 0x3d ∷ 0x31 ∷ []

abbrev time : List ℕ
time = 0x74 ∷ 0x3d ∷ []

-- CR LF and `v=1` before the media; `t=` and LF after it, before a last line without LF
pub sample : Inserted (version ++ (10 ∷ (media ++ (10 ∷ attribute)))) (version ++ (10 ∷ (13 ∷ 10 ∷ (later ++ (10 ∷ (media ++ (10 ∷ (time ++ (10 ∷ (10 ∷ attribute))))))))))
unfolding has_lf Lines.content Lines.chop Lines.form_of Lines.has_nul_or_cr Lines.plain_form Runs.index_of Roles.before_media Roles.from_media
sample = begun version refl refl (put (13 ∷ []) refl tt (put later refl refl (keep media refl (put time refl refl (put [] refl tt (same 1 attribute))))))

-- the media is the second line of the first text and the fourth of the other, the attribute the third and the seventh
pub sample_above : (above sample 0 ≡ 0) × (above sample 1 ≡ 2) × (above sample 2 ≡ 4)
unfolding sample
sample_above = (refl, refl, refl)

-- CR LF and `v=1` with its LF are 6 bytes; `t=` with its LF and an empty line 4 more
pub sample_bytes : (bytes_above sample 0 ≡ 0) × (bytes_above sample 1 ≡ 6) × (bytes_above sample 2 ≡ 10)
unfolding sample
sample_bytes = (refl, refl, refl)

-- CR LF and an empty line are empty, `v=1` and `t=` are ignored
pub sample_put : (empty_put sample ≡ 2) × (idle_put sample ≡ 2) × (lines_put sample ≡ 4)
unfolding sample Lines.content Lines.chop Lines.form_of Lines.has_nul_or_cr Lines.plain_form Runs.index_of Roles.before_media Roles.from_media
sample_put = (refl, refl, refl)

-- before a media `t=` has a use
pub time_used : Idle 0 (ended_form time) → ⊥
unfolding Lines.content Lines.chop Lines.form_of Lines.has_nul_or_cr Lines.plain_form Runs.index_of Roles.before_media
time_used h = let z : ◌≡◌ {A = ℕ} 0 1 = cc in omega arith

-- document 02, P4: "k joins demand 3's letters without use", before the first media and from it on
pub key_idle : (medias : ℕ) → Idle medias (Ok (Some 0x6b))
unfolding Roles.before_media Roles.from_media
key_idle medias = go (eqb medias 0)
  where
    go : (b : Bool) → cond b (before_media 0x6b) (from_media 0x6b) ≡ Nothing
    go true = refl
    go false = refl
