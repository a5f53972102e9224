-- How many kept lines a text can have, and so how much room is always enough for what is written of it. Assumes nothing.
use mathlib.Core.Path.{◌≡◌, refl}
use mathlib.Core.List.{List, [], ◌∷◌}
use Prim.Native.Nat.{ℕ, ◌+◌, ◌*◌, ◌≤◌}
use native.Mathlib.Omega.{arith}
use lib.ListN.{length}
use Rattle.sdp_lines.specs.Lines.{Raw, split, content, form_of, Form}
use Rattle.std.specs.Prelude.{Some, None, Ok, Err}
use Rattle.sdp_lines.proofs.LineLaws.{good_form}
use Rattle.sdp_roles.specs.Roles.{role_at}
use Rattle.sdp_roles.specs.Kinds.{Kind, unused, media, other, kind_of, by_kind}
use Rattle.sdp_counts.specs.Count
use Rattle.sdp_counts.specs.Count.{role_of, uses, opens, used_from, from_version, kept_lines}
use Rattle.sdp_read.specs.Run.{read_text}
use Rattle.sdp_same.proofs.SameLaws.{read_fits}
use Rattle.sdp_bound.specs.Bound.{room_of_any, Enough}
use Rattle.sdp_room.proofs.SumLaws
use Rattle.sdp_room.proofs.SumLaws.{sum}
use Rattle.sdp_bound.proofs.BoundLaws.{content-short, bodies, bodies_short, enough}

uses-once : (k : Kind) → by_kind k 0 1 1 ≤ 1
uses-once unused = omega arith
uses-once media = omega arith
uses-once other = omega arith

-- a line with a use has a letter, an = and an LF
line-three : (r : Raw) (medias : ℕ) → uses (role_of medias (form_of (content r))) * 3 ≤ length r.body + 1
line-three r medias = go (form_of (content r)) refl
  where
    go : (f : Form) → form_of (content r) ≡ f → uses (role_of medias f) * 3 ≤ length r.body + 1
    go (Ok None) e = omega arith
    go (Err f) e = omega arith
    go (Ok (Some l)) e = omega (arith, uses-once (kind_of (role_at medias l)), good_form (content r) l e, content-short r)

used_few : (rs : List Raw) (medias : ℕ) → used_from medias rs * 3 ≤ bodies rs
unfolding Count.sum_from SumLaws.sum
used_few [] medias = omega arith
used_few (r ∷ rs) medias =
    omega (arith, line-three r medias, used_few rs (medias + opens (role_of medias (form_of (content r)))))

-- the version line takes one byte at least, whatever its form is
kept_few : (rs : List Raw) → kept_lines rs * 3 ≤ bodies rs + 2
unfolding Count.kept_lines SumLaws.sum
kept_few [] = omega arith
kept_few (r ∷ rs) = go (form_of (content r)) (kept_few rs)
  where
    go : (f : Form) → kept_lines rs * 3 ≤ bodies rs + 2 → from_version f (kept_lines rs) (1 + used_from 0 rs) * 3 ≤ length r.body + 1 + bodies rs + 2
    go (Ok None) ih = omega arith
    go (Ok (Some l)) ih = omega (arith, used_few rs 0)
    go (Err f) ih = omega (arith, used_few rs 0)

-- of any accepted text
pub room : (t a : List ℕ) → (read_text t a).answer.number ≡ 0 → Enough room_of_any t a
room t a h = enough t a h room_of_any (omega (arith, (read_fits t a h).0, kept_few (split t), bodies_short t))
