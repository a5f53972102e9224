-- What a line does to a session: a refusal with 8 names the bad byte of a field of the line's letter and value, and any other none.
-- Assumes nothing.
use Prim.Native.Nat.{ℕ, ◌+◌, ◌≤◌}
use native.Mathlib.Omega.{arith}
use borrow.Author.Tests.{eqb-true}
use mathlib.Core.Path.{◌≡◌, refl, sym, subst}
use mathlib.Core.Bool.{Bool, true, false, cond}
use mathlib.Core.List.{List}
use lib.Dec.{ltb, leb, eqb}
use lib.ListN.{length}
use Rattle.sdp_split.specs.declared.Piece.{Piece}
use Rattle.sdp_judge.specs.Read.{Read, whole_of}
use Rattle.sdp_fields.specs.Records.{origin_of, connection_of, bandwidth_of, times_of, attribute_of}
use Rattle.sdp_media_line.specs.MediaLine.{media_of}
use Rattle.sdp_area.specs.Session.{Session}
use Rattle.sdp_area.specs.Latest.{given, last_titled}
use Rattle.sdp_judge.specs.declared.Wrong.{Wrong}
use Rattle.sdp_judge.proofs.ReadLaws.{bad_inside}
use Rattle.sdp_lists.specs.Lists.{RepeatLine, repeat_of, zones_of}
use Rattle.sdp_roles.specs.Roles as roles
use Rattle.sdp_roles.specs.Roles.{before_media, from_media}
use Rattle.sdp_roles.specs.declared.Role.{Role}
use Rattle.sdp_roles.specs.declared.Role.TheVariants as role
use Rattle.sdp_step.specs.Step as steps
use Rattle.sdp_step.specs.Step.{Reading, Stepped, goes, stops, stop, once, row, repeated, step_role, step}
use Rattle.sdp_blame.specs.Field as field
use Rattle.sdp_blame.specs.Blame.{Blames}
use Rattle.sdp_blame.proofs.FieldLaws.{plain_blames, Fair}
use Rattle.sdp_blame.proofs.RecordLaws.{whole_fair, connection_fair, origin_fair, times_fair, repeat_fair, zones_fair, bandwidth_fair, attribute_fair, media_fair}
use Rattle.std.specs.Prelude.{Ok, Err}

module _ {S : Type 0} (v : List ℕ) where
  abbrev Just : ℕ → Stepped S → Type 0
  Just l (goes ρ) = Unit {0}
  Just l (stops w) = Blames l v w

  -- the shapes of a step
  just_room : (l : ℕ) (b : Bool) (table : ℕ) (ρ : Reading S) → Just l (cond b (goes ρ) (stop 21 table))
  just_room l true table ρ = tt
  just_room l false table ρ = plain_blames l v 21 table (λ e. omega arith)

  just_once : {A : Type 0} (l n : ℕ) → (n ≡ 8 → ⊥) → (b : Bool) (r : Read A) → Fair l v r → (k : A → Stepped S) → ((x : A) → Just l (k x)) → Just l (once n b r k)
  just_once l n d true r g k h = plain_blames l v n 0 d
  just_once l n d false (Ok x) g k h = h x
  just_once l n d false (Err w) g k h = g

  just_row : {A : Type 0} (l table cap c : ℕ) (r : Read A) → Fair l v r → (k : A → Reading S) → Just l (row table cap c r k)
  unfolding steps.row
  just_row l table cap c (Ok x) g k = just_room l (ltb c cap) table (k x)
  just_row l table cap c (Err w) g k = g

  module _ (mk : Piece → S) (ρ : Reading S) where
    just_repeat : (b c : Bool) (x : Reading S) → Just 0x72 (cond b (cond c (goes x) (stop 21 7)) (stop 21 6))
    just_repeat true c x = just_room 0x72 c 7 x
    just_repeat false c x = plain_blames 0x72 v 21 6 (λ e. omega arith)

    repeat_just : (b : Bool) (r : Read RepeatLine) → Fair 0x72 v r → Just 0x72 (cond b (stop 20 0) (repeated mk ρ v r))
    repeat_just true r g = plain_blames 0x72 v 20 0 (λ e. omega arith)
    repeat_just false (Ok r) g = just_repeat (ltb (length ρ.session.tables.repeats) 64) (leb (length ρ.session.tables.offsets + length r.offsets) 256) _
    repeat_just false (Err w) g = g

    abbrev s : Session S
    s = ρ.session

    -- each role behind its letter
    abbrev letter_of : Role → ℕ
    letter_of role.Origin = 0x6f
    letter_of role.Name = 0x73
    letter_of role.Description = 0x69
    letter_of role.Uri = 0x75
    letter_of role.Email = 0x65
    letter_of role.Phone = 0x70
    letter_of role.Connection = 0x63
    letter_of role.Bandwidth = 0x62
    letter_of role.Time = 0x74
    letter_of role.Repeat = 0x72
    letter_of role.Zone = 0x7a
    letter_of role.Attribute = 0x61
    letter_of role.Media = 0x6d
    letter_of role.MediaTitle = 0x69
    letter_of role.MediaConnection = 0x63
    letter_of role.Nothing = 0

    role_just : (x : Role) → Just (letter_of x) (step_role mk ρ v x)
    unfolding steps.step_role
    role_just role.Origin = just_once 0x6f 12 (λ e. omega arith) (given s.head.origin) (origin_of v) (origin_fair v) _ (λ x. tt)
    role_just role.Name = just_once 0x73 13 (λ e. omega arith) (given s.head.name) (whole_of 34 v) (whole_fair 0x73 34 v field.name) _ (λ x. tt)
    role_just role.Description = just_once 0x69 14 (λ e. omega arith) (given s.head.description) (whole_of 35 v) (whole_fair 0x69 35 v field.description) _ (λ x. tt)
    role_just role.Uri = just_once 0x75 15 (λ e. omega arith) (given s.head.uri) (whole_of 36 v) (whole_fair 0x75 36 v field.uri) _ (λ x. tt)
    role_just role.Email = just_row 0x65 1 16 _ (whole_of 37 v) (whole_fair 0x65 37 v field.email) _
    role_just role.Phone = just_row 0x70 2 16 _ (whole_of 38 v) (whole_fair 0x70 38 v field.phone) _
    role_just role.Connection = just_once 0x63 16 (λ e. omega arith) (given s.head.connection) (connection_of v) (connection_fair v) _ (λ x. tt)
    role_just role.Bandwidth = just_row 0x62 4 64 _ (bandwidth_of v) (bandwidth_fair v) _
    role_just role.Time = just_row 0x74 5 32 _ (times_of v) (times_fair v) _
    role_just role.Repeat = repeat_just (eqb (length ρ.session.tables.times) 0) (repeat_of v) (repeat_fair v)
    role_just role.Zone = just_once 0x7a 17 (λ e. omega arith) ρ.zoned (zones_of v) (zones_fair v) _ (λ zs. just_room 0x7a (leb (length zs) 64) 8 _)
    role_just role.Attribute = just_row 0x61 9 512 _ (attribute_of v) (attribute_fair v) _
    role_just role.Media = just_row 0x6d 10 32 _ (media_of v) (media_fair v) _
    role_just role.MediaTitle = just_once 0x69 18 (λ e. omega arith) (last_titled s.tables.medias) (whole_of 33 v) (whole_fair 0x69 33 v field.title) _ (λ x. tt)
    role_just role.MediaConnection = just_row 0x63 3 64 _ (connection_of v) (connection_fair v) _
    role_just role.Nothing = tt

    -- what the tables of letters choose
    module _ (l : ℕ) where
      pick : (x y : Role) → Just l (step_role mk ρ v y) → Just l (step_role mk ρ v (cond (eqb l (letter_of x)) x y))
      pick x y h = go (eqb l (letter_of x)) refl
        where
          go : (b : Bool) → eqb l (letter_of x) ≡ b → Just l (step_role mk ρ v (cond b x y))
          go true q = subst (λ (n : ℕ). Just n (step_role mk ρ v x)) (sym (eqb-true l (letter_of x) q)) (role_just x)
          go false q = h

      before_just : Just l (step_role mk ρ v (before_media l))
      unfolding roles.before_media steps.step_role
      before_just =
          pick role.Origin _
          (pick role.Name _
          (pick role.Description _
          (pick role.Uri _
          (pick role.Email _
          (pick role.Phone _
          (pick role.Connection _
          (pick role.Bandwidth _
          (pick role.Time _
          (pick role.Repeat _
          (pick role.Zone _
          (pick role.Attribute _
          (pick role.Media _ tt))))))))))))

      from_just : Just l (step_role mk ρ v (from_media l))
      unfolding roles.from_media steps.step_role
      from_just =
          pick role.Media _
          (pick role.MediaTitle _
          (pick role.MediaConnection _
          (pick role.Bandwidth _
          (pick role.Attribute _ tt))))

      at_just : (b : Bool) → Just l (step_role mk ρ v (cond b (before_media l) (from_media l)))
      at_just true = before_just
      at_just false = from_just

      pub step_blames : (w : Wrong) → step mk ρ v l ≡ stops w → Blames l v w
      step_blames w e = subst (Just l) e (at_just (eqb (length ρ.session.tables.medias) 0))

-- the byte stands in the value, or at its end
pub blamed_inside : (l : ℕ) (v : List ℕ) (w : Wrong) → Blames l v w → w.number ≡ 8 → w.at ≤ length v
blamed_inside l v w b e = let n = b.byte e in omega (arith, n.at, bad_inside v n.piece n.inside)
