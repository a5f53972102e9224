-- Document 02, P6: zones in their place and out of it, and what reading says of a second z line.
use Rattle.std.specs.Prelude.{ℕ, ◌≡◌, true, false, List, [], ◌∷◌, Ok}
use Rattle.sdp_order.specs.Order.{order_of}
use Rattle.sdp_samples.specs.Samples.{«V», T, some_origin, ◌next◌, five, Refuses}

-- `s=`
abbrev pub no_name : List ℕ
no_name = 0x73 ∷ 0x3d ∷ []

-- `r=1 1`
abbrev pub R : List ℕ
R = 0x72 ∷ 0x3d ∷ 0x31 ∷ 0x20 ∷ 0x31 ∷ []

-- `z=0 -1h`
abbrev pub Z : List ℕ
Z = 0x7a ∷ 0x3d ∷ 0x30 ∷ 0x20 ∷ 0x2d ∷ 0x31 ∷ 0x68 ∷ []

-- the lines v, o and s, and then x
abbrev pub opened : List ℕ → List ℕ
opened x = «V» next some_origin next no_name next x

-- texts in order and out of it, and one that is in order and yet refused
pub record ZonePlaces : Type 0 where
  -- "z directly after the r lines of a time that has any, at most once for each such time"
  pub each_time : order_of (opened (T next R next Z next T next R next Z)) ≡ Ok true
  pub first_time : order_of (opened (T next R next R next Z next T)) ≡ Ok true
  -- but behind a time without r lines; a second one of one time; behind the next time's line
  pub no_repeat : order_of (opened (T next Z)) ≡ Ok false
  pub twice : order_of (opened (T next R next Z next Z)) ≡ Ok false
  pub another_time : order_of (opened (T next R next T next Z)) ≡ Ok false
  -- "The reader still refuses a second z"
  pub second_refused : Refuses (opened (T next R next Z next T next R next Z)) (five 17 9 0 0 0)
