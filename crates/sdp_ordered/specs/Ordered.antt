-- Document 02, P6: "the writer's order stays the crate's, so a written text within 32,768 bytes passes if it has no zones, and otherwise
-- exactly when its last time has a repeat."
use Rattle.std.specs.Prelude.{ℕ, ◌≤◌, ◌≡◌, Bool, true, false, ◌||◌, List, [], ◌∷◌, length, eqb, Ok}
use Rattle.sdp_numbers.specs.Refusals.{longest_text}
use Rattle.sdp_area.specs.Session.{Time, Repeat, Zone, Session}
use Rattle.sdp_decode.specs.Decode.{decode}
use Rattle.sdp_write.specs.Write.{wrote, fill_text}
use Rattle.sdp_order.specs.Order.{order_of}

-- the time with the number n has a repeat
unfoldable pub has_repeat : ℕ → List Repeat → Bool
has_repeat n [] = false
has_repeat n (r ∷ rs) = eqb r.owner n || has_repeat n rs

-- "its last time has a repeat": repeats name "their time .. counted from 1". "No times: `t=0 0`", and no r line behind it
unfoldable pub last_repeats : List Time → List Repeat → Bool
last_repeats [] rs = false
last_repeats (t ∷ ts) rs = has_repeat (length (t ∷ ts)) rs

-- "it has no zones"
abbrev pub no_zones : List Zone → Bool
no_zones [] = true
no_zones (z ∷ zs) = false

-- "passes if it has no zones, and otherwise exactly when its last time has a repeat"
abbrev pub zones_fit : {S : Type 0} → Session S → Bool
zones_fit s = no_zones s.tables.zones || last_repeats s.tables.times s.tables.repeats

-- the area a, whoever made it, was written with the text t to the output o: what was written, within the limit, is in order or not
abbrev pub WrittenOrder : List ℕ → List ℕ → List ℕ → Type 0
WrittenOrder t a o =
    (fill_text t a o).answer.number ≡ 0
    → length (wrote (fill_text t a o)) ≤ longest_text
    → order_of (wrote (fill_text t a o)) ≡ Ok (zones_fit (decode a))
