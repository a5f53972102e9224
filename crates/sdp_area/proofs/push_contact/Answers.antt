-- `sdp_area::push_contact` meets its contract. A row is a string.
-- Assumes nothing.
use native.Mathlib.Omega.{arith}
use mathlib.Core.Path.{◌≡◌, refl, ap, ◌∙◌}
use Rattle.sdp_cells.specs.Tables.{grown}
use Rattle.sdp_area.specs.Which.{most_contacts}
use Rattle.sdp_area.specs.declared.Contact.{Contact}
use Rattle.sdp_area.specs.declared.Contact.TheVariants.{Email, Phone}
use Rattle.sdp_area.proofs.WordLaws.{span_is}
use Rattle.sdp_area.proofs.push_contact.Goals as goal

-- the code has one number for both tables
most_is : (x : Contact) → 16 ≡ most_contacts x
most_is Email = refl
most_is Phone = refl

pub push_words-requires : goal.push_words-requires
push_words-requires c = let k = c.contacts_at.ensures.upper_bound in omega arith

pub returns : goal.returns
returns c =
    let b = c.args in
    let k = c.push_words.ensures in
    let row = span_is b.x in
    rw (← most_is b.which, ← c.contacts_at.ensures.value) (record { value = k.value; area_after = k.area_after ∙ ap (grown _ _ _) row.is })
