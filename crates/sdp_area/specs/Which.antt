-- Where in the area a string stands that the code names by an enum.
use Rattle.std.specs.Prelude.{Bool, List, ℕ, eqb}
use Rattle.sdp_numbers.specs.Tables.{most_emails, most_phones}
use Rattle.sdp_cells.specs.Bytes.{num, over}
use Rattle.sdp_area.specs.Area.{description_at, uri_at, emails_at, phones_at}
use Rattle.sdp_area.specs.Latest.{over_title, mark_title}
use Rattle.sdp_area.specs.declared.Text.{Text}
use Rattle.sdp_area.specs.declared.Text.TheVariants.{Description, Uri, Title}
use Rattle.sdp_area.specs.declared.Contact.{Contact}
use Rattle.sdp_area.specs.declared.Contact.TheVariants.{Email, Phone}

-- the mark before the string says present
abbrev pub mark_text : Text → List ℕ → Bool
mark_text Description a = eqb (num 2 a description_at) 1
mark_text Uri a = eqb (num 2 a uri_at) 1
mark_text Title a = mark_title a

-- bs written over the mark and the string
abbrev pub over_text : Text → List ℕ → List ℕ → List ℕ
over_text Description a bs = over a description_at bs
over_text Uri a bs = over a uri_at bs
over_text Title a bs = over_title a bs

-- where the table begins
abbrev pub contacts_at : Contact → ℕ
contacts_at Email = emails_at
contacts_at Phone = phones_at

-- and how many rows it has room for
abbrev pub most_contacts : Contact → ℕ
most_contacts Email = most_emails
most_contacts Phone = most_phones
