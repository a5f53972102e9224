-- Document 01, "Tables": the lines that are each one row of a table, as the code names them.
use Rattle.std.specs.Prelude.{ℕ}
use Rattle.sdp_numbers.specs.Fields as fields
use Rattle.sdp_numbers.specs.Tables as tables
use Rattle.sdp_area.specs.declared.Contact.{Contact}
use Rattle.sdp_area.specs.declared.Contact.TheVariants.{Email, Phone}
use Rattle.sdp_roles.specs.declared.Role.{Role}
use Rattle.sdp_roles.specs.declared.Role.TheVariants as role
use Rattle.sdp_take_row.specs.declared.Row.{Row}
use Rattle.sdp_take_row.specs.declared.Row.TheVariants as row

-- an e line and a p line
abbrev pub contact_role : Contact → Role
contact_role Email = role.Email
contact_role Phone = role.Phone

-- the field that a wrong value is refused at
abbrev pub contact_field : Contact → ℕ
contact_field Email = fields.email
contact_field Phone = fields.phone

-- the number of the table
abbrev pub contact_table : Contact → ℕ
contact_table Email = tables.emails
contact_table Phone = tables.phones

-- any of them
abbrev pub row_role : Row → Role
row_role (row.Contact x) = contact_role x
row_role row.MediaConnection = role.MediaConnection
row_role row.Bandwidth = role.Bandwidth
row_role row.Time = role.Time
row_role row.Attribute = role.Attribute
row_role row.Media = role.Media
