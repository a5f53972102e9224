-- Document 01, "Lines": the lines that a session or a media has at most once, as the code names them.
use Rattle.std.specs.Prelude.{ℕ}
use Rattle.sdp_numbers.specs.Refusals as refusals
use Rattle.sdp_numbers.specs.Fields as fields
use Rattle.sdp_area.specs.declared.Text.{Text}
use Rattle.sdp_area.specs.declared.Text.TheVariants.{Description, Uri, Title}
use Rattle.sdp_roles.specs.declared.Role.{Role}
use Rattle.sdp_roles.specs.declared.Role.TheVariants as role
use Rattle.sdp_take_once.specs.declared.Once.{Once}
use Rattle.sdp_take_once.specs.declared.Once.TheVariants as once

-- an i line, a u line, and an i line of a media
abbrev pub text_role : Text → Role
text_role Description = role.Description
text_role Uri = role.Uri
text_role Title = role.MediaTitle

-- the refusal number of a second
abbrev pub text_number : Text → ℕ
text_number Description = refusals.second_description
text_number Uri = refusals.second_uri
text_number Title = refusals.second_title

-- the field that a wrong value is refused at
abbrev pub text_field : Text → ℕ
text_field Description = fields.description
text_field Uri = fields.uri
text_field Title = fields.media_title

-- any of them
abbrev pub once_role : Once → Role
once_role once.Origin = role.Origin
once_role once.Name = role.Name
once_role (once.Text x) = text_role x
once_role once.Connection = role.Connection
