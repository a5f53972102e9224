-- Document 01, "Lines": the lines by how they are taken.
use Rattle.std.specs.Prelude.{Option, Some, Result, Ok, Err}
use Rattle.sdp_judge.specs.declared.Wrong.{Wrong}
use Rattle.sdp_roles.specs.declared.Role.{Role}
use Rattle.sdp_roles.specs.declared.Role.TheVariants as role
use Rattle.sdp_step.specs.declared.Marks.{Marks}
use Rattle.sdp_take_once.specs.Onces.{once_role}
use Rattle.sdp_take_row.specs.Rows.{row_role}
use Rattle.sdp_take.specs.declared.Shape.{Shape}
use Rattle.sdp_take.specs.declared.Shape.TheVariants.{Once, Row, Repeat, Zone, Nothing}

-- what such a line is for
abbrev pub shape_role : Shape → Role
shape_role (Once x) = once_role x
shape_role (Row x) = row_role x
shape_role Repeat = role.Repeat
shape_role Zone = role.Zone
shape_role Nothing = role.Nothing

-- what was taken of a line with a use, as it is told beside lines without
abbrev pub told : Result Marks Wrong → Result (Option Marks) Wrong
told (Ok m) = Ok (Some m)
told (Err w) = Err w
