-- Document 01, "Lines": the roles by what a count of lines makes of them.
use Rattle.sdp_roles.specs.declared.Role.{Role}
use Rattle.sdp_roles.specs.declared.Role.TheVariants.{Origin, Name, Description, Uri, Email, Phone, Connection, Bandwidth, Time, Repeat, Zone}
use Rattle.sdp_roles.specs.declared.Role.TheVariants.{Attribute, Media, MediaTitle, MediaConnection, Nothing}

-- no use, an m line, or another use
pub data Kind : Type 0 where
  unused : Kind
  media : Kind
  other : Kind

-- every role but these two is another use
abbrev pub kind_of : Role → Kind
kind_of Nothing = unused
kind_of Media = media
kind_of Origin = other
kind_of Name = other
kind_of Description = other
kind_of Uri = other
kind_of Email = other
kind_of Phone = other
kind_of Connection = other
kind_of Bandwidth = other
kind_of Time = other
kind_of Repeat = other
kind_of Zone = other
kind_of Attribute = other
kind_of MediaTitle = other
kind_of MediaConnection = other

-- a choice by a kind
abbrev pub by_kind : {A : Type 0} → Kind → A → A → A → A
by_kind unused x y z = x
by_kind media x y z = y
by_kind other x y z = z
