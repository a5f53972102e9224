-- The records that the code hands to the area, as the session has them.
use Rattle.std.specs.Prelude.{None}
use Rattle.sdp_lines.specs.declared.Span.{Span}
use Rattle.sdp_area.specs.Session.{Origin, Connection, Media}
use Rattle.sdp_builders.specs.declared.Origin as origin
use Rattle.sdp_builders.specs.declared.Media as media
use Rattle.sdp_area.specs.declared.Connection as connection

-- an o line
abbrev pub origin_in_area : origin.Origin → Origin Span
origin_in_area o = record {
  username = o.username;
  sess_id = o.sess_id;
  sess_version = o.sess_version;
  nettype = o.nettype;
  addrtype = o.addrtype;
  unicast_address = o.unicast_address;
}

-- a c line
abbrev pub connection_in_area : connection.Connection → Connection Span
connection_in_area c = record { nettype = c.nettype; addrtype = c.addrtype; connection_address = c.connection_address }

-- an m line: it has no title and no key yet
abbrev pub media_in_area : media.Media → Media Span
media_in_area m = record { media = m.media; port = m.port; num_ports = m.num_ports; proto = m.proto; fmt = m.fmt; media_title = None; key = None }
