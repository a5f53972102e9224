-- Document 01, "Modules": "`username` and `num_ports`; each takes a record and hands it back with one field set". As in builders.rs, the
-- field is present afterwards, whether it was before or not, and all others are as they were.
use Rattle.std.specs.Prelude.{ℕ, Some}
use Rattle.sdp_lines.specs.declared.Span.{Span}
use Rattle.sdp_builders.specs.declared.Origin.{Origin}
use Rattle.sdp_builders.specs.declared.Media.{Media}

-- the origin o with the username u
abbrev pub with_username : Origin → Span → Origin
with_username o u = record {
  username = Some u;
  sess_id = o.sess_id;
  sess_version = o.sess_version;
  nettype = o.nettype;
  addrtype = o.addrtype;
  unicast_address = o.unicast_address;
}

-- the media m with n ports
abbrev pub with_num_ports : Media → ℕ → Media
with_num_ports m n = record {
  media = m.media;
  port = m.port;
  num_ports = Some n;
  proto = m.proto;
  fmt = m.fmt;
}
