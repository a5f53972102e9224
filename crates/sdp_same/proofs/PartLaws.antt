-- Where the parts of a record stand, when the record stands at place n of a. Assumes nothing.
use mathlib.Core.Path.{refl}
use mathlib.Core.List.{List}
use Prim.Native.Nat.{ℕ, ◌+◌}
use native.Mathlib.Omega.{arith}
use Rattle.sdp_lines.specs.declared.Span.{Span}
use Rattle.sdp_cells.specs.Bytes.{le}
use Rattle.sdp_area.specs.Session.{Origin, Connection, Key, MediaConnection, Bandwidth, Time, Repeat, Offset, Zone, Attribute, Media}
use Rattle.sdp_area.specs.Area as area
use Rattle.sdp_area.specs.Area.{span, opt, origin_bytes, connection_bytes, key_bytes, media_connection_row, bandwidth_row, time_row, repeat_row, offset_row, zone_row, attribute_row, media_row}
use Rattle.sdp_cells.proofs.ByteLaws.{length-le}
use Rattle.sdp_area.proofs.WidthLaws.{length-span, length-maybe, length-opt}
use Rattle.sdp_same.proofs.StandsLaws.{Stands, front, past}

module _ {a : List ℕ} {n : ℕ} where
  pub span-parts : (x : Span) → Stands a n (span x) → Stands a n (le 2 x.at.0) × Stands a (n + 2) (le 2 x.len)
  unfolding area.span
  span-parts x w = (front (le 2 x.at.0) _ w, past (le 2 x.at.0) _ w (length-le 2 x.at.0) (n + 2) refl)

  pub origin_parts : (o : Origin Span) → Stands a n (origin_bytes o)
      → Stands a n (opt 4 span o.username) × Stands a (n + 6) (span o.sess_id) × Stands a (n + 10) (le 8 o.sess_version) × Stands a (n + 18) (span o.nettype) × Stands a (n + 22) (span o.addrtype) × Stands a (n + 26) (span o.unicast_address)
  unfolding area.origin_bytes
  origin_parts o w =
      let w₁ = past (opt 4 span o.username) _ w (length-maybe o.username) (n + 6) refl in
      let w₂ = past (span o.sess_id) _ w₁ (length-span o.sess_id) (n + 10) (omega arith) in
      let w₃ = past (le 8 o.sess_version) _ w₂ (length-le 8 o.sess_version) (n + 18) (omega arith) in
      let w₄ = past (span o.nettype) _ w₃ (length-span o.nettype) (n + 22) (omega arith) in
      (front (opt 4 span o.username) _ w, front (span o.sess_id) _ w₁, front (le 8 o.sess_version) _ w₂, front (span o.nettype) _ w₃, front (span o.addrtype) _ w₄, past (span o.addrtype) _ w₄ (length-span o.addrtype) (n + 26) (omega arith))

  pub connection_parts : (c : Connection Span) → Stands a n (connection_bytes c) → Stands a n (span c.nettype) × Stands a (n + 4) (span c.addrtype) × Stands a (n + 8) (span c.connection_address)
  unfolding area.connection_bytes
  connection_parts c w =
      let w₁ = past (span c.nettype) _ w (length-span c.nettype) (n + 4) refl in
      (front (span c.nettype) _ w, front (span c.addrtype) _ w₁, past (span c.addrtype) _ w₁ (length-span c.addrtype) (n + 8) (omega arith))

  pub key-parts : (k : Key Span) → Stands a n (key_bytes k) → Stands a n (span k.method) × Stands a (n + 4) (opt 4 span k.encryption_key)
  unfolding area.key_bytes
  key-parts k w = (front (span k.method) _ w, past (span k.method) _ w (length-span k.method) (n + 4) refl)

  -- ---- rows
  pub media_connection_parts : (c : MediaConnection Span) → Stands a n (media_connection_row c) → Stands a n (le 2 c.owner) × Stands a (n + 2) (connection_bytes c.connection)
  unfolding area.media_connection_row
  media_connection_parts c w = (front (le 2 c.owner) _ w, past (le 2 c.owner) _ w (length-le 2 c.owner) (n + 2) refl)

  pub bandwidth-parts : (b : Bandwidth Span) → Stands a n (bandwidth_row b) → Stands a n (le 2 b.owner) × Stands a (n + 2) (span b.bwtype) × Stands a (n + 6) (le 8 b.bandwidth)
  unfolding area.bandwidth_row
  bandwidth-parts b w =
      let w₁ = past (le 2 b.owner) _ w (length-le 2 b.owner) (n + 2) refl in
      (front (le 2 b.owner) _ w, front (span b.bwtype) _ w₁, past (span b.bwtype) _ w₁ (length-span b.bwtype) (n + 6) (omega arith))

  pub time-parts : (t : Time) → Stands a n (time_row t) → Stands a n (le 8 t.start_time) × Stands a (n + 8) (le 8 t.stop_time)
  unfolding area.time_row
  time-parts t w = (front (le 8 t.start_time) _ w, past (le 8 t.start_time) _ w (length-le 8 t.start_time) (n + 8) refl)

  pub repeat-parts : (r : Repeat) → Stands a n (repeat_row r) → Stands a n (le 2 r.owner) × Stands a (n + 2) (le 8 r.repeat_interval) × Stands a (n + 10) (le 8 r.active_duration)
  unfolding area.repeat_row
  repeat-parts r w =
      let w₁ = past (le 2 r.owner) _ w (length-le 2 r.owner) (n + 2) refl in
      (front (le 2 r.owner) _ w, front (le 8 r.repeat_interval) _ w₁, past (le 8 r.repeat_interval) _ w₁ (length-le 8 r.repeat_interval) (n + 10) (omega arith))

  pub offset-parts : (o : Offset) → Stands a n (offset_row o) → Stands a n (le 2 o.owner) × Stands a (n + 2) (le 8 o.offset)
  unfolding area.offset_row
  offset-parts o w = (front (le 2 o.owner) _ w, past (le 2 o.owner) _ w (length-le 2 o.owner) (n + 2) refl)

  pub zone-parts : (z : Zone) → Stands a n (zone_row z) → Stands a n (le 8 z.adjustment_time) × Stands a (n + 8) (le 8 z.offset)
  unfolding area.zone_row
  zone-parts z w = (front (le 8 z.adjustment_time) _ w, past (le 8 z.adjustment_time) _ w (length-le 8 z.adjustment_time) (n + 8) refl)

  pub attribute-parts : (x : Attribute Span) → Stands a n (attribute_row x) → Stands a n (le 2 x.owner) × Stands a (n + 2) (span x.attribute) × Stands a (n + 6) (opt 4 span x.value)
  unfolding area.attribute_row
  attribute-parts x w =
      let w₁ = past (le 2 x.owner) _ w (length-le 2 x.owner) (n + 2) refl in
      (front (le 2 x.owner) _ w, front (span x.attribute) _ w₁, past (span x.attribute) _ w₁ (length-span x.attribute) (n + 6) (omega arith))

  pub media-parts : (m : Media Span) → Stands a n (media_row m)
      → Stands a n (span m.media) × Stands a (n + 4) (le 2 m.port) × Stands a (n + 6) (opt 2 (le 2) m.num_ports) × Stands a (n + 10) (span m.proto) × Stands a (n + 14) (span m.fmt) × Stands a (n + 18) (opt 4 span m.media_title) × Stands a (n + 24) (opt 10 key_bytes m.key)
  unfolding area.media_row
  media-parts m w =
      let w₁ = past (span m.media) _ w (length-span m.media) (n + 4) refl in
      let w₂ = past (le 2 m.port) _ w₁ (length-le 2 m.port) (n + 6) (omega arith) in
      let w₃ = past (opt 2 (le 2) m.num_ports) _ w₂ (length-opt 2 (le 2) (length-le 2) m.num_ports) (n + 10) (omega arith) in
      let w₄ = past (span m.proto) _ w₃ (length-span m.proto) (n + 14) (omega arith) in
      let w₅ = past (span m.fmt) _ w₄ (length-span m.fmt) (n + 18) (omega arith) in
      (front (span m.media) _ w, front (le 2 m.port) _ w₁, front (opt 2 (le 2) m.num_ports) _ w₂, front (span m.proto) _ w₃, front (span m.fmt) _ w₄, front (opt 4 span m.media_title) _ w₅, past (opt 4 span m.media_title) _ w₅ (length-maybe m.media_title) (n + 24) (omega arith))
