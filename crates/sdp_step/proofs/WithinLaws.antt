-- A session with one part replaced still fits the tables.
-- Assumes nothing.
use Prim.Native.Nat.{◌≤◌}
use mathlib.Core.List.{List}
use lib.ListN.{length}
use Rattle.sdp_lines.specs.declared.Span.{Span}
use Rattle.sdp_area.specs.Session.{MediaConnection, Bandwidth, Time, Repeat, Offset, Zone, Attribute, Media, Head, Session, Within}
use Rattle.sdp_area.specs.With.{with_emails, with_phones, with_connections, with_bandwidths, with_times, with_repeats, with_offsets, with_zones, with_attributes, with_medias}

module _ (s : Session Span) (w : Within s) where
  -- another head
  pub within_head : (h : Head Span) → Within (record { head = h; tables = s.tables })
  within_head h = record { emails = w.emails; phones = w.phones; connections = w.connections; bandwidths = w.bandwidths; times = w.times; repeats = w.repeats; offsets = w.offsets; zones = w.zones; attributes = w.attributes; medias = w.medias }

  pub within-emails : (xs : List Span) → length xs ≤ 16 → Within (with_emails s xs)
  within-emails xs h = record { emails = h; phones = w.phones; connections = w.connections; bandwidths = w.bandwidths; times = w.times; repeats = w.repeats; offsets = w.offsets; zones = w.zones; attributes = w.attributes; medias = w.medias }

  pub within-phones : (xs : List Span) → length xs ≤ 16 → Within (with_phones s xs)
  within-phones xs h = record { emails = w.emails; phones = h; connections = w.connections; bandwidths = w.bandwidths; times = w.times; repeats = w.repeats; offsets = w.offsets; zones = w.zones; attributes = w.attributes; medias = w.medias }

  pub within-connections : (xs : List (MediaConnection Span)) → length xs ≤ 64 → Within (with_connections s xs)
  within-connections xs h = record { emails = w.emails; phones = w.phones; connections = h; bandwidths = w.bandwidths; times = w.times; repeats = w.repeats; offsets = w.offsets; zones = w.zones; attributes = w.attributes; medias = w.medias }

  pub within-bandwidths : (xs : List (Bandwidth Span)) → length xs ≤ 64 → Within (with_bandwidths s xs)
  within-bandwidths xs h = record { emails = w.emails; phones = w.phones; connections = w.connections; bandwidths = h; times = w.times; repeats = w.repeats; offsets = w.offsets; zones = w.zones; attributes = w.attributes; medias = w.medias }

  pub within-times : (xs : List Time) → length xs ≤ 32 → Within (with_times s xs)
  within-times xs h = record { emails = w.emails; phones = w.phones; connections = w.connections; bandwidths = w.bandwidths; times = h; repeats = w.repeats; offsets = w.offsets; zones = w.zones; attributes = w.attributes; medias = w.medias }

  pub within-repeats : (xs : List Repeat) → length xs ≤ 64 → Within (with_repeats s xs)
  within-repeats xs h = record { emails = w.emails; phones = w.phones; connections = w.connections; bandwidths = w.bandwidths; times = w.times; repeats = h; offsets = w.offsets; zones = w.zones; attributes = w.attributes; medias = w.medias }

  pub within-offsets : (xs : List Offset) → length xs ≤ 256 → Within (with_offsets s xs)
  within-offsets xs h = record { emails = w.emails; phones = w.phones; connections = w.connections; bandwidths = w.bandwidths; times = w.times; repeats = w.repeats; offsets = h; zones = w.zones; attributes = w.attributes; medias = w.medias }

  pub within-zones : (xs : List Zone) → length xs ≤ 64 → Within (with_zones s xs)
  within-zones xs h = record { emails = w.emails; phones = w.phones; connections = w.connections; bandwidths = w.bandwidths; times = w.times; repeats = w.repeats; offsets = w.offsets; zones = h; attributes = w.attributes; medias = w.medias }

  pub within-attributes : (xs : List (Attribute Span)) → length xs ≤ 512 → Within (with_attributes s xs)
  within-attributes xs h = record { emails = w.emails; phones = w.phones; connections = w.connections; bandwidths = w.bandwidths; times = w.times; repeats = w.repeats; offsets = w.offsets; zones = w.zones; attributes = h; medias = w.medias }

  pub within-medias : (xs : List (Media Span)) → length xs ≤ 32 → Within (with_medias s xs)
  within-medias xs h = record { emails = w.emails; phones = w.phones; connections = w.connections; bandwidths = w.bandwidths; times = w.times; repeats = w.repeats; offsets = w.offsets; zones = w.zones; attributes = w.attributes; medias = h }
