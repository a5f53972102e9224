-- The names of this crate run as the paper counts.
use Rattle.std.specs.Prelude.{◌≡◌, List, [], ◌∷◌, ℕ}
use Rattle.sdp_numbers.specs.Refusals as refusals
use Rattle.sdp_numbers.specs.Fields as fields
use Rattle.sdp_numbers.specs.Tables as tables

-- the refusals, in the order of the paper's table, then P3's
abbrev pub all_refusals : List ℕ
all_refusals =
    refusals.text_too_long ∷ refusals.area_too_short ∷ refusals.nul_or_cr ∷ refusals.no_equals ∷ refusals.not_second ∷
    refusals.no_version ∷ refusals.version_not_zero ∷ refusals.encoding ∷ refusals.format ∷ refusals.missing_field ∷
    refusals.trailing_data ∷ refusals.second_origin ∷ refusals.second_name ∷ refusals.second_description ∷ refusals.second_uri ∷
    refusals.second_connection ∷ refusals.second_zones ∷ refusals.second_title ∷ refusals.second_key ∷ refusals.repeat_without_time ∷
    refusals.table_full ∷ refusals.output_too_short ∷ refusals.bad_session ∷ refusals.adjustments_fall ∷ refusals.too_many_starts ∷ []

-- the fields, in the order of its list
abbrev pub all_fields : List ℕ
all_fields =
    fields.username ∷ fields.sess_id ∷ fields.sess_version ∷ fields.origin_nettype ∷ fields.origin_addrtype ∷ fields.origin_address ∷
    fields.origin_trailing ∷ fields.connection_nettype ∷ fields.connection_addrtype ∷ fields.connection_address ∷ fields.connection_trailing ∷ fields.bwtype ∷
    fields.bandwidth ∷ fields.bandwidth_trailing ∷ fields.start_time ∷ fields.stop_time ∷ fields.time_trailing ∷ fields.interval ∷
    fields.duration ∷ fields.offset ∷ fields.adjustment ∷ fields.zone_offset ∷ fields.attribute ∷ fields.attribute_value ∷
    fields.key_method ∷ fields.key_text ∷ fields.media_name ∷ fields.port ∷ fields.port_encoding ∷ fields.num_ports ∷
    fields.proto ∷ fields.fmt ∷ fields.media_title ∷ fields.name ∷ fields.description ∷ fields.uri ∷
    fields.email ∷ fields.phone ∷ []

-- the tables
abbrev pub all_tables : List ℕ
all_tables =
    tables.emails ∷ tables.phones ∷ tables.media_connections ∷ tables.bandwidths ∷ tables.times ∷
    tables.repeats ∷ tables.offsets ∷ tables.zones ∷ tables.attributes ∷ tables.medias ∷ []

-- and the rows of each
abbrev pub all_limits : List ℕ
all_limits =
    tables.most_emails ∷ tables.most_phones ∷ tables.most_media_connections ∷ tables.most_bandwidths ∷ tables.most_times ∷
    tables.most_repeats ∷ tables.most_offsets ∷ tables.most_zones ∷ tables.most_attributes ∷ tables.most_medias ∷ []

-- 1 to 23, 28 and 29, 1 to 38, 1 to 10, the limits of the tables, of a text, of a list of starts and of a line
pub record Numbered : Type 0 where
  pub refusals_run : all_refusals ≡ 1 ∷ 2 ∷ 3 ∷ 4 ∷ 5 ∷ 6 ∷ 7 ∷ 8 ∷ 9 ∷ 10 ∷ 11 ∷ 12 ∷ 13 ∷ 14 ∷ 15 ∷ 16 ∷ 17 ∷ 18 ∷ 19 ∷ 20 ∷ 21 ∷ 22 ∷ 23 ∷ 28 ∷ 29 ∷ []
  pub fields_run :
      all_fields
      ≡ 1 ∷ 2 ∷ 3 ∷ 4 ∷ 5 ∷ 6 ∷ 7 ∷ 8 ∷ 9 ∷ 10 ∷ 11 ∷ 12 ∷ 13 ∷ 14 ∷ 15 ∷ 16 ∷ 17 ∷ 18 ∷ 19 ∷
      20 ∷ 21 ∷ 22 ∷ 23 ∷ 24 ∷ 25 ∷ 26 ∷ 27 ∷ 28 ∷ 29 ∷ 30 ∷ 31 ∷ 32 ∷ 33 ∷ 34 ∷ 35 ∷ 36 ∷ 37 ∷ 38 ∷ []
  pub tables_run : all_tables ≡ 1 ∷ 2 ∷ 3 ∷ 4 ∷ 5 ∷ 6 ∷ 7 ∷ 8 ∷ 9 ∷ 10 ∷ []
  pub limits_are : all_limits ≡ 16 ∷ 16 ∷ 64 ∷ 64 ∷ 32 ∷ 64 ∷ 256 ∷ 64 ∷ 512 ∷ 32 ∷ []
  pub longest_is : refusals.longest_text ≡ 32768
  pub starts_are : refusals.most_starts ≡ 256
  pub highest_is : refusals.highest_line ≡ 32768
