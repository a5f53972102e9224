-- What stamping a line does to the bytes of an area, whatever they are.
use Rattle.std.specs.Prelude.{cond, List, [], ◌∷◌, ℕ, ◌+◌, ◌*◌, ◌-◌, replicate, leb}
use Rattle.sdp_numbers.specs.Tables.{most_emails, most_phones, most_media_connections, most_bandwidths, most_times}
use Rattle.sdp_numbers.specs.Tables.{most_repeats, most_offsets, most_zones, most_attributes, most_medias}
use Rattle.sdp_cells.specs.Bytes.{num, over}
use Rattle.sdp_cells.specs.Tables.{pairs}
use Rattle.sdp_area.specs.Area.{emails_at, phones_at, connections_at, bandwidths_at, times_at, repeats_at, offsets_at, zones_at, attributes_at, medias_at}
use Rattle.sdp_area.specs.Columns.{origin_cell, name_cell, description_cell, uri_cell, connection_cell, emails_cell, phones_cell, connections_cell}
use Rattle.sdp_area.specs.Columns.{bandwidths_cell, times_cell, repeats_cell, offsets_cell, zones_cell, attributes_cell, medias_cell, titles_cell, cell_at}
use Rattle.sdp_roles.specs.declared.Role.{Role}
use Rattle.sdp_roles.specs.declared.Role.TheVariants as role
use Rattle.sdp_stamp.specs.declared.Column.{Column}
use Rattle.sdp_stamp.specs.declared.Column.TheVariants.{Field, Rows, Repeat, Zone, Nothing}

-- n for the rows from i on of the table at base, whose column begins at the place p; nothing where its count is above the most
unfoldable pub put_since : ℕ → ℕ → ℕ → ℕ → ℕ → List ℕ → List ℕ
put_since base most p i n a = cond (leb (num 2 a base) most) (over a (p + i * 2) (pairs (replicate (num 2 a base - i) n))) a

-- n for its latest row, where it has one
abbrev pub put_latest : ℕ → ℕ → ℕ → ℕ → List ℕ → List ℕ
put_latest base most p n a = put_since base most p (num 2 a base - 1) n a

-- where the line of a role is put
abbrev pub column_of : Role → Column
column_of role.Origin = Field (cell_at origin_cell)
column_of role.Name = Field (cell_at name_cell)
column_of role.Description = Field (cell_at description_cell)
column_of role.Uri = Field (cell_at uri_cell)
column_of role.Connection = Field (cell_at connection_cell)
column_of role.Email = Rows emails_at most_emails (cell_at emails_cell)
column_of role.Phone = Rows phones_at most_phones (cell_at phones_cell)
column_of role.MediaConnection = Rows connections_at most_media_connections (cell_at connections_cell)
column_of role.Bandwidth = Rows bandwidths_at most_bandwidths (cell_at bandwidths_cell)
column_of role.Time = Rows times_at most_times (cell_at times_cell)
column_of role.Repeat = Repeat
column_of role.Zone = Zone
column_of role.Attribute = Rows attributes_at most_attributes (cell_at attributes_cell)
column_of role.Media = Rows medias_at most_medias (cell_at medias_cell)
column_of role.MediaTitle = Rows medias_at most_medias (cell_at titles_cell)
column_of role.Nothing = Nothing

-- the line n put there; o is how many offsets there were before the line
abbrev pub put_column : Column → ℕ → ℕ → List ℕ → List ℕ
put_column (Field p) o n a = over a p (pairs (n ∷ []))
put_column (Rows base most p) o n a = put_latest base most p n a
put_column Repeat o n a =
    put_since offsets_at most_offsets (cell_at offsets_cell) o n (put_latest repeats_at most_repeats (cell_at repeats_cell) n a)
put_column Zone o n a = put_since zones_at most_zones (cell_at zones_cell) 0 n a
put_column Nothing o n a = a
