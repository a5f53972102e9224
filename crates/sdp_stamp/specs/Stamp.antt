-- Document 02, P9: "carries the line it was read from, 0 for hand-built ones and the placeholder". The lines of all that a session may have:
-- a number for each cell (sdp_area/specs/Columns.antt). A session itself knows no line.
use Rattle.std.specs.Prelude.{Bool, cond, List, [], ◌∷◌, ℕ, ◌+◌, ◌-◌, length, replicate}
use Rattle.sdp_cells.specs.Bytes.{over, zeros}
use Rattle.sdp_area.specs.Session.{Session}
use Rattle.sdp_area.specs.Columns.{origin_cell, name_cell, description_cell, uri_cell, connection_cell, key_cell, emails_cell, phones_cell, connections_cell}
use Rattle.sdp_area.specs.Columns.{bandwidths_cell, times_cell, repeats_cell, offsets_cell, zones_cell, attributes_cell, medias_cell, titles_cell, cells}
use Rattle.sdp_area.specs.Latest.{given, last_titled}

-- before the first line
abbrev pub no_stamps : List ℕ
no_stamps = zeros cells

-- n in the cells of the rows i to j, without j, of the column that begins at the cell c
unfoldable pub stamp_rows : ℕ → ℕ → ℕ → ℕ → List ℕ → List ℕ
stamp_rows n c i j l = over l (c + i) (replicate (j - i) n)

-- the same of columns that begin at the cells cs
unfoldable pub stamp_all : ℕ → List ℕ → List ℕ → List ℕ → List ℕ → List ℕ
stamp_all n [] is js l = l
stamp_all n (c ∷ cs) [] js l = l
stamp_all n (c ∷ cs) (i ∷ is) [] l = l
stamp_all n (c ∷ cs) (i ∷ is) (j ∷ js) l = stamp_all n cs is js (stamp_rows n c i j l)

-- where the columns of the fields and of the tables begin
abbrev pub begins : List ℕ
begins =
    origin_cell
    ∷ name_cell
    ∷ description_cell
    ∷ uri_cell
    ∷ connection_cell
    ∷ key_cell
    ∷ emails_cell
    ∷ phones_cell
    ∷ connections_cell
    ∷ bandwidths_cell
    ∷ times_cell
    ∷ repeats_cell
    ∷ offsets_cell
    ∷ zones_cell
    ∷ attributes_cell
    ∷ medias_cell
    ∷ []

-- a field is one row where it is present
abbrev pub one : Bool → ℕ
one there = cond there 1 0

-- the rows of each of them in a session
abbrev pub rows_in : {S : Type 0} → Session S → List ℕ
rows_in s =
    one (given s.head.origin)
    ∷ one (given s.head.name)
    ∷ one (given s.head.description)
    ∷ one (given s.head.uri)
    ∷ one (given s.head.connection)
    ∷ one (given s.head.key)
    ∷ length s.tables.emails
    ∷ length s.tables.phones
    ∷ length s.tables.connections
    ∷ length s.tables.bandwidths
    ∷ length s.tables.times
    ∷ length s.tables.repeats
    ∷ length s.tables.offsets
    ∷ length s.tables.zones
    ∷ length s.tables.attributes
    ∷ length s.tables.medias
    ∷ []

-- the title of the latest media is a field too
abbrev pub title_rows : {S : Type 0} → Session S → ℕ
title_rows s = one (last_titled s.tables.medias)

abbrev pub title_cell : {S : Type 0} → Session S → ℕ
title_cell s = titles_cell + (length s.tables.medias - 1)

-- a line with the number n made s' of s: what s' has and s had not was read from it
unfoldable pub stamped : {S : Type 0} → ℕ → Session S → Session S → List ℕ → List ℕ
stamped n s s' l = stamp_all n begins (rows_in s) (rows_in s') (stamp_rows n (title_cell s') (title_rows s) (title_rows s') l)
