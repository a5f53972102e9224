-- Document 01, "Writing": when the writer refuses with 23. Judged on any bytes: a is the area, t the text, p a place in the area.
use Rattle.std.specs.Prelude.{ℕ, zero, suc, ◌+◌, Bool, true, false, ◌&&◌, ◌||◌, cond, List, length, take, drop, leb, eqb}
use Rattle.sdp_numbers.specs.Tables.{most_emails, most_phones, most_media_connections, most_bandwidths, most_times}
use Rattle.sdp_numbers.specs.Tables.{most_repeats, most_offsets, most_zones, most_attributes, most_medias}
use Rattle.sdp_utf8.specs.Utf8.{is_utf8}
use Rattle.sdp_cells.specs.Bytes.{num}
use Rattle.sdp_area.specs.Area.{origin_at, name_at, description_at, uri_at, connection_at, key_at}
use Rattle.sdp_area.specs.Area.{emails_at, phones_at, connections_at, bandwidths_at, times_at, repeats_at, offsets_at, zones_at, attributes_at, medias_at}

-- f holds at the places of n rows of w bytes each, from p on: "Cells past a count .. aren't judged."
unfoldable pub every_at : (ℕ → Bool) → ℕ → ℕ → ℕ → Bool
every_at f w zero p = true
every_at f w (suc n) p = f p && every_at f w n (p + w)

-- "a presence mark is neither present nor absent": 1 and 0. What an absent field holds is not judged
unfoldable pub judged : ℕ → Bool → Bool
judged mark rest = eqb mark 0 || (eqb mark 1 && rest)

module _ (a : List ℕ) where
  -- what is marked at p, and f judges
  abbrev pub fine_if : (ℕ → Bool) → ℕ → Bool
  fine_if f p = judged (num 2 a p) (f (p + 2))

  -- "owners never fall": from lo on, and none "points past its table's count". A row begins with its owner
  unfoldable pub rising : ℕ → ℕ → ℕ → ℕ → ℕ → Bool
  rising w most zero lo p = true
  rising w most (suc n) lo p = (leb lo (num 2 a p) && leb (num 2 a p) most) && rising w most n (num 2 a p) (p + w)

  -- the owners of the table at base: at least low, at most the count of the table at owners
  abbrev pub owned : ℕ → ℕ → ℕ → ℕ → Bool
  owned base w low owners = rising w (num 2 a owners) (num 2 a base) low (base + 2)

  -- f at each row of the table at base
  abbrev pub rows : (ℕ → Bool) → ℕ → ℕ → Bool
  rows f base w = every_at f w (num 2 a base) (base + 2)

  -- "a count is above its table": the first five tables
  unfoldable pub small_counts : Bool
  small_counts =
      leb (num 2 a emails_at) most_emails
      && (leb (num 2 a phones_at) most_phones
      && (leb (num 2 a connections_at) most_media_connections && (leb (num 2 a bandwidths_at) most_bandwidths && leb (num 2 a times_at) most_times)))

  -- and the other five
  unfoldable pub large_counts : Bool
  large_counts =
      leb (num 2 a repeats_at) most_repeats
      && (leb (num 2 a offsets_at) most_offsets
      && (leb (num 2 a zones_at) most_zones && (leb (num 2 a attributes_at) most_attributes && leb (num 2 a medias_at) most_medias)))

  -- "Bandwidths, connections and attributes name their owner (0 the session, else the media; never 0 for connections), repeats their time,
  -- offsets their repeat, counted from 1; owners never fall."
  unfoldable pub owners : Bool
  owners =
      owned connections_at 14 1 medias_at
      && (owned bandwidths_at 14 0 medias_at
      && (owned repeats_at 18 1 times_at
      && (owned offsets_at 10 1 repeats_at
      && owned attributes_at 12 0 medias_at)))

  module _ (t : List ℕ) where
    -- "a place lies outside the text, a string is not UTF-8"
    unfoldable pub fine_string : ℕ → Bool
    fine_string p =
        cond (leb (num 2 a p + num 2 a (p + 2)) (length t)) (is_utf8 (take (num 2 a (p + 2)) (drop (num 2 a p) t))) false

    -- the o line: a username that may be absent, sess-id, nettype, addrtype, address; its number is any
    unfoldable pub fine_origin : ℕ → Bool
    fine_origin p =
        fine_if fine_string p
        && (fine_string (p + 6)
        && (fine_string (p + 18) && (fine_string (p + 22) && fine_string (p + 26))))

    -- a c line: three strings
    unfoldable pub fine_connection : ℕ → Bool
    fine_connection p = fine_string p && (fine_string (p + 4) && fine_string (p + 8))

    -- a name, and a value that may be absent: a key, "judged as before" (document 02, P4), and below an a line
    unfoldable pub fine_pair : ℕ → Bool
    fine_pair p = fine_string p && fine_if fine_string (p + 4)

    -- an m line with its title and its key; the number of ports is any, its mark is not
    unfoldable pub fine_media : ℕ → Bool
    fine_media p =
        fine_string p
        && (fine_if (λ q. true) (p + 6)
        && (fine_string (p + 10)
        && (fine_string (p + 14) && (fine_if fine_string (p + 18) && fine_if fine_pair (p + 24)))))

    -- what a session has at most once
    unfoldable pub fine_head : Bool
    fine_head =
        fine_if fine_origin origin_at
        && (fine_string name_at
        && (fine_if fine_string description_at
        && (fine_if fine_string uri_at && (fine_if fine_connection connection_at && fine_if fine_pair key_at))))

    -- the tables with strings; the owner of a c, b or a line stands in the first two bytes of its row
    unfoldable pub fine_tables : Bool
    fine_tables =
        rows fine_string emails_at 4
        && (rows fine_string phones_at 4
        && (rows (λ p. fine_connection (p + 2)) connections_at 14
        && (rows (λ p. fine_string (p + 2)) bandwidths_at 14
        && (rows (λ p. fine_pair (p + 2)) attributes_at 12 && rows fine_media medias_at 36))))

    -- all is well: else 23. "a number is out of its Rust type" can't occur, every cell of 2 or 8 bytes is a u16 or u64 or i64
    unfoldable pub well_formed : Bool
    well_formed = small_counts && (large_counts && (owners && (fine_head && fine_tables)))
