-- Document 01, "Fields": one reader for each record of o, c, b, t and a. "Fields are judged left to right".
use Rattle.std.specs.Prelude.{ℕ, ◌+◌, ◌&&◌, cond, List, get_or, eqb, Option, Some, None, Ok}
use Rattle.sdp_numbers.specs.Fields as fields
use Rattle.sdp_split.specs.Split.{words, next_word, first_piece, piece_after, rest_after}
use Rattle.sdp_judge.specs.Read.{Read, text_of, number_of, choice_of, next_text, next_token, next_number}
use Rattle.sdp_judge.specs.Read.{after, ending, and_then}
use Rattle.sdp_split.specs.declared.Piece.{Piece}
use Rattle.sdp_fields.specs.declared.Origin.{Origin}
use Rattle.sdp_fields.specs.declared.Connection.{Connection}
use Rattle.sdp_fields.specs.declared.Bandwidth.{Bandwidth}
use Rattle.sdp_fields.specs.declared.Time.{Time}
use Rattle.sdp_fields.specs.declared.Attribute.{Attribute}

-- "Username `-` means absent"
abbrev pub username_of : List ℕ → Piece → Option Piece
username_of v p = cond (eqb p.len 1 && eqb (get_or v p.at 0) 0x2d) None (Some p)

-- how o and c end: of the words that are left nettype, addrtype and address and nothing after them, the fields w, w + 1 and w + 2
unfoldable pub address_of : ℕ → List ℕ → List Piece → Read Connection
address_of w v ws =
    next_token w v ws (λ net ws.
    next_token (w + 1) v ws (λ kind ws.
    next_text (w + 2) v ws (λ address ws.
    ending (w + 3) (next_word ws)
    (Ok (record { nettype = net; addrtype = kind; connection_address = address })))))

-- "o: username, sess-id, version number, nettype, addrtype, address"
unfoldable pub origin_of : List ℕ → Read Origin
origin_of v =
    next_text fields.username v (words v) (λ user ws.
    next_text fields.sess_id v ws (λ id ws.
    next_number fields.sess_version v ws (λ version ws.
    and_then (address_of fields.origin_nettype v ws) (λ place.
    Ok (record {
      username = username_of v user;
      sess_id = id;
      sess_version = version;
      nettype = place.nettype;
      addrtype = place.addrtype;
      unicast_address = place.connection_address;
    })))))

-- c: nettype, addrtype, connection-address
unfoldable pub connection_of : List ℕ → Read Connection
connection_of v = address_of fields.connection_nettype v (words v)

-- b: bwtype and bandwidth, "split at every colon"
unfoldable pub bandwidth_of : List ℕ → Read Bandwidth
bandwidth_of v =
    after (text_of fields.bwtype v (first_piece 0x3a v)) (λ kind e.
    after (number_of fields.bandwidth v (piece_after 0x3a v e)) (λ n e.
    ending fields.bandwidth_trailing (piece_after 0x3a v e)
    (Ok (record { bwtype = kind; bandwidth = n }))))

-- t: start-time and stop-time
unfoldable pub times_of : List ℕ → Read Time
times_of v =
    next_number fields.start_time v (words v) (λ start ws.
    next_number fields.stop_time v ws (λ stop ws.
    ending fields.time_trailing (next_word ws)
    (Ok (record { start_time = start; stop_time = stop }))))

-- a, "at the first colon": a name, and perhaps a value
unfoldable pub attribute_of : List ℕ → Read Attribute
attribute_of v =
    after (text_of fields.attribute v (first_piece 0x3a v)) (λ name e.
    and_then (choice_of fields.attribute_value v (rest_after v e)) (λ value.
    Ok (record { attribute = name; value = value })))
