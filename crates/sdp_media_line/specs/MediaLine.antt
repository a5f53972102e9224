-- Document 01, "Fields": the m line, split "at the first three spaces, empty fields kept". "Fields are judged left to right".
use Rattle.std.specs.Prelude.{ℕ, ◌+◌, cond, List, length, take, drop, ltb, Option, Some, None, Ok, Err}
use Rattle.sdp_numbers.specs.Fields as fields
use Rattle.sdp_bytes.specs.Runs.{index_of}
use Rattle.sdp_utf8.specs.Utf8.{is_utf8}
use Rattle.sdp_number.specs.Number.{Number, whole_number}
use Rattle.sdp_split.specs.Split.{Field, part, first_piece, piece_after, rest_after}
use Rattle.sdp_judge.specs.Read.{Read, encoding, format, missing, text_of, after, and_then}
use Rattle.sdp_split.specs.declared.Piece.{Piece}
use Rattle.sdp_media_line.specs.declared.Port.{Port}
use Rattle.sdp_media_line.specs.declared.Media.{Media}

-- a port number, else 9 at field w
abbrev pub port_number : ℕ → Number → Read ℕ
port_number w (Ok n) = Ok n
port_number w (Err e) = Err (format w)

-- num-ports of a field that was cut at the slash at i
abbrev pub num_ports : List ℕ → ℕ → Read (Option ℕ)
num_ports s i =
    cond (ltb i (length s))
    (and_then (port_number fields.num_ports (whole_number 16 (drop (i + 1) s))) (λ n. Ok (Some n)))
    (Ok None)

-- the numbers of a field that is UTF-8
abbrev pub ports_of : List ℕ → Read Port
ports_of s =
    and_then (port_number fields.port (whole_number 16 (take (index_of 0x2f s) s))) (λ port.
    and_then (num_ports s (index_of 0x2f s)) (λ num. Ok (record { port = port; num_ports = num })))

-- "`port` or `port/num`, cut at the first slash; the whole field's UTF-8 (8, field 29) is tested before the cut, then the port is judged, then num"
unfoldable pub port_of : List ℕ → Piece → Read Port
port_of v p = cond (is_utf8 (part v p)) (ports_of (part v p)) (Err (encoding fields.port_encoding v p))

-- the port's field, with its end; a missing one is 10 at field 28
abbrev pub port_field : List ℕ → Field → Read (Port × ℕ)
port_field v None = Err (missing fields.port)
port_field v (Some (p, e)) = and_then (port_of v p) (λ port. Ok (port, e))

-- m: media name, port, proto, fmt
unfoldable pub media_of : List ℕ → Read Media
media_of v =
    after (text_of fields.media_name v (first_piece 0x20 v)) (λ name e.
    after (port_field v (piece_after 0x20 v e)) (λ port e.
    after (text_of fields.proto v (piece_after 0x20 v e)) (λ proto e.
    after (text_of fields.fmt v (rest_after v e)) (λ fmt e.
    Ok (record { media = name; port = port.port; num_ports = port.num_ports; proto = proto; fmt = fmt })))))
