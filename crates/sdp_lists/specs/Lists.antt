-- Document 01, "Fields": the records with lists, r and z.
use Rattle.std.specs.Prelude.{ℕ, List, [], ◌∷◌, Ok, Err}
use Rattle.sdp_numbers.specs.Fields as fields
use Rattle.sdp_number.specs.Number.{Number, whole_number, typed_time}
use Rattle.sdp_number.specs.declared.NumberError.TheVariants.{Encoding, Format}
use Rattle.sdp_split.specs.Split.{part, words}
use Rattle.sdp_split.specs.declared.Piece.{Piece}
use Rattle.sdp_judge.specs.Read.{Read, and_then, next_time, encoding, format, missing}
use Rattle.sdp_judge.specs.Offset.{zone_offset}
use Rattle.sdp_lists.specs.declared.Zone.{Zone}

-- a number of field w that was read in the word p of v
abbrev pub numbered : ℕ → List ℕ → Piece → Number → Read ℕ
numbered w v p (Ok n) = Ok n
numbered w v p (Err Encoding) = Err (encoding w v p)
numbered w v p (Err Format) = Err (format w)

-- the offsets of an r line: each of the words ws is a typed time of field 20
unfoldable pub offsets_of : List ℕ → List Piece → Read (List ℕ)
offsets_of v [] = Ok []
offsets_of v (p ∷ ws) =
    and_then (numbered fields.offset v p (typed_time (part v p))) (λ n.
    and_then (offsets_of v ws) (λ ns. Ok (n ∷ ns)))

-- a whole r line
pub record RepeatLine : Type 0 where
  pub interval : ℕ
  pub duration : ℕ
  pub offsets : List ℕ

-- r, "interval, duration, any count of offsets, none allowed"
unfoldable pub repeat_of : List ℕ → Read RepeatLine
repeat_of v =
    next_time fields.interval v (words v) (λ interval ws.
    next_time fields.duration v ws (λ duration ws.
    and_then (offsets_of v ws) (λ os.
    Ok (record { interval = interval; duration = duration; offsets = os }))))

-- "pairs are read until a missing adjustment time ends the list with the pairs so far"; a missing offset is 10 at field 22
unfoldable pub pairs_of : List ℕ → List Piece → Read (List Zone)
pairs_of v [] = Ok []
pairs_of v (a ∷ []) = and_then (numbered fields.adjustment v a (whole_number 64 (part v a))) (λ n. Err (missing fields.zone_offset))
pairs_of v (a ∷ o ∷ ws) =
    and_then (numbered fields.adjustment v a (whole_number 64 (part v a))) (λ n.
    and_then (numbered fields.zone_offset v o (zone_offset (part v o))) (λ m.
    and_then (pairs_of v ws) (λ zs. Ok (record { adjustment_time = n; offset = m } ∷ zs))))

-- a whole z line
unfoldable pub zones_of : List ℕ → Read (List Zone)
zones_of v = pairs_of v (words v)
