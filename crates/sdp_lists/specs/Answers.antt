-- What the code reads of the lines with lists, one part at a time: the head of an r line, one offset, or one pair of the z line.
use Rattle.std.specs.Prelude.{ℕ, List, Option, Some, None, Ok, Err}
use Rattle.sdp_numbers.specs.Fields as fields
use Rattle.sdp_split.specs.Split.{Field, word_at}
use Rattle.sdp_judge.specs.Read.{Read, and_then, number_of, time_of, after}
use Rattle.sdp_judge.specs.Offset.{offset_of}
use Rattle.sdp_lists.specs.declared.RepeatHead.{RepeatHead}
use Rattle.sdp_lists.specs.declared.Zone.{Zone}

-- the first two words of an r line, interval and duration, and where the offsets begin
unfoldable pub repeat_head : List ℕ → Read RepeatHead
repeat_head v =
    after (time_of fields.interval v (word_at v 0)) (λ interval e.
    after (time_of fields.duration v (word_at v e)) (λ duration e.
    Ok (record { repeat_interval = interval; active_duration = duration; next = e })))

-- the pair of the z line that begins in the field f, and its end: where no field is left the line is done
abbrev pub zone_field : List ℕ → Field → Read (Option (Zone × ℕ))
zone_field v None = Ok None
zone_field v (Some f) =
    after (number_of fields.adjustment v (Some f)) (λ n e.
    after (offset_of fields.zone_offset v (word_at v e)) (λ m e.
    Ok (Some (record { adjustment_time = n; offset = m }, e))))

-- the pair from place i on
unfoldable pub zone_at : List ℕ → ℕ → Read (Option (Zone × ℕ))
zone_at v i = zone_field v (word_at v i)

-- the offset of the r line in the field f, and its end: where no field is left the line is done
abbrev pub offset_field : List ℕ → Field → Read (Option (ℕ × ℕ))
offset_field v None = Ok None
offset_field v (Some f) = and_then (time_of fields.offset v (Some f)) (λ n. Ok (Some n))

-- the offset from place i on
unfoldable pub offset_at : List ℕ → ℕ → Read (Option (ℕ × ℕ))
offset_at v i = offset_field v (word_at v i)
