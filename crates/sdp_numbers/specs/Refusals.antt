-- Document 01, "Refusal numbers", in the paper's order, then those of document 02. Acceptance is 0. A later request adds its numbers at the
-- end.
use Rattle.std.specs.Prelude.{ℕ}

-- the longest text that is not refused for its length
abbrev pub longest_text : ℕ
longest_text = 32768

-- "text over 32,768 bytes"
abbrev pub text_too_long : ℕ
text_too_long = 1

-- "record area too short"
abbrev pub area_too_short : ℕ
area_too_short = 2

-- "line form": "for NUL or CR (3), for having no `=` (4), for its first `=` not being its second byte (5)"
abbrev pub nul_or_cr : ℕ
nul_or_cr = 3

abbrev pub no_equals : ℕ
no_equals = 4

abbrev pub not_second : ℕ
not_second = 5

-- "no version"
abbrev pub no_version : ℕ
no_version = 6

-- "version not 0"
abbrev pub version_not_zero : ℕ
version_not_zero = 7

-- "encoding, format, missing field, trailing data"
abbrev pub encoding : ℕ
encoding = 8

abbrev pub format : ℕ
format = 9

abbrev pub missing_field : ℕ
missing_field = 10

abbrev pub trailing_data : ℕ
trailing_data = 11

-- "12 o, 13 s, 14 i, 15 u, 16 c, 17 z: second session line"
abbrev pub second_origin : ℕ
second_origin = 12

abbrev pub second_name : ℕ
second_name = 13

abbrev pub second_description : ℕ
second_description = 14

abbrev pub second_uri : ℕ
second_uri = 15

abbrev pub second_connection : ℕ
second_connection = 16

abbrev pub second_zones : ℕ
second_zones = 17

-- "second media title"
abbrev pub second_title : ℕ
second_title = 18

-- "second key"; document 02, P4: "19 never occurs any more"
abbrev pub second_key : ℕ
second_key = 19

-- "repeat without time"
abbrev pub repeat_without_time : ℕ
repeat_without_time = 20

-- "table full"
abbrev pub table_full : ℕ
table_full = 21

-- "output too short"
abbrev pub output_too_short : ℕ
output_too_short = 22

-- "bad session, writing"
abbrev pub bad_session : ℕ
bad_session = 23

-- ---- document 02, P3
-- "28 adjustment times fall"
abbrev pub adjustments_fall : ℕ
adjustments_fall = 28

-- "29 more than 256 starts"
abbrev pub too_many_starts : ℕ
too_many_starts = 29

-- the longest list of starts
abbrev pub most_starts : ℕ
most_starts = 256

-- ---- document 02, P9
-- "23 also for a line above 32,768"
abbrev pub highest_line : ℕ
highest_line = 32768
