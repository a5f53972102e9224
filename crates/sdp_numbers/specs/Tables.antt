-- Document 01, "Tables": "1 emails 16; 2 phones 16; 3 media connections 64; 4 bandwidths 64; 5 times 32; 6 repeats 64; 7 offsets 256; 8 zones
-- 64; 9 attributes 512; 10 medias 32." Of each table first its number, which refusal 21 names as its field, then the most rows that it has
-- room for. A later request adds its tables at the end.
use Rattle.std.specs.Prelude.{ℕ}

abbrev pub emails : ℕ
emails = 1

abbrev pub most_emails : ℕ
most_emails = 16

abbrev pub phones : ℕ
phones = 2

abbrev pub most_phones : ℕ
most_phones = 16

abbrev pub media_connections : ℕ
media_connections = 3

abbrev pub most_media_connections : ℕ
most_media_connections = 64

abbrev pub bandwidths : ℕ
bandwidths = 4

abbrev pub most_bandwidths : ℕ
most_bandwidths = 64

abbrev pub times : ℕ
times = 5

abbrev pub most_times : ℕ
most_times = 32

abbrev pub repeats : ℕ
repeats = 6

abbrev pub most_repeats : ℕ
most_repeats = 64

abbrev pub offsets : ℕ
offsets = 7

abbrev pub most_offsets : ℕ
most_offsets = 256

abbrev pub zones : ℕ
zones = 8

abbrev pub most_zones : ℕ
most_zones = 64

abbrev pub attributes : ℕ
attributes = 9

abbrev pub most_attributes : ℕ
most_attributes = 512

abbrev pub medias : ℕ
medias = 10

abbrev pub most_medias : ℕ
most_medias = 32
