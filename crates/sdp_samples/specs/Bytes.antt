-- Document 02, P2: the place of the bad byte in the whole text, from 0.
use Rattle.std.specs.Prelude.{ℕ, List, [], ◌∷◌}
use Rattle.sdp_samples.specs.Samples.{«V», T, ◌next◌, five, Refuses}

-- `s=` and ED A0 80
abbrev pub surrogate : List ℕ
surrogate = 0x73 ∷ 0x3d ∷ 0xed ∷ 0xa0 ∷ 0x80 ∷ []

-- `s=ab` and C3, the lead byte of a character that is cut off
abbrev pub cut_off : List ℕ
cut_off = 0x73 ∷ 0x3d ∷ 0x61 ∷ 0x62 ∷ 0xc3 ∷ []

-- `m=a 1/` and FF and ` p f`
abbrev pub bad_port : List ℕ
bad_port = 0x6d ∷ 0x3d ∷ 0x61 ∷ 0x20 ∷ 0x31 ∷ 0x2f ∷ 0xff ∷ 0x20 ∷ 0x70 ∷ 0x20 ∷ 0x66 ∷ []

-- `z=0 -` and FF
abbrev pub bad_offset : List ℕ
bad_offset = 0x7a ∷ 0x3d ∷ 0x30 ∷ 0x20 ∷ 0x2d ∷ 0xff ∷ []

-- `r=` and FF and `d 1`
abbrev pub bad_interval : List ℕ
bad_interval = 0x72 ∷ 0x3d ∷ 0xff ∷ 0x64 ∷ 0x20 ∷ 0x31 ∷ []

-- `r=1 1 2 ` and FF and ` ` and FE
abbrev pub bad_offsets : List ℕ
bad_offsets = 0x72 ∷ 0x3d ∷ 0x31 ∷ 0x20 ∷ 0x31 ∷ 0x20 ∷ 0x32 ∷ 0x20 ∷ 0xff ∷ 0x20 ∷ 0xfe ∷ []

-- `t=0 0 ` and FF
abbrev pub trailing : List ℕ
trailing = 0x74 ∷ 0x3d ∷ 0x30 ∷ 0x20 ∷ 0x30 ∷ 0x20 ∷ 0xff ∷ []

-- `v=0` with CR
abbrev pub cr_lf : List ℕ
cr_lf = 0x76 ∷ 0x3d ∷ 0x30 ∷ 0x0d ∷ []

-- texts that are refused with 8, and one that is not: the answers with their places
pub record BytePlaces : Type 0 where
  -- "s value ED A0 80: 8 field 34"
  pub first_byte : Refuses («V» next surrogate) (five 8 2 34 6 0)
  -- the end of the longest well_formed_lem beginning is before a lead byte whose character is cut off
  pub lead_byte : Refuses («V» next cut_off) (five 8 2 34 8 0)
  -- a CR before the LF and an empty line are bytes of the text
  pub later_line : Refuses (cr_lf next [] next cut_off) (five 8 3 34 10 0)
  -- the whole field of the port, behind the slash too
  pub port_byte : Refuses («V» next bad_port) (five 8 2 29 10 0)
  -- behind a sign, before a unit
  pub sign_byte : Refuses («V» next bad_offset) (five 8 2 22 9 0)
  pub unit_byte : Refuses («V» next T next bad_interval) (five 8 3 18 12 0)
  -- of two bad offsets the first
  pub first_offset : Refuses («V» next T next bad_offsets) (five 8 3 20 18 0)
  -- trailing data is not tested for its encoding
  pub not_tested : Refuses («V» next trailing) (five 11 2 17 0 0)
