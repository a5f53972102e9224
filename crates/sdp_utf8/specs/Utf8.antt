-- RFC 3629, section 4: the syntax of UTF-8 byte sequences.
use Rattle.std.specs.Prelude.{ℕ, zero, suc, pred, ◌+◌, ◌<◌, ◌≡◌, Bool, ◌||◌, cond, List, [], ◌∷◌, ◌++◌, length, drop, eqb}
use Rattle.sdp_bytes.specs.Ranges.{Range, ◌to◌, within, fits}
use Rattle.sdp_bytes.specs.Runs.{run_len}

-- UTF8-tail = %x80-BF
abbrev pub tail : Range
tail = 0x80 to 0xbf

-- UTF8-1 = %x00-7F
abbrev pub char1 : List ℕ → Bool
char1 s = fits (0x00 to 0x7f ∷ []) s

-- UTF8-2 = %xC2-DF UTF8-tail
abbrev pub char2 : List ℕ → Bool
char2 s = fits (0xc2 to 0xdf ∷ tail ∷ []) s

-- UTF8-3 = %xE0 %xA0-BF UTF8-tail / %xE1-EC 2( UTF8-tail ) / %xED %x80-9F UTF8-tail / %xEE-EF 2( UTF8-tail )
abbrev pub char3 : List ℕ → Bool
char3 s =
    fits (0xe0 to 0xe0 ∷ 0xa0 to 0xbf ∷ tail ∷ []) s
    || fits (0xe1 to 0xec ∷ tail ∷ tail ∷ []) s
    || fits (0xed to 0xed ∷ 0x80 to 0x9f ∷ tail ∷ []) s
    || fits (0xee to 0xef ∷ tail ∷ tail ∷ []) s

-- UTF8-4 = %xF0 %x90-BF 2( UTF8-tail ) / %xF1-F3 3( UTF8-tail ) / %xF4 %x80-8F 2( UTF8-tail )
abbrev pub char4 : List ℕ → Bool
char4 s =
    fits (0xf0 to 0xf0 ∷ 0x90 to 0xbf ∷ tail ∷ tail ∷ []) s
    || fits (0xf1 to 0xf3 ∷ tail ∷ tail ∷ tail ∷ []) s
    || fits (0xf4 to 0xf4 ∷ 0x80 to 0x8f ∷ tail ∷ tail ∷ []) s

-- UTF8-char = UTF8-1 / UTF8-2 / UTF8-3 / UTF8-4: the length of the character that the list begins with, 0 where it begins with none
unfoldable pub char_len : List ℕ → ℕ
char_len s = cond (char1 s) 1 (cond (char2 s) 2 (cond (char3 s) 3 (cond (char4 s) 4 0)))

-- one character and nothing after it
pub record Char (c : List ℕ) : Type 0 where
  pub some : 0 < length c
  pub whole : char_len c ≡ length c

-- UTF8-octets = *( UTF8-char ): a concatenation of well_formed_lem characters
pub data Text : List ℕ → Type 0 where
  none : Text []
  more : (c s : List ℕ) → Char c → Text s → Text (c ++ s)

-- r where there is a character, else 0
abbrev pub stop_at : ℕ → ℕ → ℕ
stop_at zero r = 0
stop_at (suc n) r = r

-- the end of the run of characters in a list whose first k bytes are the rest of one
unfoldable pub end_from : ℕ → List ℕ → ℕ
end_from k [] = 0
end_from (suc k) (b ∷ s) = suc (end_from k s)
end_from zero (b ∷ s) = stop_at (char_len (b ∷ s)) (suc (end_from (pred (char_len (b ∷ s))) s))

-- the end of the longest well_formed_lem beginning (laws utf8_sound and utf8_longest of proofs/Utf8Text)
unfoldable pub utf8_end : List ℕ → ℕ
utf8_end s = end_from 0 s

-- the whole list is well_formed_lem (law utf8_text of proofs/Utf8Text: exactly when it is a Text)
unfoldable pub is_utf8 : List ℕ → Bool
is_utf8 s = eqb (utf8_end s) (length s)

-- ---- the quick way through ASCII: a character, and the run of ASCII bytes after it, at once
-- a byte of one character by itself
abbrev pub ascii : ℕ → Bool
ascii = within (0x00 to 0x7f)

-- how many bytes are passed at once
unfoldable pub step_len : List ℕ → ℕ
step_len s = stop_at (char_len s) (char_len s + run_len ascii (drop (char_len s) s))
