-- RFC 8866, section 9: token = 1*(token-char).
use Rattle.std.specs.Prelude.{ℕ, Bool, true, ◌&&◌, ◌||◌, List, [], ◌∷◌, length, ltb, eqb}
use Rattle.sdp_bytes.specs.Ranges.{Range, ◌to◌, within}

-- RFC 5234, appendix B.1: ALPHA = %x41-5A / %x61-7A
abbrev pub alpha : ℕ → Bool
alpha b = within (0x41 to 0x5a) b || within (0x61 to 0x7a) b

-- RFC 5234, appendix B.1: DIGIT = %x30-39
abbrev pub digit : ℕ → Bool
digit b = within (0x30 to 0x39) b

-- ! # $ % & ' * + - . ^ _ ` { | } ~
abbrev pub mark : ℕ → Bool
mark b =
    eqb b 0x21 || eqb b 0x23 || eqb b 0x24 || eqb b 0x25 || eqb b 0x26 || eqb b 0x27 || eqb b 0x2a || eqb b 0x2b || eqb b 0x2d
    || eqb b 0x2e || eqb b 0x5e || eqb b 0x5f || eqb b 0x60 || eqb b 0x7b || eqb b 0x7c || eqb b 0x7d || eqb b 0x7e

-- token-char = ALPHA / DIGIT / "!" / "#" / .. / "~"
abbrev pub token_char : ℕ → Bool
token_char b = alpha b || digit b || mark b

-- document 01, "Fields": bytes 21, 23-27, 2A-2B, 2D-2E, 30-39, 41-5A, 5E-7E hexadecimal. The code has these; that they are the
-- RFC's characters is the theorem `ranges_are_token`.
abbrev pub token_ranges : List Range
token_ranges = 0x21 to 0x21 ∷ 0x23 to 0x27 ∷ 0x2a to 0x2b ∷ 0x2d to 0x2e ∷ 0x30 to 0x39 ∷ 0x41 to 0x5a ∷ 0x5e to 0x7e ∷ []

-- every byte is a token character
unfoldable pub all_token : List ℕ → Bool
all_token [] = true
all_token (b ∷ s) = token_char b && all_token s

-- at least one byte, each a token character
unfoldable pub is_token : List ℕ → Bool
is_token s = ltb 0 (length s) && all_token s
