-- A token is UTF-8: its characters are bytes below 80 hexadecimal. Assumes nothing.
use Prim.Native.Nat.{ℕ, suc}
use mathlib.Core.Path.{◌≡◌, refl, ap, ◌∙◌}
use mathlib.Core.Bool.{true}
use mathlib.Core.List.{List, [], ◌∷◌}
use borrow.Author.Tests.{eq-eqb}
use lib.Dec.{ltb}
use lib.ListN.{length}
use Rattle.sdp_bytes.specs.Token as token
use Rattle.sdp_bytes.specs.Token.{token_char, all_token, is_token}
use Rattle.sdp_utf8.specs.Utf8 as utf8
use Rattle.sdp_utf8.specs.Utf8.{utf8_end, is_utf8}
use Rattle.sdp_bytes.proofs.ScanLaws.{and_left, and_right}
use Rattle.sdp_bytes.proofs.TokenLaws.{token_small}
use Rattle.sdp_utf8.proofs.Utf8Laws.{utf8_plain}

all_plain : (s : List ℕ) → all_token s ≡ true → utf8_end s ≡ length s
unfolding token.all_token utf8.utf8_end utf8.end_from
all_plain [] e = refl
all_plain (b ∷ s) e = utf8_plain b s (token_small b (and_left (token_char b) (all_token s) e)) ∙ ap suc (all_plain s (and_right (token_char b) (all_token s) e))

pub token_utf8 : (s : List ℕ) → is_token s ≡ true → is_utf8 s ≡ true
unfolding token.is_token utf8.is_utf8
token_utf8 s e = eq-eqb (utf8_end s) (length s) (all_plain s (and_right (ltb 0 (length s)) (all_token s) e))
