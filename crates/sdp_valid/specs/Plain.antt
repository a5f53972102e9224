-- A text of one-byte characters: every part of it is UTF-8 (law `part_utf8` of proofs/PlainLaws), so its strings need no look.
use Rattle.std.specs.Prelude.{Bool, List, ℕ, length, eqb}
use Rattle.sdp_bytes.specs.Runs.{run_len}
use Rattle.sdp_utf8.specs.Utf8.{ascii}

-- whether all bytes of a text are ASCII
unfoldable pub is_plain : List ℕ → Bool
is_plain t = eqb (run_len ascii t) (length t)
