-- The answer by the text's length, and by whether its lines run as the grammar says.
-- Assumes nothing.
use Prim.Native.Nat.{ℕ, ◌<◌, ◌≤◌}
use mathlib.Core.Path.{◌≡◌, sym, ◌∙◌}
use mathlib.Core.Bool.{Bool, false}
use mathlib.Core.List.{List}
use lib.ListN.{length}
use borrow.Author.Tests.{lt-ltb, le-ltb}
use Rattle.std.specs.Prelude.{Option, Some, None, Ok, Err, MatchOption}
use Rattle.sdp_lines.specs.Lines.{start}
use Rattle.sdp_lines.specs.declared.Cursor.{Cursor}
use Rattle.sdp_order.specs.Order.{grammar, order_of}
use Rattle.sdp_order.specs.Expression.{empty}
use Rattle.sdp_order.specs.From.{run_from, Leads}
use Rattle.sdp_order.specs.declared.Refusal.TheVariants.{TooLong}

module _ (s : List ℕ) where
  pub too_long : 32768 < length s → Err TooLong ≡ order_of s
  unfolding order_of
  too_long h = rw (lt-ltb 32768 (length s) h)

  -- by the lines' end, if they have one, and whether nothing is behind it
  pub ends_or_not : (P : Cursor → Type 0) (r : Option Cursor) (b : Bool) → Leads s grammar empty start r → MatchOption r (b ≡ false) P → ((c : Cursor) → P c → b ≡ run_from s c empty) → run_from s start grammar ≡ b
  ends_or_not P (Some c) b h e f = h ∙ sym (f c e)
  ends_or_not P None b h e f = h ∙ sym e

  pub judged : length s ≤ 32768 → (b : Bool) → run_from s start grammar ≡ b → Ok b ≡ order_of s
  unfolding order_of run_from
  judged h b e = rw (le-ltb 32768 (length s) h, e)
