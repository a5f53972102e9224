-- Document 01, "What must change shape": the cutter over the cursor by value.
use Rattle.std.specs.Prelude.{ℕ, List}
use Rattle.sdp_lines.specs.Lines.{cut_at}
use Rattle.sdp_lines.specs.declared.Place.{Place}
use Rattle.sdp_lines.specs.declared.LineNumber.{LineNumber}
use Rattle.sdp_lines.specs.declared.Cut.{Cut}
use Rattle.sdp_lines.specs.declared.Cut.TheVariants as cut
use Rattle.sdp_cutter.specs.declared.Cutter.{Cutter}
use Rattle.sdp_cutter.specs.declared.Moved.{Moved}
use Rattle.sdp_lines.specs.declared.Cursor.{Cursor}
use Rattle.sdp_cutter.specs.declared.Next.{Next}
use Rattle.sdp_cutter.specs.declared.Next.TheVariants.{Found, Empty, Refused, End}

-- what was found, and the cursor then
abbrev pub stands_at : Next → Cursor → Moved
stands_at x c = record { next = x; at = c.at; line = c.line }

-- "moves itself on one line at each call": past a line, empty or not; at a fault and at the end it stays where it stood
abbrev pub move_by : Place → LineNumber → Cut → Moved
move_by p n (cut.Line l v next) = stands_at (Found n l v) next
move_by p n (cut.Empty next) = stands_at Empty next
move_by p n (cut.Refused f m) = stands_at (Refused f m) (record { at = p; line = n })
move_by p n cut.End = stands_at End (record { at = p; line = n })

-- what the cutter finds at a place of the text where the line of that number is due
unfoldable pub move_at : List ℕ → Place → LineNumber → Moved
move_at s p n = move_by p n (cut_at s (record { at = p; line = n }))

-- the cutter then
abbrev pub standing : Moved → Cutter
standing m = record { at = m.at; line = m.line }

-- where a cutter stands
abbrev pub due : Cutter → Cursor
due c = record { at = c.at; line = c.line }
