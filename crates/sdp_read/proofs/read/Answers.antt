-- `sdp_read::read` meets its contract. Assumes nothing.
use Rattle.std.proofs.Common.{drop}
use Rattle.sdp_area.specs.Columns.{area_size}
use Rattle.sdp_read.proofs.ReadLaws.{cleared_empty, says_short, says_long, says_accepted, says_unread, says_stopped}
use Rattle.sdp_read.proofs.read.Goals as goal

pub returns-then-area-lt-AREA_SIZE : goal.returns-then-area-lt-AREA_SIZE
returns-then-area-lt-AREA_SIZE c =
    let a = c.args in
    let says = says_short a.text.now a.area.now c.if-area-lt-AREA_SIZE.true in
    rw (c.refused.ensures, c.plain.ensures) (record { value = says.0; area_after = says.1 })

pub returns-then-text-gt32768 : goal.returns-then-text-gt32768
returns-then-text-gt32768 c =
    let a = c.args in
    let says = says_long a.text.now a.area.now c.if-area-lt-AREA_SIZE.false c.if-text-gt32768.true in
    rw (c.refused-then-text-gt32768.ensures, c.plain-then-text-gt32768.ensures) (record { value = says.0; area_after = says.1 })

pub returns-in-Ok : goal.returns-in-Ok
returns-in-Ok c =
    let a = c.args in
    let ends = c.in-Ok.ensures (drop area_size a.area.now) (cleared_empty a.area.now _ c.clear.ensures) in
    let says = says_accepted a.text.now a.area.now c.if-area-lt-AREA_SIZE.false c.if-text-gt32768.false c.in-Ok.counts c.read_text.new.area ends in
    rw c.plain-in-Ok.ensures (record { value = says.0; area_after = says.1 })

pub returns-in-Err-Unread : goal.returns-in-Err-Unread
returns-in-Err-Unread c =
    let a = c.args in
    let ends = (rw c.in-Err-Unread.field-0-is at c.in-Err-Unread.ensures) (drop area_size a.area.now) (cleared_empty a.area.now _ c.clear.ensures) in
    let says = says_unread a.text.now a.area.now c.if-area-lt-AREA_SIZE.false c.if-text-gt32768.false c.in-Err-Unread.x c.read_text.new.area ends in
    rw c.refused-in-Err-Unread.ensures (record { value = says.0; area_after = says.1 })

pub returns-in-Err-Stopped : goal.returns-in-Err-Stopped
returns-in-Err-Stopped c =
    let a = c.args in
    let ends = (rw c.in-Err-Stopped.field-0-is at c.in-Err-Stopped.ensures) (drop area_size a.area.now) (cleared_empty a.area.now _ c.clear.ensures) in
    let says = says_stopped a.text.now a.area.now c.if-area-lt-AREA_SIZE.false c.if-text-gt32768.false c.in-Err-Stopped.x c.read_text.new.area c.clear-in-Err-Stopped.new.area ends c.clear-in-Err-Stopped.ensures in
    rw c.refused-in-Err-Stopped.ensures (record { value = says.0; area_after = says.1 })
