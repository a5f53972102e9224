-- `sdp_stamp::stamp` meets its contract. Assumes nothing.
use mathlib.Core.Path.{sym, ap, subst, ◌∙◌}
use native.Mathlib.Omega.{arith}
use Rattle.sdp_stamp.specs.Put.{put_since, put_column}
use Rattle.sdp_stamp.specs.declared.Column.{Column}
use Rattle.sdp_stamp.proofs.PutLaws.{Fits, column_fits}
use Rattle.sdp_stamp.proofs.stamp.Goals as goal

pub put_line-requires : goal.put_line-requires
put_line-requires c =
    omega (arith, c.requires, subst Fits (sym c.column_of.ensures ∙ c.in-Field.is) (column_fits c.args.role))

pub put_latest-requires : goal.put_latest-requires
put_latest-requires c =
    let f = subst Fits (sym c.column_of.ensures ∙ c.in-Rows.is) (column_fits c.args.role) in
    (omega (arith, c.requires, f.0), omega (arith, c.requires, f.1))

pub returns-in-Field : goal.returns-in-Field
returns-in-Field c =
    let a = c.args in
    c.put_line.ensures ∙ ap (λ (q : Column). put_column q a.offsets a.line a.area.now) (sym c.in-Field.is ∙ c.column_of.ensures)

pub returns-in-Rows : goal.returns-in-Rows
returns-in-Rows c =
    let a = c.args in
    c.put_latest.ensures ∙ ap (λ (q : Column). put_column q a.offsets a.line a.area.now) (sym c.in-Rows.is ∙ c.column_of.ensures)

pub returns-in-Repeat : goal.returns-in-Repeat
returns-in-Repeat c =
    let a = c.args in
    c.put_since.ensures ∙ ap (put_since _ _ _ _ _) c.put_latest-in-Repeat.ensures
    ∙ ap (λ (q : Column). put_column q a.offsets a.line a.area.now) (sym c.in-Repeat.is ∙ c.column_of.ensures)

pub returns-in-Zone : goal.returns-in-Zone
returns-in-Zone c =
    let a = c.args in
    c.put_since-in-Zone.ensures ∙ ap (λ (q : Column). put_column q a.offsets a.line a.area.now) (sym c.in-Zone.is ∙ c.column_of.ensures)

pub returns-in-Nothing : goal.returns-in-Nothing
returns-in-Nothing c =
    let a = c.args in
    ap (λ (q : Column). put_column q a.offsets a.line a.area.now) (sym c.in-Nothing.is ∙ c.column_of.ensures)
