use Rattle.std.proofs.Common.{◌≡◌, ◌∙◌, ◌+◌, ◌<◌, ◌^◌, ◌++◌, ◌∷◌, [], List, length, position, ap, arith, None}
use Rattle.plan_fitting.specs.declared.fitted.FitRow.{FitRow}
use Rattle.plan_fitting.specs.Rows.{controls}
use Rattle.control_cells.proofs.Controls.{control_noted}
use Rattle.control_cells.proofs.ControlKeys.{noted_is}
use Rattle.control_cells.proofs.row_table.RowTable.push_control.Goals as goal

pub invariant_of-self-2 : goal.invariant_of-self-2
invariant_of-self-2 c =
    let rows = c.self.inside.rows.items in
    let none : position (controls c.args.driver) c.self.inside.rows.items ≡ None = ap (λ (r : List FitRow). position (controls c.args.driver) r) c.self.view_is ∙ c.requires in
    let fits = c.has_number.ensures.0 c.if-not-has_number.false in
    let few : length c.self.inside.rows.items + 2 < 2 ^ 32 = rw c.self.view_is fits in
    control_noted rows c.push_reserved.new.rows.items c.args.kind c.args.driver c.control_key.result c.len-number.result c.self.inside.controls.entries c.note.new.table.entries c.self.invariant none
    c.control_key.ensures (omega (arith, c.len-number.ensures, c.self.inside.rows.ok.0))
    (noted_is c.control_key.result c.len-number.result c.self.inside.controls.entries c.note.new.table.entries c.in_ok-note.ensures.ok) few
    (c.push_reserved.ensures ∙ ap (λ (r : List FitRow). r ++ c.control_cell.result ∷ []) c.in_ok-reserve.ensures.items ∙ ap (λ (row : FitRow). c.self.inside.rows.items ++ row ∷ []) c.control_cell.ensures)
