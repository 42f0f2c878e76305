use Rattle.std.proofs.Common.{List, position, ◌∙◌, ap}
use Rattle.std.specs.Map.{lookup}
use Rattle.plan_fitting.specs.declared.fitted.FitRow.{FitRow}
use Rattle.plan_fitting.specs.Rows.{controls}
use Rattle.control_cells.specs.declared.keys.ControlKey.{ControlKey}
use Rattle.control_cells.specs.Keys.{control_key_of}
use Rattle.control_cells.proofs.ControlKeys.{same_key, lookup_is}
use Rattle.control_cells.proofs.row_table.RowTable.control_of.Goals as goal

pub returns : goal.returns
returns c =
    c.copied.ensures ∙ c.get.ensures.value ∙ ap (λ (k : ControlKey). lookup (same_key k) c.self.inside.controls.entries) c.control_key.ensures
    ∙ lookup_is (control_key_of c.args.driver) c.self.inside.controls.entries
    ∙ c.self.invariant.numbers c.args.driver
    ∙ ap (λ (list : List FitRow). position (controls c.args.driver) list) c.self.view_is
