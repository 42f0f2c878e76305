use Rattle.std.proofs.Common.{◌≡◌, ℕ, List, Some, find, position, ◌∙◌, ap, sym}
use Rattle.bsdl_device.specs.declared.entries.RowEntry.{RowEntry}
use Rattle.bsdl_device.specs.Checks.{is_numbered}
use Rattle.bsdl_port_rules.proofs.Tables.{found, not_found}
use Rattle.bsdl_checks.proofs.row_table.RowTable.find.Goals as goal

pub returns-in-None : goal.returns-in-None
returns-in-None c = not_found (is_numbered c.args.number) c.args.self.now c.in-None.ensures

pub returns-in-Some : goal.returns-in-Some
returns-in-Some c =
    let at : Some c.in-Some.place ≡ position (is_numbered c.args.number) c.self.inside.rows.now =
    c.in-Some.ensures ∙ ap (λ (rows : List RowEntry). position (is_numbered c.args.number) rows) (sym c.self.view_is) in
    ap (λ (r : RowEntry). Some r) (sym c.index-self-place.is)
    ∙ found (is_numbered c.args.number) c.self.inside.rows.now c.in-Some.place c.index-self-place.result at c.index-self-place.is
    ∙ ap (λ (rows : List RowEntry). find (is_numbered c.args.number) rows) c.self.view_is
