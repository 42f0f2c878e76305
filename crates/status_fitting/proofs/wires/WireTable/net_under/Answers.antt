use Rattle.std.proofs.Common.{◌∙◌, None, sym, subst}
use Rattle.netlist_model.specs.declared.Name.{Name}
use Rattle.status_fitting.specs.Steps.{Finds}
use Rattle.status_fitting.specs.Tables.{IsWireUnder}
use Rattle.status_fitting.proofs.WireWords.{under_found, under_added}
use Rattle.status_fitting.proofs.wires.WireTable.net_under.Goals as goal

pub returns-in-Original : goal.returns-in-Original
returns-in-Original c =
    let N = c.args.self.now.arena.lists in
    let F : Name → Type 0 = λ name. Finds (IsWireUnder N name c.args.index) c.copied.result in
    subst F (sym c.in-Original.is)
    (under_found N c.self.inside.nets.entries c.in-Original.number c.args.index c.copied.result (rw c.self.view_is at c.self.invariant.nets) (c.copied.ensures ∙ c.get.ensures.value))

pub returns-in-Added : goal.returns-in-Added
returns-in-Added c =
    let N = c.args.self.now.arena.lists in
    let F : Name → Type 0 = λ name. Finds (IsWireUnder N name c.args.index) None in
    subst F (sym c.in-Added.is) (under_added N c.in-Added.field-0 c.args.index)
