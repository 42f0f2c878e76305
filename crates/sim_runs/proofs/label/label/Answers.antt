use Rattle.std.proofs.Common.{◌∙◌}
use Rattle.std.specs.List.{slice_get}
use Rattle.netlist_model.specs.declared.Name.TheVariants.{Original}
use Rattle.sim_runs.proofs.Labels.{name_known, label_is, no_label}
use Rattle.sim_runs.proofs.label.label.Goals as goal

pub name_text-requires : goal.name_text-requires
name_text-requires c =
    let L = c.args.linked.now in
    name_known L.names L.arena.lists c.args.net.0 c.in-Original.number c.netlist.ensures.linked.named (rw c.netlist.ensures.netlist at c.in-Original.ensures)

pub returns-in-Original : goal.returns-in-Original
returns-in-Original c =
    let L = c.args.linked.now in
    c.of_bit.ensures ∙ label_is L.names (slice_get L.arena.lists.nets c.args.net.0) (Original c.in-Original.number) c.name_text.result.now c.net_index.result
    (rw c.netlist.ensures.netlist at c.in-Original.ensures) (rw c.netlist-in-Original.ensures.netlist at c.net_index.ensures) c.name_text.ensures

pub returns-in-Added : goal.returns-in-Added
returns-in-Added c =
    let L = c.args.linked.now in
    no_label L.names L.arena.lists c.args.net.0 c.in-Added.field-0 c.netlist.ensures.linked.named (rw c.netlist.ensures.netlist at c.in-Added.ensures)
