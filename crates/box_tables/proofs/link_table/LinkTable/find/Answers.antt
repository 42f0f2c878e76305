use Rattle.std.proofs.Common.{List, ◌∙◌, ap, arith}
use Rattle.verilog_tree.specs.declared.tree.Link.{Link}
use Rattle.box_model.specs.Ports.{linked_to}
use Rattle.box_tables.proofs.Linked.{linked_nowhere, linked_at, linked_low}
use Rattle.box_tables.proofs.link_table.LinkTable.find.Goals as goal

pub returns-in-None : goal.returns-in-None
returns-in-None c =
    linked_nowhere c.self.inside.links.now c.self.inside.places c.args.port.now c.self.invariant.names_are c.in-None.ensures
    ∙ ap (λ (ls : List Link). linked_to ls c.args.port.now) c.self.view_is

pub index-requires : goal.index-requires
index-requires c =
    let low = linked_low c.self.inside.links.now c.self.inside.linked.items c.self.inside.places c.args.port.now c.in-Some.place c.self.invariant.linked_are c.self.invariant.names_are c.in-Some.ensures in
    let size = c.self.inside.linked.ok.0 in
    omega (arith, low, size)

pub returns-in-Some : goal.returns-in-Some
returns-in-Some c =
    c.as_ref.ensures.value
    ∙ linked_at c.self.inside.links.now c.self.inside.linked.items c.self.inside.places c.args.port.now c.in-Some.place c.index.result.now c.self.invariant.linked_are c.self.invariant.names_are c.in-Some.ensures c.index.ensures
    ∙ ap (λ (ls : List Link). linked_to ls c.args.port.now) c.self.view_is
