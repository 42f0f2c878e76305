use Rattle.std.proofs.Common.{List, subst, sym}
use Rattle.std.specs.Prelude.{IfErr}
use Rattle.cell_library.specs.declared.listed.ListedCell.{ListedCell}
use Rattle.netlist_link.specs.Links.{IsLinkFault}
use Rattle.netlist_link.specs.Links.IsLinkFault.{memory}
use Rattle.netlist_link.specs.Steps.{AreNetsAndCells}
use Rattle.netlist_link.proofs.Assembled.{named_built}
use Rattle.netlist_link.proofs.linker.link_driven.Goals as goal

pub link_built-requires-clause-these : goal.link_built-requires-clause-these
link_built-requires-clause-these c = subst (λ (l : List ListedCell). AreNetsAndCells l c.args.tree.now c.args.resolved.nets.items c.args.resolved.cells.items) (sym c.in-Ok.ensures.library) c.requires.these

pub link_built-requires-clause-built : goal.link_built-requires-clause-built
link_built-requires-clause-built c = record {
  named = named_built c.args.library c.args.tree.now c.in-Ok.built.netlist.lists c.in-Ok.built.names c.in-Ok.ensures.library c.in-Ok.ensures.named;
  dense = c.in-Ok.ensures.dense;
  names_are = c.in-Ok.ensures.names;
}

pub returns-in-Ok-clause-fault : goal.returns-in-Ok-clause-fault
returns-in-Ok-clause-fault c = subst (λ (l : List ListedCell). IfErr c.link_built.result (IsLinkFault l c.args.tree.now)) c.in-Ok.ensures.library c.link_built.ensures.fault

pub returns-in-Err-clause-fault : goal.returns-in-Err-clause-fault
returns-in-Err-clause-fault c = memory
