use Rattle.std.proofs.Common.{◌≡◌, drop, Some}
use Rattle.netlist_model.specs.Lists.{CellView, cell_at}
use Rattle.link_model.specs.Lists.{first_in}
use Rattle.link_rules.specs.Links.{found_link, unnamed_cell}
use Rattle.link_rules.proofs.clocks.derived.first_found.Given as goal

abbrev pub invariant-loop-link : goal.invariant-loop-link
invariant-loop-link l = (found : CellView) → cell_at l.netlist.lists l.cell.0 ≡ Some found
    → first_in (found_link l.netlist.lists.library l.marks (unnamed_cell l.netlist.lists.library found)) (drop l.link-index l.links) ≡ first_in (found_link l.netlist.lists.library l.marks (unnamed_cell l.netlist.lists.library found)) l.links
