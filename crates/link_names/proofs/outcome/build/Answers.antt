use Rattle.std.proofs.Common.{◌≡◌, ◌∙◌, ap}
use Rattle.link_model.specs.Nets.{declared_nets, nets_in}
use Rattle.link_model.specs.Faults.{cells_in}
use Rattle.link_names.specs.Views.{entries_of}
use Rattle.link_names.proofs.Modules.{same_cells, items_fit_here, cells_fit_here}
use Rattle.link_names.proofs.outcome.build.Goals as goal

pub cells_of-requires-clause-fits : goal.cells_of-requires-clause-fits
cells_of-requires-clause-fits c = items_fit_here c.args.library.now c.args.tree.now (entries_of c.args.table.now) c.as_slice.result.now c.requires.names c.as_slice.ensures c.requires.clear

pub returns : goal.returns
returns c =
    let nets : c.in_ok-nets.nets.items ≡ nets_in (declared_nets c.args.tree.now) = c.in_ok-nets.ensures ∙ ap nets_in c.requires.nets in
    let cells : c.in_ok-cells.cells.items ≡ cells_in c.args.library.now c.args.tree.now =
    same_cells c.args.library.now c.args.tree.now (entries_of c.args.table.now) c.as_slice.result.now c.in_ok-cells.cells.items c.requires.names c.as_slice.ensures c.in_ok-cells.ensures in
    record {
      clear = c.requires.clear;
      nets = nets;
      cells = cells;
      fits = cells_fit_here c.args.library.now c.args.tree.now c.in_ok-nets.nets.items c.in_ok-cells.cells.items c.requires.tree c.requires.clear nets cells;
    }
