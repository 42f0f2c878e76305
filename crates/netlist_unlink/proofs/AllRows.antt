-- The rows of a linked netlist.
use Rattle.std.proofs.Common.{ℕ, List}
use Rattle.std.specs.List.{AllByRecursion}
use Rattle.netlist_model.specs.Lists.{NetlistView}
use Rattle.netlist_model.specs.Formed.{IsLaidOut}
use Rattle.netlist_link.specs.WellNamed.{IsWellNamed}
use Rattle.netlist_unlink.specs.Rows.{rows}
use Rattle.netlist_unlink.proofs.Indexes.{index_short}
use Rattle.netlist_unlink.proofs.RowFacts.{RowFits, rows_fit}

pub all_rows : (table : List (List ℕ)) (N : NetlistView) → IsWellNamed table N → IsLaidOut N → AllByRecursion (RowFits table N.ports) (rows N.ports N.nets)
all_rows table N named laid = rows_fit table N.ports N.nets (λ k view at. (named.net_names k view at, index_short table N k view named laid at))
