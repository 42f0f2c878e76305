use Rattle.std.proofs.Common.{length}
use Rattle.netlist_model.specs.Lists.{cell_count}
use Rattle.netlist_model.specs.declared.Feed.TheVariants.{Net}
use Rattle.register_gates.specs.declared.bits.TheConstants.{SHIFT_BIT}
use Rattle.register_gates.specs.Bits.{shift_bit_given}
use Rattle.boundary_cells.specs.Cells.{steering_of}
use Rattle.boundary_cells.proofs.add_observe_cell.Goals as goal

pub returns-clause-free : goal.returns-clause-free
returns-clause-free c = λ net below free.
    c.part_leaves_free_nets.ensures c.args.netlist.now c.add_shift_bit.new.netlist 3 SHIFT_BIT (shift_bit_given (steering_of c.args.scan.now) (Net c.args.pin) c.args.scan_in)
    (length c.args.netlist.now.lists.nets) (cell_count c.args.netlist.now.lists) c.add_shift_bit.ensures.added net below free
