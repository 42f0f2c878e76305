-- Loops and orders of the netlist are those of its named cells.
use Rattle.std.proofs.Common.{ℕ, List, ap, sym, ◌∙◌}
use Rattle.cell_library.specs.Gates.{is_flop}
use Rattle.verilog_tree.specs.declared.tree.Module.{Module}
use Rattle.netlist_model.specs.declared.CellId.{CellId}
use Rattle.netlist_model.specs.Lists.{NetlistView}
use Rattle.netlist_model.specs.Formed.{IsNumbered}
use Rattle.netlist_model.specs.Orders.{IsCellOrder}
use Rattle.link_arena.specs.cell_order.Loops.{IsGateLoop, ReadsGate}
use Rattle.link_names.specs.link_model.Nets.{declared_nets, nets_in}
use Rattle.link_names.specs.link_model.Cells.{NamedCell}
use Rattle.link_names.specs.link_model.Faults.{cells_in}
use Rattle.link_names.specs.link_model.Late.{IsLoop, ReadsItem}
use Rattle.link_names.specs.link_model.Denoted.{AreCells, IsNamed, denoted}
use Rattle.link_arena.specs.link_rules.DriversLaws.{HasItsDrivers}
use Rattle.link_arena.proofs.link_rules.ClocksCells.{Keeps, kept, drives_named, reads_named}
use Rattle.link_arena.proofs.link_rules.Cones.{gate_reads-live}
use Rattle.netlist_link.proofs.Formed.{driven_once, numbered}
use Rattle.netlist_link.proofs.Loops.{IsRising, feeds_lower, no_loop}

-- a gate that reads another is an item that does
reads_item : (table : List (List ℕ)) (N : NetlistView) (cells : List NamedCell) (reader driver : ℕ) → AreCells table N cells → Keeps N cells → ReadsGate N reader driver → ReadsItem cells reader driver
reads_item table N cells reader driver all keeps r =
    let a = reads_named table N cells reader r.reading r.place r.net all r.reads in
    let b = drives_named table N cells driver r.driving r.net all r.drives in
    record {
      reading = a.0;
      driving = b.0;
      net = r.net;
      reader_gate = record { there = a.1.there; gate = keeps reader a.0 a.1.there ∙ ap (is_flop N.library) (sym a.2.kind) ∙ r.reader_gate };
      driver_gate = record { there = b.1.there; gate = keeps driver b.0 b.1.there ∙ ap (is_flop N.library) (sym b.2.kind) ∙ r.driver_gate };
      drives = b.1.output;
      reads = record { place = r.place; operand = a.1.operand };
    }

pub loop_named : (table : List (List ℕ)) (N : NetlistView) (cells : List NamedCell) (numbers : List ℕ) → AreCells table N cells → Keeps N cells → IsGateLoop N numbers → IsLoop cells numbers
loop_named table N cells numbers all keeps l = record {
  some = l.some;
  each = λ i more. reads_item table N cells _ _ all keeps (l.each i more);
  closes = reads_item table N cells _ _ all keeps l.closes;
  once = l.once;
}

pub rising : (table : List (List ℕ)) (N : NetlistView) (m : Module) (rank : ℕ → ℕ) → IsNamed table N (denoted N.library m) → IsNumbered N rank → IsRising (cells_in N.library m) rank
rising table N m rank is numbered net other g =
    let l = gate_reads-live table N (cells_in N.library m) net other is.cells (kept N m) g in
    feeds_lower rank l.cell.feeds (rank net) l.place (record { 0 = other }) (numbered.gates l.number l.cell net l.drives l.gate) l.reads.operand

-- where the cells are in order, no items read in a loop
pub no_loop_in_order : (table : List (List ℕ)) (N : NetlistView) (m : Module) (order : List CellId) → IsNamed table N (denoted N.library m) → HasItsDrivers (nets_in (declared_nets m)) (cells_in N.library m)
    → IsCellOrder N order → (numbers : List ℕ) → IsLoop (cells_in N.library m) numbers → ⊥
no_loop_in_order table N m order is drivers ordered numbers l =
    let rank = numbered N order ordered (driven_once table N m is drivers) in
    no_loop (cells_in N.library m) rank.0 numbers (rising table N m rank.0 is rank.1) l
