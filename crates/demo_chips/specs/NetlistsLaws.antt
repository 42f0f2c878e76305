-- Each demonstration netlist is a tree that some text spells, and can be linked; and how many cells it then has.
-- IEEE Std 1364-2001: gate-level modelling, data types; the netlists are own.
use Rattle.std.specs.Prelude.{◌≡◌, ℕ, ◌+◌, ◌<◌, List}
use Rattle.verilog_tree.specs.IsTree.{IsTree}
use Rattle.netlist_model.specs.Lists.{cell_count}
use Rattle.cell_library.specs.declared.listed.ListedCell.{ListedCell}
use Rattle.link_model.specs.Late.{IsLinkable}
use Rattle.netlist_link.specs.Linked.{LinkedView}
use Rattle.netlist_link.specs.Links.{IsLinkOf}
use Rattle.demo_chips.specs.Netlists.{demo_module, gate_count}

-- own: its names can be written, its numbers are short, and each gate takes its inputs
abbrev pub DemoIsATree : Type 0
DemoIsATree = (n : ℕ) → n < 10000 → IsTree (demo_module n)

-- own: no fault stands in it, whatever the library
abbrev pub DemoCanBeLinked : Type 0
DemoCanBeLinked = (library : List ListedCell) (n : ℕ) → n < 10000 → IsLinkable library (demo_module n)

-- own: what is linked has the gates, 32 flip-flops and 16 outputs, and no other cell
abbrev pub DemoHasItsCells : Type 0
DemoHasItsCells = (n : ℕ) (linked : LinkedView) → IsLinkOf (demo_module n) linked → cell_count linked.arena.lists ≡ gate_count n + 48
