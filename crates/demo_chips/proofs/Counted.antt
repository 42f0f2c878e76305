-- How many cells a netlist has that a demonstration netlist is linked to.
use Rattle.std.proofs.Common.{◌≡◌, ℕ, ◌+◌, ◌<◌, List, length, refl, ◌∙◌, Option, Some, None, arith, inl, inr}
use Rattle.std.specs.Prelude.{IsSome}
use Rattle.std.proofs.lemmas.Bool.{cases_order}
use Rattle.list_laws.proofs.Lists.{slice_get_there}
use Rattle.netlist_model.specs.Lists.{CellView, NetlistView, cell_at, cell_count}
use Rattle.netlist_model.specs.Contained.{IsDense}
use Rattle.netlist_model.specs.LawsContained.{DenseNumbers}
use Rattle.link_model.specs.Cells.{NamedCell}
use Rattle.link_model.specs.Denoted.{AreCells, IsLive}
use Rattle.link_model.specs.Faults.{cells_in}
use Rattle.netlist_link.specs.Linked.{LinkedView}
use Rattle.netlist_link.specs.Links.{IsLinkOf}
use Rattle.demo_chips.specs.Netlists.{demo_module, gate_count}
use Rattle.demo_chips.proofs.NetlistsCells.{cells_count}

live : (table : List (List ℕ)) (place : Option CellView) (named : NamedCell) → IsLive table place named → IsSome place
live table None named is = absurd is
live table (Some cell) named is = refl

-- the live cells of a netlist without gaps are as many as those that it has by name
counted : (table : List (List ℕ)) (N : NetlistView) (cells : List NamedCell) → DenseNumbers → AreCells table N cells → IsDense N → cell_count N ≡ length cells
counted table N cells numbers are dense = elim (cases_order (cell_count N) (length cells)) [
  | inl same ↦ same
  | inr (inl less) ↦
      let there = slice_get_there cells (cell_count N) less in
      let below : cell_count N < cell_count N = numbers N dense (cell_count N) (live table (cell_at N (cell_count N)) there.0 (are.each (cell_count N) there.0 there.1)) in
      absurd (omega arith)
  | inr (inr more) ↦ let below : length cells < length cells = are.only (length cells) (dense (length cells) more) in absurd (omega arith)
]

pub demo_has_its_cells : DenseNumbers → (n : ℕ) (linked : LinkedView) → IsLinkOf (demo_module n) linked → cell_count linked.arena.lists ≡ gate_count n + 48
demo_has_its_cells numbers n linked is = counted linked.names linked.arena.lists (cells_in linked.arena.lists.library (demo_module n)) numbers is.denoted.cells is.dense ∙ cells_count linked.arena.lists.library n
