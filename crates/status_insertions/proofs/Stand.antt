-- What the parts of inserting tell, of all texts.
use Rattle.std.proofs.Common.{ℕ, List, sym, subst}
use Rattle.cell_library.specs.declared.listed.ListedCell.{ListedCell}
use Rattle.cell_library.specs.Sound.{IsLibrary}
use Rattle.netlist_link.specs.Linked.{LinkedView}
use Rattle.insertions.specs.insertion_inputs.Inputs.{IsNetlistOf, IsLinkedTree}
use Rattle.insertions.specs.insertion_inputs.Faults.{StandsInNetlist}
use Rattle.insertions.specs.insertion_inputs.declared.fault.InsertFault.{InsertFault}
use Rattle.insertions.specs.insertion_inputs.declared.fault.InsertFault.TheVariants as insert
use Rattle.status_inputs.specs.Faults.{StandsBehindPlan, StandsInStatusTexts}
use Rattle.status_inputs.specs.declared.fault.StatusInsertFault.{StatusInsertFault}
use Rattle.status_inputs.specs.declared.fault.StatusInsertFault.TheVariants as fault

pub netlist_stands : (library : List ListedCell) (net text lines : List ℕ) (f : InsertFault) → StandsInNetlist library net f → StandsInStatusTexts library net text lines (fault.Insert f)
netlist_stands library net text lines (insert.Netlist f) stands = stands
netlist_stands library net text lines (insert.Link f) stands = stands
netlist_stands library net text lines insert.OutOfMemory stands = tt
netlist_stands library net text lines (insert.Plan f) stands = absurd stands
netlist_stands library net text lines (insert.Fit f) stands = absurd stands
netlist_stands library net text lines (insert.TooMany what count limit) stands = absurd stands

pub behind_stands : (library : List ListedCell) (net text lines : List ℕ) (L : LinkedView) (f : StatusInsertFault) → IsNetlistOf library net L → StandsBehindPlan L text lines f
    → StandsInStatusTexts library net text lines f
behind_stands library net text lines L (fault.Insert (insert.TooMany what count limit)) is stands = record { linked = L; netlist = is; stands = stands }
behind_stands library net text lines L (fault.Insert (insert.Plan f)) is stands = record { linked = L; netlist = is; stands = stands }
behind_stands library net text lines L (fault.Insert (insert.Fit f)) is stands = record { linked = L; netlist = is; stands = stands }
behind_stands library net text lines L (fault.Insert insert.OutOfMemory) is stands = tt
behind_stands library net text lines L (fault.Insert (insert.Netlist f)) is stands = absurd stands
behind_stands library net text lines L (fault.Insert (insert.Link f)) is stands = absurd stands
behind_stands library net text lines L (fault.Registers f) is stands = record { linked = L; netlist = is; stands = stands }

pub listed_of : (library : List ListedCell) (net : List ℕ) (L : LinkedView) → IsNetlistOf library net L → IsLibrary L.arena.lists.library
listed_of library net L is = subst IsLibrary (sym is.library_is) is.listed

pub linked_tree : (library : List ListedCell) (net : List ℕ) (L : LinkedView) → IsNetlistOf library net L → IsLinkedTree L
linked_tree library net L is = record { tree = is.tree; is = is.is; listed = listed_of library net L is; links = is.links; hides = is.hides }
