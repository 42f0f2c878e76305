-- A check of a netlist that keeps another's ports and cells and realises its chip, by the program of its device.
-- IEEE Std 1149.1-2001: test access port, the annex on BSDL; plans and the texts of events are own.
use Rattle.std.specs.Prelude.{◌≡◌, ◌≢◌, ℕ, List, [], Option, Some, None}
use Rattle.cell_library.specs.declared.listed.ListedCell.{ListedCell}
use Rattle.cell_text.specs.Grammar.{SpellsLibrary}
use Rattle.command_faults.specs.declared.status.Status.{Status}
use Rattle.command_faults.specs.declared.status.Status.TheVariants as status
use Rattle.command_edges.specs.Seen.{ShelfSeen}
use Rattle.insertion_laws.specs.ChecksTexts.{BelongTogether, SpellsProgram}
use Rattle.command_line.specs.Forms.{Form}
use Rattle.command_line.specs.Names.{Runs}

-- The netlist's text spells, with the library, a netlist that keeps the ports and cells of one that some plan fits and
-- realises the chip that the plan's device makes of it; the BSDL text spells that device, and the events its program.
-- Each is in any spelling, and what an insertion wrote is one case.
pub record AreOfChip (library : List ListedCell) (netlist bsdl events : List ℕ) : Type 0 where
  pub together : BelongTogether library netlist bsdl
  pub program : SpellsProgram bsdl events

-- own: the text under the name, if there is one, spells the library; without one there are no listed cells
abbrev pub HoldsLibrary : (List ℕ → Option (List ℕ)) → Option (List ℕ) → List ListedCell → Type 0
HoldsLibrary held None library = library ≡ []
HoldsLibrary held (Some name) library = (text : List ℕ) × ((held name ≡ Some text) × SpellsLibrary text library)

-- A check of such texts never ends as missed.
abbrev pub MissesNothing : List (List ℕ) → ShelfSeen → Status → Type 0
MissesNothing words shelf end = (netlist bsdl events net text lines : List ℕ) (name : Option (List ℕ)) (library : List ListedCell)
    → Runs words (Form.Checks netlist bsdl events name) → shelf.held netlist ≡ Some net → shelf.held bsdl ≡ Some text → shelf.held events ≡ Some lines
    → HoldsLibrary shelf.held name library → AreOfChip library net text lines → end ≢ status.Missed
