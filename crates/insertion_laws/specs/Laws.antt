-- What an insertion wrote is stripped, and belongs together.
-- IEEE Std 1149.1-2001: boundary-scan register, test access port, the annex on BSDL; the statements are own.
use Rattle.std.specs.Prelude.{◌≡◌, ℕ, List}
use Rattle.cell_library.specs.declared.listed.ListedCell.{ListedCell}
use Rattle.verilog_tree.specs.declared.tree.Module.{Module}
use Rattle.link_model.specs.Denoted.{denoted}
use Rattle.netlist_link.specs.Linked.{LinkedView}
use Rattle.plan_texts.specs.declared.plan.Plan.{Plan}
use Rattle.plan_fitting.specs.Devices.{device_of}
use Rattle.insertions.specs.Insertions.{IsInsertion, IsInsertionText}
use Rattle.strip_model.specs.Gives.{Gives}
use Rattle.strip_model.specs.Answer.{IsAnswer}
use Rattle.insertion_laws.specs.ChecksTexts.{BelongTogether}

-- Stripping.

-- own: the netlist and the plan give the written module and its device
abbrev pub InsertionGives : Type 0
InsertionGives = (library : List ListedCell) (net plan verilog bsdl report : List ℕ) (i : IsInsertionText library net plan verilog bsdl report)
    → Gives i.is.tree i.is.linked i.is.wanted i.is.written_tree (device_of i.is.linked i.is.wanted i.is.fits.seen)

-- own: so they are recovered: the answer denotes the netlist's tree, and its netlist is the one that the written
-- netlist behaves as
abbrev pub InsertionIsStripped : Type 0
InsertionIsStripped = (library : List ListedCell) (net plan verilog bsdl report : List ℕ) (i : IsInsertionText library net plan verilog bsdl report)
    → IsAnswer i.is.tree i.is.linked i.is.written_tree (device_of i.is.linked i.is.wanted i.is.fits.seen)

-- own: and no other netlist with the library, with whatever plan, gives them: so what `strip` answers has the netlist's
-- ports, nets, cells and names
abbrev pub InsertionComesBack : Type 0
InsertionComesBack = (library : List ListedCell) (net plan verilog bsdl report : List ℕ) (i : IsInsertionText library net plan verilog bsdl report)
    → (m : Module) (L : LinkedView) (p : Plan) → L.arena.lists.library ≡ library → Gives m L p i.is.written_tree (device_of i.is.linked i.is.wanted i.is.fits.seen)
    → denoted L.arena.lists.library m ≡ denoted i.is.linked.arena.lists.library i.is.tree

-- Checks.

-- what an insertion writes are texts that belong together
abbrev pub InsertionsBelongTogether : Type 0
InsertionsBelongTogether = (library : List ListedCell) (net plan verilog bsdl : List ℕ) → IsInsertion library net plan verilog bsdl → BelongTogether library verilog bsdl
