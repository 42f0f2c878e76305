-- The netlist that bytes spell with a library that may have boxes. Where its hidden ports stand is told of its tree. Own.
use Rattle.std.specs.Prelude.{◌≡◌, ℕ, List, length, None}
use Rattle.verilog_tree.specs.declared.tree.Module.{Module}
use Rattle.verilog_tree.specs.IsTree.{IsTree}
use Rattle.verilog_tree.specs.Texts.{SpellsText}
use Rattle.verilog_texts.specs.TextFaults.{IsTextFault}
use Rattle.netlist_link.specs.Linked.{LinkedView}
use Rattle.link_model.specs.Late.{IsLinkable}
use Rattle.box_model.specs.declared.boxes.BoxLibrary.{BoxLibrary}
use Rattle.box_model.specs.Opened.{opened}
use Rattle.box_links.specs.declared.fault.BoxLinkFault.{BoxLinkFault}
use Rattle.box_links.specs.declared.fault.BoxLinkFault.TheVariants.{Box, Link, OutOfMemory}
use Rattle.box_links.specs.BoxFaults.{CanBeOpened, IsBoxLinkFault, tristate_bit}
use Rattle.box_links.specs.BoxLinks.{IsBoxLinkOf}
use Rattle.command_faults.specs.declared.fault.Fault.{Fault}
use Rattle.command_faults.specs.declared.fault.Fault.TheVariants as fault

-- behind all ports
abbrev pub at_end : Module → ℕ
at_end m = length m.ports

-- the bytes spell one tree, which is linked with its boxes open to this netlist
pub record SpellsBoxLinked (place : Module → ℕ) (library : BoxLibrary) (net : List ℕ) (linked : LinkedView) : Type 0 where
  pub tree : Module
  pub spells : SpellsText net tree
  pub only : (other : Module) → SpellsText net other → other ≡ tree
  pub are : IsTree tree
  pub is : IsBoxLinkOf library (place tree) tree linked

-- they spell one tree, in which this fault stands
pub record HasBoxLinkFault (place : Module → ℕ) (library : BoxLibrary) (f : BoxLinkFault) (net : List ℕ) : Type 0 where
  pub tree : Module
  pub spells : SpellsText net tree
  pub only : (other : Module) → SpellsText net other → other ≡ tree
  pub fault : IsBoxLinkFault library (place tree) tree f

-- a fault of linking with boxes as one of a command
abbrev pub fault_of : BoxLinkFault → Fault
fault_of (Box f) = fault.Boxes f
fault_of (Link f) = fault.Link f
fault_of OutOfMemory = fault.OutOfMemory

-- it stands in a module, opened behind so many ports
abbrev pub IsFaultBehind : BoxLibrary → ℕ → Module → Fault → Type 0
IsFaultBehind library k m f = (e : BoxLinkFault) × (IsBoxLinkFault library k m e × (f ≡ fault_of e))

-- the fault stands in the bytes of a netlist. Want of memory says nothing
abbrev pub StandsInBoxNetlist : (Module → ℕ) → BoxLibrary → List ℕ → Fault → Type 0
StandsInBoxNetlist place library net (fault.Netlist f) = IsTextFault net f
StandsInBoxNetlist place library net (fault.Boxes f) = HasBoxLinkFault place library (Box f) net
StandsInBoxNetlist place library net (fault.Link f) = HasBoxLinkFault place library (Link f) net
StandsInBoxNetlist place library net fault.OutOfMemory = Unit {0}
StandsInBoxNetlist place library net f = ⊥

-- no fault stands in a module: its boxes can be opened, what comes of it can be linked, and no three-state gate drives a
-- hidden output
pub record IsBoxLinkable (library : BoxLibrary) (k : ℕ) (m : Module) : Type 0 where
  pub opens : CanBeOpened library m
  pub links : IsLinkable library.cells (opened library k m)
  pub plain : tristate_bit library k m ≡ None

-- the bytes spell such a tree
pub record SpellsBoxLinkable (place : Module → ℕ) (library : BoxLibrary) (net : List ℕ) : Type 0 where
  pub tree : Module
  pub spells : SpellsText net tree
  pub linkable : IsBoxLinkable library (place tree) tree
