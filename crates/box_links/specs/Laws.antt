-- Linking with boxes: that a module is linked exactly where no fault stands, that one fault stands first, and that without
-- boxes it is linking as it is. Own.
use Rattle.std.specs.Prelude.{◌≡◌, ℕ, List, length}
use Rattle.verilog_tree.specs.declared.tree.Module.{Module}
use Rattle.verilog_tree.specs.IsTree.{IsTree}
use Rattle.cell_library.specs.declared.listed.ListedCell.{ListedCell}
use Rattle.link_model.specs.declared.fault.LinkFault.{LinkFault}
use Rattle.link_model.specs.Late.{StandsFirst}
use Rattle.netlist_link.specs.Hidden.{EndsHidden}
use Rattle.netlist_link.specs.Laws.{IsSameFault}
use Rattle.netlist_link.specs.Linked.{HasSameMarks, HidesNone, LinkedView}
use Rattle.netlist_link.specs.Links.{IsLinkOf}
use Rattle.netlist_link.specs.ViewLaws.{IsSameView}
use Rattle.box_model.specs.declared.boxes.BoxLibrary.{BoxLibrary}
use Rattle.box_model.specs.Ports.{of_cells}
use Rattle.box_model.specs.Sound.{IsSoundLibrary}
use Rattle.box_links.specs.declared.fault.BoxLinkFault.{BoxLinkFault}
use Rattle.box_links.specs.declared.fault.BoxLinkFault.TheVariants.{Link}
use Rattle.box_links.specs.BoxFaults.{StandsInBoxes}
use Rattle.box_links.specs.BoxLinks.{IsBoxLinkOf}

-- where a fault stands first, the module isn't linked
abbrev pub FaultsForbidBoxLinks : Type 0
FaultsForbidBoxLinks = (B : BoxLibrary) (k : ℕ) (m : Module) (f : BoxLinkFault) (linked : LinkedView) → IsSoundLibrary B → IsTree m
    → StandsInBoxes B k m f → IsBoxLinkOf B k m linked → ⊥

-- the same fault; of a loop any may be told
pub data IsSameBoxFault : BoxLinkFault → BoxLinkFault → Type 0 where
  same : {f : BoxLinkFault} → IsSameBoxFault f f
  linking : {f g : LinkFault} → IsSameFault f g → IsSameBoxFault (Link f) (Link g)

-- no two faults stand first, but for two loops
abbrev pub OneBoxFaultIsFirst : Type 0
OneBoxFaultIsFirst = (B : BoxLibrary) (k : ℕ) (m : Module) (f g : BoxLinkFault) → StandsInBoxes B k m f → StandsInBoxes B k m g → IsSameBoxFault f g

-- two netlists of one module are the same, and the same is marked in them
abbrev pub BoxLinksAgree : Type 0
BoxLinksAgree = (B : BoxLibrary) (k : ℕ) (m : Module) (one other : LinkedView) → IsBoxLinkOf B k m one → IsBoxLinkOf B k m other → IsSameView one other × HasSameMarks one other

-- where hidden ports stand behind all others, they end the ports
abbrev pub HiddenPortsEnd : Type 0
HiddenPortsEnd = (B : BoxLibrary) (m : Module) (linked : LinkedView) → IsBoxLinkOf B (length m.ports) m linked → EndsHidden linked

-- Without boxes and cuts.

-- the module is linked with these cells to the netlist, which hides nothing
pub record IsPlainLinkOf (cells : List ListedCell) (m : Module) (linked : LinkedView) : Type 0 where
  pub links : IsLinkOf m linked
  pub library : linked.arena.lists.library ≡ cells
  pub hides : HidesNone linked

abbrev pub BoxlessIsLinked : Type 0
BoxlessIsLinked = (cells : List ListedCell) (m : Module) (linked : LinkedView) → IsPlainLinkOf cells m linked → IsBoxLinkOf (of_cells cells) (length m.ports) m linked

abbrev pub BoxlessLinksPlain : Type 0
BoxlessLinksPlain = (cells : List ListedCell) (m : Module) (linked : LinkedView) → IsBoxLinkOf (of_cells cells) (length m.ports) m linked → IsPlainLinkOf cells m linked

-- a fault of linking is the fault with boxes
abbrev pub BoxlessFaultStands : Type 0
BoxlessFaultStands = (cells : List ListedCell) (k : ℕ) (m : Module) (f : LinkFault) → StandsFirst cells m f → StandsInBoxes (of_cells cells) k m (Link f)

-- and no other stands
abbrev pub BoxlessFaultLinks : Type 0
BoxlessFaultLinks = (cells : List ListedCell) (k : ℕ) (m : Module) (e : BoxLinkFault) → StandsInBoxes (of_cells cells) k m e
    → (f : LinkFault) × (e ≡ Link f) × StandsFirst cells m f
