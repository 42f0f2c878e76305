-- own: steps of linking a module with boxes: of what was opened, what is linked or told.
use Rattle.std.specs.Prelude.{◌≡◌, ◌≢◌, ℕ, ◌+◌, ◌<◌, ◌≤◌, ◌^◌, List, length, slice_get, Some, None}
use Rattle.verilog_tree.specs.declared.tree.Module.{Module}
use Rattle.verilog_tree.specs.IsTree.{IsTree}
use Rattle.netlist_model.specs.Formed.{IsWellFormed}
use Rattle.link_model.specs.declared.fault.BitName.{BitName}
use Rattle.link_model.specs.declared.fault.LinkFault.{LinkFault}
use Rattle.link_model.specs.declared.fault.LinkFault.TheVariants as link
use Rattle.netlist_link.specs.Linked.{LinkedView}
use Rattle.netlist_link.specs.Links.{IsLinkOf, IsLinkFault}
use Rattle.box_model.specs.declared.boxes.BoxLibrary.{BoxLibrary}
use Rattle.box_model.specs.declared.fault.BoxFault.TheVariants.{BoxTristate}
use Rattle.box_model.specs.Opened.{hidden_ports, opened, origins}
use Rattle.box_trees.specs.declared.opening.Opened.{Opened}
use Rattle.box_links.specs.declared.fault.BoxLinkFault.{BoxLinkFault}
use Rattle.box_links.specs.declared.fault.BoxLinkFault.TheVariants.{Box, Link, OutOfMemory}
use Rattle.box_links.specs.BoxFaults.{own_fault}
use Rattle.box_links.specs.BoxLinks.{HidesPorts}
use Rattle.box_links.specs.ThreeState.{first_hidden, has_gate}

-- each is the number of an item
abbrev pub AreNumbers : List ℕ → Type 0
AreNumbers origins = (place number : ℕ) → slice_get origins place ≡ Some number → number < 2 ^ 32

-- the fault in the numbers of own items; or memory was short
pub data IsToldAs (origins : List ℕ) (f : LinkFault) : BoxLinkFault → Type 0 where
  told : f ≢ link.OutOfMemory → IsToldAs origins f (Link (own_fault origins f))
  short : IsToldAs origins f OutOfMemory

-- it is the module, opened behind so many ports
pub record IsOpenedAs (B : BoxLibrary) (k : ℕ) (m : Module) (o : Opened) : Type 0 where
  pub tree : o.tree ≡ opened B k m
  pub first : o.first ≡ k
  pub hidden : o.hidden ≡ length (hidden_ports B m)
  pub origins : o.origins.items ≡ origins B m

-- what was opened is a tree, whose hidden ports are there
pub record CanBeLinked (opened : Opened) : Type 0 where
  pub tree : IsTree opened.tree
  pub ports : opened.first + opened.hidden ≤ length opened.tree.ports
  pub origins : AreNumbers opened.origins.items

-- what was opened is linked to it, and its hidden ports are marked
pub record IsLinkedAs (B : BoxLibrary) (opened : Opened) (linked : LinkedView) : Type 0 where
  pub links : IsLinkOf opened.tree linked
  pub library : linked.arena.lists.library ≡ B.cells
  pub hides : HidesPorts opened.first opened.hidden linked
  pub formed : IsWellFormed linked.arena.lists

-- a fault of linking what was opened; or memory was short
pub data IsFaultOf (B : BoxLibrary) (opened : Opened) : BoxLinkFault → Type 0 where
  linking : {f : LinkFault} {e : BoxLinkFault} → IsLinkFault B.cells opened.tree f → IsToldAs opened.origins.items f e → IsFaultOf B opened e
  short : IsFaultOf B opened OutOfMemory

-- it is the netlist, in which no three-state gate drives a hidden output
pub record IsPlain (linked made : LinkedView) : Type 0 where
  pub same : made ≡ linked
  pub none : first_hidden linked (has_gate linked.arena.lists.cells) ≡ None

-- a three-state gate drives this bit first; or memory was short
pub data IsToldOf (linked : LinkedView) : BoxLinkFault → Type 0 where
  driven : {bit : BitName} → first_hidden linked (has_gate linked.arena.lists.cells) ≡ Some bit → IsToldOf linked (Box (BoxTristate bit))
  short : IsToldOf linked OutOfMemory
