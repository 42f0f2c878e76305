-- A module with its boxes open, as a linked netlist. Own.
use Rattle.std.specs.Prelude.{◌≡◌, ℕ, [], length}
use Rattle.verilog_tree.specs.declared.tree.Module.{Module}
use Rattle.netlist_link.specs.Hidden.{AreStraight}
use Rattle.netlist_link.specs.Linked.{LinkedView}
use Rattle.netlist_link.specs.Links.{IsLinkOf}
use Rattle.box_model.specs.declared.boxes.BoxLibrary.{BoxLibrary}
use Rattle.box_model.specs.Opened.{opened, hidden_ports}
use Rattle.box_links.specs.BoxFaults.{CanBeOpened}

-- the hidden ports are as many as these, behind the first so many; no wire is one within a cell, and no port is a
-- supply rail
pub record HidesPorts (first count : ℕ) (linked : LinkedView) : Type 0 where
  pub straight : linked.straight ≡ record { first = first; count = count }
  pub inner : linked.inner ≡ 0
  pub rails : linked.rails ≡ []

-- the module, opened behind its first ports, is linked to it with the library's cells; the ports of its boxes are hidden,
-- and no three-state gate drives a bit of them
pub record IsBoxLinkOf (B : BoxLibrary) (k : ℕ) (m : Module) (linked : LinkedView) : Type 0 where
  pub opens : CanBeOpened B m
  pub links : IsLinkOf (opened B k m) linked
  pub library : linked.arena.lists.library ≡ B.cells
  pub hides : HidesPorts k (length (hidden_ports B m)) linked
  pub plain : AreStraight linked
