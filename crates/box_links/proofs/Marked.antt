-- A linked netlist whose hidden ports are marked, and that is plain.
use Rattle.std.proofs.Common.{◌≡◌, ℕ, ◌+◌, ◌≤◌, min, length, refl, ap, sym, ◌∙◌, subst, arith}
use Rattle.verilog_tree.specs.declared.tree.Module.{Module}
use Rattle.verilog_tree.specs.IsTree.{IsTree}
use Rattle.netlist_model.specs.Drivers.{DriverDrives}
use Rattle.netlist_model.specs.Formed.{IsWellFormed}
use Rattle.netlist_model.specs.Ports.{BitHasDirection}
use Rattle.netlist_link.specs.declared.straight.Straight.{Straight}
use Rattle.netlist_link.specs.Linked.{HidesNone, LinkedView}
use Rattle.netlist_link.specs.Links.{IsLinkOf}
use Rattle.box_model.specs.declared.boxes.BoxLibrary.{BoxLibrary}
use Rattle.box_model.specs.Laws.{OpenedIsTree}
use Rattle.box_model.specs.Opened.{hidden_ports, opened, origins}
use Rattle.box_model.specs.Sound.{IsSoundLibrary}
use Rattle.box_trees.specs.declared.opening.Opened.{Opened}
use Rattle.box_links.specs.BoxFaults.{CanBeOpened}
use Rattle.box_links.specs.BoxLinks.{HidesPorts, IsBoxLinkOf}
use Rattle.box_links.specs.Steps.{AreNumbers, CanBeLinked, IsLinkedAs, IsOpenedAs, IsPlain}
use Rattle.box_links.proofs.Counts.{are_numbers}
use Rattle.box_links.proofs.Faults.{linked_hides, linked_tree}
use Rattle.box_links.proofs.HiddenPorts.{hidden_sides, linked_long, opened_long}
use Rattle.box_links.proofs.Plain.{are_straight}

pub marked : (B : BoxLibrary) (o : Opened) (old new : LinkedView) → new ≡ record old { straight = record { first = o.first; count = o.hidden } } → IsLinkOf o.tree old → old.arena.lists.library ≡ B.cells → HidesNone old
    → IsWellFormed old.arena.lists → IsLinkedAs B o new
marked B o old new is links library hides formed = subst (IsLinkedAs B o) (sym is) (record {
  links = record { linkable = links.linkable; denoted = links.denoted; names = links.names; title = links.title; dense = links.dense };
  library = library;
  hides = record { straight = refl; inner = hides.inner; rails = hides.rails };
  formed = formed;
})

pub opened_is : (T B : BoxLibrary) (k : ℕ) (m : Module) (o : Opened) → T ≡ B → k ≤ length m.ports → o.tree ≡ opened T k m → o.first ≡ min k (length m.ports) → o.hidden ≡ length (hidden_ports T m) → o.origins.items ≡ origins T m
    → IsOpenedAs B k m o
opened_is T B k m o same few tree first hidden from = subst (λ (L : BoxLibrary). IsOpenedAs L k m o) same (record { tree = tree; first = (let short : min k (length m.ports) ≡ k = omega (arith, few) in first ∙ short); hidden = hidden; origins = from })

pub can_be_linked : OpenedIsTree → (B : BoxLibrary) (k : ℕ) (m : Module) (o : Opened) → IsSoundLibrary B → IsTree m → k ≤ length m.ports → CanBeOpened B m → IsOpenedAs B k m o → CanBeLinked o
can_be_linked law B k m o sound tree few can is =
    let long = opened_long B k m in
    let ports = ap (λ (t : Module). length t.ports) is.tree in
    let first = is.first in
    let hidden = is.hidden in
    record {
      tree = subst IsTree (sym is.tree) (law B k m sound tree can.clear);
      ports = omega (arith, long, ports, first, hidden, few);
      origins = subst AreNumbers (sym is.origins) (are_numbers B m can.small);
    }

-- its hidden ports are there
pub ports_there : (B : BoxLibrary) (k : ℕ) (m : Module) (o : Opened) (linked : LinkedView) → k ≤ length m.ports → IsOpenedAs B k m o → IsLinkedAs B o linked → linked.straight.first + linked.straight.count ≤ length linked.arena.lists.ports
ports_there B k m o linked few is link =
    let hides = linked_hides B k m o linked is link in
    let first : linked.straight.first ≡ k = ap (λ (s : Straight). s.first) hides.straight in
    let count : linked.straight.count ≡ length (hidden_ports B m) = ap (λ (s : Straight). s.count) hides.straight in
    let all = linked_long (opened B k m) linked (linked_tree B k m o linked is link) in
    let long = opened_long B k m in
    omega (arith, first, count, all, long, few)

pub box_linked : DriverDrives → BitHasDirection → (B : BoxLibrary) (k : ℕ) (m : Module) (o : Opened) (linked made : LinkedView) → k ≤ length m.ports → CanBeOpened B m → IsOpenedAs B k m o → IsLinkedAs B o linked → IsPlain linked made
    → IsBoxLinkOf B k m made
box_linked drive direct B k m o linked made few can is link plain = subst (IsBoxLinkOf B k m) (sym plain.same) (record {
  opens = can;
  links = tree;
  library = link.library;
  hides = hides;
  plain = are_straight drive direct linked link.formed (hidden_sides B k m linked tree few hides) plain.none;
})
  where
    tree : IsLinkOf (opened B k m) linked
    tree = linked_tree B k m o linked is link

    hides : HidesPorts k (length (hidden_ports B m)) linked
    hides = linked_hides B k m o linked is link
