-- A module in which a fault stands first isn't linked; two netlists of one module; and hidden ports that end the ports.
use Rattle.std.proofs.Common.{◌≡◌, List, length, ap, sym, ◌∙◌, subst, Some, None, arith}
use Rattle.cell_library.specs.declared.listed.ListedCell.{ListedCell}
use Rattle.cell_library.specs.Sound.{IsLibrary}
use Rattle.netlist_model.specs.Drivers.{DriverIsFound}
use Rattle.netlist_link.specs.declared.straight.Straight.{Straight}
use Rattle.netlist_link.specs.Laws.{FaultsForbidLinks}
use Rattle.netlist_link.specs.ViewLaws.{LinkViewIsFormed, LinkViewsAgree}
use Rattle.box_model.specs.Laws.{OpenedIsTree}
use Rattle.box_model.specs.Opened.{hidden_ports, opened}
use Rattle.box_links.specs.BoxFaults.StandsInBoxes.{boxes, excess, links, tristate}
use Rattle.box_links.specs.Laws.{BoxLinksAgree, FaultsForbidBoxLinks, HiddenPortsEnd}
use Rattle.box_links.proofs.Faults.{linkable_is}
use Rattle.box_links.proofs.HiddenPorts.{first_hidden_is, linked_long, opened_long}
use Rattle.box_links.proofs.Plain.{not_straight}

pub box_faults_forbid_box_links : FaultsForbidLinks → LinkViewIsFormed → OpenedIsTree → DriverIsFound → FaultsForbidBoxLinks
box_faults_forbid_box_links forbid formed opened_tree found B k m f linked sound tree (boxes {f = a} h) is = let no : None ≡ Some a = sym is.opens.clear ∙ h in cc
box_faults_forbid_box_links forbid formed opened_tree found B k m f linked sound tree (excess {f = a} none h) is = let no : None ≡ Some a = sym is.opens.small ∙ h in cc
box_faults_forbid_box_links forbid formed opened_tree found B k m f linked sound tree (links {f = a} can h) is = forbid B.cells (opened B k m) a h (linkable_is B k m linked is.links is.library)
box_faults_forbid_box_links forbid formed opened_tree found B k m f linked sound tree (tristate {bit = bit} can linkable h) is =
    let library : IsLibrary linked.arena.lists.library = subst (λ (l : List ListedCell). IsLibrary l) (sym is.library) sound.cells in
    let well = formed (opened B k m) linked (opened_tree B k m sound tree can.clear) library is.links in
    not_straight found linked well is.plain bit (first_hidden_is B k m linked is.links is.library is.hides ∙ h)

pub box_links_agree : LinkViewsAgree → BoxLinksAgree
box_links_agree agree B k m one other f g = (
  agree (opened B k m) one other (f.library ∙ sym g.library) f.links g.links,
  record { straight = f.hides.straight ∙ sym g.hides.straight; inner = f.hides.inner ∙ sym g.hides.inner; rails = f.hides.rails ∙ sym g.hides.rails },
)

pub hidden_ports_end : HiddenPortsEnd
hidden_ports_end B m linked is =
    let first : linked.straight.first ≡ length m.ports = ap (λ (s : Straight). s.first) is.hides.straight in
    let count : linked.straight.count ≡ length (hidden_ports B m) = ap (λ (s : Straight). s.count) is.hides.straight in
    let long = linked_long (opened B (length m.ports) m) linked is.links in
    let all = opened_long B (length m.ports) m in
    omega (arith, first, count, long, all)
