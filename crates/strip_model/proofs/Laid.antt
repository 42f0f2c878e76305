-- A link view is laid out.
use Rattle.std.proofs.Common.{◌≡◌, ℕ, zero, suc, ◌+◌, ◌<◌, ◌≤◌, List, [], ◌∷◌, map, length, refl, ap, sym, ◌∙◌, subst, Option, Some, None, option_map, option_and_then, slice_get, arith}
use Rattle.std.proofs.lemmas.List.{length-map}
use Rattle.std.proofs.lemmas.List.Sums.{sum_by-cons}
use Rattle.list_laws.proofs.Lists.{AreAll-length, length-counted_from, slice_get_there}
use Rattle.list_laws.proofs.Options.{or_else-parts}
use Rattle.verilog_tree.specs.declared.tree.Module.{Module}
use Rattle.verilog_tree.specs.declared.tree.Port.{Port}
use Rattle.verilog_tree.specs.declared.tree.Range as tree
use Rattle.cell_library.specs.declared.listed.ListedCell.{ListedCell}
use Rattle.netlist_model.specs.declared.NetId.{NetId}
use Rattle.netlist_model.specs.declared.Feed.TheVariants.{Net}
use Rattle.netlist_model.specs.Lists.{PortView, CellView, NetlistView, cell_at, bit_net}
use Rattle.netlist_model.specs.Formed.{width_of}
use Rattle.link_model.specs.Nets.{NetDeclaration, bits_in, counted_from, declared_nets, nets_in, port_nets, width}
use Rattle.link_model.specs.Cells.{NamedCell}
use Rattle.link_model.specs.Denoted.{AreAll, IsCell, IsNet, IsPort, net_id, ports_from, range_of}
use Rattle.link_model.specs.Faults.{cells_in, driver_fault, text_fault}
use Rattle.link_model.specs.Fits.{CellsBelow, IsCellBelow}
use Rattle.link_names.proofs.Modules.{cells_fit}
use Rattle.link_names.proofs.NetCounts.{length-nets_in}
use Rattle.strip_model.proofs.GivesFits.{cell-fits, feed-fits, output-fits}
use Rattle.link_arena.proofs.Parts.{are_below, port-bits-few}
use Rattle.netlist_link.specs.Linked.{LinkedView}
use Rattle.netlist_link.specs.Links.{IsLinkOf}
use Rattle.strip_model.specs.Laid.{LinkViewIsLaidOut}

counted_below : (first w bit : ℕ) (net : NetId) → slice_get (map net_id (counted_from first w)) bit ≡ Some net → net.0 < first + w
counted_below first zero bit net h = absurd (let bad : None ≡ Some net = h in cc)
counted_below first (suc w) zero net h =
    let here : Some (net_id first) ≡ Some net = h in
    let same : net_id first ≡ net = cc in
    let number : first ≡ net.0 = ap (λ (n : NetId). n.0) same in
    omega arith
counted_below first (suc w) (suc bit) net h = let rest = counted_below (suc first) w bit net h in omega arith

width_same : (r : Option tree.Range) → width_of (option_map range_of r) ≡ width r
width_same None = refl
width_same (Some r) = refl

-- a port has a net for each bit, each of which is one of the first so many
record IsPortBelow (bound : ℕ) (view : PortView) : Type 0 where
  count : length view.nets ≡ width_of view.range
  below : (bit : ℕ) (net : NetId) → slice_get view.nets bit ≡ Some net → net.0 < bound

port_at : (table : List (List ℕ)) (first bound : ℕ) (views : List PortView) (ports : List Port) → AreAll (IsPort table) views (ports_from first ports)
    → first + bits_in (map port_nets ports) ≤ bound → (p : ℕ) (view : PortView) → slice_get views p ≡ Some view → IsPortBelow bound view
port_at table first bound [] ports all few p view at = absurd (let bad : None ≡ Some view = at in cc)
port_at table first bound (v ∷ views) [] all few p view at = absurd all
port_at table first bound (v ∷ views) (port ∷ ports) all few zero view at =
    let here : Some v ≡ Some view = at in
    let same : v ≡ view = cc in
    let sum = sum_by-cons (λ (n : NetDeclaration). width n.range) (port_nets port) (map port_nets ports) in
    subst (IsPortBelow bound) same (record {
      count = ap (λ (nets : List NetId). length nets) all.0.nets ∙ length-map (counted_from first (width port.range)) net_id ∙ length-counted_from first (width port.range)
          ∙ sym (ap width_of all.0.range ∙ width_same port.range);
      below = λ bit net h. let less = counted_below first (width port.range) bit net (sym (ap (λ (nets : List NetId). slice_get nets bit) all.0.nets) ∙ h) in omega (arith, sum);
    })
port_at table first bound (v ∷ views) (port ∷ ports) all few (suc p) view at =
    let sum = sum_by-cons (λ (n : NetDeclaration). width n.range) (port_nets port) (map port_nets ports) in
    port_at table (first + width port.range) bound views ports all.1 (omega (arith, sum)) p view at

-- the cell of a number, as it is denoted
denoted_cell : (m : Module) (L : LinkedView) → IsLinkOf m L → (i : ℕ) (cell : CellView) → cell_at L.arena.lists i ≡ Some cell
    → (named : NamedCell) × (slice_get (cells_in L.arena.lists.library m) i ≡ Some named) × IsCell L.names cell named
denoted_cell m L links i cell live =
    let cells = links.denoted.cells in
    let named = slice_get_there (cells_in L.arena.lists.library m) i (cells.only i (rw live refl)) in
    (named.0, named.1, rw live at (cells.each i named.0 named.1))

pub laid_out : LinkViewIsLaidOut
laid_out m L tree links =
    let N : NetlistView = L.arena.lists in
    let library : List ListedCell = N.library in
    let clear : text_fault library m ≡ None = (or_else-parts (text_fault library m) (driver_fault (nets_in (declared_nets m)) (cells_in library m)) links.linkable.early).0 in
    let fits : CellsBelow (length (nets_in (declared_nets m))) (cells_in library m) =
    are_below library (length (nets_in (declared_nets m))) (cells_in library m) (cells_fit library m tree clear) in
    let count : length N.nets ≡ length (nets_in (declared_nets m)) = AreAll-length (IsNet L.names) N.nets (nets_in (declared_nets m)) links.denoted.nets in
    let bits = length-nets_in (declared_nets m) in
    let few = port-bits-few m in
    let port : (p : ℕ) (view : PortView) → slice_get N.ports p ≡ Some view → IsPortBelow (length N.nets) view =
    λ p view at. port_at L.names 0 (length N.nets) N.ports m.ports links.denoted.ports (omega (arith, count, bits, few)) p view at in
    record {
      widths = λ p view at. (port p view at).count;
      port_nets = λ p bit net h. by_port m L port p bit net h;
      operands = λ i cell place net reads.
          let named = denoted_cell m L links i cell reads.live in
          let fit : IsCellBelow (length (nets_in (declared_nets m))) named.0 = cell-fits (length (nets_in (declared_nets m))) (cells_in library m) i named.0 fits named.1 in
          let less : net < length (nets_in (declared_nets m)) = feed-fits (length (nets_in (declared_nets m))) named.0.feeds place (Net (net_id net)) fit.feeds (sym (ap (λ (fs : List _). slice_get fs place) named.2.feeds) ∙ reads.operand) in
          omega (arith, count);
      outputs = λ i cell net drives.
          let named = denoted_cell m L links i cell drives.live in
          let fit : IsCellBelow (length (nets_in (declared_nets m))) named.0 = cell-fits (length (nets_in (declared_nets m))) (cells_in library m) i named.0 fits named.1 in
          let less : net < length (nets_in (declared_nets m)) = output-fits (length (nets_in (declared_nets m))) named.0 (net_id net) fit (sym named.2.output ∙ drives.output) in
          omega (arith, count);
    }
  where
    by_port : (m : Module) (L : LinkedView) → ((p : ℕ) (view : PortView) → slice_get L.arena.lists.ports p ≡ Some view → IsPortBelow (length L.arena.lists.nets) view)
        → (p bit : ℕ) (net : NetId) → bit_net L.arena.lists p bit ≡ Some net → net.0 < length L.arena.lists.nets
    by_port m L port p bit net h = go (slice_get L.arena.lists.ports p) refl h
      where
        go : (o : Option PortView) → slice_get L.arena.lists.ports p ≡ o → option_and_then (λ (v : PortView). slice_get v.nets bit) o ≡ Some net → net.0 < length L.arena.lists.nets
        go None e h = absurd (let bad : None ≡ Some net = h in cc)
        go (Some view) e h = (port p view e).below bit net h
