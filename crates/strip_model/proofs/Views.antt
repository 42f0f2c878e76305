-- Fitting, and what is given, by another view of the same netlist.
use Rattle.std.proofs.Common.{◌≡◌, ℕ, ◌+◌, ◌<◌, nat_eq, if◌then◌else◌, List, [], ◌∷◌, ◌++◌, map, length, take, drop, filter_map, refl, sym, ◌∙◌, ap, subst, Option, Some, None, slice_get}
use Rattle.std.specs.Option.{option_or, unwrap_or}
use Rattle.std.specs.List.{enumerate_from, flat_map, list_any}
use Rattle.cell_library.specs.declared.listed.ListedCell.{ListedCell}
use Rattle.netlist_model.specs.declared.NetId.{NetId}
use Rattle.netlist_model.specs.declared.PinBit.{PinBit}
use Rattle.netlist_model.specs.Lists.{PortView, NetView, CellView, NetlistView, cell_count}
use Rattle.verilog_tree.specs.declared.tree.Module.{Module}
use Rattle.bsdl_device.specs.declared.values.Device.{Device}
use Rattle.netlist_arena.specs.Arena.{bit_count}
use Rattle.netlist_arena.specs.Room.{excess_of, too_many}
use Rattle.netlist_arena.specs.declared.room.ReserveFault.{ReserveFault}
use Rattle.netlist_model.specs.declared.What.TheVariants.{Cells, Nets, Ports}
use Rattle.gate_parts.specs.Parts.{added_nets}
use Rattle.link_model.specs.Denoted.{name_bytes}
use Rattle.link_model.specs.Nets.{counted_from}
use Rattle.netlist_link.specs.WellNamed.{index_from}
use Rattle.netlist_link.specs.declared.straight.Straight.{Straight}
use Rattle.netlist_link.specs.Linked.{LinkedView, own_ports, hidden_nets}
use Rattle.netlist_link.specs.ViewLaws.{IsSameView}
use Rattle.netlist_link.specs.PinWords.{pin_at, IsPinWord, scalar, vector, IsScalarWord, IsBitWord, IsPortNamed}
use Rattle.netlist_unlink.specs.Rows.{rows}
use Rattle.netlist_unlink.specs.Trees.{items_from, port_of, wire_of, added_from, tree_of}
use Rattle.plan_texts.specs.declared.plan.Plan.{Plan}
use Rattle.plan_texts.specs.declared.plan.PinLine.{PinLine}
use Rattle.plan_fitting.specs.declared.fault.FitFault.{FitFault}
use Rattle.plan_fitting.specs.declared.fitted.Fitted.{Fitted}
use Rattle.plan_fitting.specs.Pins.{PinSeen, IsSeen, AreSeen}
use Rattle.plan_fitting.specs.Names.{port_names, net_names, hidden_names, name_of_cell, cell_names, index_word, NamedBit, port_bits}
use Rattle.plan_fitting.proofs.PortBits.{missing_is}
use Rattle.plan_fitting.specs.Fits.{missing_fault, bit_fault, twice_fault, cell_fault, barred_after, tap_lines, names_of, begun_fault, fault_with}
use Rattle.texts.specs.First.{or_else, first_in}
use Rattle.plan_fitting.specs.Devices.{fitted_of, device_of_fitted}
use Rattle.stitched_netlist.specs.declared.model.TapNames.{TapNames}
use Rattle.stitched_netlist.specs.Stitched.{live_cells, same_place, tap_port, tap_ports, tap_net_views, test_logic_nets, test_logic_cells, stitched}
use Rattle.stitched_netlist.specs.Sites.{Boundary, sides_of}
use Rattle.stitched_netlist.specs.Sides.{core_cell}
use Rattle.written_netlists.specs.Prepared.{room_of, ports_of, with_tap_names, AreTapNames}
use Rattle.written_netlists.specs.InsertedLaws.{with_test_logic}
use Rattle.strip_model.specs.Gives.{GivesAt}
use Rattle.strip_model.proofs.Same.{SameLists, turned, filtered, drivers_same, counted, clock_port, control_port}

abbrev pub lists_same : (one other : LinkedView) → IsSameView one other → SameLists one.arena.lists other.arena.lists
lists_same one other same = record { library = same.library; ports = same.ports; nets = same.nets; cells = same.cells }

-- Words of pins.

named : (table : List (List ℕ)) (one other : NetlistView) → one.ports ≡ other.ports → (number : ℕ) (port : PortView) (name : List ℕ) → IsPortNamed table one number port name → IsPortNamed table other number port name
named table one other same number port name is = record { there = ap (λ (ports : List PortView). slice_get ports number) (sym same) ∙ is.there; named = is.named }

scalar_word : (table : List (List ℕ)) (one other : NetlistView) → one.ports ≡ other.ports → (word : List ℕ) (number : ℕ) → IsScalarWord table one word number → IsScalarWord table other word number
scalar_word table one other same word number is = record { port = is.port; named = named table one other same number is.port word is.named; scalar = is.scalar }

bit_word : (table : List (List ℕ)) (one other : NetlistView) → one.ports ≡ other.ports → (word : List ℕ) (number bit : ℕ) → IsBitWord table one word number bit → IsBitWord table other word number bit
bit_word table one other same word number bit is = record {
  name = is.name;
  index = is.index;
  indexed = is.indexed;
  of = record {
    named = record { port = is.of.named.port; named = named table one other same number is.of.named.port is.name is.of.named.named };
    indexed = record {
      port = is.of.indexed.port;
      there = ap (λ (ports : List PortView). slice_get ports number) (sym same) ∙ is.of.indexed.there;
      range = is.of.indexed.range;
      vector = is.of.indexed.vector;
      at = is.of.indexed.at;
    };
  };
}

pin_word : (table : List (List ℕ)) (one other : NetlistView) → one.ports ≡ other.ports → (word : List ℕ) (pin : PinBit) → IsPinWord table one word pin → IsPinWord table other word pin
pin_word table one other same word pin (scalar {number} is) = scalar (scalar_word table one other same word number is)
pin_word table one other same word pin (vector {number} {bit} none is) =
    vector (λ n there. none n (scalar_word table other one (sym same) word n there)) (bit_word table one other same word number bit is)

-- What is seen.

seen_same : (one other : LinkedView) → IsSameView one other → one.straight ≡ other.straight → (word : List ℕ) (seen : PinSeen) → IsSeen one word seen → IsSeen other word seen
seen_same one other same marks word seen is =
    let lists = lists_same one other same in
    let back = turned one.arena.lists other.arena.lists lists in
    record {
      named = (
        subst (λ (table : List (List ℕ)). IsPinWord table other.arena.lists word seen.pin) same.names (pin_word one.names one.arena.lists other.arena.lists same.ports word seen.pin is.named.0),
        subst (λ (straight : Straight). seen.pin.port.0 < straight.first) marks is.named.1,
      );
      port = is.port;
      there = ap (λ (ports : List PortView). slice_get ports seen.pin.port.0) (sym same.ports) ∙ is.there;
      side = is.side;
      net = is.net;
      clock = (λ yes. clock_port one.arena.lists other.arena.lists lists seen.net.0 (is.clock.0 yes), λ there. is.clock.1 (clock_port other.arena.lists one.arena.lists back seen.net.0 there));
      control = (λ yes. control_port one.arena.lists other.arena.lists lists seen.net.0 (is.control.0 yes), λ there. is.control.1 (control_port other.arena.lists one.arena.lists back seen.net.0 there));
      driver = is.driver ∙ drivers_same seen.net.0 one.arena.lists.cells other.arena.lists.cells same.cells;
    }

are_seen_same : (one other : LinkedView) → IsSameView one other → one.straight ≡ other.straight → (lines : List PinLine) (seen : List PinSeen) → AreSeen one lines seen → AreSeen other lines seen
are_seen_same one other same marks lines seen are = record {
  count = are.count;
  each = λ place line here at there. seen_same one other same marks line.port here (are.each place line here at there);
}

-- The rest depends on the lists' parts alone.

abbrev live_of : List (Option CellView) → List CellView
live_of cells = filter_map same_place cells

live_same : (one other : LinkedView) → IsSameView one other → live_cells one.arena.lists ≡ live_cells other.arena.lists
live_same one other same = filtered same_place refl one.arena.lists.cells other.arena.lists.cells same.cells

names_same : (one other : LinkedView) → IsSameView one other → cell_names one ≡ cell_names other
names_same one other same =
    filtered (name_of_cell one.names) refl one.arena.lists.cells other.arena.lists.cells same.cells
    ∙ ap (λ (table : List (List ℕ)). filter_map (name_of_cell table) other.arena.lists.cells) same.names

count_same : (one other : LinkedView) → IsSameView one other → cell_count one.arena.lists ≡ cell_count other.arena.lists
count_same one other same = counted one.arena.lists.cells other.arena.lists.cells same.cells

-- the own ports, and the nets of hidden ones
own_same : (one other : LinkedView) → IsSameView one other → one.straight ≡ other.straight → own_ports one ≡ own_ports other
own_same one other same marks =
    ap (λ (straight : Straight). take straight.first one.arena.lists.ports) marks ∙ ap (take other.straight.first) same.ports

abbrev nets_in : Straight → List PortView → List ℕ
nets_in straight ports = flat_map (λ (port : PortView). map (λ (net : NetId). net.0) port.nets) (take straight.count (drop straight.first ports))

hidden_same : (one other : LinkedView) → IsSameView one other → one.straight ≡ other.straight → hidden_nets one ≡ hidden_nets other
hidden_same one other same marks = ap (λ (straight : Straight). nets_in straight one.arena.lists.ports) marks ∙ ap (nets_in other.straight) same.ports

-- bits of ports by a table of names
abbrev bits_by : List (List ℕ) → List (ℕ × PortView) → List NamedBit
bits_by table ports = flat_map (λ (port : ℕ × PortView). map (λ (bit : ℕ). record { pin = pin_at port.0 bit; word = unwrap_or (name_bytes table port.1.name) [] ++ index_word (index_from port.1.range bit) })
    (counted_from 0 (length port.1.nets))) ports

bits_same : (one other : LinkedView) → IsSameView one other → one.straight ≡ other.straight → port_bits one ≡ port_bits other
bits_same one other same marks =
    ap (λ (table : List (List ℕ)). bits_by table (enumerate_from 0 (own_ports one))) same.names
    ∙ ap (λ (ports : List PortView). bits_by other.names (enumerate_from 0 ports)) (own_same one other same marks)

missing_same : (one other : LinkedView) → IsSameView one other → one.straight ≡ other.straight → (seen : List PinSeen) → missing_fault one seen ≡ missing_fault other seen
missing_same one other same marks seen = by (own_ports one) refl (sym (own_same one other same marks))
  where
    by : (ports : List PortView) → own_ports one ≡ ports → own_ports other ≡ own_ports one → missing_fault one seen ≡ missing_fault other seen
    by [] e f = let g : own_ports other ≡ [] = f ∙ e in rw (e, g) refl
    by (port ∷ ports) e f =
        let g : own_ports other ≡ port ∷ ports = f ∙ e in
        let bits = bits_same one other same marks in
        missing_is one seen port ports e ∙ ap (first_in (bit_fault seen)) bits ∙ sym (missing_is other seen port ports g)

-- names by their lists
abbrev ports_by : List (List ℕ) → List PortView → List (List ℕ)
ports_by table ports = filter_map (λ (p : PortView). name_bytes table p.name) ports

abbrev nets_by : List (List ℕ) → List ℕ → List NetView → List (List ℕ)
nets_by table hidden nets = filter_map (λ (n : ℕ × NetView). if list_any (nat_eq n.0) hidden then None else name_bytes table n.1.name) (enumerate_from 0 nets)

abbrev hidden_by : List (List ℕ) → List ℕ → List NetView → List (List ℕ)
hidden_by table hidden nets = filter_map (λ (n : ℕ × NetView). if list_any (nat_eq n.0) hidden then name_bytes table n.1.name else None) (enumerate_from 0 nets)

port_names_same : (one other : LinkedView) → IsSameView one other → one.straight ≡ other.straight → port_names one ≡ port_names other
port_names_same one other same marks =
    ap (λ (table : List (List ℕ)). ports_by table (own_ports one)) same.names ∙ ap (ports_by other.names) (own_same one other same marks)

net_names_same : (one other : LinkedView) → IsSameView one other → one.straight ≡ other.straight → net_names one ≡ net_names other
net_names_same one other same marks =
    ap (λ (table : List (List ℕ)). nets_by table (hidden_nets one) one.arena.lists.nets) same.names
    ∙ ap (λ (hidden : List ℕ). nets_by other.names hidden one.arena.lists.nets) (hidden_same one other same marks)
    ∙ ap (nets_by other.names (hidden_nets other)) same.nets

hidden_names_same : (one other : LinkedView) → IsSameView one other → one.straight ≡ other.straight → hidden_names one ≡ hidden_names other
hidden_names_same one other same marks =
    ap (λ (table : List (List ℕ)). hidden_by table (hidden_nets one) one.arena.lists.nets) same.names
    ∙ ap (λ (hidden : List ℕ). hidden_by other.names hidden one.arena.lists.nets) (hidden_same one other same marks)
    ∙ ap (hidden_by other.names (hidden_nets other)) same.nets

-- faults by the lists of names
record Names : Type 0 where
  ports : List (List ℕ)
  nets : List (List ℕ)
  cells : List (List ℕ)
  hidden : List (List ℕ)

abbrev names_of_view : LinkedView → Names
names_of_view L = record { ports = port_names L; nets = net_names L; cells = cell_names L; hidden = hidden_names L }

all_names_same : (one other : LinkedView) → IsSameView one other → one.straight ≡ other.straight → names_of_view one ≡ names_of_view other
all_names_same one other same marks =
    ap (λ (names : List (List ℕ)). record { ports = names; nets = net_names one; cells = cell_names one; hidden = hidden_names one }) (port_names_same one other same marks)
    ∙ ap (λ (names : List (List ℕ)). record { ports = port_names other; nets = names; cells = cell_names one; hidden = hidden_names one }) (net_names_same one other same marks)
    ∙ ap (λ (names : List (List ℕ)). record { ports = port_names other; nets = net_names other; cells = names; hidden = hidden_names one }) (names_same one other same)
    ∙ ap (λ (names : List (List ℕ)). record { ports = port_names other; nets = net_names other; cells = cell_names other; hidden = names }) (hidden_names_same one other same marks)

abbrev names_by : Plan → Names → Option FitFault
names_by p n =
    or_else (barred_after [] [] (p.entity ∷ p.«package» ∷ n.ports))
    (or_else (barred_after (n.nets ++ (n.cells ++ n.hidden)) (p.entity ∷ p.«package» ∷ n.ports) (names_of (tap_lines p)))
    (barred_after [] ((p.entity ∷ p.«package» ∷ n.ports) ++ names_of (tap_lines p)) (names_of p.linkage)))

abbrev prefix_by : Plan → Names → Option FitFault
prefix_by p n = first_in (begun_fault p.prefix) (n.ports ++ (n.nets ++ (n.cells ++ (n.hidden ++ names_of (tap_lines p)))))

abbrev later_by : Plan → List PinSeen → Option FitFault → Names → Option FitFault
later_by p seen missing names = or_else missing (or_else (twice_fault p seen) (or_else (cell_fault p.pins seen) (or_else (names_by p names) (prefix_by p names))))

fault_same : (one other : LinkedView) → IsSameView one other → one.straight ≡ other.straight → (p : Plan) (seen : List PinSeen) → fault_with one p seen ≡ fault_with other p seen
fault_same one other same marks p seen =
    ap (λ (missing : Option FitFault). later_by p seen missing (names_of_view one)) (missing_same one other same marks seen)
    ∙ ap (later_by p seen (missing_fault other seen)) (all_names_same one other same marks)

pub fitted_same : (one other : LinkedView) → IsSameView one other → one.straight ≡ other.straight → (p : Plan) (seen : List PinSeen) → fitted_of one p seen ≡ fitted_of other p seen
fitted_same one other same marks p seen =
    let count = count_same one other same in
    let own = own_same one other same marks in
    rw (own, same.names, count) refl

-- the netlist with test logic by the parts of the core's
abbrev boundary_by : List PortView → List NetView → Fitted → Boundary
boundary_by ports nets f = record { ports = ports; rows = f.rows; first = length nets + 5 }

abbrev stitched_by : TapNames → Fitted → List ListedCell → List PortView → List NetView → List CellView → ℕ → NetlistView
stitched_by names f library ports nets live count = record {
  library = library;
  ports = ports ++ tap_ports names (tap_port (length nets));
  nets = nets ++ (tap_net_views names ++ added_nets (length nets + 5) (sides_of ports f.rows + test_logic_nets (boundary_by ports nets f) f));
  cells = map Some (map (core_cell (boundary_by ports nets f)) live
      ++ test_logic_cells (boundary_by ports nets f) (length nets + 5 + sides_of ports f.rows) count (tap_port (length nets)) f);
}

stitched_is : (N : NetlistView) (names : TapNames) (f : Fitted) → stitched N names f ≡ stitched_by names f N.library N.ports N.nets (live_cells N) (cell_count N)
stitched_is N names f = refl

stitched_same : (one other : LinkedView) → IsSameView one other → (names : TapNames) (f : Fitted) → stitched one.arena.lists names f ≡ stitched other.arena.lists names f
stitched_same one other same names f =
    let N : NetlistView = one.arena.lists in
    let M : NetlistView = other.arena.lists in
    stitched_is N names f
    ∙ ap (λ (library : List ListedCell). stitched_by names f library N.ports N.nets (live_cells N) (cell_count N)) same.library
    ∙ ap (λ (ports : List PortView). stitched_by names f M.library ports N.nets (live_cells N) (cell_count N)) same.ports
    ∙ ap (λ (nets : List NetView). stitched_by names f M.library M.ports nets (live_cells N) (cell_count N)) same.nets
    ∙ ap (λ (live : List CellView). stitched_by names f M.library M.ports M.nets live (cell_count N)) (live_same one other same)
    ∙ ap (stitched_by names f M.library M.ports M.nets (live_cells M)) (count_same one other same)
    ∙ sym (stitched_is M names f)

-- what a tree is made of
abbrev tree_by : List ℕ → List ℕ → List (List ℕ) → NetlistView → Module
tree_by prefix title table N = record {
  name = title;
  ports = map (port_of table) N.ports;
  wires = map (wire_of table) (rows N.ports N.nets) ++ added_from prefix 0 N.nets;
  items = items_from (record { library = N.library; table = table; prefix = prefix; nets = N.nets }) 0 N.cells;
}

tree_same : (one other : LinkedView) → IsSameView one other → (names : TapNames) (f : Fitted) (prefix : List ℕ) → tree_of (with_test_logic one names f) prefix ≡ tree_of (with_test_logic other names f) prefix
tree_same one other same names f prefix =
    ap (λ (title : List ℕ). tree_by prefix title (with_tap_names f one.names) (stitched one.arena.lists names f)) same.title
    ∙ ap (λ (table : List (List ℕ)). tree_by prefix other.module_name (with_tap_names f table) (stitched one.arena.lists names f)) same.names
    ∙ ap (tree_by prefix other.module_name (with_tap_names f other.names)) (stitched_same one other same names f)

abbrev too_many_by : ℕ → ℕ → ℕ → ℕ → ℕ → ℕ → Option ReserveFault
too_many_by count nets_count bits cells nets port_bits =
    option_or (option_or (excess_of Cells (count + cells) 262144) (excess_of Nets (nets_count + nets) 524288)) (excess_of Ports (bits + port_bits) 4096)

room_same : (one other : LinkedView) → IsSameView one other → (cells nets bits : ℕ) → too_many one.arena.lists cells nets bits ≡ too_many other.arena.lists cells nets bits
room_same one other same cells nets bits =
    ap (λ (count : ℕ). too_many_by count (length one.arena.lists.nets) (bit_count one.arena.lists.ports) cells nets bits) (count_same one other same)
    ∙ ap (λ (views : List NetView). too_many_by (cell_count other.arena.lists) (length views) (bit_count one.arena.lists.ports) cells nets bits) same.nets
    ∙ ap (λ (ports : List PortView). too_many_by (cell_count other.arena.lists) (length other.arena.lists.nets) (bit_count ports) cells nets bits) same.ports

abbrev room_for : LinkedView → Fitted → Option ReserveFault
room_for L f = too_many L.arena.lists (room_of f) (room_of f) (ports_of f)

pub gives_same : (one other : LinkedView) (p : Plan) (inserted : Module) (d : Device) → IsSameView one other → one.straight ≡ other.straight → GivesAt one p inserted d → GivesAt other p inserted d
gives_same one other p inserted d same marks g =
    let seen : List PinSeen = g.fits.seen in
    let fitted = fitted_same one other same marks p seen in
    let room : room_for other (fitted_of other p seen) ≡ None =
    ap (room_for other) (sym fitted) ∙ sym (room_same one other same (room_of (fitted_of one p seen)) (room_of (fitted_of one p seen)) (ports_of (fitted_of one p seen))) ∙ g.room in
    let taps : AreTapNames (with_tap_names (fitted_of other p seen) other.names) (fitted_of other p seen) g.names =
    subst (λ (f : Fitted). AreTapNames (with_tap_names f other.names) f g.names) fitted
    (subst (λ (table : List (List ℕ)). AreTapNames (with_tap_names (fitted_of one p seen) table) (fitted_of one p seen) g.names) same.names g.names_are) in
    record {
      fits = record {
        seen = seen;
        are_seen = are_seen_same one other same marks p.pins seen g.fits.are_seen;
        faultless = sym (fault_same one other same marks p seen) ∙ g.fits.faultless;
      };
      room = room;
      names = g.names;
      names_are = taps;
      inserted_is = g.inserted_is ∙ tree_same one other same g.names (fitted_of one p seen) p.prefix ∙ ap (λ (f : Fitted). tree_of (with_test_logic other g.names f) p.prefix) fitted;
      device_is = g.device_is ∙ ap device_of_fitted fitted;
    }
