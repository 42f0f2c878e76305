-- Which fault of a module with boxes stands first: of its boxes, of counts, of linking with the boxes open, or of a
-- three-state gate at a hidden output. Own.
use Rattle.std.specs.Prelude.{◌≡◌, ℕ, Bool, List, map, take, drop, length, position, slice_get, Option, Some, None, unwrap_or, if◌then◌else◌}
use Rattle.std.specs.Option.{option_map}
use Rattle.verilog_tree.specs.declared.tree.Module.{Module}
use Rattle.netlist_model.specs.declared.NetId.{NetId}
use Rattle.link_model.specs.declared.fault.BitName.{BitName}
use Rattle.link_model.specs.declared.fault.LinkFault.{LinkFault}
use Rattle.link_model.specs.declared.fault.LinkFault.TheVariants as link
use Rattle.link_model.specs.Lists.{first_in}
use Rattle.link_model.specs.Denoted.{NamedPort, denoted}
use Rattle.link_model.specs.Faults.{cells_in, is_output, is_driven_by_bufif}
use Rattle.link_model.specs.Late.{StandsFirst, IsLinkable}
use Rattle.netlist_link.specs.WellNamed.{index_from}
use Rattle.box_model.specs.declared.boxes.BoxLibrary.{BoxLibrary}
use Rattle.box_model.specs.declared.fault.BoxFault.{BoxFault}
use Rattle.box_model.specs.declared.fault.BoxFault.TheVariants.{BoxTristate}
use Rattle.box_model.specs.Opened.{opened, origins, hidden_ports}
use Rattle.box_model.specs.Counts.{opened_excess}
use Rattle.box_model.specs.Faults.{box_fault}
use Rattle.box_links.specs.declared.fault.BoxLinkFault.{BoxLinkFault}
use Rattle.box_links.specs.declared.fault.BoxLinkFault.TheVariants.{Box, Link, OutOfMemory}

-- Faults of linking, in the numbers of the module's own items.

-- the number of the item that an item of the opened module comes from
abbrev pub origin_of : List ℕ → ℕ → ℕ
origin_of origins number = unwrap_or (slice_get origins number) number

abbrev pub own_fault : List ℕ → LinkFault → LinkFault
own_fault origins (link.Loop numbers) = link.Loop (map (origin_of origins) numbers)
own_fault origins other = other

-- Three-state gates.

-- a bit of a port, counted from the left
abbrev pub bit_of : NamedPort → ℕ → BitName
bit_of port bit = record { name = port.name; index = index_from port.range bit }

-- the first bit of an output whose net the test finds
abbrev pub first_output_bit : (ℕ → Bool) → NamedPort → Option BitName
first_output_bit test port = if is_output (Some port.dir) then option_map (bit_of port) (position (λ (net : NetId). test net.0) port.nets) else None

-- the hidden ports of the netlist that the opened module denotes
abbrev pub denoted_hidden : BoxLibrary → ℕ → Module → List NamedPort
denoted_hidden B k m = take (length (hidden_ports B m)) (drop k (denoted B.cells (opened B k m)).ports)

-- in the opened module a three-state gate drives the net
abbrev pub is_three_state_net : BoxLibrary → ℕ → Module → ℕ → Bool
is_three_state_net B k m net = is_driven_by_bufif (cells_in B.cells (opened B k m)) net

-- the first bit of a hidden output that a three-state gate drives: ports in order, bits from the left
abbrev pub tristate_bit : BoxLibrary → ℕ → Module → Option BitName
tristate_bit B k m = first_in (first_output_bit (is_three_state_net B k m)) (denoted_hidden B k m)

-- The first fault.

-- the boxes can be opened, and the opened module passes no limit
pub record CanBeOpened (B : BoxLibrary) (m : Module) : Type 0 where
  pub clear : box_fault B m ≡ None
  pub small : opened_excess B m ≡ None

-- the fault stands, and none that comes before it, where hidden ports stand behind so many others
pub data StandsInBoxes (B : BoxLibrary) (k : ℕ) (m : Module) : BoxLinkFault → Type 0 where
  boxes : {f : BoxFault} → box_fault B m ≡ Some f → StandsInBoxes B k m (Box f)
  excess : {f : LinkFault} → box_fault B m ≡ None → opened_excess B m ≡ Some f → StandsInBoxes B k m (Link f)
  links : {f : LinkFault} → CanBeOpened B m → StandsFirst B.cells (opened B k m) f → StandsInBoxes B k m (Link (own_fault (origins B m) f))
  tristate : {bit : BitName} → CanBeOpened B m → IsLinkable B.cells (opened B k m) → tristate_bit B k m ≡ Some bit → StandsInBoxes B k m (Box (BoxTristate bit))

-- the fault stands first; or memory was short
pub data IsBoxLinkFault (B : BoxLibrary) (k : ℕ) (m : Module) : BoxLinkFault → Type 0 where
  stands : {f : BoxLinkFault} → StandsInBoxes B k m f → IsBoxLinkFault B k m f
  memory : IsBoxLinkFault B k m OutOfMemory
