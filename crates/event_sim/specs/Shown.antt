-- The bits whose readings are shown.
-- IEEE Std 1364-2001: vectors, bit-selects; which bits are shown is own.
use Rattle.std.specs.Prelude.{◌≡◌, ◌≢◌, ℕ, ◌<◌, List, [], length, slice_get, slice_index_or, Option, Some, None}
use Rattle.std.specs.List.{flat_map}
use Rattle.netlist_model.specs.declared.Dir.{Dir}
use Rattle.netlist_model.specs.declared.Dir.TheVariants.{Input, Output, Inout}
use Rattle.netlist_model.specs.declared.NetId.{NetId}
use Rattle.netlist_model.specs.Lists.{PortView, NetlistView}
use Rattle.netlist_model.specs.Runs.{Moment, reading_at}
use Rattle.event_parts.specs.QueuesLaws.{IsIn}

-- own: the nets of a port whose readings are told: an input's aren't
abbrev pub shown_of : Dir → List NetId → List NetId
shown_of Input nets = []
shown_of Output nets = nets
shown_of Inout nets = nets

-- own: the nets of the output and inout bits, in the order of the ports, bits from the left
abbrev pub shown_nets : NetlistView → List NetId
shown_nets N = flat_map (λ (port : PortView). shown_of port.dir port.nets) N.ports

-- own: those of one port
abbrev pub shown_at : Option PortView → List NetId
shown_at None = []
shown_at (Some port) = shown_of port.dir port.nets

-- own: the place that a table has for a net
abbrev pub place_at : List (Option ℕ) → ℕ → Option ℕ
place_at places net = slice_index_or places net None

-- own: the table has the place of each net of the list, and only places of the list
pub record ArePlaces (nets : List NetId) (places : List (Option ℕ)) : Type 0 where
  pub each : (place : ℕ) (net : NetId) → slice_get nets place ≡ Some net → place_at places net.0 ≡ Some place
  pub within : (net place : ℕ) → place_at places net ≡ Some place → place < length nets

-- own: what was noted stays, and the place of each net that reads another value at the second moment is noted
pub record NotesReadings (N : NetlistView) (places : List (Option ℕ)) (m m' : Moment) (changed changed' : List ℕ) : Type 0 where
  pub long : length changed' ≡ length changed
  pub kept : (place : ℕ) → IsIn changed place → IsIn changed' place
  pub noted : (net place : ℕ) → place_at places net ≡ Some place → reading_at N m net ≢ reading_at N m' net → IsIn changed' place
