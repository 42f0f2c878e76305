-- The bits whose readings are told, as the program keeps them, and what was told of each.
use Rattle.std.specs.Prelude.{◌≡◌, ◌≢◌, ℕ, List, [], map, slice_get, Option, Some, None}
use Rattle.std.specs.List.{flat_map}
use Rattle.signal_values.specs.declared.PinSig.{PinSig}
use Rattle.netlist_model.specs.declared.NetId.{NetId}
use Rattle.netlist_model.specs.Lists.{PortView, NetlistView}
use Rattle.netlist_model.specs.Runs.{Moment, reading_at}
use Rattle.netlist_link.specs.Linked.{LinkedView}
use Rattle.netlist_meaning.specs.Pins.{net_of}
use Rattle.sim_runs.specs.declared.shown.Shown.{Shown}
use Rattle.sim_runs.specs.Shown.{shown_nets}
pub use Rattle.event_sim.specs.Shown.{shown_at}
use Rattle.event_sim.specs.Sims.{IsIn}
use Rattle.sim_runs.specs.Outputs.{reading_line, changed_line}

abbrev pub net_at : Shown → NetId
net_at bit = bit.net

-- own: the nets of a port
abbrev pub port_nets : Option PortView → List NetId
port_nets None = []
port_nets (Some port) = port.nets

-- own: each bit has the net of its pin
pub record HavePins (N : NetlistView) (bits : List Shown) : Type 0 where
  pub each : (k : ℕ) (bit : Shown) → slice_get bits k ≡ Some bit → net_of N.ports bit.pin ≡ Some bit.net

-- own: these are the bits whose readings are told
pub record AreBits (N : NetlistView) (bits : List Shown) : Type 0 where
  pub nets : map net_at bits ≡ shown_nets N
  pub pins : HavePins N bits

-- own: what was told last of each bit, by its net
abbrev pub told_of : (ℕ → Option PinSig) → List Shown → List (Option PinSig)
told_of told bits = map (λ (bit : Shown). told bit.net.0) bits

-- own: nothing was told of any net
abbrev pub untold : ℕ → Option PinSig
untold net = None

-- own: of each net its reading at this moment was told
abbrev pub told_at : NetlistView → Moment → ℕ → Option PinSig
told_at N m net = Some (reading_at N m net)

-- own: the line of a bit, unless this reading was told last
abbrev pub told_line : LinkedView → NetId → Option PinSig → PinSig → List ℕ
told_line L net None after = reading_line L net after
told_line L net (Some before) after = changed_line L net before after

-- own: what is put of a bit
abbrev pub bit_line : LinkedView → (ℕ → Option PinSig) → Moment → Shown → List ℕ
bit_line L told m bit = told_line L bit.net (told bit.net.0) (reading_at L.arena.lists m bit.net.0)

-- own: what is put of all bits
abbrev pub bits_text : LinkedView → (ℕ → Option PinSig) → Moment → List Shown → List ℕ
bits_text L told m bits = flat_map (bit_line L told m) bits

-- own: each bit that reads another value than before is noted by its place
abbrev pub AreNoted : NetlistView → Moment → Moment → List Shown → List ℕ → Type 0
AreNoted N before after bits changed = (place : ℕ) (bit : Shown) → slice_get bits place ≡ Some bit → reading_at N before bit.net.0 ≢ reading_at N after bit.net.0 → IsIn changed place

-- own: of each bit its reading before was told, and each that reads another value is noted
pub record IsToldBefore (N : NetlistView) (before after : Moment) (bits : List Shown) (told : List (Option PinSig)) (changed : List ℕ) : Type 0 where
  pub told_is : told ≡ told_of (told_at N before) bits
  pub noted : AreNoted N before after bits changed
