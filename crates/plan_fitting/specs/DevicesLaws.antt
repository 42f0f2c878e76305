-- Laws on the devices of plans that fit.
-- IEEE Std 1149.1-2001: boundary-scan register, the annex on BSDL; IEEE Std 1364-2001: lexical
-- conventions (simple names).
use Rattle.std.specs.Prelude.{◌≡◌, ℕ, ◌+◌, ◌<◌, ◌≤◌, List, ◌++◌, All, length, slice_get, Option, Some, None}
use Rattle.std.specs.Option.{option_map, option_map_or}
use Rattle.signal_values.specs.declared.Sig.{Sig}
use Rattle.signal_values.specs.declared.Sig.TheVariants.{Unknown}
use Rattle.verilog_tree.specs.declared.tree.Module.{Module}
use Rattle.verilog_tree.specs.IsTree.{IsTree, IsTreeName}
use Rattle.link_model.specs.Denoted.{name_bytes}
use Rattle.cell_library.specs.declared.codes.Function.TheVariants as function
use Rattle.cell_library.specs.Sound.{IsLibrary}
use Rattle.netlist_model.specs.declared.Feed.{Feed}
use Rattle.netlist_model.specs.declared.Name.TheVariants.{Original}
use Rattle.netlist_model.specs.declared.NetId.{NetId}
use Rattle.netlist_model.specs.declared.PinBit.{PinBit}
use Rattle.netlist_model.specs.Lists.{PortView, bit_net}
use Rattle.netlist_model.specs.Settled.{feed_value, driver_of}
use Rattle.netlist_unlink.specs.netlist_link.Linked.{LinkedView}
use Rattle.netlist_unlink.specs.netlist_link.Links.{IsLinkOf}
use Rattle.netlist_unlink.specs.netlist_link.PinWords.{pin_at}
use Rattle.netlist_unlink.specs.Prefixes.{IsUsed, IsFreePrefix}
use Rattle.bsdl_device.specs.declared.values.PortMode.TheVariants as mode
use Rattle.bsdl_device.specs.declared.values.DevPort.{DevPort}
use Rattle.bsdl_device.specs.declared.values.Device.{Device}
use Rattle.bsdl_device.specs.IsDevice.{IsDevice}
use Rattle.wrapped_chip.specs.Cells.{row_of, core_datum, core_control}
use Rattle.wrapped_chip.specs.Suits.{Suits}
use Rattle.plan_texts.specs.declared.plan.Plan.{Plan}
use Rattle.plan_texts.specs.declared.plan.TapLine.{TapLine}
use Rattle.plan_texts.specs.Canonical.{IsPlan}
use Rattle.plan_fitting.specs.declared.fitted.FitRow.{FitRow}
use Rattle.plan_fitting.specs.declared.fitted.Fitted.{Fitted}
use Rattle.plan_fitting.specs.Pins.{PinSeen}
use Rattle.plan_fitting.specs.Rows.{rows}
use Rattle.plan_fitting.specs.Fits.{tap_lines}
use Rattle.plan_fitting.specs.Devices.{IsFitted, mode_of_side, port_range, scalar_port, fitted_of, cell_row, device_of}
use Rattle.plan_fitting.specs.FittingPlan.{IsFitting, HasRoom}

-- The device.

-- the device is one that some text spells
abbrev pub PlansMakeDevices : Type 0
PlansMakeDevices = (L : LinkedView) (p : Plan) (seen : List PinSeen) → IsFitting L p seen → HasRoom L p → IsDevice (device_of L p seen)

-- each bit of the netlist's ports that has a cell has one that it may have; `BitsHaveRows` tells which have one
abbrev pub PlansSuitNetlists : Type 0
PlansSuitNetlists = (L : LinkedView) (p : Plan) (seen : List PinSeen) → IsFitting L p seen → Suits (device_of L p seen) L.arena.lists

-- The prefix.

-- no name of the netlist begins with the prefix, and no name of the test access port
pub record HasFreePrefix (L : LinkedView) (p : Plan) : Type 0 where
  pub netlist : IsFreePrefix L p.prefix
  pub taps : All (λ (line : TapLine). (rest : List ℕ) → line.name ≡ p.prefix ++ rest → ⊥) (tap_lines p)

abbrev pub PrefixesAreFree : Type 0
PrefixesAreFree = (L : LinkedView) (p : Plan) (seen : List PinSeen) → IsFitting L p seen → HasFreePrefix L p

-- The names of the test access port.

-- they can be written in a netlist, no two are the same, and none is a port's, wire's, gate's or instance's
pub record HasNewTapNames (L : LinkedView) (p : Plan) : Type 0 where
  pub written : All (λ (line : TapLine). IsTreeName line.name) (tap_lines p)
  pub distinct : (j k : ℕ) (one other : TapLine) → slice_get (tap_lines p) j ≡ Some one → slice_get (tap_lines p) k ≡ Some other → one.name ≡ other.name → j ≡ k
  pub new : All (λ (line : TapLine). (number : ℕ) → IsUsed L.arena.lists (Original number) → slice_get L.names number ≡ Some line.name → ⊥) (tap_lines p)

abbrev pub TapNamesAreNew : Type 0
TapNamesAreNew = (L : LinkedView) (p : Plan) (seen : List PinSeen) → IsFitting L p seen → HasNewTapNames L p

-- The order of ports.

-- the device has the netlist's port at this place
pub record HasOwnPort (L : LinkedView) (d : Device) (number : ℕ) (port : PortView) : Type 0 where
  pub q : DevPort
  pub there : slice_get d.ports number ≡ Some q
  pub name : name_bytes L.names port.name ≡ Some q.name
  pub side : q.mode ≡ mode_of_side port.dir
  pub range : q.range ≡ option_map port_range port.range

-- the netlist's own ports, the five of the test access port, and linkage, each in their order
pub record HasPorts (L : LinkedView) (p : Plan) (d : Device) : Type 0 where
  pub count : length d.ports ≡ L.straight.first + (5 + length p.linkage)
  pub own : (number : ℕ) (port : PortView) → number < L.straight.first → slice_get L.arena.lists.ports number ≡ Some port → HasOwnPort L d number port
  pub tck : slice_get d.ports L.straight.first ≡ Some (scalar_port mode.Input p.tck)
  pub tms : slice_get d.ports (L.straight.first + 1) ≡ Some (scalar_port mode.Input p.tms)
  pub tdi : slice_get d.ports (L.straight.first + 2) ≡ Some (scalar_port mode.Input p.tdi)
  pub tdo : slice_get d.ports (L.straight.first + 3) ≡ Some (scalar_port mode.Output p.tdo)
  pub trst : slice_get d.ports (L.straight.first + 4) ≡ Some (scalar_port mode.Input p.trst)
  pub linkage : (place : ℕ) (line : TapLine) → slice_get p.linkage place ≡ Some line → slice_get d.ports (L.straight.first + (5 + place)) ≡ Some (scalar_port mode.Linkage line)

-- and the test access port stands at those places
pub record HasTapPlaces (L : LinkedView) (d : Device) : Type 0 where
  pub tck : d.tck ≡ L.straight.first
  pub tms : d.tms ≡ L.straight.first + 1
  pub tdi : d.tdi ≡ L.straight.first + 2
  pub tdo : d.tdo ≡ L.straight.first + 3
  pub trst : d.trst ≡ L.straight.first + 4

abbrev pub DevicesHavePorts : Type 0
DevicesHavePorts = (L : LinkedView) (p : Plan) (seen : List PinSeen) → IsFitting L p seen → HasPorts L p (device_of L p seen) × HasTapPlaces L (device_of L p seen)

-- Rows by their bits.

-- the net of this bit has the row with this number in the device
pub record IsRowOf (L : LinkedView) (p : Plan) (seen : List PinSeen) (number : ℕ) (row : FitRow) (pin : PinBit) : Type 0 where
  pub net : NetId
  pub at : bit_net L.arena.lists pin.port.0 pin.bit ≡ Some net
  pub found : row_of (device_of L p seen) L.arena.lists net.0 ≡ Some (record { number = number; row = cell_row (fitted_of L p seen) row })

-- a row is the one of its bit, which it names by the place of the bit's port and its index
abbrev pub RowsStandAtBits : Type 0
RowsStandAtBits = (L : LinkedView) (p : Plan) (seen : List PinSeen) → IsFitting L p seen → (number : ℕ) (row : FitRow) (pin : PinBit) → slice_get (rows p seen) number ≡ Some row → row.pin ≡ Some pin
    → IsRowOf L p seen number row pin

-- a row of a bit
pub record HasRow (p : Plan) (seen : List PinSeen) (pin : PinBit) : Type 0 where
  pub number : ℕ
  pub row : FitRow
  pub there : slice_get (rows p seen) number ≡ Some row
  pub at : row.pin ≡ Some pin

-- each bit of the netlist's own ports has one
abbrev pub BitsHaveRows : Type 0
BitsHaveRows = (L : LinkedView) (p : Plan) (seen : List PinSeen) → IsFitting L p seen → (number bit : ℕ) (net : NetId) → number < L.straight.first → bit_net L.arena.lists number bit ≡ Some net → HasRow p seen (pin_at number bit)

-- and no hidden bit has one
abbrev pub HiddenBitsHaveNone : Type 0
HiddenBitsHaveNone = (L : LinkedView) (p : Plan) (seen : List PinSeen) → IsFitting L p seen → (number bit : ℕ) (net : NetId) → L.straight.first ≤ number → bit_net L.arena.lists number bit ≡ Some net
    → row_of (device_of L p seen) L.arena.lists net.0 ≡ None

-- The core's side of the rows.

-- what an operand gives, where the core's nets have these values; without an operand nothing is known
abbrev pub fed : (ℕ → Sig) → Option Feed → Sig
fed value core = option_map_or (feed_value value) core Unknown

-- the core's side of a row at a bit is the data operand of the bit's three-state driver, else the bit's net
abbrev pub RowsTakeTheCore : Type 0
RowsTakeTheCore = (L : LinkedView) (p : Plan) (seen : List PinSeen) → IsFitting L p seen → (number : ℕ) (row : FitRow) (pin : PinBit) (net : NetId)
    → slice_get (rows p seen) number ≡ Some row → row.pin ≡ Some pin → bit_net L.arena.lists pin.port.0 pin.bit ≡ Some net
    → (value : ℕ → Sig) → fed value row.core ≡ core_datum (driver_of L.arena.lists.cells net.0) value net.0

-- that of a control cell is the control of each driver whose row names it
abbrev pub ControlsTakeTheCore : Type 0
ControlsTakeTheCore = (L : LinkedView) (p : Plan) (seen : List PinSeen) → IsFitting L p seen → (number : ℕ) (row : FitRow) (pin : PinBit) (net : NetId) (named : ℕ) (control : FitRow)
    → slice_get (rows p seen) number ≡ Some row → row.pin ≡ Some pin → bit_net L.arena.lists pin.port.0 pin.bit ≡ Some net → row.control ≡ Some named → slice_get (rows p seen) named ≡ Some control
    → (value : ℕ → Sig) → fed value control.core ≡ core_control (driver_of L.arena.lists.cells net.0) value

-- a control cell of the plan's kind, behind a row that names it
pub record IsBehindItsRow (p : Plan) (seen : List PinSeen) (number : ℕ) (row : FitRow) : Type 0 where
  pub before : ℕ
  pub next : number ≡ before + 1
  pub data_row : FitRow
  pub there : slice_get (rows p seen) before ≡ Some data_row
  pub names : data_row.control ≡ Some number
  pub does : row.function ≡ function.Control
  pub kind : row.cell ≡ p.control

-- a row that stands at no bit is a control cell, right behind a row that names it
abbrev pub ControlsFollowTheirRows : Type 0
ControlsFollowTheirRows = (L : LinkedView) (p : Plan) (seen : List PinSeen) → IsFitting L p seen → (number : ℕ) (row : FitRow) → slice_get (rows p seen) number ≡ Some row → row.pin ≡ None
    → IsBehindItsRow p seen number row

-- Link views.

-- what is fitted to a link view of a tree
abbrev pub FittedIsFitting : Type 0
FittedIsFitting = (m : Module) (L : LinkedView) (p : Plan) (f : Fitted) → IsTree m → IsLibrary L.arena.lists.library → IsLinkOf m L → IsPlan p → (is : IsFitted L p f) → IsFitting L p is.seen
