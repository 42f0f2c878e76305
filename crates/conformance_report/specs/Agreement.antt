-- When the ports of a netlist are those of a device.
-- IEEE Std 1149.1-2001: the annex on BSDL (logical port description); that names are compared byte for byte is own.
use Rattle.std.specs.Prelude.{◌≡◌, ◌≢◌, ℕ, ◌<◌, false, List, length, slice_get, Some}
use Rattle.std.specs.Option.{option_map}
use Rattle.netlist_model.specs.Lists.{PortView}
use Rattle.link_model.specs.Denoted.{name_bytes}
use Rattle.netlist_link.specs.Linked.{LinkedView, is_straight}
use Rattle.bsdl_device.specs.declared.values.PortMode.TheVariants.{Linkage}
use Rattle.bsdl_device.specs.declared.values.DevPort.{DevPort}
use Rattle.bsdl_device.specs.declared.values.Device.{Device}
use Rattle.plan_fitting.specs.Devices.{mode_of_side, port_range}

-- the netlist's port with this number and a port of the device are the same: in name, direction and range
pub record IsSamePort (L : LinkedView) (number : ℕ) (other : DevPort) : Type 0 where
  pub port : PortView
  pub there : slice_get L.arena.lists.ports number ≡ Some port
  pub name : name_bytes L.names port.name ≡ Some other.name
  pub mode : other.mode ≡ mode_of_side port.dir
  pub range : other.range ≡ option_map port_range port.range

-- the netlist's port with this number is one of these of the device
pub record IsOfDevice (L : LinkedView) (ports : List DevPort) (number : ℕ) : Type 0 where
  pub place : ℕ
  pub other : DevPort
  pub there : slice_get ports place ≡ Some other
  pub same : IsSamePort L number other

-- the netlist's port with this number isn't hidden, and is the same as the device's
abbrev pub IsOwnPort : LinkedView → ℕ → DevPort → Type 0
IsOwnPort L number other = (is_straight L number ≡ false) × IsSamePort L number other

-- the port of the device is one of the netlist's
pub record IsOfNetlist (L : LinkedView) (other : DevPort) : Type 0 where
  pub number : ℕ
  pub own : is_straight L number ≡ false
  pub same : IsSamePort L number other

abbrev pub AreOfDevice : LinkedView → List DevPort → Type 0
AreOfDevice L ports = (number : ℕ) → number < length L.arena.lists.ports → is_straight L number ≡ false → IsOfDevice L ports number

abbrev pub AreOfNetlist : LinkedView → List DevPort → Type 0
AreOfNetlist L ports = (place : ℕ) (other : DevPort) → slice_get ports place ≡ Some other → other.mode ≢ Linkage → IsOfNetlist L other

-- the ports of the netlist but for hidden ones are those of the device but for linkage, in any order
pub record PortsAgree (L : LinkedView) (d : Device) : Type 0 where
  pub of_device : AreOfDevice L d.ports
  pub of_netlist : AreOfNetlist L d.ports
