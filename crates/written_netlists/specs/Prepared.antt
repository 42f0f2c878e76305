-- What preparing comes to: room for the test logic, and the names of its port.
-- IEEE Std 1149.1-2001: test access port; how much room is taken is own.
use Rattle.std.specs.Prelude.{◌≡◌, ℕ, ◌+◌, ◌*◌, List, length, Some}
use Rattle.link_arena.specs.NameTableNames.{with_name}
use Rattle.link_model.specs.Denoted.{name_bytes}
use Rattle.netlist_model.specs.declared.Name.{Name}
use Rattle.netlist_link.specs.Linked.{LinkedView}
use Rattle.netlist_link.specs.Drafts.{reserved}
use Rattle.core_sides.specs.plan_fitting.declared.fitted.Fitted.{Fitted}
use Rattle.core_sides.specs.stitched_netlist.declared.model.TapNames.{TapNames}

-- own: the cells, and the nets
abbrev pub room_of : Fitted → ℕ
room_of f = 410 + 64 * f.codes.length + 24 * length f.rows

-- own: the ports of the device beside the netlist's: the test access port, and linkage
abbrev pub ports_of : Fitted → ℕ
ports_of f = 5 + length f.linkage

-- own: these names, and those of the test access port that aren't among them
abbrev pub with_tap_names : Fitted → List (List ℕ) → List (List ℕ)
with_tap_names f names = with_name f.trst.name (with_name f.tdo.name (with_name f.tdi.name (with_name f.tms.name (with_name f.tck.name names))))

abbrev pub prepared : Fitted → LinkedView → LinkedView
prepared f L = record (reserved (room_of f) (room_of f) (ports_of f) L) { names = with_tap_names f L.names }

-- the names of the test access port, by their bytes
pub record AreTapNames (names : List (List ℕ)) (f : Fitted) (tap : TapNames) : Type 0 where
  pub tck : name_bytes names tap.tck ≡ Some f.tck.name
  pub tms : name_bytes names tap.tms ≡ Some f.tms.name
  pub tdi : name_bytes names tap.tdi ≡ Some f.tdi.name
  pub tdo : name_bytes names tap.tdo ≡ Some f.tdo.name
  pub trst : name_bytes names tap.trst ≡ Some f.trst.name

-- the table has a name with these bytes
abbrev pub IsEntered : List (List ℕ) → List ℕ → Type 0
IsEntered names bytes = (name : Name) × (name_bytes names name ≡ Some bytes)

-- those of the test access port are there
pub record HasEntered (names : List (List ℕ)) (f : Fitted) : Type 0 where
  pub tck : IsEntered names f.tck.name
  pub tms : IsEntered names f.tms.name
  pub tdi : IsEntered names f.tdi.name
  pub tdo : IsEntered names f.tdo.name
  pub trst : IsEntered names f.trst.name
