-- own: which names are ports', which nets are driven, and the wires under their names and indexes.
use Rattle.std.specs.Prelude.{◌≡◌, ◌↔◌, ℕ, ◌<◌, Bool, true, List, length, slice_get, Option, Some, MatchOption}
use Rattle.std.specs.Map.{lookup}
use Rattle.netlist_model.specs.declared.NetId.{NetId}
use Rattle.netlist_model.specs.declared.Name.{Name}
use Rattle.netlist_model.specs.declared.Name.TheVariants.{Original}
use Rattle.netlist_model.specs.Lists.{CellView, NetlistView, Drives}
use Rattle.netlist_model.specs.Formed.{IsDriven}
use Rattle.netlist_link.specs.PortNames.{HasOriginal}
use Rattle.status_fitting.specs.declared.keys.WireKey.{WireKey}
use Rattle.status_fitting.specs.Keys.{same_key}
use Rattle.status_fitting.specs.Wires.{IsWireAt}

-- so many flags, of which those are set that stand for what is so
pub record AreFlagged (IsSo : ℕ → Type 0) (count : ℕ) (flags : List Bool) : Type 0 where
  pub long : length flags ≡ count
  pub each : (k : ℕ) → (slice_get flags k ≡ Some true) ↔ IsSo k

-- one of the first so many ports has the name with this number
pub record IsPortName (N : NetlistView) (ports number : ℕ) : Type 0 where
  pub port : ℕ
  pub below : port < ports
  pub has : HasOriginal N number port

-- one of the cells below a number drives the net
pub record IsDrivenBelow (N : NetlistView) (cells net : ℕ) : Type 0 where
  pub number : ℕ
  pub below : number < cells
  pub cell : CellView
  pub drives : Drives N number cell net

-- the names of the first so many ports are flagged
abbrev pub FlagsPorts : List (List ℕ) → NetlistView → ℕ → List Bool → Type 0
FlagsPorts names N ports flags = AreFlagged (IsPortName N ports) (length names) flags

-- what the cells below a number drive is flagged
abbrev pub FlagsDriven : NetlistView → ℕ → List Bool → Type 0
FlagsDriven N cells flags = AreFlagged (IsDrivenBelow N cells) (length N.nets) flags

-- all that cells drive is flagged
abbrev pub FlagsAllDriven : NetlistView → List Bool → Type 0
FlagsAllDriven N flags = AreFlagged (IsDriven N) (length N.nets) flags

-- the key of a net, where it is a wire's
abbrev pub IsKeyOf : NetlistView → ℕ → Option WireKey → Type 0
IsKeyOf N net found = MatchOption found ((key : WireKey) → IsWireAt N key.number key.index net → ⊥) (λ (key : WireKey). IsWireAt N key.number key.index net)

-- the net is a wire's bit, under a name and an index
pub record IsWireUnder (N : NetlistView) (name : Name) (index : Option ℕ) (net : ℕ) : Type 0 where
  pub number : ℕ
  pub is : name ≡ Original number
  pub at : IsWireAt N number index net

-- what a look-up of a key tells, where the nets below a number are entered
abbrev pub IsFound : NetlistView → ℕ → WireKey → Option NetId → Type 0
IsFound N nets key found =
    MatchOption found ((net : ℕ) → net < nets → IsWireAt N key.number key.index net → ⊥) (λ (net : NetId). IsWireAt N key.number key.index net.0)

-- the wires among the nets below a number stand under their keys
pub record FindsWires (N : NetlistView) (nets : ℕ) (entries : List (WireKey × NetId)) : Type 0 where
  pub each : (key : WireKey) → IsFound N nets key (lookup (same_key key) entries)
