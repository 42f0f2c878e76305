-- own: what the code keeps of the bits that pin lines name: of a driver only that it is a three-state gate,
-- with its operands.
use Rattle.std.specs.Prelude.{◌≡◌, ℕ, List, [], ◌∷◌, map, Option, None, if◌then◌else◌, ⊤}
use Rattle.std.specs.Option.{option_map}
use Rattle.cell_library.specs.declared.Kind.TheVariants.{Bufif0, Bufif1}
use Rattle.netlist_model.specs.declared.PinBit.{PinBit}
use Rattle.netlist_model.specs.Lists.{CellView}
use Rattle.netlist_link.specs.Linked.{LinkedView}
use Rattle.plan_texts.specs.declared.plan.PinLine.{PinLine}
use Rattle.plan_fitting.specs.declared.fault.FitFault.{FitFault}
use Rattle.plan_fitting.specs.declared.fault.FitFault.TheVariants as fault
use Rattle.plan_fitting.specs.Pins.{PinSeen, NamesBit, IsSeen, AreSeen}
use Rattle.plan_fitting.specs.Fits.{IsUnnamed}
use Rattle.plan_fitting.specs.Rows.{Driver, three_state}

-- a three-state gate that is this driver
abbrev pub cell_of : Driver → CellView
cell_of d = record {
  kind = if d.active_high then Bufif1 else Bufif0;
  name = None;
  feeds = d.core ∷ d.operand ∷ [];
  output = None;
}

-- what is kept of a driver
abbrev pub plain_cell : Option CellView → Option CellView
plain_cell place = option_map cell_of (three_state place)

-- what is kept of a bit
abbrev pub plain : PinSeen → PinSeen
plain seen = record seen { driver = plain_cell seen.driver }

-- this is kept of the bit
abbrev pub IsPinOf : LinkedView → PinBit → PinSeen → Type 0
IsPinOf L pin kept = (word : List ℕ) → NamesBit L word pin → (seen : PinSeen) × IsSeen L word seen × (kept ≡ plain seen)

-- this is kept of the bit that the line names
abbrev pub IsPinOfLine : LinkedView → PinLine → PinSeen → Type 0
IsPinOfLine L line kept = (seen : PinSeen) × IsSeen L line.port seen × (kept ≡ plain seen)

-- these are kept of the bits that the lines name
abbrev pub ArePinsOf : LinkedView → List PinLine → List PinSeen → Type 0
ArePinsOf L lines kept = (seen : List PinSeen) × AreSeen L lines seen × (kept ≡ map plain seen)

-- the line names no bit, or memory was refused
pub record IsUnnamedLine (L : LinkedView) (line : PinLine) (word : List ℕ) : Type 0 where
  pub is : word ≡ line.port
  pub unnamed : (pin : PinBit) → NamesBit L line.port pin → ⊥

abbrev pub IsLineFault : LinkedView → PinLine → FitFault → Type 0
IsLineFault L line (fault.PlanPort word) = IsUnnamedLine L line word
IsLineFault L line fault.OutOfMemory = ⊤
IsLineFault L line _ = ⊥

-- the first line that names no bit, or memory was refused
abbrev pub IsPortFault : LinkedView → List PinLine → FitFault → Type 0
IsPortFault L lines (fault.PlanPort word) = IsUnnamed L lines word
IsPortFault L lines fault.OutOfMemory = ⊤
IsPortFault L lines _ = ⊥
