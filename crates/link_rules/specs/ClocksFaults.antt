-- The fault that is told here: the first derived clock, clear or preset.
use Rattle.std.specs.Prelude.{ℕ, List}
use Rattle.cell_library.specs.declared.listed.ListedCell.{ListedCell}
use Rattle.verilog_tree.specs.declared.tree.Module.{Module}
use Rattle.link_model.specs.declared.fault.BitName.{BitName}
use Rattle.link_model.specs.declared.fault.LinkFault.{LinkFault}
use Rattle.link_model.specs.declared.fault.LinkFault.TheVariants as fault
use Rattle.link_model.specs.Late.{IsFirstDerived}

-- own: the fault names the first derived clock, clear or preset
pub data IsDerivedFault (library : List ListedCell) (m : Module) : LinkFault → Type 0 where
  derived : {flop : List ℕ} {bit : BitName} → IsFirstDerived library m flop bit → IsDerivedFault library m (fault.DerivedClock flop bit)
