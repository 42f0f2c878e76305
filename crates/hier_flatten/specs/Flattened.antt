-- What flattening the modules of a text comes to.
-- IEEE Std 1364-2001: hierarchical structures; the flat module and its faults are own.
use Rattle.std.specs.Prelude.{◌≡◌, ℕ, List, Option, Some, None}
use Rattle.list_laws.specs.Options.{or_else}
use Rattle.cell_library.specs.declared.listed.ListedCell.{ListedCell}
use Rattle.verilog_tree.specs.declared.tree.Module.{Module}
use Rattle.verilog_lexicon.specs.Words.{WordText}
use Rattle.verilog_modules.specs.declared.fault.SyntaxFault.{SyntaxFault}
use Rattle.verilog_modules.specs.declared.fault.SyntaxFault.TheVariants as syntax
use Rattle.verilog_modules.specs.Texts.{IsBadText}
use Rattle.hier_model.specs.Visits.{module_named}
use Rattle.hier_model.specs.declared.fault.HierFault.{HierFault}
use Rattle.hier_model.specs.declared.fault.HierFault.TheVariants.{OutOfMemory}
use Rattle.hier_model.specs.Faults.{bad_link_in, bad_name_in, hier_fault}
use Rattle.hier_model.specs.Flat.{flat}

-- own: the first fault of links and of flat names
abbrev pub late_fault : List Module → Module → Option HierFault
late_fault modules top = or_else (bad_link_in modules top) (bad_name_in modules top)

-- own: no such fault stands, and this is the flat module
pub record IsFlatOf (modules : List Module) (top made : Module) : Type 0 where
  pub clear : late_fault modules top ≡ None
  pub flat_is : made ≡ flat modules top

-- own: the fault stands, and none that comes before it; or memory was short
pub data IsLateFault (modules : List Module) (top : Module) : HierFault → Type 0 where
  stands : {f : HierFault} → late_fault modules top ≡ Some f → IsLateFault modules top f
  memory : IsLateFault modules top OutOfMemory

-- No fault stands, and this is the flat module of the module of the name.
pub record IsFlat (library : List ListedCell) (modules : List Module) (name : List ℕ) (made : Module) : Type 0 where
  pub clear : hier_fault library modules name ≡ None
  pub top : Module
  pub found : module_named modules name ≡ Some top
  pub flat_is : made ≡ flat modules top

-- The fault stands, and none that comes before it; or memory was short.
pub data IsHierFault (library : List ListedCell) (modules : List Module) (name : List ℕ) : HierFault → Type 0 where
  stands : {f : HierFault} → hier_fault library modules name ≡ Some f → IsHierFault library modules name f
  memory : IsHierFault library modules name OutOfMemory

-- the words spell no modules, and this is the place and the word of the fault; or memory was short
abbrev pub RefusesWords : WordText → SyntaxFault → Type 0
RefusesWords words (syntax.BadSyntax place word) = IsBadText words place word
RefusesWords words syntax.OutOfMemory = Unit {0}
