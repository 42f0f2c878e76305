-- What `flatten` makes of the bytes that it reads, and when a fault stands in them.
-- IEEE Std 1364-2001: modules, hierarchical structures; the flat module, its faults and canonical texts are own.
use Rattle.std.specs.Prelude.{◌≡◌, ℕ, List, None}
use Rattle.cell_library.specs.declared.listed.ListedCell.{ListedCell}
use Rattle.verilog_tree.specs.declared.tree.Module.{Module}
use Rattle.verilog_tree.specs.IsTree.{IsTree}
use Rattle.verilog_tree.specs.Texts.{SpellsText}
use Rattle.verilog_tree.specs.Canonical.{canonical}
use Rattle.verilog_texts.specs.TextOutcome.{SpellsTrees}
use Rattle.verilog_texts.specs.TextFaults.{IsModulesTextFault}
use Rattle.hier_model.specs.declared.fault.HierFault.{HierFault}
use Rattle.hier_model.specs.Faults.{hier_fault}
use Rattle.hier_flatten.specs.Flattened.{IsFlat, IsHierFault}
use Rattle.command_faults.specs.declared.fault.Fault.{Fault}
use Rattle.command_faults.specs.declared.fault.Fault.TheVariants as fault

-- The bytes spell one list of modules; without a fault, this is the flat module of the one of the name, which
-- some text spells.
pub record IsFlatOfText (library : List ListedCell) (top bytes : List ℕ) (made : Module) : Type 0 where
  pub modules : List Module
  pub spells : SpellsTrees bytes modules
  pub only : (others : List Module) → SpellsTrees bytes others → others ≡ modules
  pub flat : IsFlat library modules top made
  pub tree : IsTree made

-- The text is the canonical text of the flat module, which that text spells and no other.
pub record IsFlattened (library : List ListedCell) (top bytes text : List ℕ) : Type 0 where
  pub made : Module
  pub is : IsFlatOfText library top bytes made
  pub text_is : text ≡ canonical made
  pub spells : SpellsText text made
  pub only : (other : Module) → SpellsText text other → other ≡ made

-- the bytes spell one list of modules, which have this fault
pub record HaveHierFault (library : List ListedCell) (top bytes : List ℕ) (f : HierFault) : Type 0 where
  pub modules : List Module
  pub spells : SpellsTrees bytes modules
  pub only : (others : List Module) → SpellsTrees bytes others → others ≡ modules
  pub fault : IsHierFault library modules top f

-- own: the fault stands in the bytes of modules, with this library; want of memory says nothing
abbrev pub StandsInModules : List ListedCell → List ℕ → List ℕ → Fault → Type 0
StandsInModules library top bytes (fault.Netlist f) = IsModulesTextFault bytes f
StandsInModules library top bytes (fault.Hier f) = HaveHierFault library top bytes f
StandsInModules library top bytes fault.OutOfMemory = Unit {0}
StandsInModules library top bytes f = ⊥

-- the bytes spell modules that can be made flat from the one of the name
pub record CanBeFlat (library : List ListedCell) (top bytes : List ℕ) : Type 0 where
  pub modules : List Module
  pub spells : SpellsTrees bytes modules
  pub clear : hier_fault library modules top ≡ None
