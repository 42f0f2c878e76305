-- What a call of `flatten` tells, by what its parts told.
use Rattle.std.proofs.Common.{◌≡◌, ℕ, List, Option, Some, None, IsTrue, sym, ap, subst, ◌∙◌}
use Rattle.cell_library.specs.declared.listed.ListedCell.{ListedCell}
use Rattle.verilog_tree.specs.declared.tree.Module.{Module}
use Rattle.hier_model.specs.Visits.{module_named, has_levels}
use Rattle.hier_model.specs.declared.fault.HierFault.{HierFault}
use Rattle.hier_model.specs.Entries.{level_limit}
use Rattle.hier_model.specs.Flat.{flat}
use Rattle.hier_counts.specs.Early.{early_fault}
use Rattle.hier_flatten.specs.Visited.{IsListed}
use Rattle.hier_flatten.specs.Flattened.{late_fault, IsFlat, IsFlatOf, IsHierFault, IsLateFault}
use Rattle.hier_flatten.proofs.FirstFault.{early_first, late_first, never_missing, levels_suffice}
use Rattle.hier_flatten.proofs.Listed.{named_listed}

-- the first early fault, of the modules and cells as tables hold them
pub record Early (library : List ListedCell) (modules : List Module) (name : List ℕ) (cells : List ListedCell) (table : List Module) (told : Option HierFault) : Type 0 where
  pub cells_are : cells ≡ library
  pub table_is : table ≡ modules
  pub told_is : told ≡ early_fault cells table name

early_is : (library : List ListedCell) (modules : List Module) (name : List ℕ) (cells : List ListedCell) (table : List Module) (told : Option HierFault) → Early library modules name cells table told → early_fault library table name ≡ told
early_is library modules name cells table told e = sym (ap (λ (c : List ListedCell). early_fault c table name) e.cells_are) ∙ sym e.told_is

pub early_told : (library : List ListedCell) (modules : List Module) (name : List ℕ) (cells : List ListedCell) (table : List Module) (told : Option HierFault) (f : HierFault) → Early library modules name cells table told → told ≡ Some f → IsHierFault library modules name f
early_told library modules name cells table told f e is =
    subst (λ (ms : List Module). IsHierFault library ms name f) e.table_is (IsHierFault.stands (early_first library table name f (early_is library modules name cells table told e ∙ is)))

pub late_told : (library : List ListedCell) (modules : List Module) (name : List ℕ) (cells : List ListedCell) (table : List Module) (told : Option HierFault) (top : Module) (f : HierFault) → Early library modules name cells table told → told ≡ None
    → module_named table name ≡ Some top → IsLateFault table top f → IsHierFault library modules name f
late_told library modules name cells table told top f e none found (IsLateFault.stands s) =
    subst (λ (ms : List Module). IsHierFault library ms name f) e.table_is
    (IsHierFault.stands (late_first library table name top (early_is library modules name cells table told e ∙ none) found ∙ s))
late_told library modules name cells table told top f e none found IsLateFault.memory = IsHierFault.memory

pub flat_told : (library : List ListedCell) (modules : List Module) (name : List ℕ) (cells : List ListedCell) (table : List Module) (told : Option HierFault) (top made : Module) → Early library modules name cells table told → told ≡ None
    → module_named table name ≡ Some top → IsFlatOf table top made → IsFlat library modules name made
flat_told library modules name cells table told top made e none found is =
    let here : IsFlat library table name made = record {
      clear = late_first library table name top (early_is library modules name cells table told e ∙ none) found ∙ is.clear;
      top = top;
      found = found;
      flat_is = is.flat_is;
    } in
    subst (λ (ms : List Module). IsFlat library ms name made) e.table_is here

pub top_listed : (table : List Module) (name : List ℕ) (top : Module) → module_named table name ≡ Some top → IsListed table top
top_listed table name top found = named_listed table name top found

pub levels_told : (library : List ListedCell) (modules : List Module) (name : List ℕ) (cells : List ListedCell) (table : List Module) (told : Option HierFault) (top : Module) → Early library modules name cells table told → told ≡ None
    → module_named table name ≡ Some top → IsTrue (has_levels level_limit table top)
levels_told library modules name cells table told top e none found = levels_suffice library table name top (early_is library modules name cells table told e ∙ none) found

pub missing_told : (library : List ListedCell) (modules : List Module) (name : List ℕ) (cells : List ListedCell) (table : List Module) (told : Option HierFault) → Early library modules name cells table told → told ≡ None → module_named table name ≡ None → ⊥
missing_told library modules name cells table told e none absent = never_missing library table name (early_is library modules name cells table told e ∙ none) absent

-- The flat module and late faults, with the tables of nets in place of the modules.

pub flat_of_told : (tables modules : List Module) (top made : Module) (told : Option HierFault) → tables ≡ modules → told ≡ late_fault tables top → told ≡ None → made ≡ flat tables top → IsFlatOf modules top made
flat_of_told tables modules top made told same is none flat_is =
    subst (λ (ms : List Module). IsFlatOf ms top made) same (record { clear = sym is ∙ none; flat_is = flat_is })

pub late_of_told : (tables modules : List Module) (top : Module) (told : Option HierFault) (f : HierFault) → tables ≡ modules → told ≡ late_fault tables top → told ≡ Some f → IsLateFault modules top f
late_of_told tables modules top told f same is some = subst (λ (ms : List Module). IsLateFault ms top f) same (IsLateFault.stands (sym is ∙ some))
