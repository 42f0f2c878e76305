-- What `flatten` makes of a text, from its parts.
use Rattle.std.proofs.Common.{◌≡◌, ℕ, List, sym, subst}
use Rattle.cell_library.specs.declared.listed.ListedCell.{ListedCell}
use Rattle.verilog_tree.specs.declared.tree.Module.{Module}
use Rattle.verilog_tree.specs.IsTree.{IsTree}
use Rattle.verilog_tree.specs.Texts.{SpellsText}
use Rattle.verilog_tree.specs.Canonical.{canonical}
use Rattle.verilog_texts.specs.Laws.{BytesSpellOneTree}
use Rattle.verilog_texts.specs.TextOutcome.{AreReadAs}
use Rattle.hier_model.specs.declared.fault.HierFault.{HierFault}
use Rattle.hier_flatten.specs.Flattened.{IsFlat, IsHierFault}
use Rattle.hier_laws.specs.Trees.{FlatModulesKeepTheConditions}
use Rattle.text_command.specs.FlatTexts.{IsFlatOfText, IsFlattened, HaveHierFault}

pub flat_made : FlatModulesKeepTheConditions → (library : List ListedCell) (top bytes : List ℕ) (modules : List Module) (made : Module) → AreReadAs bytes modules → IsFlat library modules top made → IsFlatOfText library top bytes made
flat_made law library top bytes modules made read flat = record {
  modules = modules;
  spells = read.spells;
  only = read.only;
  flat = flat;
  tree = subst IsTree (sym flat.flat_is) (law library modules top flat.top read.are flat.clear flat.found);
}

pub fault_made : (library : List ListedCell) (top bytes : List ℕ) (modules : List Module) (f : HierFault) → AreReadAs bytes modules → IsHierFault library modules top f → HaveHierFault library top bytes f
fault_made library top bytes modules f read told = record { modules = modules; spells = read.spells; only = read.only; fault = told }

pub flattened_made : BytesSpellOneTree → (library : List ListedCell) (top bytes printed : List ℕ) (made : Module) → IsFlatOfText library top bytes made → printed ≡ canonical made → (IsTree made → SpellsText printed made)
    → IsFlattened library top bytes printed
flattened_made once library top bytes printed made is text_is spells =
    let again : SpellsText printed made = spells is.tree in record {
      made = made;
      is = is;
      text_is = text_is;
      spells = again;
      only = λ other s. once printed other made s again;
    }
