-- What linking gives of the netlist of a flat module.
use Rattle.std.proofs.Common.{◌≡◌, ◌↔◌, List, None, sym, subst}
use Rattle.list_laws.proofs.Options.{or_else-parts}
use Rattle.cell_library.specs.declared.listed.ListedCell.{ListedCell}
use Rattle.cell_library.specs.Sound.{IsLibrary}
use Rattle.verilog_tree.specs.declared.tree.Module.{Module}
use Rattle.verilog_tree.specs.IsTree.{IsTree}
use Rattle.netlist_model.specs.Settled.{IsSettled}
use Rattle.netlist_model.specs.Formed.{IsWellFormed}
use Rattle.link_model.specs.Faults.{name_unknown, bit_outside, first_bit, too_many_in, name_twice, bit_faults, text_fault, early_fault}
use Rattle.netlist_link.specs.Linked.{LinkedView}
use Rattle.netlist_link.specs.Links.{IsLinkOf}
use Rattle.netlist_link.specs.ViewLaws.{LinkViewIsFormed}
use Rattle.netlist_link.proofs.Formed.{direction_is}
use Rattle.hier_model.specs.Flat.{flat}
use Rattle.hier_laws.specs.Solves.{Solves}
use Rattle.hier_laws.specs.SolutionsLaws as laws
use Rattle.hier_laws.specs.Readings.{ReadingExists}
use Rattle.hier_laws.specs.Trees.{FlatModulesKeepTheConditions}
use Rattle.hier_laws.proofs.FlatNames.{declared_once}
use Rattle.hier_laws.proofs.FlatTrees.{Clear, clear_of}
use Rattle.hier_laws.specs.LinksLaws.{SettledWhereLinked}

-- linking finds no unknown name, and no index outside
record BitsClear (m : Module) : Type 0 where
  known : first_bit name_unknown m ≡ None
  inside : first_bit bit_outside m ≡ None

bits_clear : (library : List ListedCell) (m : Module) → early_fault library m ≡ None → BitsClear m
bits_clear library m h =
    let a = or_else-parts (text_fault library m) _ h in
    let b = or_else-parts (too_many_in m) _ a.0 in
    let c = or_else-parts (name_twice m) _ b.1 in
    let d = or_else-parts (bit_faults m) _ c.1 in
    let e = or_else-parts (first_bit name_unknown m) (first_bit bit_outside m) d.0 in
    record { known = e.0; inside = e.1 }

flat_netlist : laws.EntriesOwnBits → (modules : List Module) (top : Module) (linked : LinkedView) → Clear modules top → IsWellFormed linked.arena.lists → IsLinkOf (flat modules top) linked
    → laws.IsFlatNetlist modules top linked.names linked.arena.lists
flat_netlist own_bits modules top linked clear formed links =
    let once = declared_once modules top clear.names in
    let bits = bits_clear linked.arena.lists.library (flat modules top) links.linkable.early in
    record {
      named = links.denoted;
      formed = formed;
      directed = λ net. direction_is linked.names linked.arena.lists (flat modules top) net links.denoted;
      once = once;
      own = own_bits modules top once bits.known bits.inside clear.links clear.names;
    }

pub settled_where_linked : laws.EntriesOwnBits → FlatModulesKeepTheConditions → laws.SettledWhereSolved → ReadingExists → LinkViewIsFormed → SettledWhereLinked
settled_where_linked own_bits keeps solved reading formed library modules name top linked f =
    let clear = clear_of library modules name top f.clear f.found in
    let tree : IsTree (flat modules top) = keeps library modules name top f.trees f.clear f.found in
    let well = formed (flat modules top) linked tree (subst IsLibrary (sym f.library_is) f.listed) f.links in
    let netlist = flat_netlist own_bits modules top linked clear well f.links in (
      (λ pins state flat_value value reads past.
          subst (λ (l : List ListedCell). IsSettled linked.arena.lists pins state flat_value ↔ Solves l modules top pins state value) f.library_is
          (solved modules top linked.names linked.arena.lists pins state flat_value value netlist reads past)),
      (λ flat_value. reading modules top flat_value clear.names),
    )
