-- Where a netlist is linked with its boxes open, no fault stands in its bytes.
use Rattle.std.proofs.Common.{◌≡◌, ◌∙◌, ℕ, ◌+◌, List, length, Option, Some, None, ap, arith, sym, subst, refl}
use Rattle.std.specs.Prelude.{replicate}
use Rattle.std.proofs.lemmas.List.{length-append, length-replicate}
use Rattle.list_laws.proofs.Options.{none_some}
use Rattle.verilog_tree.specs.declared.tree.Module.{Module}
use Rattle.verilog_tree.specs.IsTree.{IsTree}
use Rattle.verilog_tree.specs.Texts.{SpellsText}
use Rattle.verilog_texts.specs.declared.fault.TextFault.{TextFault}
use Rattle.verilog_texts.specs.TextFaults.{IsTextFault}
use Rattle.verilog_texts.specs.TextOutcome.{IsReadAs}
use Rattle.cell_library.specs.declared.listed.ListedCell.{ListedCell}
use Rattle.link_model.specs.declared.fault.BitName.{BitName}
use Rattle.link_model.specs.declared.fault.LinkFault.{LinkFault}
use Rattle.link_model.specs.Late.{IsLinkable}
use Rattle.netlist_link.specs.Linked.{LinkedView}
use Rattle.netlist_link.specs.Laws.{FaultsForbidLinks}
use Rattle.box_model.specs.declared.boxes.BoxLibrary.{BoxLibrary}
use Rattle.box_model.specs.declared.fault.BoxFault.{BoxFault}
use Rattle.box_model.specs.declared.fault.BoxFault.TheVariants.{BoxTristate}
use Rattle.box_model.specs.Opened.{opened}
use Rattle.box_model.specs.Sound.{IsSoundLibrary}
use Rattle.box_links.specs.declared.fault.BoxLinkFault.{BoxLinkFault}
use Rattle.box_links.specs.declared.fault.BoxLinkFault.TheVariants as made
use Rattle.box_links.specs.BoxFaults.{StandsInBoxes, IsBoxLinkFault, tristate_bit}
use Rattle.box_links.specs.BoxLinks.{IsBoxLinkOf}
use Rattle.box_links.specs.Laws.{FaultsForbidBoxLinks}
use Rattle.scan_vectors.specs.declared.lines.Lines.{Lines}
use Rattle.scan_vectors.specs.Grammar.{SpellsLines}
use Rattle.scan_vectors.specs.Scripts.{HaveNumbers}
use Rattle.scan_vectors.proofs.Verdicts.{spelled_lengths}
use Rattle.default_starts.specs.Starts.{IsWithStarts}
use Rattle.command_faults.specs.declared.status.Status.TheVariants as status
use Rattle.command_faults.specs.declared.fault.Fault.{Fault}
use Rattle.command_faults.specs.declared.fault.Fault.TheVariants as fault
use Rattle.command_faults.specs.Statuses.{status_of}
use Rattle.command_edges.proofs.Memory.{text_memory}
use Rattle.play_command.specs.BoxNetlists.{at_end, fault_of, SpellsBoxLinked, SpellsBoxLinkable, IsBoxLinkable, IsFaultBehind, HasBoxLinkFault, StandsInBoxNetlist}

-- no three-state gate drives a hidden output of what is linked
plain_bits : FaultsForbidBoxLinks → (library : BoxLibrary) (k : ℕ) (m : Module) (linked : LinkedView) → IsSoundLibrary library → IsTree m → IsBoxLinkOf library k m linked → tristate_bit library k m ≡ None
plain_bits law library k m linked sound tree is = by (tristate_bit library k m) refl
  where
    by : (found : Option BitName) → tristate_bit library k m ≡ found → found ≡ None
    by None e = refl
    by (Some bit) e = absurd (law library k m (made.Box (BoxTristate bit)) linked sound tree
        (StandsInBoxes.tristate is.opens (subst (λ (l : List ListedCell). IsLinkable l (opened library k m)) is.library is.links.linkable) e) is)

pub spells_linkable : FaultsForbidBoxLinks → (place : Module → ℕ) (library : BoxLibrary) (net : List ℕ) (linked : LinkedView) → IsSoundLibrary library → (netlist : SpellsBoxLinked place library net linked)
    → SpellsBoxLinkable place library net
spells_linkable law place library net linked sound netlist = record {
  tree = netlist.tree;
  spells = netlist.spells;
  linkable = record {
    opens = netlist.is.opens;
    links = subst (λ (l : List ListedCell). IsLinkable l (opened library (place netlist.tree) netlist.tree)) netlist.is.library netlist.is.links.linkable;
    plain = plain_bits law library (place netlist.tree) netlist.tree linked sound netlist.are netlist.is;
  };
}

-- A fault of a netlist that is free of them is want of memory.

pub none_stands : FaultsForbidLinks → (library : BoxLibrary) (k : ℕ) (m : Module) (f : BoxLinkFault) → IsBoxLinkable library k m → StandsInBoxes library k m f → ⊥
none_stands law library k m f ok (StandsInBoxes.boxes e) = none_some (sym ok.opens.clear ∙ e)
none_stands law library k m f ok (StandsInBoxes.excess clear e) = none_some (sym ok.opens.small ∙ e)
none_stands law library k m told ok (StandsInBoxes.links {f} opens first) = law library.cells (opened library k m) f first ok.links
none_stands law library k m f ok (StandsInBoxes.tristate opens linkable e) = none_some (sym ok.plain ∙ e)

box_link_memory : FaultsForbidLinks → (library : BoxLibrary) (k : ℕ) (m : Module) (f : BoxLinkFault) → IsBoxLinkable library k m → IsBoxLinkFault library k m f → f ≡ made.OutOfMemory
box_link_memory law library k m f ok IsBoxLinkFault.memory = refl
box_link_memory law library k m f ok (IsBoxLinkFault.stands s) = absurd (none_stands law library k m f ok s)

of_tree : FaultsForbidLinks → (place : Module → ℕ) (library : BoxLibrary) (net : List ℕ) (tree : Module) (f : BoxLinkFault) → SpellsText net tree → IsBoxLinkable library (place tree) tree → HasBoxLinkFault place library f net → f ≡ made.OutOfMemory
of_tree law place library net tree f spells ok bad =
    box_link_memory law library (place bad.tree) bad.tree f (subst (λ (m : Module). IsBoxLinkable library (place m) m) (bad.only tree spells) ok) bad.fault

no_box : (f : BoxFault) → made.Box f ≡ made.OutOfMemory → ⊥
no_box f e = cc

no_link : (f : LinkFault) → made.Link f ≡ made.OutOfMemory → ⊥
no_link f e = cc

pub netlist_memory : FaultsForbidLinks → (place : Module → ℕ) (library : BoxLibrary) (net : List ℕ) (tree : Module) (f : Fault) → SpellsText net tree → IsBoxLinkable library (place tree) tree → StandsInBoxNetlist place library net f
    → status_of f ≡ status.Memory
netlist_memory law place library net tree (fault.Netlist f) spells ok bad = text_memory net tree f spells bad
netlist_memory law place library net tree (fault.Boxes f) spells ok bad = absurd (no_box f (of_tree law place library net tree (made.Box f) spells ok bad))
netlist_memory law place library net tree (fault.Link f) spells ok bad = absurd (no_link f (of_tree law place library net tree (made.Link f) spells ok bad))
netlist_memory law place library net tree fault.OutOfMemory spells ok bad = refl
netlist_memory law place library net tree f spells ok bad = absurd bad

-- From a tree to its bytes, with the hidden ports behind all others.

pub linked_made : (library : BoxLibrary) (net : List ℕ) (tree : Module) (linked : LinkedView) → IsReadAs net tree → IsBoxLinkOf library (length tree.ports) tree linked → SpellsBoxLinked at_end library net linked
linked_made library net tree linked read is = record { tree = tree; spells = read.spells; only = read.only; are = read.is; is = is }

has_fault : (library : BoxLibrary) (net : List ℕ) (tree : Module) (e : BoxLinkFault) → IsReadAs net tree → IsBoxLinkFault library (length tree.ports) tree e → HasBoxLinkFault at_end library e net
has_fault library net tree e read bad = record { tree = tree; spells = read.spells; only = read.only; fault = bad }

of_fault : (library : BoxLibrary) (net : List ℕ) (tree : Module) (e : BoxLinkFault) → IsReadAs net tree → IsBoxLinkFault library (length tree.ports) tree e → StandsInBoxNetlist at_end library net (fault_of e)
of_fault library net tree (made.Box f) read bad = has_fault library net tree (made.Box f) read bad
of_fault library net tree (made.Link f) read bad = has_fault library net tree (made.Link f) read bad
of_fault library net tree made.OutOfMemory read bad = tt

pub fault_made : (library : BoxLibrary) (net : List ℕ) (tree : Module) (f : Fault) → IsReadAs net tree → IsFaultBehind library (length tree.ports) tree f → StandsInBoxNetlist at_end library net f
fault_made library net tree f read (e, (bad, same)) = subst (StandsInBoxNetlist at_end library net) (sym same) (of_fault library net tree e read bad)

pub text_fault_made : (library : BoxLibrary) (net : List ℕ) (f : TextFault) → IsTextFault net f → StandsInBoxNetlist at_end library net (fault.Netlist f)
text_fault_made library net f bad = bad

-- The starts of hidden bits have numbers too.

pub started_numbers : (events : List ℕ) (linked : LinkedView) (lines started : Lines) → SpellsLines events lines → IsWithStarts linked lines started → HaveNumbers started
started_numbers events linked lines started spells is =
    let own : length lines.numbers ≡ length lines.list = spelled_lengths lines (record { bytes = events; spells = spells }) in
    let put : List ℕ = replicate (length is.starts) 0 in
    let zeros : length put ≡ length is.starts = length-replicate (length is.starts) 0 in
    let numbers : length started.numbers ≡ length put + length lines.numbers = ap length is.numbers_are ∙ length-append put lines.numbers in
    let list : length started.list ≡ length is.starts + length lines.list = ap length is.list_is ∙ length-append is.starts lines.list in
    omega (arith, own, zeros, numbers, list)
