-- A fault of a text that is free of them, or of linking a netlist that can be linked, is want of memory.
use Rattle.std.proofs.Common.{◌≡◌, ℕ, List, [], ◌∷◌, sym, ◌∙◌, subst, refl}
use Rattle.list_laws.proofs.Options.{none_some}
use Rattle.cell_text.specs.Laws as libraries
use Rattle.box_model.specs.declared.boxes.BoxLibrary.{BoxLibrary}
use Rattle.box_texts.specs.Laws as boxes
use Rattle.cell_text.specs.declared.fault.LibFault.TheVariants as lib
use Rattle.verilog_lexicon.specs.declared.word.Spanned.{Spanned}
use Rattle.verilog_tree.specs.declared.tree.Module.{Module}
use Rattle.verilog_tree.specs.Texts.{SpellsModule, SpellsText}
use Rattle.verilog_texts.specs.declared.fault.TextFault.{TextFault}
use Rattle.verilog_texts.specs.declared.fault.TextFault.TheVariants as text
use Rattle.verilog_texts.specs.TextFaults.{IsTextFault}
use Rattle.cell_library.specs.declared.listed.ListedCell.{ListedCell}
use Rattle.link_model.specs.declared.fault.LinkFault.{LinkFault}
use Rattle.link_model.specs.Late.{IsLinkable}
use Rattle.netlist_link.specs.Links.{IsLinkFault, HasLinkFault}
use Rattle.netlist_link.specs.Laws.{FaultsForbidLinks}
use Rattle.command_faults.specs.declared.status.Status.TheVariants as status
use Rattle.command_faults.specs.declared.fault.Fault.{Fault}
use Rattle.command_faults.specs.declared.fault.Fault.TheVariants as fault
use Rattle.command_faults.specs.Statuses.{text_status, link_status, status_of}
use Rattle.command_edges.specs.Libraries.{IsBoxLibraryOf, IsLibraryOf, StandsInBoxLibrary, StandsInLibrary}

pub text_memory : (bytes : List ℕ) (tree : Module) (f : TextFault) → SpellsText bytes tree → IsTextFault bytes f → text_status f ≡ status.Memory
text_memory bytes tree (text.BadWord place) spells bad = absurd (bad.none spells.words spells.cut)
text_memory bytes tree (text.BadSyntax place word) spells bad =
    absurd (bad.syntax.unspelled tree (subst (λ (ws : List Spanned). SpellsModule ws tree) (bad.has.only spells.words spells.cut) spells.spells))
text_memory bytes tree text.OutOfMemory spells bad = refl

link_memory : FaultsForbidLinks → (library : List ListedCell) (m : Module) (f : LinkFault) → IsLinkable library m → IsLinkFault library m f → link_status f ≡ status.Memory
link_memory law library m f ok (IsLinkFault.stands s) = absurd (law library m f s ok)
link_memory law library m f ok IsLinkFault.memory = refl

pub has_link_memory : FaultsForbidLinks → (library : List ListedCell) (net : List ℕ) (tree : Module) (f : LinkFault) → SpellsText net tree → IsLinkable library tree → HasLinkFault library f net → link_status f ≡ status.Memory
has_link_memory law library net tree f spells ok bad = link_memory law library bad.tree f (subst (IsLinkable library) (bad.only tree spells) ok) bad.fault

-- A library's text.

pub library_memory : libraries.SpelledIsFaultless → (more : List (List ℕ)) (library : List ListedCell) (f : Fault) → IsLibraryOf more library → StandsInLibrary more f → status_of f ≡ status.Memory
library_memory law [] library f is bad = absurd bad
library_memory law (text ∷ more) library (fault.Library (lib.LibLine line)) is bad = none_some (sym (law text library is) ∙ bad)
library_memory law (text ∷ more) library (fault.Library (lib.TooMany count)) is bad = none_some (sym (law text library is) ∙ bad)
library_memory law (text ∷ more) library (fault.Library (lib.LibName name)) is bad = none_some (sym (law text library is) ∙ bad)
library_memory law (text ∷ more) library (fault.Library (lib.LibBody name)) is bad = none_some (sym (law text library is) ∙ bad)
library_memory law (text ∷ more) library (fault.Library lib.OutOfMemory) is bad = refl
library_memory law (text ∷ more) library f is bad = absurd bad

-- the texts come to one library
pub one_library : libraries.SpelledOnce → (more : List (List ℕ)) (one other : List ListedCell) → IsLibraryOf more one → IsLibraryOf more other → one ≡ other
one_library law [] one other a b = a ∙ sym b
one_library law (text ∷ more) one other a b = law text one other a b

-- A library's text, which may have boxes.

pub box_library_memory : boxes.SpelledIsFaultless → (more : List (List ℕ)) (library : BoxLibrary) (f : Fault) → IsBoxLibraryOf more library → StandsInBoxLibrary more f → status_of f ≡ status.Memory
box_library_memory law [] library f is bad = absurd bad
box_library_memory law (text ∷ more) library (fault.Library (lib.LibLine line)) is bad = none_some (sym (law text library is) ∙ bad)
box_library_memory law (text ∷ more) library (fault.Library (lib.TooMany count)) is bad = none_some (sym (law text library is) ∙ bad)
box_library_memory law (text ∷ more) library (fault.Library (lib.LibName name)) is bad = none_some (sym (law text library is) ∙ bad)
box_library_memory law (text ∷ more) library (fault.Library (lib.LibBody name)) is bad = none_some (sym (law text library is) ∙ bad)
box_library_memory law (text ∷ more) library (fault.Library lib.OutOfMemory) is bad = refl
box_library_memory law (text ∷ more) library f is bad = absurd bad

pub one_box_library : boxes.SpelledOnce → (more : List (List ℕ)) (one other : BoxLibrary) → IsBoxLibraryOf more one → IsBoxLibraryOf more other → one ≡ other
one_box_library law [] one other a b = a ∙ sym b
one_box_library law (text ∷ more) one other a b = law text one other a b
