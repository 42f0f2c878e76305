-- Which fault stands first, by the step that tells it; and that one does.
use Rattle.std.proofs.Common.{◌≡◌, ◌≢◌, ℕ, List, length, map, refl, sym, ◌∙◌, subst, Some, None}
use Rattle.cell_library.specs.declared.listed.ListedCell.{ListedCell}
use Rattle.verilog_tree.specs.declared.tree.Module.{Module}
use Rattle.link_model.specs.declared.fault.LinkFault.{LinkFault}
use Rattle.link_model.specs.declared.fault.LinkFault.TheVariants as link
use Rattle.link_model.specs.Late.{StandsFirst, IsLinkable}
use Rattle.netlist_link.specs.Laws.{FaultsForbidLinks, IsSameFault, OneFaultIsFirst}
use Rattle.netlist_link.specs.Laws.IsSameFault.{same as same_fault, loops}
use Rattle.netlist_link.specs.Linked.{LinkedView}
use Rattle.netlist_link.specs.Links.{IsLinkFault, IsLinkOf}
use Rattle.netlist_link.specs.Links.IsLinkFault.{stands as link_stands, memory as link_memory}
use Rattle.box_model.specs.declared.boxes.BoxLibrary.{BoxLibrary}
use Rattle.box_model.specs.Opened.{hidden_ports, opened, origins}
use Rattle.box_trees.specs.declared.opening.Opened.{Opened}
use Rattle.box_links.specs.declared.fault.BoxLinkFault.{BoxLinkFault}
use Rattle.box_links.specs.declared.fault.BoxLinkFault.TheVariants.{Link}
use Rattle.box_links.specs.BoxFaults.{CanBeOpened, IsBoxLinkFault, origin_of, own_fault}
use Rattle.box_links.specs.BoxFaults.StandsInBoxes.{boxes, excess, links, tristate}
use Rattle.box_links.specs.BoxFaults.IsBoxLinkFault.{stands, memory}
use Rattle.box_links.specs.BoxLinks.{HidesPorts}
use Rattle.box_links.specs.Laws.{IsSameBoxFault, OneBoxFaultIsFirst}
use Rattle.box_links.specs.Laws.IsSameBoxFault.{same, linking}
use Rattle.box_links.specs.Steps.{IsFaultOf, IsLinkedAs, IsOpenedAs, IsToldAs, IsToldOf}
use Rattle.box_links.specs.Steps.IsFaultOf.{linking as of_link, short as of_memory}
use Rattle.box_links.specs.Steps.IsToldAs.{told, short as told_short}
use Rattle.box_links.specs.Steps.IsToldOf.{driven, short as driven_short}
use Rattle.box_links.proofs.HiddenPorts.{first_hidden_is}

-- Faults in own numbers.

-- any other fault than a loop is told as it is
pub own_kept : (origins : List ℕ) (f : LinkFault) → ((numbers : List ℕ) → f ≢ link.Loop numbers) → own_fault origins f ≡ f
own_kept origins (link.Loop numbers) other = absurd (other numbers refl)
own_kept origins f other = refl

-- a loop is told in own numbers
pub loop_told : (origins : List ℕ) (f : LinkFault) (numbers found : List ℕ) → f ≡ link.Loop numbers → found ≡ map (origin_of origins) numbers → IsToldAs origins f (Link (link.Loop found))
loop_told origins f numbers found is found_is =
    let loop : IsToldAs origins (link.Loop numbers) (Link (link.Loop (map (origin_of origins) numbers))) = told (λ e. cc) in
    subst (λ (g : LinkFault). IsToldAs origins g (Link (link.Loop found))) (sym is) (subst (λ (l : List ℕ). IsToldAs origins (link.Loop numbers) (Link (link.Loop l))) (sym found_is) loop)

pub other_told : (origins : List ℕ) (f : LinkFault) → f ≢ link.OutOfMemory → ((numbers : List ℕ) → f ≢ link.Loop numbers) → IsToldAs origins f (Link f)
other_told origins f memory_not loop_not = subst (λ (g : LinkFault). IsToldAs origins f (Link g)) (own_kept origins f loop_not) (told memory_not)

-- Of what was opened.

pub linking_fault : (B : BoxLibrary) (k : ℕ) (m : Module) (o : Opened) (e : BoxLinkFault) → CanBeOpened B m → IsOpenedAs B k m o → IsFaultOf B o e → IsBoxLinkFault B k m e
linking_fault B k m o e can is of_memory = memory
linking_fault B k m o e can is (of_link {f = f} fault also) = by f e fault also
  where
    by : (g : LinkFault) (d : BoxLinkFault) → IsLinkFault B.cells o.tree g → IsToldAs o.origins.items g d → IsBoxLinkFault B k m d
    by g d fault told_short = memory
    by g d link_memory (told other) = absurd (other refl)
    by g d (link_stands first) (told other) =
        let here : StandsFirst B.cells (opened B k m) g = subst (λ (t : Module). StandsFirst B.cells t g) is.tree first in
        subst (λ (l : List ℕ). IsBoxLinkFault B k m (Link (own_fault l g))) (sym is.origins) (stands (links can here))

-- what is linked to what was opened is linked to the opened module
pub linked_tree : (B : BoxLibrary) (k : ℕ) (m : Module) (o : Opened) (linked : LinkedView) → IsOpenedAs B k m o → IsLinkedAs B o linked → IsLinkOf (opened B k m) linked
linked_tree B k m o linked is link = subst (λ (t : Module). IsLinkOf t linked) is.tree link.links

pub linked_hides : (B : BoxLibrary) (k : ℕ) (m : Module) (o : Opened) (linked : LinkedView) → IsOpenedAs B k m o → IsLinkedAs B o linked → HidesPorts k (length (hidden_ports B m)) linked
linked_hides B k m o linked is link =
    subst (λ (n : ℕ). HidesPorts n (length (hidden_ports B m)) linked) is.first (subst (λ (n : ℕ). HidesPorts o.first n linked) is.hidden link.hides)

pub linkable_is : (B : BoxLibrary) (k : ℕ) (m : Module) (linked : LinkedView) → IsLinkOf (opened B k m) linked → linked.arena.lists.library ≡ B.cells → IsLinkable B.cells (opened B k m)
linkable_is B k m linked link library = subst (λ (l : List ListedCell). IsLinkable l (opened B k m)) library link.linkable

pub driven_fault : (B : BoxLibrary) (k : ℕ) (m : Module) (o : Opened) (linked : LinkedView) (e : BoxLinkFault) → CanBeOpened B m → IsOpenedAs B k m o → IsLinkedAs B o linked → IsToldOf linked e → IsBoxLinkFault B k m e
driven_fault B k m o linked e can is link driven_short = memory
driven_fault B k m o linked e can is link (driven {bit = bit} first) =
    let tree = linked_tree B k m o linked is link in
    let hides = linked_hides B k m o linked is link in
    stands (tristate can (linkable_is B k m linked tree link.library) (sym (first_hidden_is B k m linked tree link.library hides) ∙ first))

-- One fault stands first.

same_own : (numbers : List ℕ) (f g : LinkFault) → IsSameFault f g → IsSameBoxFault (Link (own_fault numbers f)) (Link (own_fault numbers g))
same_own numbers f g same_fault = same
same_own numbers f g loops = linking loops

same_if_equal : (f g : BoxLinkFault) → f ≡ g → IsSameBoxFault f g
same_if_equal f g e = subst (IsSameBoxFault f) e same

pub one_box_fault_is_first : OneFaultIsFirst → FaultsForbidLinks → OneBoxFaultIsFirst
one_box_fault_is_first one forbid B k m f g (boxes h) (boxes i) = same_if_equal f g (cc (sym h ∙ i))
one_box_fault_is_first one forbid B k m f g (boxes {f = a} h) (excess none i) = absurd (let no : None ≡ Some a = sym none ∙ h in cc)
one_box_fault_is_first one forbid B k m f g (boxes {f = a} h) (links can i) = absurd (let no : None ≡ Some a = sym can.clear ∙ h in cc)
one_box_fault_is_first one forbid B k m f g (boxes {f = a} h) (tristate can linkable i) = absurd (let no : None ≡ Some a = sym can.clear ∙ h in cc)
one_box_fault_is_first one forbid B k m f g (excess none h) (boxes {f = b} i) = absurd (let no : None ≡ Some b = sym none ∙ i in cc)
one_box_fault_is_first one forbid B k m f g (excess none h) (excess also i) = same_if_equal f g (cc (sym h ∙ i))
one_box_fault_is_first one forbid B k m f g (excess {f = a} none h) (links can i) = absurd (let no : None ≡ Some a = sym can.small ∙ h in cc)
one_box_fault_is_first one forbid B k m f g (excess {f = a} none h) (tristate can linkable i) = absurd (let no : None ≡ Some a = sym can.small ∙ h in cc)
one_box_fault_is_first one forbid B k m f g (links can h) (boxes {f = b} i) = absurd (let no : None ≡ Some b = sym can.clear ∙ i in cc)
one_box_fault_is_first one forbid B k m f g (links can h) (excess {f = b} none i) = absurd (let no : None ≡ Some b = sym can.small ∙ i in cc)
one_box_fault_is_first one forbid B k m f g (links {f = a} can h) (links {f = b} also i) = same_own (origins B m) a b (one B.cells (opened B k m) a b h i)
one_box_fault_is_first one forbid B k m f g (links {f = a} can h) (tristate also linkable i) = absurd (forbid B.cells (opened B k m) a h linkable)
one_box_fault_is_first one forbid B k m f g (tristate can linkable h) (boxes {f = b} i) = absurd (let no : None ≡ Some b = sym can.clear ∙ i in cc)
one_box_fault_is_first one forbid B k m f g (tristate can linkable h) (excess {f = b} none i) = absurd (let no : None ≡ Some b = sym can.small ∙ i in cc)
one_box_fault_is_first one forbid B k m f g (tristate can linkable h) (links {f = b} also i) = absurd (forbid B.cells (opened B k m) b i linkable)
one_box_fault_is_first one forbid B k m f g (tristate can linkable h) (tristate also likewise i) = same_if_equal f g (cc (sym h ∙ i))
