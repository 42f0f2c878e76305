-- No fault of the text stands in the tree of a linked netlist, but what is too many.
use Rattle.std.proofs.Common.{◌≡◌, ℕ, suc, ◌+◌, ◌<◌, ◌≤◌, false, List, [], ◌∷◌, ◌++◌, length, map, refl, ap, ◌∙◌, subst, Option, Some, None, arith}
use Rattle.std.specs.Prelude.{slice_get, unwrap_or, option_and_then, nat_lt, is_none, IsSome, if◌then◌else◌}
use Rattle.std.specs.Option.{option_map}
use Rattle.std.specs.List.{AllByRecursion, flat_map}
use Rattle.std.proofs.lemmas.Bool.Decides.{nat_tests}
use Rattle.std.proofs.lemmas.List.{length-map}
use Rattle.list_laws.proofs.Lists.{all_append}
use Rattle.list_laws.proofs.Options.{none_along}
use Rattle.verilog_tree.specs.declared.tree.Bit.{Bit}
use Rattle.verilog_tree.specs.declared.tree.GateKind.{GateKind}
use Rattle.verilog_tree.specs.declared.tree.Instance.{Instance}
use Rattle.verilog_tree.specs.declared.tree.Item.{Item}
use Rattle.verilog_tree.specs.declared.tree.Link.{Link}
use Rattle.cell_library.specs.declared.listed.ListedCell.{ListedCell}
use Rattle.cell_library.specs.declared.Kind.{Kind}
use Rattle.cell_library.specs.Library.{cell_name, operand_ports, output_port, port_named}
use Rattle.netlist_model.specs.declared.Feed.{Feed}
use Rattle.netlist_model.specs.declared.Feed.TheVariants.{Net, Const}
use Rattle.netlist_model.specs.declared.NetId.{NetId}
use Rattle.netlist_model.specs.declared.What.TheVariants as what
use Rattle.netlist_model.specs.Lists.{CellView, NetlistView, cell_at, live_cell}
use Rattle.link_model.specs.declared.fault.LinkFault.{LinkFault}
use Rattle.link_model.specs.declared.fault.LinkFault.TheVariants as fault
use Rattle.link_model.specs.Lists.{first_in, or_else}
use Rattle.link_model.specs.Nets.{Declared}
use Rattle.link_model.specs.Faults.{at_bit, at_instance, cell_unknown, gate_operands, is_output_place, item_bits, item_width, link_bits, link_width, operand_bits, port_missing, port_twice, port_unknown, too_many, wrong_width}
use Rattle.netlist_unlink.specs.Trees.{Naming, bit_of, cell_text, first_operand, gate_of, item_of, items_from, operand_links, operand_of, output_bit, output_links, written}
use Rattle.netlist_unlink.proofs.Facts.{FitsLibrary, fits_library, gate_few, gate_unnamed, library_count, library_ports}
use Rattle.cell_library.proofs.NameLaws.{named_is_found}
use Rattle.netlist_unlink.proofs.Nets.{AreNamed}
use Rattle.netlist_unlink.proofs.NewCells.{AreBelow, IsBelow, feeds_below, output_below}
use Rattle.netlist_unlink.proofs.PortLinks.{AreInputs, are_inputs, links_fit, links_of}

-- No fault along a list.

-- the items of live cells
pub none_of_items : (test : Item → Option LinkFault) (naming : Naming) (number : ℕ) (cells : List (Option CellView))
    → ((k : ℕ) (cell : CellView) → live_cell (slice_get cells k) ≡ Some cell → test (item_of naming (number + k) cell) ≡ None) → first_in test (items_from naming number cells) ≡ None
none_of_items test naming number [] each = refl
none_of_items test naming number (None ∷ cells) each =
    none_of_items test naming (number + 1) cells (λ k cell at.
    let P : ℕ → Type 0 = λ n. test (item_of naming n cell) ≡ None in
    let same : number + suc k ≡ (number + 1) + k = omega arith in
    subst P same (each (suc k) cell at))
none_of_items test naming number (Some first ∷ cells) each =
    let zeroth : number + 0 ≡ number = omega arith in
    let F : ℕ → Type 0 = λ n. test (item_of naming n first) ≡ None in
    let here = subst F zeroth (each 0 first refl) in
    rw here (none_of_items test naming (number + 1) cells (λ k cell at.
    let P : ℕ → Type 0 = λ n. test (item_of naming n cell) ≡ None in
    let same : number + suc k ≡ (number + 1) + k = omega arith in
    subst P same (each (suc k) cell at)))

-- Bits of items.

abbrev OfNets : NetlistView → Naming → (Bit → Type 0) → Type 0
OfNets N naming P = (net : NetId) → net.0 < length N.nets → P (bit_of naming net)

feed_bits : (N : NetlistView) (naming : Naming) (P : Bit → Type 0) (feed : Feed) → OfNets N naming P → IsBelow N feed → AllByRecursion P (operand_bits (operand_of naming feed))
feed_bits N naming P (Net net) all below = (all net below, tt)
feed_bits N naming P (Const value) all below = tt

feeds_bits : (N : NetlistView) (naming : Naming) (P : Bit → Type 0) (feeds : List Feed) → OfNets N naming P → AreBelow N feeds → AllByRecursion P (flat_map operand_bits (map (operand_of naming) feeds))
feeds_bits N naming P [] all below = tt
feeds_bits N naming P (feed ∷ feeds) all below =
    all_append P (operand_bits (operand_of naming feed)) (flat_map operand_bits (map (operand_of naming) feeds)) (feed_bits N naming P feed all (below 0 feed refl))
    (feeds_bits N naming P feeds all (λ place f at. below (suc place) f at))

links_bits : (N : NetlistView) (naming : Naming) (P : Bit → Type 0) (ports : List (List ℕ)) (feeds : List Feed) (rest : List Link) → OfNets N naming P → AreBelow N feeds → AllByRecursion P (flat_map link_bits rest)
    → AllByRecursion P (flat_map link_bits (operand_links naming ports feeds ++ rest))
links_bits N naming P [] feeds rest all below more = more
links_bits N naming P (port ∷ ports) [] rest all below more = more
links_bits N naming P (port ∷ ports) (feed ∷ feeds) rest all below more =
    all_append P (operand_bits (operand_of naming feed)) (flat_map link_bits (operand_links naming ports feeds ++ rest)) (feed_bits N naming P feed all (below 0 feed refl))
    (links_bits N naming P ports feeds rest all (λ place f at. below (suc place) f at) more)

-- the net that a cell drives is one of the netlist's
abbrev DrivesBelow : NetlistView → Option NetId → Type 0
DrivesBelow N output = (net : NetId) → output ≡ Some net → net.0 < length N.nets

output_bits : (N : NetlistView) (naming : Naming) (P : Bit → Type 0) (port : Option (List ℕ)) (output : Option NetId) → OfNets N naming P → DrivesBelow N output
    → AllByRecursion P (flat_map link_bits (output_links naming port output))
output_bits N naming P None output all below = tt
output_bits N naming P (Some port) None all below = tt
output_bits N naming P (Some port) (Some net) all below = (all net (below net refl), tt)

first_bits : (N : NetlistView) (naming : Naming) (P : Bit → Type 0) (feeds : List Feed) → OfNets N naming P → AreBelow N feeds → AllByRecursion P (operand_bits (first_operand naming feeds))
first_bits N naming P [] all below = tt
first_bits N naming P (feed ∷ feeds) all below = feed_bits N naming P feed all (below 0 feed refl)

driven_bit : (N : NetlistView) (naming : Naming) (P : Bit → Type 0) (output : Option NetId) → OfNets N naming P → DrivesBelow N output → IsSome output → P (output_bit naming output)
driven_bit N naming P None all below some = absurd (cc)
driven_bit N naming P (Some net) all below some = all net (below net refl)

-- each bit of an item is that of a net
pub bits_of_item : (N : NetlistView) (naming : Naming) (P : Bit → Type 0) (i : ℕ) (cell : CellView) → naming.library ≡ N.library → AreNamed naming.table N → OfNets N naming P → cell_at N i ≡ Some cell → AllByRecursion P (item_bits (item_of naming i cell))
bits_of_item N naming P i cell same w all at = by_gate (gate_of cell.kind) refl
  where
    fits : FitsLibrary naming.library cell
    fits = fits_library naming.table N naming.library i cell same w.named w.formed at

    below : AreBelow N cell.feeds
    below = feeds_below N i cell w.laid at

    drives : DrivesBelow N cell.output
    drives net e = output_below N i cell net w.laid at e

    by_library : (l : Option (List ℕ)) → cell_name naming.library cell.kind ≡ l → AllByRecursion P (item_bits (written naming i cell None l))
    by_library None e = (driven_bit N naming P cell.output all drives (fits.connected e), first_bits N naming P cell.feeds all below)
    by_library (Some library) e =
        links_bits N naming P (operand_ports naming.library cell.kind) cell.feeds (output_links naming (output_port naming.library cell.kind) cell.output) all below
        (output_bits N naming P (output_port naming.library cell.kind) cell.output all drives)

    by_gate : (g : Option GateKind) → gate_of cell.kind ≡ g → AllByRecursion P (item_bits (written naming i cell g (cell_name naming.library cell.kind)))
    by_gate None e = by_library (cell_name naming.library cell.kind) refl
    by_gate (Some g) e =
        let some = fits.connected (gate_unnamed naming.library cell.kind g e) in
        (driven_bit N naming P cell.output all drives some, feeds_bits N naming P cell.feeds all below)

-- Instances.

abbrev instance_with : List ℕ → List ℕ → List Link → Instance
instance_with library name links = record { cell = library; name = name; links = links }

-- the bits have the right width
abbrev pub AreNarrow : NetlistView → Naming → List (List ℕ × Declared) → Type 0
AreNarrow N naming names = (net : NetId) → net.0 < length N.nets → at_bit wrong_width names (bit_of naming net) ≡ None

link_fits : (N : NetlistView) (naming : Naming) (names : List (List ℕ × Declared)) (i : Instance) (k : Kind) (port : List ℕ) (feed : Feed) → AreNarrow N naming names → IsBelow N feed
    → is_output_place (port_named naming.library k port) ≡ false → link_width naming.library names i k (record { port = port; operand = Some (operand_of naming feed) }) ≡ None
link_fits N naming names i k port (Net net) narrow below input = narrow net below
link_fits N naming names i k port (Const value) narrow below input = rw input refl

links_narrow : (N : NetlistView) (naming : Naming) (names : List (List ℕ × Declared)) (i : Instance) (k : Kind) (ports : List (List ℕ)) (feeds : List Feed) (rest : List Link) → AreNarrow N naming names → AreBelow N feeds
    → AreInputs naming.library k ports → first_in (link_width naming.library names i k) rest ≡ None → first_in (link_width naming.library names i k) (operand_links naming ports feeds ++ rest) ≡ None
links_narrow N naming names i k [] feeds rest narrow below inputs more = more
links_narrow N naming names i k (port ∷ ports) [] rest narrow below inputs more = more
links_narrow N naming names i k (port ∷ ports) (feed ∷ feeds) rest narrow below inputs more =
    let here = link_fits N naming names i k port feed narrow (below 0 feed refl) inputs.0 in
    let later = links_narrow N naming names i k ports feeds rest narrow (λ place f at. below (suc place) f at) inputs.1 more in
    ap (λ (o : Option LinkFault). or_else o (first_in (link_width naming.library names i k) (operand_links naming ports feeds ++ rest))) here ∙ later

output_narrow : (N : NetlistView) (naming : Naming) (names : List (List ℕ × Declared)) (i : Instance) (k : Kind) (port : Option (List ℕ)) (output : Option NetId) → AreNarrow N naming names → DrivesBelow N output
    → first_in (link_width naming.library names i k) (output_links naming port output) ≡ None
output_narrow N naming names i k None output narrow below = refl
output_narrow N naming names i k (Some port) None narrow below = refl
output_narrow N naming names i k (Some port) (Some net) narrow below = let here = narrow net (below net refl) in ap (λ (o : Option LinkFault). or_else o None) here

-- an item has no fault of its own
pub record HasNoItemFault (library : List ListedCell) (names : List (List ℕ × Declared)) (x : Item) : Type 0 where
  pub cell : cell_unknown library x ≡ None
  pub unknown : at_instance library (port_unknown library) x ≡ None
  pub missing : at_instance library (port_missing library) x ≡ None
  pub twice : at_instance library port_twice x ≡ None
  pub width : item_width library names x ≡ None
  pub operands : too_many what.Operands 256 (gate_operands x) ≡ None

few_enough : (count : ℕ) → count ≤ 256 → too_many what.Operands 256 count ≡ None
few_enough count few = let no : nat_lt 256 count ≡ false = grind (arith, nat_tests) in rw no refl

pub item_fits : (N : NetlistView) (naming : Naming) (names : List (List ℕ × Declared)) (i : ℕ) (cell : CellView) → naming.library ≡ N.library → AreNamed naming.table N → AreNarrow N naming names → cell_at N i ≡ Some cell
    → HasNoItemFault naming.library names (item_of naming i cell)
item_fits N naming names i cell same w narrow at = by_gate (gate_of cell.kind) refl
  where
    fits : FitsLibrary naming.library cell
    fits = fits_library naming.table N naming.library i cell same w.named w.formed at

    narrow_bits : AllByRecursion (λ (bit : Bit). at_bit wrong_width names bit ≡ None) (item_bits (item_of naming i cell))
    narrow_bits = bits_of_item N naming (λ (bit : Bit). at_bit wrong_width names bit ≡ None) i cell same w narrow at

    instanced : (library : List ℕ) → cell_name naming.library cell.kind ≡ Some library → HasNoItemFault naming.library names (written naming i cell None (Some library))
    instanced library is =
        let known = named_is_found naming.library fits.is cell.kind library is in
        let has = library_ports naming.library cell.kind library fits.is is in
        let text : List ℕ = unwrap_or (option_map (cell_text naming i) cell.name) [] in
        let links : List Link = links_of naming (operand_ports naming.library cell.kind) (output_port naming.library cell.kind) cell.feeds cell.output in
        let x : Instance = instance_with library text links in
        let fit = links_fit naming cell.kind library text cell.feeds cell.output has (library_count naming.library cell.kind library (length cell.feeds) fits.is is fits.takes) in
        let width = links_narrow N naming names x cell.kind (operand_ports naming.library cell.kind) cell.feeds (output_links naming (output_port naming.library cell.kind) cell.output) narrow (feeds_below N i cell w.laid at) (are_inputs naming.library cell.kind has)
        (output_narrow N naming names x cell.kind (output_port naming.library cell.kind) cell.output narrow (λ net e. output_below N i cell net w.laid at e)) in
        record {
          cell = ap (λ (o : Option Kind). if is_none o then Some (fault.CellUnknown library) else None) known;
          unknown = ap (option_and_then (port_unknown naming.library x)) known ∙ fit.unknown;
          missing = ap (option_and_then (port_missing naming.library x)) known ∙ fit.missing;
          twice = ap (option_and_then (port_twice x)) known ∙ fit.twice;
          width = ap (option_and_then (λ (k : Kind). first_in (link_width naming.library names x k) links)) known ∙ width;
          operands = refl;
        }

    by_library : (l : Option (List ℕ)) → cell_name naming.library cell.kind ≡ l → AllByRecursion (λ (bit : Bit). at_bit wrong_width names bit ≡ None) (item_bits (written naming i cell None l))
        → HasNoItemFault naming.library names (written naming i cell None l)
    by_library None e bits = record {
      cell = refl;
      unknown = refl;
      missing = refl;
      twice = refl;
      width = none_along (at_bit wrong_width names) (item_bits (written naming i cell None None)) bits;
      operands = refl;
    }
    by_library (Some library) e bits = instanced library e

    gated : (g : GateKind) (library : Option (List ℕ)) → gate_of cell.kind ≡ Some g → AllByRecursion (λ (bit : Bit). at_bit wrong_width names bit ≡ None) (item_bits (written naming i cell (Some g) library))
        → HasNoItemFault naming.library names (written naming i cell (Some g) library)
    gated g library e bits = record {
      cell = refl;
      unknown = refl;
      missing = refl;
      twice = refl;
      width = none_along (at_bit wrong_width names) (item_bits (written naming i cell (Some g) library)) bits;
      operands = few_enough (length (map (operand_of naming) cell.feeds))
          (let few = gate_few naming.library cell.kind g (length cell.feeds) e fits.takes in let same = length-map cell.feeds (operand_of naming) in omega arith);
    }

    by_gate : (g : Option GateKind) → gate_of cell.kind ≡ g → HasNoItemFault naming.library names (written naming i cell (gate_of cell.kind) (cell_name naming.library cell.kind))
    by_gate None e = rw e (by_library (cell_name naming.library cell.kind) refl (rw e at narrow_bits))
    by_gate (Some g) e = rw e (gated g (cell_name naming.library cell.kind) e (rw e at narrow_bits))
