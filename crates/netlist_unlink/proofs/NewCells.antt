-- The cell of an item is the netlist's cell, with new numbers.
use Rattle.std.proofs.Common.{◌≡◌, ℕ, suc, ◌+◌, ◌<◌, false, List, [], ◌∷◌, length, map, refl, ap, sym, ◌∙◌, subst, Option, Some, None, arith}
use Rattle.std.specs.Prelude.{slice_get, unwrap_or, IsSome}
use Rattle.std.specs.Option.{option_map}
use Rattle.list_laws.proofs.Lists.{map_same}
use Rattle.verilog_tree.specs.declared.tree.GateKind.{GateKind}
use Rattle.verilog_tree.specs.declared.tree.Link.{Link}
use Rattle.cell_library.specs.declared.Kind.{Kind}
use Rattle.cell_library.specs.declared.Kind.TheVariants as kind
use Rattle.cell_library.specs.Gates.{Takes, is_flop}
use Rattle.cell_library.specs.Library.{cell_name, kind_named, operand_ports, output_port}
use Rattle.cell_library.proofs.NameLaws.{named_is_found}
use Rattle.netlist_model.specs.declared.Feed.{Feed}
use Rattle.netlist_model.specs.declared.Feed.TheVariants.{Net, Const}
use Rattle.netlist_model.specs.declared.Name.{Name}
use Rattle.netlist_model.specs.declared.NetId.{NetId}
use Rattle.netlist_model.specs.Lists.{CellView, NetlistView, cell_at, live_cell}
use Rattle.netlist_model.specs.Formed.{IsLaidOut}
use Rattle.link_model.specs.Nets.{Declared, net_of}
use Rattle.link_model.specs.Cells.{NamedCell, cell_of, feed_of, library_cell}
use Rattle.netlist_unlink.specs.Trees.{Naming, bit_of, cell_text, first_operand, gate_of, item_of, items_from, operand_of, output_bit, written}
use Rattle.netlist_unlink.specs.Renumbered.{cells_from, new_cell, new_feed, new_net}
use Rattle.netlist_unlink.proofs.Facts.{FitsLibrary, assign_kind, fits_library, gate_no_flop, gate_unnamed, library_count, library_ports}
use Rattle.netlist_unlink.proofs.Kept.{gate_back}
use Rattle.netlist_unlink.proofs.Members.{map_twice}
use Rattle.netlist_unlink.proofs.Nets.{AreNamed}
use Rattle.netlist_unlink.proofs.PortLinks.{are_linked, links_of}

-- an operand that is a net is one of the netlist's
abbrev pub IsBelow : NetlistView → Feed → Type 0
IsBelow N (Net net) = net.0 < length N.nets
IsBelow N (Const value) = Unit {0}

abbrev pub AreBelow : NetlistView → List Feed → Type 0
AreBelow N feeds = (place : ℕ) (feed : Feed) → slice_get feeds place ≡ Some feed → IsBelow N feed

pub feeds_below : (N : NetlistView) (i : ℕ) (cell : CellView) → IsLaidOut N → cell_at N i ≡ Some cell → AreBelow N cell.feeds
feeds_below N i cell laid at place (Net net) read = laid.operands i cell place net.0 (record { live = at; operand = read })
feeds_below N i cell laid at place (Const value) read = tt

pub output_below : (N : NetlistView) (i : ℕ) (cell : CellView) (net : NetId) → IsLaidOut N → cell_at N i ≡ Some cell → cell.output ≡ Some net → net.0 < length N.nets
output_below N i cell net laid at out = laid.outputs i cell net.0 (record { live = at; output = out })

-- the bits of nets name their new numbers
abbrev pub NamesNets : NetlistView → Naming → List ℕ → List (List ℕ × Declared) → Type 0
NamesNets N naming order names = (net : NetId) → net.0 < length N.nets → net_of names (bit_of naming net) ≡ new_net order net

-- Operands.

new_operand : (N : NetlistView) (naming : Naming) (order : List ℕ) (names : List (List ℕ × Declared)) (feed : Feed) → NamesNets N naming order names → IsBelow N feed
    → feed_of names (operand_of naming feed) ≡ new_feed order feed
new_operand N naming order names (Net net) named below = ap Net (named net below)
new_operand N naming order names (Const value) named below = refl

new_operands : (N : NetlistView) (naming : Naming) (order : List ℕ) (names : List (List ℕ × Declared)) (feeds : List Feed) → NamesNets N naming order names → AreBelow N feeds
    → map (λ (f : Feed). feed_of names (operand_of naming f)) feeds ≡ map (new_feed order) feeds
new_operands N naming order names feeds named below =
    map_same (λ (f : Feed). feed_of names (operand_of naming f)) (new_feed order) feeds (λ place feed at. new_operand N naming order names feed named (below place feed at))

pub same_cell : (a b : NamedCell) → a.kind ≡ b.kind → a.keeps ≡ b.keeps → a.name ≡ b.name → a.feeds ≡ b.feeds → a.output ≡ b.output → a ≡ b
same_cell a b k s n f o =
    ap (λ x. record { kind = x; keeps = a.keeps; name = a.name; feeds = a.feeds; output = a.output }) k ∙ ap (λ x. record { kind = b.kind; keeps = x; name = a.name; feeds = a.feeds; output = a.output }) s
    ∙ ap (λ x. record { kind = b.kind; keeps = b.keeps; name = x; feeds = a.feeds; output = a.output }) n
    ∙ ap (λ x. record { kind = b.kind; keeps = b.keeps; name = b.name; feeds = x; output = a.output }) f ∙ ap (λ x. record { kind = b.kind; keeps = b.keeps; name = b.name; feeds = b.feeds; output = x }) o

-- the net of an output
new_output : (N : NetlistView) (naming : Naming) (order : List ℕ) (names : List (List ℕ × Declared)) (i : ℕ) (cell : CellView) → NamesNets N naming order names → IsLaidOut N → cell_at N i ≡ Some cell
    → option_map (λ (net : NetId). net_of names (bit_of naming net)) cell.output ≡ option_map (new_net order) cell.output
new_output N naming order names i cell named laid at = go cell.output refl
  where
    go : (o : Option NetId) → cell.output ≡ o → option_map (λ (net : NetId). net_of names (bit_of naming net)) o ≡ option_map (new_net order) o
    go None e = refl
    go (Some net) e = ap Some (named net (output_below N i cell net laid at e))

driven : (naming : Naming) (names : List (List ℕ × Declared)) (o : Option NetId) → IsSome o → Some (net_of names (output_bit naming o)) ≡ option_map (λ (net : NetId). net_of names (bit_of naming net)) o
driven naming names None some = absurd (cc)
driven naming names (Some net) some = refl

-- Cells.

one_feed : (naming : Naming) (names : List (List ℕ × Declared)) (feeds : List Feed) → length feeds ≡ 1
    → feed_of names (first_operand naming feeds) ∷ [] ≡ map (λ (f : Feed). feed_of names (operand_of naming f)) feeds
one_feed naming names [] e = absurd (omega arith)
one_feed naming names (a ∷ []) e = refl
one_feed naming names (a ∷ b ∷ feeds) e = absurd (omega arith)

pub cell_is : (N : NetlistView) (naming : Naming) (order : List ℕ) (names : List (List ℕ × Declared)) (i : ℕ) (cell : CellView) → naming.library ≡ N.library → AreNamed naming.table N → NamesNets N naming order names
    → cell_at N i ≡ Some cell → cell_of naming.library names (item_of naming i cell) ≡ new_cell naming order i cell
cell_is N naming order names i cell same w named at = by_gate (gate_of cell.kind) refl
  where
    fits : FitsLibrary naming.library cell
    fits = fits_library naming.table N naming.library i cell same w.named w.formed at

    operands : map (λ (f : Feed). feed_of names (operand_of naming f)) cell.feeds ≡ map (new_feed order) cell.feeds
    operands = new_operands N naming order names cell.feeds named (feeds_below N i cell w.laid at)

    output : option_map (λ (net : NetId). net_of names (bit_of naming net)) cell.output ≡ option_map (new_net order) cell.output
    output = new_output N naming order names i cell named w.laid at

    assigned : gate_of cell.kind ≡ None → cell_name naming.library cell.kind ≡ None → cell_of naming.library names (written naming i cell None None) ≡ new_cell naming order i cell
    assigned no_gate no_library =
        let is = assign_kind naming.library cell.kind (length cell.feeds) fits.takes no_gate no_library in
        let T : Kind → Type 0 = λ k. Takes naming.library k (length cell.feeds) in
        let one : length cell.feeds ≡ 1 = subst T is fits.takes in
        let none = fits.unnamed is in
        let some = fits.connected no_library in
        let keeps : false ≡ is_flop naming.library cell.kind = sym (ap (is_flop naming.library) is) in
        same_cell (cell_of naming.library names (written naming i cell None None)) (new_cell naming order i cell) (sym is) keeps (sym (ap (option_map (cell_text naming i)) none))
        (one_feed naming names cell.feeds one ∙ operands) (driven naming names cell.output some ∙ output)

    instanced : (library : List ℕ) → cell_name naming.library cell.kind ≡ Some library → gate_of cell.kind ≡ None
        → cell_of naming.library names (written naming i cell None (Some library)) ≡ new_cell naming order i cell
    instanced library is none =
        let back : unwrap_or (kind_named naming.library library) kind.Buf ≡ cell.kind = ap (λ (o : Option Kind). unwrap_or o kind.Buf) (named_is_found naming.library fits.is cell.kind library is) in
        let count = library_count naming.library cell.kind library (length cell.feeds) fits.is is fits.takes in
        let are = are_linked naming names cell.kind cell.feeds cell.output (library_ports naming.library cell.kind library fits.is is) count in
        let name = some_text cell.name (fits.named (rw is refl)) in
        let text : List ℕ = unwrap_or (option_map (cell_text naming i) cell.name) [] in
        let links : List Link = links_of naming (operand_ports naming.library cell.kind) (output_port naming.library cell.kind) cell.feeds cell.output in
        let cell_as : Kind → NamedCell = λ k. library_cell naming.library names (record { cell = library; name = text; links = links }) k in
        ap cell_as back ∙ same_cell (cell_as cell.kind) (new_cell naming order i cell) refl refl name (are.operands ∙ operands) (are.out ∙ output)
      where
        some_text : (o : Option Name) → IsSome o → Some (unwrap_or (option_map (cell_text naming i) o) []) ≡ option_map (cell_text naming i) o
        some_text None some = absurd (cc)
        some_text (Some name) some = refl

    gated : (g : GateKind) (library : Option (List ℕ)) → gate_of cell.kind ≡ Some g → cell_of naming.library names (written naming i cell (Some g) library) ≡ new_cell naming order i cell
    gated g library is =
        let some = fits.connected (gate_unnamed naming.library cell.kind g is) in
        same_cell (cell_of naming.library names (written naming i cell (Some g) library)) (new_cell naming order i cell) (gate_back cell.kind g is) (sym (gate_no_flop naming.library cell.kind g is)) refl
        (map_twice (feed_of names) (operand_of naming) cell.feeds ∙ operands) (driven naming names cell.output some ∙ output)

    by_library : (l : Option (List ℕ)) → cell_name naming.library cell.kind ≡ l → gate_of cell.kind ≡ None → cell_of naming.library names (written naming i cell None l) ≡ new_cell naming order i cell
    by_library None e none = assigned none e
    by_library (Some library) e none = instanced library e none

    by_gate : (g : Option GateKind) → gate_of cell.kind ≡ g → cell_of naming.library names (written naming i cell g (cell_name naming.library cell.kind)) ≡ new_cell naming order i cell
    by_gate None e = by_library (cell_name naming.library cell.kind) refl e
    by_gate (Some g) e = gated g (cell_name naming.library cell.kind) e

-- all cells
pub cells_are : (N : NetlistView) (naming : Naming) (order : List ℕ) (names : List (List ℕ × Declared)) (number : ℕ) (cells : List (Option CellView))
    → ((k : ℕ) (cell : CellView) → live_cell (slice_get cells k) ≡ Some cell → cell_of naming.library names (item_of naming (number + k) cell) ≡ new_cell naming order (number + k) cell)
    → map (cell_of naming.library names) (items_from naming number cells) ≡ cells_from naming order number cells
cells_are N naming order names number [] each = refl
cells_are N naming order names number (None ∷ cells) each =
    cells_are N naming order names (number + 1) cells (λ k cell at.
    let P : ℕ → Type 0 = λ n. cell_of naming.library names (item_of naming n cell) ≡ new_cell naming order n cell in
    let same : number + suc k ≡ (number + 1) + k = omega arith in
    subst P same (each (suc k) cell at))
cells_are N naming order names number (Some first ∷ cells) each =
    let zeroth : number + 0 ≡ number = omega arith in
    let F : ℕ → Type 0 = λ n. cell_of naming.library names (item_of naming n first) ≡ new_cell naming order n first in
    let rest = cells_are N naming order names (number + 1) cells (λ k cell at.
    let P : ℕ → Type 0 = λ n. cell_of naming.library names (item_of naming n cell) ≡ new_cell naming order n cell in
    let same : number + suc k ≡ (number + 1) + k = omega arith in
    subst P same (each (suc k) cell at)) in
    ap (λ (c : NamedCell). c ∷ map (cell_of naming.library names) (items_from naming (number + 1) cells)) (subst F zeroth (each 0 first refl)) ∙ ap (λ (cs : List NamedCell). new_cell naming order number first ∷ cs) rest
