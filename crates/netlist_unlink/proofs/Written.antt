-- The tree of a linked netlist is one that can be written.
use Rattle.std.proofs.Common.{◌≡◌, ◌≢◌, ℕ, suc, ◌+◌, ◌^◌, ◌<◌, ◌≤◌, Bool, true, false, List, [], ◌∷◌, ◌++◌, length, map, refl, ap, sym, ◌∙◌, subst, Option, Some, None, arith, IsTrue}
use Rattle.std.specs.Prelude.{slice_get, unwrap_or, IsSome, IfSome, codes}
use Rattle.std.specs.Bool.{IsFalse}
use Rattle.std.specs.Option.{option_map}
use Rattle.std.specs.Str.{bytes_eq}
use Rattle.std.specs.List.{AllByRecursion}
use Rattle.std.proofs.lemmas.List.{length-map}
use Rattle.std.proofs.lemmas.List.Elements.{All-head, All-tail}
use Rattle.std.proofs.lemmas.Slice.Eq.{bytes_eq-Decides}
use Rattle.verilog_tree.specs.declared.tree.GateKind.{GateKind}
use Rattle.verilog_tree.specs.declared.tree.GateKind.TheVariants as gate
use Rattle.verilog_tree.specs.declared.tree.Wire.{Wire}
use Rattle.verilog_tree.specs.Trees.{is_port_net, takes_inputs}
use Rattle.verilog_tree.specs.IsTree.{IsTree, IsTreeBit, IsTreeItem, IsTreeLink, IsTreeName, IsTreeOperand, IsTreePort, IsTreeRange, IsTreeWire, IsVisible}
use Rattle.cell_library.specs.declared.listed.ListedCell.{ListedCell}
use Rattle.cell_library.specs.declared.Kind.{Kind}
use Rattle.cell_library.specs.declared.Kind.TheVariants as kind
use Rattle.cell_library.specs.declared.Edge.{Edge}
use Rattle.cell_library.specs.declared.Edge.TheVariants.{Rise, Fall}
use Rattle.cell_library.specs.declared.ResetTo.{ResetTo}
use Rattle.cell_library.specs.declared.ResetTo.TheVariants.{Nothing, Zero as ToZero, One as ToOne}
use Rattle.cell_library.specs.Gates.{Takes}
use Rattle.cell_library.specs.Library.{cell_name, flop_name, flop_ports, operand_ports, output_port}
use Rattle.cell_library.specs.Listed.{listed}
use Rattle.cell_library.specs.Sound.{IsLibrary, IsPort, IsSoundCell}
use Rattle.cell_library.proofs.NameLaws.{listed_at, listed_past}
use Rattle.netlist_model.specs.declared.Feed.{Feed}
use Rattle.netlist_model.specs.declared.Feed.TheVariants.{Net, Const}
use Rattle.netlist_model.specs.declared.Name.{Name}
use Rattle.netlist_model.specs.declared.Name.TheVariants.{Original, Added}
use Rattle.netlist_model.specs.declared.NetId.{NetId}
use Rattle.netlist_model.specs.declared.Range.{Range}
use Rattle.netlist_model.specs.Lists.{PortView, NetView, CellView, NetlistView, cell_at, live_cell}
use Rattle.netlist_model.specs.Formed.{IsLaidOut, IsWellFormed}
use Rattle.netlist_arena.proofs.Laid.{All-slice_get}
use Rattle.netlist_link.specs.WellNamed.{IsShortRange, IsWellNamed}
use Rattle.std.specs.Fmt.{decimal}
use Rattle.list_laws.proofs.Lists.{all_append, slice_get_there}
use Rattle.netlist_link.specs.Linked.{IsLinked, LinkedView}
use Rattle.netlist_unlink.specs.declared.rows.NetRow.{NetRow}
use Rattle.netlist_unlink.specs.Rows.{is_original, rows}
use Rattle.netlist_unlink.specs.Trees.{Naming, added, added_from, added_wire, bit_of, cell_text, first_operand, gate_of, item_of, items_from, naming_of, operand_links, operand_of, original, output_bit, output_links, port_of, port_text, range_of, tree_of, wire_of, written}
use Rattle.netlist_unlink.specs.Prefixes.{IsFreePrefix, IsPrefix, IsUsed, port}
use Rattle.netlist_unlink.proofs.Lists.{all_mapped, none_at}
use Rattle.netlist_unlink.proofs.SpelledNames.{AreSpelled, added_name, listed_name, listed_port, listed_ports, original_name, spelled_name}
use Rattle.netlist_unlink.proofs.Indexes.{index_short}
use Rattle.netlist_unlink.proofs.RowFacts.{RowFits}
use Rattle.netlist_unlink.proofs.AllRows.{all_rows}
use Rattle.netlist_unlink.proofs.Facts.{FitsLibrary, fits_library, gate_unnamed}

-- what is known of a netlist that is to be written
pub record CanWrite (N : NetlistView) (naming : Naming) : Type 0 where
  pub formed : IsWellFormed N
  pub named : IsWellNamed naming.table N
  pub laid : IsLaidOut N
  pub word : IsPrefix naming.prefix
  pub library_is : naming.library ≡ N.library
  pub nets_are : naming.nets ≡ N.nets
  pub nets : length N.nets < 2 ^ 32
  pub numbers : (i : ℕ) → IsSome (cell_at N i) → i < 2 ^ 32

letter_n : IsVisible 110
letter_n = record { low = omega arith; high = omega arith }

letter_c : IsVisible 99
letter_c = record { low = omega arith; high = omega arith }

-- Bits and operands.

tree_bit : (N : NetlistView) (naming : Naming) (net : NetId) → CanWrite N naming → net.0 < length N.nets → IsTreeBit (bit_of naming net)
tree_bit N naming net w less =
    let x = slice_get_there N.nets net.0 (omega arith) in
    let view : NetView = x.0 in
    let at : slice_get naming.nets net.0 ≡ Some view = ap (λ (nets : List NetView). slice_get nets net.0) w.nets_are ∙ x.1 in
    let nets = w.nets in
    rw at (record {
      net = spelled_name naming 110 net.0 view.name w.named.spelled w.word letter_n (omega arith) (w.named.net_names net.0 view x.1);
      index = index_short naming.table N net.0 view w.named w.laid x.1;
    })

-- each operand that is a net is one of the list
abbrev IsBelow : NetlistView → Feed → Type 0
IsBelow N (Net net) = net.0 < length N.nets
IsBelow N (Const value) = Unit {0}

tree_operand : (N : NetlistView) (naming : Naming) (feed : Feed) → CanWrite N naming → IsBelow N feed → IsTreeOperand (operand_of naming feed)
tree_operand N naming (Net net) w below = tree_bit N naming net w below
tree_operand N naming (Const value) w below = tt

feed_below : (N : NetlistView) (naming : Naming) (i : ℕ) (cell : CellView) (place : ℕ) (feed : Feed) → CanWrite N naming → cell_at N i ≡ Some cell → slice_get cell.feeds place ≡ Some feed → IsBelow N feed
feed_below N naming i cell place (Net net) w at read = w.laid.operands i cell place net.0 (record { live = at; operand = read })
feed_below N naming i cell place (Const value) w at read = tt

-- all operands of a cell
abbrev AreBelow : NetlistView → List Feed → Type 0
AreBelow N feeds = (place : ℕ) (feed : Feed) → slice_get feeds place ≡ Some feed → IsBelow N feed

driven_below : (N : NetlistView) (naming : Naming) (i : ℕ) (cell : CellView) (net : NetId) → CanWrite N naming → cell_at N i ≡ Some cell → cell.output ≡ Some net → net.0 < length N.nets
driven_below N naming i cell net w at out = w.laid.outputs i cell net.0 (record { live = at; output = out })

tree_output : (N : NetlistView) (naming : Naming) (i : ℕ) (cell : CellView) → CanWrite N naming → cell_at N i ≡ Some cell → IsSome cell.output → IsTreeBit (output_bit naming cell.output)
tree_output N naming i cell w at driven = go cell.output refl driven
  where
    go : (o : Option NetId) → cell.output ≡ o → IsSome o → IsTreeBit (output_bit naming o)
    go None e driven = absurd (cc)
    go (Some net) e driven = tree_bit N naming net w (driven_below N naming i cell net w at e)

-- A cell, by the library.
fits_cell : (N : NetlistView) (naming : Naming) (i : ℕ) (cell : CellView) → CanWrite N naming → cell_at N i ≡ Some cell → FitsLibrary naming.library cell
fits_cell N naming i cell w at = fits_library naming.table N naming.library i cell w.library_is w.named w.formed at

-- Gates.

reads_one : (library : List ListedCell) (k : Kind) (gate : GateKind) (count : ℕ) → gate_of k ≡ Some gate → Takes library k count → (0 < count) × IsTrue (takes_inputs gate count)
reads_one library kind.And g n e t = let same : gate.And ≡ g = grind arith in let P : GateKind → Type 0 = λ x. (0 < n) × IsTrue (takes_inputs x n) in let low : 1 ≤ n = t.0 in subst P same (omega arith, refl)
reads_one library kind.Or g n e t = let same : gate.Or ≡ g = grind arith in let P : GateKind → Type 0 = λ x. (0 < n) × IsTrue (takes_inputs x n) in let low : 1 ≤ n = t.0 in subst P same (omega arith, refl)
reads_one library kind.Nand g n e t = let same : gate.Nand ≡ g = grind arith in let P : GateKind → Type 0 = λ x. (0 < n) × IsTrue (takes_inputs x n) in let low : 1 ≤ n = t.0 in subst P same (omega arith, refl)
reads_one library kind.Nor g n e t = let same : gate.Nor ≡ g = grind arith in let P : GateKind → Type 0 = λ x. (0 < n) × IsTrue (takes_inputs x n) in let low : 1 ≤ n = t.0 in subst P same (omega arith, refl)
reads_one library kind.Xor g n e t = let same : gate.Xor ≡ g = grind arith in let P : GateKind → Type 0 = λ x. (0 < n) × IsTrue (takes_inputs x n) in let low : 1 ≤ n = t.0 in subst P same (omega arith, refl)
reads_one library kind.Xnor g n e t = let same : gate.Xnor ≡ g = grind arith in let P : GateKind → Type 0 = λ x. (0 < n) × IsTrue (takes_inputs x n) in let low : 1 ≤ n = t.0 in subst P same (omega arith, refl)
reads_one library kind.Buf g n e t = let same : gate.Buf ≡ g = grind arith in let P : GateKind → Type 0 = λ x. (0 < n) × IsTrue (takes_inputs x n) in let one : n ≡ 1 = t in subst P same (omega arith, rw one refl)
reads_one library kind.Not g n e t = let same : gate.Not ≡ g = grind arith in let P : GateKind → Type 0 = λ x. (0 < n) × IsTrue (takes_inputs x n) in let one : n ≡ 1 = t in subst P same (omega arith, rw one refl)
reads_one library kind.Bufif0 g n e t = let same : gate.Bufif0 ≡ g = grind arith in let P : GateKind → Type 0 = λ x. (0 < n) × IsTrue (takes_inputs x n) in let one : n ≡ 2 = t in subst P same (omega arith, rw one refl)
reads_one library kind.Bufif1 g n e t = let same : gate.Bufif1 ≡ g = grind arith in let P : GateKind → Type 0 = λ x. (0 < n) × IsTrue (takes_inputs x n) in let one : n ≡ 2 = t in subst P same (omega arith, rw one refl)
reads_one library kind.Assign g n e t = absurd (cc)
reads_one library kind.Mux2 g n e t = absurd (cc)
reads_one library (kind.Flop flop) g n e t = absurd (cc)
reads_one library (kind.Listed number) g n e t = absurd (cc)

tree_name : (N : NetlistView) (naming : Naming) (i : ℕ) (cell : CellView) → CanWrite N naming → cell_at N i ≡ Some cell → IfSome (option_map (cell_text naming i) cell.name) IsTreeName
tree_name N naming i cell w at = go cell.name refl
  where
    go : (o : Option Name) → cell.name ≡ o → IfSome (option_map (cell_text naming i) o) IsTreeName
    go None e = tt
    go (Some name) e = spelled_name naming 99 i name w.named.spelled w.word letter_c (w.numbers i (rw at refl)) (w.named.cell_names i cell name at e)

tree_inputs : (N : NetlistView) (naming : Naming) (i : ℕ) (cell : CellView) → CanWrite N naming → cell_at N i ≡ Some cell → AllByRecursion IsTreeOperand (map (operand_of naming) cell.feeds)
tree_inputs N naming i cell w at =
    all_mapped IsTreeOperand (operand_of naming) cell.feeds (λ place feed read. tree_operand N naming feed w (feed_below N naming i cell place feed w at read))

tree_gate : (N : NetlistView) (naming : Naming) (i : ℕ) (cell : CellView) (g : GateKind) (library : Option (List ℕ)) → CanWrite N naming → cell_at N i ≡ Some cell → gate_of cell.kind ≡ Some g
    → IsTreeItem (written naming i cell (Some g) library)
tree_gate N naming i cell g library w at is =
    let fits = fits_cell N naming i cell w at in
    let counts = reads_one naming.library cell.kind g (length cell.feeds) is fits.takes in
    let same = length-map cell.feeds (operand_of naming) in
    let P : ℕ → Type 0 = λ n. IsTrue (takes_inputs g n) in
    let low = counts.0 in
    record {
      name = tree_name N naming i cell w at;
      output = tree_output N naming i cell w at (fits.connected (gate_unnamed naming.library cell.kind g is));
      inputs = tree_inputs N naming i cell w at;
      reads = omega arith;
      takes = subst P (sym same) counts.1;
    }

-- Instances.

short_visible : (name : List ℕ) → 0 < length name → length name ≤ 255 → AllByRecursion IsVisible name → IsTreeName name
short_visible name filled short visible = record { filled = filled; short = short; visible = visible }

seen : (byte : ℕ) → 33 ≤ byte → byte ≤ 126 → IsVisible byte
seen byte low high = record { low = low; high = high }

name_mux : IsTreeName (codes "MUX2")
name_mux = short_visible (codes "MUX2") (omega arith) (omega arith) (seen 77 (omega arith) (omega arith), (seen 85 (omega arith) (omega arith), (seen 88 (omega arith) (omega arith), (seen 50 (omega arith) (omega arith), tt))))

name_dff : IsTreeName (codes "DFF")
name_dff = short_visible (codes "DFF") (omega arith) (omega arith) (seen 68 (omega arith) (omega arith), (seen 70 (omega arith) (omega arith), (seen 70 (omega arith) (omega arith), tt)))

name_dffn : IsTreeName (codes "DFFN")
name_dffn = short_visible (codes "DFFN") (omega arith) (omega arith) (seen 68 (omega arith) (omega arith), (seen 70 (omega arith) (omega arith), (seen 70 (omega arith) (omega arith), (seen 78 (omega arith) (omega arith), tt))))

name_dffr : IsTreeName (codes "DFFR")
name_dffr = short_visible (codes "DFFR") (omega arith) (omega arith) (seen 68 (omega arith) (omega arith), (seen 70 (omega arith) (omega arith), (seen 70 (omega arith) (omega arith), (seen 82 (omega arith) (omega arith), tt))))

name_dffnr : IsTreeName (codes "DFFNR")
name_dffnr = short_visible (codes "DFFNR") (omega arith) (omega arith) (seen 68 (omega arith) (omega arith), (seen 70 (omega arith) (omega arith), (seen 70 (omega arith) (omega arith), (seen 78 (omega arith) (omega arith), (seen 82 (omega arith) (omega arith), tt)))))

name_dffs : IsTreeName (codes "DFFS")
name_dffs = short_visible (codes "DFFS") (omega arith) (omega arith) (seen 68 (omega arith) (omega arith), (seen 70 (omega arith) (omega arith), (seen 70 (omega arith) (omega arith), (seen 83 (omega arith) (omega arith), tt))))

name_dffns : IsTreeName (codes "DFFNS")
name_dffns = short_visible (codes "DFFNS") (omega arith) (omega arith) (seen 68 (omega arith) (omega arith), (seen 70 (omega arith) (omega arith), (seen 70 (omega arith) (omega arith), (seen 78 (omega arith) (omega arith), (seen 83 (omega arith) (omega arith), tt)))))

name_port_a : IsTreeName (codes "A")
name_port_a = short_visible (codes "A") (omega arith) (omega arith) (seen 65 (omega arith) (omega arith), tt)

name_port_b : IsTreeName (codes "B")
name_port_b = short_visible (codes "B") (omega arith) (omega arith) (seen 66 (omega arith) (omega arith), tt)

name_port_s : IsTreeName (codes "S")
name_port_s = short_visible (codes "S") (omega arith) (omega arith) (seen 83 (omega arith) (omega arith), tt)

name_port_d : IsTreeName (codes "D")
name_port_d = short_visible (codes "D") (omega arith) (omega arith) (seen 68 (omega arith) (omega arith), tt)

name_port_ck : IsTreeName (codes "CK")
name_port_ck = short_visible (codes "CK") (omega arith) (omega arith) (seen 67 (omega arith) (omega arith), (seen 75 (omega arith) (omega arith), tt))

name_port_rn : IsTreeName (codes "RN")
name_port_rn = short_visible (codes "RN") (omega arith) (omega arith) (seen 82 (omega arith) (omega arith), (seen 78 (omega arith) (omega arith), tt))

name_port_sn : IsTreeName (codes "SN")
name_port_sn = short_visible (codes "SN") (omega arith) (omega arith) (seen 83 (omega arith) (omega arith), (seen 78 (omega arith) (omega arith), tt))

name_port_y : IsTreeName (codes "Y")
name_port_y = short_visible (codes "Y") (omega arith) (omega arith) (seen 89 (omega arith) (omega arith), tt)

name_port_q : IsTreeName (codes "Q")
name_port_q = short_visible (codes "Q") (omega arith) (omega arith) (seen 81 (omega arith) (omega arith), tt)

flop_named : (edge : Edge) (reset : ResetTo) → IsTreeName (flop_name edge reset)
flop_named Rise Nothing = name_dff
flop_named Fall Nothing = name_dffn
flop_named Rise ToZero = name_dffr
flop_named Fall ToZero = name_dffnr
flop_named Rise ToOne = name_dffs
flop_named Fall ToOne = name_dffns

-- a cell of a library can be listed
sound_cell : (library : List ListedCell) (number : ℕ) (cell : ListedCell) → IsLibrary library → slice_get library number ≡ Some cell → IsSoundCell cell
sound_cell library number cell is at = All-slice_get IsSoundCell library number cell is.sound at

library_named : (library : List ListedCell) (k : Kind) → IsLibrary library → IfSome (cell_name library k) IsTreeName
library_named library kind.Mux2 is = name_mux
library_named library (kind.Flop flop) is = flop_named flop.edge flop.reset
library_named library (kind.Listed number) is = by (slice_get library number) refl
  where
    by : (there : Option ListedCell) → slice_get library number ≡ there → IfSome (option_map (λ (c : ListedCell). c.name) there) IsTreeName
    by None at = tt
    by (Some cell) at = let sound = sound_cell library number cell is at in listed_name cell.name sound.name
library_named library k is = tt

flop_ports_named : (reset : ResetTo) → AllByRecursion IsTreeName (flop_ports reset)
flop_ports_named Nothing = (name_port_d, (name_port_ck, tt))
flop_ports_named ToZero = (name_port_d, (name_port_ck, (name_port_rn, tt)))
flop_ports_named ToOne = (name_port_d, (name_port_ck, (name_port_sn, tt)))

ports_named : (library : List ListedCell) (k : Kind) → IsLibrary library → AllByRecursion IsTreeName (operand_ports library k)
ports_named library kind.Mux2 is = (name_port_a, (name_port_b, (name_port_s, tt)))
ports_named library (kind.Flop flop) is = flop_ports_named flop.reset
ports_named library (kind.Listed number) is = by (slice_get library number) refl
  where
    by : (there : Option ListedCell) → slice_get library number ≡ there → AllByRecursion IsTreeName (listed library number).inputs
    by None at = let P : ListedCell → Type 0 = λ c. AllByRecursion IsTreeName c.inputs in subst P (sym (listed_past library number at)) tt
    by (Some cell) at =
        let P : ListedCell → Type 0 = λ c. AllByRecursion IsTreeName c.inputs in
        let sound = sound_cell library number cell is at in
        subst P (sym (listed_at library number cell at)) (listed_ports cell.inputs (All-tail IsPort cell.output cell.inputs sound.ports))
ports_named library k is = tt

output_named : (library : List ListedCell) (k : Kind) → IsLibrary library → IfSome (output_port library k) IsTreeName
output_named library kind.Mux2 is = name_port_y
output_named library (kind.Flop flop) is = name_port_q
output_named library (kind.Listed number) is = by (slice_get library number) refl
  where
    by : (there : Option ListedCell) → slice_get library number ≡ there → IfSome (option_map (λ (c : ListedCell). c.output) there) IsTreeName
    by None at = tt
    by (Some cell) at = let sound = sound_cell library number cell is at in listed_port cell.output (All-head IsPort cell.output cell.inputs sound.ports)
output_named library k is = tt

tree_links : (N : NetlistView) (naming : Naming) (ports : List (List ℕ)) (feeds : List Feed) → CanWrite N naming → AllByRecursion IsTreeName ports → AreBelow N feeds
    → AllByRecursion IsTreeLink (operand_links naming ports feeds)
tree_links N naming [] feeds w named below = tt
tree_links N naming (x ∷ ports) [] w named below = tt
tree_links N naming (x ∷ ports) (feed ∷ feeds) w named below =
    (record { port = named.0; operand = tree_operand N naming feed w (below 0 feed refl) }, tree_links N naming ports feeds w named.1 (λ place other read. below (suc place) other read))

tree_output_links : (N : NetlistView) (naming : Naming) (port : Option (List ℕ)) (output : Option NetId) → CanWrite N naming → IfSome port IsTreeName → ((net : NetId) → output ≡ Some net → net.0 < length N.nets)
    → AllByRecursion IsTreeLink (output_links naming port output)
tree_output_links N naming None output w named below = tt
tree_output_links N naming (Some x) None w named below = tt
tree_output_links N naming (Some x) (Some net) w named below = (record { port = named; operand = tree_bit N naming net w (below net refl) }, tt)

instance_text : (N : NetlistView) (naming : Naming) (i : ℕ) (o : Option Name) → IsSome o → IfSome (option_map (cell_text naming i) o) IsTreeName → IsTreeName (unwrap_or (option_map (cell_text naming i) o) [])
instance_text N naming i None some named = absurd (cc)
instance_text N naming i (Some name) some named = named

tree_instance : (N : NetlistView) (naming : Naming) (i : ℕ) (cell : CellView) (library : List ℕ) → CanWrite N naming → cell_at N i ≡ Some cell → cell_name naming.library cell.kind ≡ Some library
    → IsTreeItem (written naming i cell None (Some library))
tree_instance N naming i cell library w at is =
    let fits = fits_cell N naming i cell w at in
    record {
      cell = let P : Option (List ℕ) → Type 0 = λ o. IfSome o IsTreeName in subst P is (library_named naming.library cell.kind fits.is);
      name = instance_text N naming i cell.name (fits.named (rw is refl)) (tree_name N naming i cell w at);
      links = all_append IsTreeLink (operand_links naming (operand_ports naming.library cell.kind) cell.feeds) (output_links naming (output_port naming.library cell.kind) cell.output)
          (tree_links N naming (operand_ports naming.library cell.kind) cell.feeds w (ports_named naming.library cell.kind fits.is) (λ place feed read. feed_below N naming i cell place feed w at read))
          (tree_output_links N naming (output_port naming.library cell.kind) cell.output w (output_named naming.library cell.kind fits.is) (λ net out. driven_below N naming i cell net w at out));
    }

-- Continuous assignments.

first_is : (N : NetlistView) (naming : Naming) (feeds : List Feed) → CanWrite N naming → AreBelow N feeds → IsTreeOperand (first_operand naming feeds)
first_is N naming [] w below = tt
first_is N naming (feed ∷ feeds) w below = tree_operand N naming feed w (below 0 feed refl)

tree_assign : (N : NetlistView) (naming : Naming) (i : ℕ) (cell : CellView) → CanWrite N naming → cell_at N i ≡ Some cell → cell_name naming.library cell.kind ≡ None
    → IsTreeItem (written naming i cell None None)
tree_assign N naming i cell w at no_library =
    let fits = fits_cell N naming i cell w at in
    record {
      written = tree_output N naming i cell w at (fits.connected no_library);
      read = first_is N naming cell.feeds w (λ place feed read. feed_below N naming i cell place feed w at read);
    }

tree_item : (N : NetlistView) (naming : Naming) (i : ℕ) (cell : CellView) → CanWrite N naming → cell_at N i ≡ Some cell → IsTreeItem (item_of naming i cell)
tree_item N naming i cell w at = by_gate (gate_of cell.kind) refl
  where
    by_library : (l : Option (List ℕ)) → cell_name naming.library cell.kind ≡ l → IsTreeItem (written naming i cell None l)
    by_library None e = tree_assign N naming i cell w at e
    by_library (Some library) e = tree_instance N naming i cell library w at e

    by_gate : (g : Option GateKind) → gate_of cell.kind ≡ g → IsTreeItem (written naming i cell g (cell_name naming.library cell.kind))
    by_gate None e = by_library (cell_name naming.library cell.kind) refl
    by_gate (Some g) e = tree_gate N naming i cell g (cell_name naming.library cell.kind) w at e

all_items : (naming : Naming) (number : ℕ) (cells : List (Option CellView)) → ((k : ℕ) (cell : CellView) → live_cell (slice_get cells k) ≡ Some cell → IsTreeItem (item_of naming (number + k) cell))
    → AllByRecursion IsTreeItem (items_from naming number cells)
all_items naming number [] each = tt
all_items naming number (None ∷ cells) each =
    all_items naming (number + 1) cells (λ k cell at. let P : ℕ → Type 0 = λ n. IsTreeItem (item_of naming n cell) in let same : number + suc k ≡ (number + 1) + k = omega arith in subst P same (each (suc k) cell at))
all_items naming number (Some first ∷ cells) each =
    let zeroth : number + 0 ≡ number = omega arith in
    let F : ℕ → Type 0 = λ n. IsTreeItem (item_of naming n first) in (
      subst F zeroth (each 0 first refl),
      all_items naming (number + 1) cells (λ k cell at. let P : ℕ → Type 0 = λ n. IsTreeItem (item_of naming n cell) in let same : number + suc k ≡ (number + 1) + k = omega arith in subst P same (each (suc k) cell at)),
    )

-- Ports.

tree_range : (range : Option Range) → IfSome range IsShortRange → IfSome (option_map range_of range) IsTreeRange
tree_range None short = tt
tree_range (Some range) short = record { left = short.left; right = short.right }

port_named : (table : List (List ℕ)) (N : NetlistView) (p : ℕ) (view : PortView) → IsWellNamed table N → slice_get N.ports p ≡ Some view → IsTreeName (port_text table view.name)
port_named table N p view named at =
    let has = named.port_names p view at in
    let P : Name → Type 0 = λ name. IsTreeName (port_text table name) in
    subst P (sym has.1) (original_name table has.0 named.spelled has.2)

tree_ports : (table : List (List ℕ)) (N : NetlistView) → IsWellNamed table N → AllByRecursion IsTreePort (map (port_of table) N.ports)
tree_ports table N named = all_mapped IsTreePort (port_of table) N.ports (λ p view at. record { name = port_named table N p view named at; range = tree_range view.range (named.port_ranges p view at) })

-- Wires.

all_wires : (table : List (List ℕ)) (ports : List PortView) (found : List NetRow) → AreSpelled table → AllByRecursion (RowFits table ports) found → AllByRecursion IsTreeWire (map (wire_of table) found)
all_wires table ports [] spell all = tt
all_wires table ports (row ∷ found) spell all = (record { name = original_name table row.name spell all.0.known; range = all.0.short }, all_wires table ports found spell all.1)

added_fits : (P : Wire → Type 0) (prefix : List ℕ) (number : ℕ) (nets : List NetView) → ((k : ℕ) → k < number + length nets → P (record { name = added prefix 110 k; range = None }))
    → AllByRecursion P (added_from prefix number nets)
added_fits P prefix number [] each = tt
added_fits P prefix number (view ∷ nets) each =
    all_append P (added_wire prefix number view.name) (added_from prefix (number + 1) nets) (one view.name) (added_fits P prefix (number + 1) nets (λ k less. each k (omega arith)))
  where
    one : (name : Name) → AllByRecursion P (added_wire prefix number name)
    one (Original place) = tt
    one (Added other) = (each number (omega arith), tt)

-- a name is no port's

bytes_differ : (xs ys : List ℕ) → xs ≢ ys → bytes_eq xs ys ≡ false
bytes_differ xs ys apart = go (bytes_eq xs ys) refl
  where
    go : (b : Bool) → bytes_eq xs ys ≡ b → bytes_eq xs ys ≡ false
    go false e = e
    go true e = absurd (apart (grind (arith, bytes_eq-Decides xs ys)))

none_is_port : (table : List (List ℕ)) (ports : List PortView) (wire : Wire) → ((p : ℕ) (view : PortView) → slice_get ports p ≡ Some view → port_text table view.name ≢ wire.name)
    → IsFalse (is_port_net (map (port_of table) ports) wire)
none_is_port table [] wire apart = refl
none_is_port table (view ∷ ports) wire apart =
    rw (bytes_differ (port_text table view.name) wire.name (apart 0 view refl)) (none_is_port table ports wire (λ p other at. apart (suc p) other at))

-- a row's wire has no port's name
row_apart : (table : List (List ℕ)) (N : NetlistView) (row : NetRow) (p : ℕ) (view : PortView) → IsWellNamed table N → RowFits table N.ports row → slice_get N.ports p ≡ Some view
    → port_text table view.name ≢ original table row.name
row_apart table N row p view named fits at same =
    let has = named.port_names p view at in
    let number : ℕ = has.0 in
    let is : view.name ≡ Original number = has.1 in
    let mine = slice_get_there table number has.2 in
    let other = slice_get_there table row.name fits.known in
    let left : original table number ≡ mine.0 = ap (λ (o : Option (List ℕ)). unwrap_or o []) mine.1 in
    let right : original table row.name ≡ other.0 = ap (λ (o : Option (List ℕ)). unwrap_or o []) other.1 in
    let texts : mine.0 ≡ other.0 = sym left ∙ ap (port_text table) (sym is) ∙ same ∙ right in
    let one : number ≡ row.name = named.once number row.name mine.0 mine.1 (other.1 ∙ ap Some (sym texts)) in
    let test : ℕ → PortView → Bool = λ n port. is_original n port.name in
    let no : is_original row.name view.name ≡ false = none_at (λ (port : PortView). is_original row.name port.name) N.ports p view fits.apart at in
    let yes : is_original row.name (Original number) ≡ false = ap (is_original row.name) (sym is) ∙ no in
    grind arith

rows_apart : (table : List (List ℕ)) (N : NetlistView) (found : List NetRow) → IsWellNamed table N → AllByRecursion (RowFits table N.ports) found
    → AllByRecursion (λ (wire : Wire). IsFalse (is_port_net (map (port_of table) N.ports) wire)) (map (wire_of table) found)
rows_apart table N [] named all = tt
rows_apart table N (row ∷ found) named all =
    (none_is_port table N.ports (wire_of table row) (λ p view at. row_apart table N row p view named all.0 at), rows_apart table N found named all.1)

-- an added net has no port's name
added_apart : (linked : LinkedView) (prefix : List ℕ) (number p : ℕ) (view : PortView) → IsWellNamed linked.names linked.arena.lists → IsFreePrefix linked prefix
    → slice_get linked.arena.lists.ports p ≡ Some view → port_text linked.names view.name ≢ added prefix 110 number
added_apart linked prefix number p view named free at same =
    let has = named.port_names p view at in
    let place : ℕ = has.0 in
    let is : view.name ≡ Original place = has.1 in
    let mine = slice_get_there linked.names place has.2 in
    let left : original linked.names place ≡ mine.0 = ap (λ (o : Option (List ℕ)). unwrap_or o []) mine.1 in
    let text : mine.0 ≡ prefix ++ 110 ∷ decimal number = sym left ∙ ap (port_text linked.names) (sym is) ∙ same in
    let U : Name → Type 0 = IsUsed linked.arena.lists in
    free.free place (110 ∷ decimal number) (subst U is (port p view at)) (mine.1 ∙ ap Some text)

-- the tree is one that some text spells
pub is_tree : (linked : LinkedView) (prefix : List ℕ) → IsLinked linked.arena.lists linked.names linked.order → IsLaidOut linked.arena.lists → length linked.arena.lists.nets < 2 ^ 32
    → IsTreeName linked.module_name → IsFreePrefix linked prefix → ((i : ℕ) → IsSome (cell_at linked.arena.lists i) → i < 2 ^ 32) → IsTree (tree_of linked prefix)
is_tree linked prefix is laid few title free numbers =
    let N = linked.arena.lists in
    let table = linked.names in
    let named = is.named in
    let fits = all_rows table N named laid in
    let w : CanWrite N (naming_of linked prefix) = record { formed = is.formed; named = named; laid = laid; word = free.word; library_is = refl; nets_are = refl; nets = few; numbers = numbers } in
    let Apart : Wire → Type 0 = λ wire. IsFalse (is_port_net (map (port_of table) N.ports) wire) in
    record {
      name = title;
      ports = tree_ports table N named;
      wires = all_append IsTreeWire (map (wire_of table) (rows N.ports N.nets)) (added_from prefix 0 N.nets) (all_wires table N.ports (rows N.ports N.nets) named.spelled fits)
          (added_fits IsTreeWire prefix 0 N.nets (λ k less. record { name = added_name prefix 110 k free.word letter_n (omega arith); range = tt }));
      items = all_items (naming_of linked prefix) 0 N.cells (λ k cell at.
          let P : ℕ → Type 0 = λ n. IsTreeItem (item_of (naming_of linked prefix) n cell) in
          let same : k ≡ 0 + k = omega arith in
          subst P same (tree_item N (naming_of linked prefix) k cell w at));
      own_nets = all_append Apart (map (wire_of table) (rows N.ports N.nets)) (added_from prefix 0 N.nets) (rows_apart table N (rows N.ports N.nets) named fits)
          (added_fits Apart prefix 0 N.nets (λ k less. none_is_port table N.ports (record { name = added prefix 110 k; range = None }) (λ p view at. added_apart linked prefix k p view named free at)));
    }
