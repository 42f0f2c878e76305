-- An item keeps its cell's kind, name and count of operands.
use Rattle.std.proofs.Common.{◌≡◌, ℕ, List, [], ◌++◌, length, map, refl, ap, sym, ◌∙◌, subst, Option, Some, None, arith}
use Rattle.std.specs.Prelude.{IsSome, unwrap_or}
use Rattle.std.specs.Option.{option_map}
use Rattle.std.proofs.lemmas.List.{length-map}
use Rattle.verilog_tree.specs.declared.tree.GateKind.{GateKind}
use Rattle.verilog_tree.specs.declared.tree.GateKind.TheVariants as gate
use Rattle.cell_library.specs.declared.Kind.{Kind}
use Rattle.cell_library.specs.declared.Kind.TheVariants as kind
use Rattle.cell_library.specs.Gates.{Takes}
use Rattle.cell_library.specs.Library.{cell_name, kind_named, operand_ports, output_port}
use Rattle.cell_library.proofs.NameLaws.{named_is_found}
use Rattle.netlist_model.specs.declared.Name.{Name}
use Rattle.netlist_model.specs.Lists.{CellView, NetlistView}
use Rattle.netlist_model.specs.Formed.{IsWellFormed}
use Rattle.link_model.specs.Nets.{Declared}
use Rattle.link_model.specs.Cells.{cell_of, feed_of, kind_of_gate, port_feed}
use Rattle.netlist_link.specs.WellNamed.{IsWellNamed}
use Rattle.netlist_unlink.specs.Trees.{Naming, cell_text, gate_of, operand_links, operand_of, output_links, written}
use Rattle.netlist_unlink.specs.Kept.{AreKept, IsKept}
use Rattle.netlist_unlink.proofs.Facts.{FitsLibrary, assign_kind, fits_library, library_count}

pub gate_back : (k : Kind) (g : GateKind) → gate_of k ≡ Some g → kind_of_gate g ≡ k
gate_back kind.And g e = let same : gate.And ≡ g = grind arith in ap kind_of_gate (sym same)
gate_back kind.Or g e = let same : gate.Or ≡ g = grind arith in ap kind_of_gate (sym same)
gate_back kind.Nand g e = let same : gate.Nand ≡ g = grind arith in ap kind_of_gate (sym same)
gate_back kind.Nor g e = let same : gate.Nor ≡ g = grind arith in ap kind_of_gate (sym same)
gate_back kind.Xor g e = let same : gate.Xor ≡ g = grind arith in ap kind_of_gate (sym same)
gate_back kind.Xnor g e = let same : gate.Xnor ≡ g = grind arith in ap kind_of_gate (sym same)
gate_back kind.Buf g e = let same : gate.Buf ≡ g = grind arith in ap kind_of_gate (sym same)
gate_back kind.Not g e = let same : gate.Not ≡ g = grind arith in ap kind_of_gate (sym same)
gate_back kind.Bufif0 g e = let same : gate.Bufif0 ≡ g = grind arith in ap kind_of_gate (sym same)
gate_back kind.Bufif1 g e = let same : gate.Bufif1 ≡ g = grind arith in ap kind_of_gate (sym same)
gate_back kind.Assign g e = absurd (cc)
gate_back kind.Mux2 g e = absurd (cc)
gate_back (kind.Flop flop) g e = absurd (cc)
gate_back (kind.Listed number) g e = absurd (cc)

kept_gate : (names : List (List ℕ × Declared)) (naming : Naming) (i : ℕ) (cell : CellView) (g : GateKind) (library : Option (List ℕ)) → gate_of cell.kind ≡ Some g
    → IsKept naming i cell (cell_of naming.library names (written naming i cell (Some g) library))
kept_gate names naming i cell g library is = record {
  kind = gate_back cell.kind g is;
  name = refl;
  count = length-map (map (operand_of naming) cell.feeds) (feed_of names) ∙ length-map cell.feeds (operand_of naming);
}

some_text : (naming : Naming) (i : ℕ) (o : Option Name) → IsSome o → Some (unwrap_or (option_map (cell_text naming i) o) []) ≡ option_map (cell_text naming i) o
some_text naming i None some = absurd (cc)
some_text naming i (Some name) some = refl

kept_instance : (names : List (List ℕ × Declared)) (naming : Naming) (i : ℕ) (cell : CellView) (library : List ℕ) → FitsLibrary naming.library cell
    → cell_name naming.library cell.kind ≡ Some library → IsKept naming i cell (cell_of naming.library names (written naming i cell None (Some library)))
kept_instance names naming i cell library fits is =
    let back : unwrap_or (kind_named naming.library library) kind.Buf ≡ cell.kind = ap (λ (o : Option Kind). unwrap_or o kind.Buf) (named_is_found naming.library fits.is cell.kind library is) in
    record {
      kind = back;
      name = some_text naming i cell.name (fits.named (rw is refl));
      count = feeds_count (unwrap_or (kind_named naming.library library) kind.Buf) back;
    }
  where
    feeds_count : (k : Kind) → k ≡ cell.kind → length (map (port_feed names (operand_links naming (operand_ports naming.library cell.kind) cell.feeds ++ output_links naming (output_port naming.library cell.kind) cell.output)) (operand_ports naming.library k)) ≡ length cell.feeds
    feeds_count k same =
        length-map (operand_ports naming.library k) (port_feed names (operand_links naming (operand_ports naming.library cell.kind) cell.feeds ++ output_links naming (output_port naming.library cell.kind) cell.output))
        ∙ ap (λ (x : Kind). length (operand_ports naming.library x)) same ∙ sym (library_count naming.library cell.kind library (length cell.feeds) fits.is is fits.takes)

kept_assign : (names : List (List ℕ × Declared)) (naming : Naming) (i : ℕ) (cell : CellView) → FitsLibrary naming.library cell
    → gate_of cell.kind ≡ None → cell_name naming.library cell.kind ≡ None → IsKept naming i cell (cell_of naming.library names (written naming i cell None None))
kept_assign names naming i cell fits no_gate no_library =
    let is = assign_kind naming.library cell.kind (length cell.feeds) fits.takes no_gate no_library in
    let none = fits.unnamed is in
    let T : Kind → Type 0 = λ k. Takes naming.library k (length cell.feeds) in
    let one : length cell.feeds ≡ 1 = subst T is fits.takes in
    record {
      kind = sym is;
      name = sym (ap (option_map (cell_text naming i)) none);
      count = sym one;
    }

pub are_kept : (N : NetlistView) (naming : Naming) → naming.library ≡ N.library → IsWellNamed naming.table N → IsWellFormed N → AreKept N naming
are_kept N naming same named formed names i cell at = by_gate (gate_of cell.kind) refl
  where
    fits : FitsLibrary naming.library cell
    fits = fits_library naming.table N naming.library i cell same named formed at

    by_library : (l : Option (List ℕ)) → cell_name naming.library cell.kind ≡ l → gate_of cell.kind ≡ None → IsKept naming i cell (cell_of naming.library names (written naming i cell None l))
    by_library None e none = kept_assign names naming i cell fits none e
    by_library (Some library) e none = kept_instance names naming i cell library fits e

    by_gate : (g : Option GateKind) → gate_of cell.kind ≡ g → IsKept naming i cell (cell_of naming.library names (written naming i cell g (cell_name naming.library cell.kind)))
    by_gate None e = by_library (cell_name naming.library cell.kind) refl e
    by_gate (Some g) e = kept_gate names naming i cell g (cell_name naming.library cell.kind) e
