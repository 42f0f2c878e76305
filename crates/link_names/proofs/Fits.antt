-- Where no fault stands, the nets of an item are nets of the module, and its cell has the operands that its kind takes.
use Rattle.std.proofs.Common.{◌≡◌, ◌<◌, ◌≤◌, ℕ, Bool, true, false, cond, if◌then◌else◌, List, [], ◌∷◌, ◌++◌, map, length, All, Option, Some, None, refl, sym, ap, subst, ◌∙◌, arith}
use Rattle.std.specs.Prelude.{option_and_then, unwrap_or, MatchOption, IsTrue, ⊤, is_none, find}
use Rattle.std.specs.List.{flat_map}
use Rattle.std.specs.Option.{option_map, option_map_or}
use Rattle.std.specs.Str.{bytes_eq}
use Rattle.std.proofs.lemmas.Bool.Decides.{nat_tests}
use Rattle.std.proofs.lemmas.List.{length-map}
use Rattle.std.proofs.lemmas.List.Elements.{All-nil, All-cons, All-head, All-tail}
use Rattle.list_laws.proofs.Options.{or_else-parts, first_in-append}
use Rattle.verilog_tree.specs.declared.tree.Bit.{Bit}
use Rattle.verilog_tree.specs.declared.tree.Operand.{Operand}
use Rattle.verilog_tree.specs.declared.tree.Operand.TheVariants as operand
use Rattle.verilog_tree.specs.declared.tree.GateKind.{GateKind}
use Rattle.verilog_tree.specs.declared.tree.GateKind.TheVariants as gate
use Rattle.verilog_tree.specs.declared.tree.Link.{Link}
use Rattle.verilog_tree.specs.declared.tree.Instance.{Instance}
use Rattle.verilog_tree.specs.declared.tree.Item.{Item}
use Rattle.verilog_tree.specs.declared.tree.Item.TheVariants as item
use Rattle.verilog_tree.specs.Trees.{takes_inputs}
use Rattle.verilog_tree.specs.IsTree.{IsTreeItem}
use Rattle.cell_library.specs.declared.Kind.{Kind}
use Rattle.cell_library.specs.declared.Kind.TheVariants.{Buf}
use Rattle.cell_library.specs.Gates.{Takes}
use Rattle.cell_library.proofs.PortLaws.{found_takes}
use Rattle.cell_library.specs.Library.{kind_named, operand_ports, output_port}
use Rattle.netlist_model.specs.declared.Feed.TheVariants.{Const}
use Rattle.netlist_model.specs.declared.What.{What}
use Rattle.netlist_model.specs.declared.What.TheVariants.{Operands}
use Rattle.netlist_model.specs.Below.{IsFeedBelow, AreFeedsBelow, IsNetBelow}
use Rattle.link_model.specs.declared.fault.LinkFault.TheVariants.{CellUnknown}
use Rattle.link_model.specs.Lists.{or_else, first_in}
use Rattle.link_model.specs.Nets.{NetDeclaration, Declared, bits_in, names_from}
use Rattle.link_model.specs.Cells.{kind_of_gate, feed_of, linked_operand, port_feed, operand_net, port_net, library_cell, cell_of}
use Rattle.link_model.specs.Faults.{too_many, gate_operands, operand_bits, link_bits, item_bits, name_unknown, bit_outside, wrong_width, at_bit, cell_unknown, link_width, item_width}
use Rattle.link_model.specs.Fits.{FitsCell}
use Rattle.link_names.specs.FitItems.{FitsBit, FitsOperand, FitsConnected, FitsLink, FitsItem}
use Rattle.link_names.proofs.NetCounts.{net_fits}
use Rattle.cell_library.specs.declared.listed.ListedCell.{ListedCell}

-- no fault stands at these bits
pub record AreBits (names : List (List ℕ × Declared)) (bits : List Bit) : Type 0 where
  pub named : first_in (at_bit name_unknown names) bits ≡ None
  pub within : first_in (at_bit bit_outside names) bits ≡ None
  pub wide : first_in (at_bit wrong_width names) bits ≡ None

split_none : {X Y : Type 0} (test : X → Option Y) (xs ys : List X) → first_in test (xs ++ ys) ≡ None → (first_in test xs ≡ None) × (first_in test ys ≡ None)
split_none test xs ys h = or_else-parts (first_in test xs) (first_in test ys) (sym (first_in-append test xs ys) ∙ h)

front_bits : (names : List (List ℕ × Declared)) (xs ys : List Bit) → AreBits names (xs ++ ys) → AreBits names xs
front_bits names xs ys h = record {
  named = (split_none (at_bit name_unknown names) xs ys h.named).0;
  within = (split_none (at_bit bit_outside names) xs ys h.within).0;
  wide = (split_none (at_bit wrong_width names) xs ys h.wide).0;
}

back_bits : (names : List (List ℕ × Declared)) (xs ys : List Bit) → AreBits names (xs ++ ys) → AreBits names ys
back_bits names xs ys h = record {
  named = (split_none (at_bit name_unknown names) xs ys h.named).1;
  within = (split_none (at_bit bit_outside names) xs ys h.within).1;
  wide = (split_none (at_bit wrong_width names) xs ys h.wide).1;
}

bit_fits : (nets : List NetDeclaration) (bound : ℕ) (bit : Bit) → bits_in nets ≤ bound → AreBits (names_from 0 nets) (bit ∷ []) → FitsBit bound (names_from 0 nets) bit
bit_fits nets bound bit few h =
    let names : List (List ℕ × Declared) = names_from 0 nets in
    let f = net_fits nets bit
    (or_else-parts (at_bit name_unknown names bit) None h.named).0
    (or_else-parts (at_bit bit_outside names bit) None h.within).0
    (or_else-parts (at_bit wrong_width names bit) None h.wide).0 in
    omega (arith, f, few)

operand_fits : (nets : List NetDeclaration) (bound : ℕ) (o : Operand) → bits_in nets ≤ bound → AreBits (names_from 0 nets) (operand_bits o) → FitsOperand bound (names_from 0 nets) o
operand_fits nets bound (operand.Bit bit) few h = bit_fits nets bound bit few h
operand_fits nets bound (operand.Const value) few h = tt

operands_fit : (nets : List NetDeclaration) (bound : ℕ) (os : List Operand) → bits_in nets ≤ bound → AreBits (names_from 0 nets) (flat_map operand_bits os) → All (FitsOperand bound (names_from 0 nets)) os
operands_fit nets bound [] few h = All-nil _
operands_fit nets bound (o ∷ os) few h =
    All-cons (FitsOperand bound (names_from 0 nets)) o os
    (operand_fits nets bound o few (front_bits (names_from 0 nets) (operand_bits o) (flat_map operand_bits os) h))
    (operands_fit nets bound os few (back_bits (names_from 0 nets) (operand_bits o) (flat_map operand_bits os) h))

connected_fits : (nets : List NetDeclaration) (bound : ℕ) (o : Option Operand) → bits_in nets ≤ bound → AreBits (names_from 0 nets) (option_map_or operand_bits o []) → FitsConnected bound (names_from 0 nets) o
connected_fits nets bound None few h = tt
connected_fits nets bound (Some o) few h = operand_fits nets bound o few h

links_fit : (nets : List NetDeclaration) (bound : ℕ) (links : List Link) → bits_in nets ≤ bound → AreBits (names_from 0 nets) (flat_map link_bits links) → All (FitsLink bound (names_from 0 nets)) links
links_fit nets bound [] few h = All-nil _
links_fit nets bound (l ∷ links) few h =
    All-cons (FitsLink bound (names_from 0 nets)) l links
    (connected_fits nets bound l.operand few (front_bits (names_from 0 nets) (link_bits l) (flat_map link_bits links) h))
    (links_fit nets bound links few (back_bits (names_from 0 nets) (link_bits l) (flat_map link_bits links) h))

-- Widths of links.

or_none_right : {X : Type 0} (a : Option X) → a ≡ None → or_else a None ≡ None
or_none_right None h = refl
or_none_right (Some x) h = h

both_none : {X : Type 0} (a b : Option X) → a ≡ None → b ≡ None → or_else a b ≡ None
both_none None b h k = k
both_none (Some x) b h k = absurd (cc)

connected_wide : (library : List ListedCell) (names : List (List ℕ × Declared)) (i : Instance) (kind : Kind) (port : List ℕ) (o : Option Operand)
    → link_width library names i kind (record { port = port; operand = o }) ≡ None → first_in (at_bit wrong_width names) (option_map_or operand_bits o []) ≡ None
connected_wide library names i kind port None h = refl
connected_wide library names i kind port (Some (operand.Bit bit)) h = or_none_right (at_bit wrong_width names bit) h
connected_wide library names i kind port (Some (operand.Const value)) h = refl

links_wide : (library : List ListedCell) (names : List (List ℕ × Declared)) (i : Instance) (kind : Kind) (links : List Link) → first_in (link_width library names i kind) links ≡ None → first_in (at_bit wrong_width names) (flat_map link_bits links) ≡ None
links_wide library names i kind [] h = refl
links_wide library names i kind (l ∷ links) h =
    let two = or_else-parts (link_width library names i kind l) (first_in (link_width library names i kind) links) h in
    first_in-append (at_bit wrong_width names) (link_bits l) (flat_map link_bits links)
    ∙ both_none (first_in (at_bit wrong_width names) (link_bits l)) (first_in (at_bit wrong_width names) (flat_map link_bits links)) (connected_wide library names i kind l.port l.operand two.0) (links_wide library names i kind links two.1)

-- Items.

-- no fault stands at an item
pub record IsSound (library : List ListedCell) (names : List (List ℕ × Declared)) (i : Item) : Type 0 where
  pub named : first_in (at_bit name_unknown names) (item_bits i) ≡ None
  pub within : first_in (at_bit bit_outside names) (item_bits i) ≡ None
  pub cell : cell_unknown library i ≡ None
  pub wide : item_width library names i ≡ None

driver_bits : (names : List (List ℕ × Declared)) (bit : Bit) (bits : List Bit) → first_in (at_bit name_unknown names) (bit ∷ bits) ≡ None → first_in (at_bit bit_outside names) (bit ∷ bits) ≡ None
    → first_in (at_bit wrong_width names) (bit ∷ bits) ≡ None → AreBits names ((bit ∷ []) ++ bits)
driver_bits names bit bits n w d = record { named = n; within = w; wide = d }

known_kind : (library : List ListedCell) (i : Instance) (r : Option Kind) → kind_named library i.cell ≡ r → cell_unknown library (item.Instance i) ≡ None → (kind : Kind) × (kind_named library i.cell ≡ Some kind)
known_kind library i (Some kind) e h = (kind, e)
known_kind library i None e h = let there : Some (CellUnknown i.cell) ≡ None = sym (ap (λ (r : Option Kind). if is_none r then Some (CellUnknown i.cell) else None) e) ∙ h in absurd (cc)

pub item_fits : (library : List ListedCell) (nets : List NetDeclaration) (bound : ℕ) (i : Item) → bits_in nets ≤ bound → IsSound library (names_from 0 nets) i → FitsItem bound (names_from 0 nets) i
item_fits library nets bound (item.Gate g) few h =
    let bits = driver_bits (names_from 0 nets) g.output (flat_map operand_bits g.inputs) h.named h.within h.wide in
    record {
      output = bit_fits nets bound g.output few (front_bits (names_from 0 nets) (g.output ∷ []) (flat_map operand_bits g.inputs) bits);
      inputs = operands_fit nets bound g.inputs few (back_bits (names_from 0 nets) (g.output ∷ []) (flat_map operand_bits g.inputs) bits);
    }
item_fits library nets bound (item.Instance i) few h =
    let names : List (List ℕ × Declared) = names_from 0 nets in
    let k = known_kind library i (kind_named library i.cell) refl h.cell in
    let wide : first_in (link_width library names i k.0) i.links ≡ None = sym (ap (option_and_then (λ kind. first_in (link_width library names i kind) i.links)) k.1) ∙ h.wide in
    links_fit nets bound i.links few (record { named = h.named; within = h.within; wide = links_wide library names i k.0 i.links wide })
item_fits library nets bound (item.Assign output input) few h =
    let bits = driver_bits (names_from 0 nets) output (operand_bits input) h.named h.within h.wide in (
      bit_fits nets bound output few (front_bits (names_from 0 nets) (output ∷ []) (operand_bits input) bits),
      operand_fits nets bound input few (back_bits (names_from 0 nets) (output ∷ []) (operand_bits input) bits),
    )

-- What a link connects fits.

linked_connected : (bound : ℕ) (names : List (List ℕ × Declared)) (links : List Link) (port : List ℕ) → All (FitsLink bound names) links → FitsConnected bound names (linked_operand links port)
linked_connected bound names [] port h = tt
linked_connected bound names (l ∷ links) port h = by (bytes_eq l.port port) (All-head (FitsLink bound names) l links h) (linked_connected bound names links port (All-tail (FitsLink bound names) l links h))
  where
    by : (b : Bool) → FitsConnected bound names l.operand → FitsConnected bound names (linked_operand links port)
        → FitsConnected bound names (option_and_then (λ (k : Link). k.operand) (cond b (Some l) (find (λ (k : Link). bytes_eq k.port port) links)))
    by true here rest = here
    by false here rest = rest

pub linked_fits : (bound : ℕ) (names : List (List ℕ × Declared)) (links : List Link) (port : List ℕ) (o : Operand) → All (FitsLink bound names) links → Some o ≡ linked_operand links port → FitsOperand bound names o
linked_fits bound names links port o h e = subst (FitsConnected bound names) (sym e) (linked_connected bound names links port h)

-- Cells.

feed_below : (nets : ℕ) (names : List (List ℕ × Declared)) (o : Operand) → FitsOperand nets names o → IsFeedBelow nets (feed_of names o)
feed_below nets names (operand.Bit bit) h = h
feed_below nets names (operand.Const value) h = tt

feeds_below : (nets : ℕ) (names : List (List ℕ × Declared)) (os : List Operand) → All (FitsOperand nets names) os → AreFeedsBelow nets (map (feed_of names) os)
feeds_below nets names [] h = All-nil _
feeds_below nets names (o ∷ os) h =
    All-cons (IsFeedBelow nets) (feed_of names o) (map (feed_of names) os) (feed_below nets names o (All-head (FitsOperand nets names) o os h)) (feeds_below nets names os (All-tail (FitsOperand nets names) o os h))

connected_below : (nets : ℕ) (names : List (List ℕ × Declared)) (o : Option Operand) → FitsConnected nets names o → IsFeedBelow nets (unwrap_or (option_map (feed_of names) o) (Const false))
connected_below nets names None h = tt
connected_below nets names (Some o) h = feed_below nets names o h

port_feeds_below : (nets : ℕ) (names : List (List ℕ × Declared)) (links : List Link) (ports : List (List ℕ)) → All (FitsLink nets names) links → AreFeedsBelow nets (map (port_feed names links) ports)
port_feeds_below nets names links [] h = All-nil _
port_feeds_below nets names links (p ∷ ports) h =
    All-cons (IsFeedBelow nets) (port_feed names links p) (map (port_feed names links) ports)
    (connected_below nets names (linked_operand links p) (linked_connected nets names links p h))
    (port_feeds_below nets names links ports h)

connected_net : (nets : ℕ) (names : List (List ℕ × Declared)) (o : Option Operand) → FitsConnected nets names o → MatchOption (option_and_then (operand_net names) o) ⊤ (IsNetBelow nets)
connected_net nets names None h = tt
connected_net nets names (Some (operand.Bit bit)) h = h
connected_net nets names (Some (operand.Const value)) h = tt

output_below : (nets : ℕ) (names : List (List ℕ × Declared)) (links : List Link) (port : Option (List ℕ)) → All (FitsLink nets names) links → MatchOption (option_and_then (port_net names links) port) ⊤ (IsNetBelow nets)
output_below nets names links None h = tt
output_below nets names links (Some port) h = connected_net nets names (linked_operand links port) (linked_connected nets names links port h)

gate_takes : (library : List ListedCell) (kind : GateKind) (n : ℕ) → IsTrue (takes_inputs kind n) → 0 < n → n ≤ 256 → Takes library (kind_of_gate kind) n
gate_takes library gate.And n t some most = (omega arith, most)
gate_takes library gate.Or n t some most = (omega arith, most)
gate_takes library gate.Nand n t some most = (omega arith, most)
gate_takes library gate.Nor n t some most = (omega arith, most)
gate_takes library gate.Xor n t some most = (omega arith, most)
gate_takes library gate.Xnor n t some most = (omega arith, most)
gate_takes library gate.Buf n t some most = grind (arith, nat_tests, t)
gate_takes library gate.Not n t some most = grind (arith, nat_tests, t)
gate_takes library gate.Bufif0 n t some most = grind (arith, nat_tests, t)
gate_takes library gate.Bufif1 n t some most = grind (arith, nat_tests, t)

pub within_limit : (things : What) (limit n : ℕ) → too_many things limit n ≡ None → n ≤ limit
within_limit things limit n h = grind (arith, nat_tests, h)

pub cell_fits : (library : List ListedCell) (nets : ℕ) (names : List (List ℕ × Declared)) (i : Item) → IsTreeItem i → cell_unknown library i ≡ None → too_many Operands 256 (gate_operands i) ≡ None → FitsItem nets names i → FitsCell library nets (cell_of library names i)
cell_fits library nets names (item.Gate g) tree cell few h = record {
  count = subst (Takes library (kind_of_gate g.kind)) (sym (length-map g.inputs (feed_of names))) (gate_takes library g.kind (length g.inputs) tree.takes tree.reads (within_limit Operands 256 (length g.inputs) few));
  feeds = feeds_below nets names g.inputs h.inputs;
  output = h.output;
}
cell_fits library nets names (item.Instance i) tree cell few h =
    let k = known_kind library i (kind_named library i.cell) refl cell in
    let fits : FitsCell library nets (library_cell library names i k.0) = record {
      count = subst (Takes library k.0) (sym (length-map (operand_ports library k.0) (port_feed names i.links))) (found_takes library i.cell k.0 k.1);
      feeds = port_feeds_below nets names i.links (operand_ports library k.0) h;
      output = output_below nets names i.links (output_port library k.0) h;
    } in
    subst (λ (r : Option Kind). FitsCell library nets (library_cell library names i (unwrap_or r Buf))) (sym k.1) fits
cell_fits library nets names (item.Assign output input) tree cell few h = record {
  count = refl;
  feeds = All-cons (IsFeedBelow nets) (feed_of names input) [] (feed_below nets names input h.1) (All-nil _);
  output = h.0;
}
