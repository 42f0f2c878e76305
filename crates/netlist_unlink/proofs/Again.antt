-- A tree that was linked and written again.
use Rattle.std.proofs.Common.{◌≡◌, ℕ, ◌+◌, ◌^◌, ◌<◌, ◌≤◌, Bool, true, false, List, [], ◌∷◌, length, map, refl, ap, sym, ◌∙◌, Option, Some, None, arith}
use Rattle.std.specs.Prelude.{nat_lt, IsSome}
use Rattle.std.proofs.lemmas.Bool.Decides.{nat_tests}
use Rattle.std.proofs.lemmas.List.{length-map}
use Rattle.std.proofs.lemmas.List.Sums.{sum_by-cons}
use Rattle.list_laws.proofs.Lists.{AreAll-length, length-counted_from}
use Rattle.list_laws.proofs.Options.{or_else-parts}
use Rattle.cell_library.specs.declared.listed.ListedCell.{ListedCell}
use Rattle.verilog_tree.specs.declared.tree.Item.{Item}
use Rattle.verilog_tree.specs.declared.tree.Module.{Module}
use Rattle.verilog_tree.specs.declared.tree.Port.{Port}
use Rattle.netlist_model.specs.declared.What.{What}
use Rattle.netlist_model.specs.declared.What.TheVariants as what
use Rattle.netlist_model.specs.Lists.{NetlistView, cell_at, cell_count}
use Rattle.link_model.specs.declared.fault.LinkFault.{LinkFault}
use Rattle.link_model.specs.declared.fault.LinkFault.TheVariants as fault
use Rattle.link_model.specs.Lists.{first_in, or_else}
use Rattle.link_model.specs.Nets.{NetDeclaration, bits_in, declared_names, declared_nets, nets_in, port_nets, width}
use Rattle.link_model.specs.Cells.{cell_of}
use Rattle.link_model.specs.Denoted.{IsNamed, IsNet, NamedNetlist, denoted}
use Rattle.link_model.specs.Faults.{bit_faults, cells_in, counted, driver_fault, early_fault, gate_operands, instance_faults, item_width, name_twice, text_fault, too_many, too_many_in}
use Rattle.netlist_link.proofs.link_names.NetCounts.{length-nets_in}
use Rattle.netlist_link.specs.Linked.{LinkedView}
use Rattle.netlist_unlink.specs.Trees.{naming_of, tree_of}
use Rattle.netlist_unlink.specs.Prefixes.{IsFreePrefix}
use Rattle.netlist_unlink.specs.Renumbered.{DenotesSame, passed_limit, port_numbers}
use Rattle.netlist_unlink.proofs.Denotes.{items_count}
use Rattle.netlist_unlink.proofs.Keys.{CanName}
use Rattle.netlist_unlink.proofs.Law.{is_written}
use Rattle.netlist_unlink.proofs.Undone.{IsJustLinked, port_count, ports_counted, same_again}

-- a count that isn't too many
within_limit : (things : What) (limit count : ℕ) → too_many things limit count ≡ None → count ≤ limit
within_limit things limit count none = go (nat_lt limit count) refl
  where
    go : (b : Bool) → nat_lt limit count ≡ b → count ≤ limit
    go false e = grind (arith, nat_tests)
    go true e = absurd (let bad : Some (fault.TooMany things (counted count) limit) ≡ None = (rw e at none) in cc)

-- the counts of a module that can be linked
record IsFew (m : Module) : Type 0 where
  cells : too_many what.Cells 262144 (length m.items) ≡ None
  nets : too_many what.Nets 524288 (bits_in (declared_nets m)) ≡ None
  ports : too_many what.Ports 4096 (bits_in (map port_nets m.ports)) ≡ None

is_few : (library : List ListedCell) (m : Module) → early_fault library m ≡ None → IsFew m
is_few library m early =
    let operands : Option LinkFault = first_in (λ (i : Item). too_many what.Operands 256 (gate_operands i)) m.items in
    let widths : Option LinkFault = first_in (item_width library (declared_names m)) m.items in
    let text = or_else-parts (text_fault library m) (driver_fault (nets_in (declared_nets m)) (cells_in library m)) early in
    let many = or_else-parts (too_many_in m) (or_else (name_twice m) (or_else (bit_faults m) (or_else (instance_faults library m) widths))) text.0 in
    let one = or_else-parts (too_many what.Cells 262144 (length m.items)) (or_else (too_many what.Nets 524288 (bits_in (declared_nets m))) (or_else (too_many what.Ports 4096 (bits_in (map port_nets m.ports))) operands)) many.0 in
    let two = or_else-parts (too_many what.Nets 524288 (bits_in (declared_nets m))) (or_else (too_many what.Ports 4096 (bits_in (map port_nets m.ports))) operands) one.1 in
    let three = or_else-parts (too_many what.Ports 4096 (bits_in (map port_nets m.ports))) operands two.1 in
    record { cells = one.0; nets = two.0; ports = three.0 }

port_bits_in : (ports : List Port) → bits_in (map port_nets ports) ≡ port_count ports
port_bits_in [] = refl
port_bits_in (p ∷ ports) = sum_by-cons (λ (n : NetDeclaration). width n.range) (port_nets p) (map port_nets ports) ∙ ap (λ (n : ℕ). width p.range + n) (port_bits_in ports)

live_few : (table : List (List ℕ)) (N : NetlistView) (m : Module) (i : ℕ) → IsNamed table N (denoted N.library m) → early_fault N.library m ≡ None → IsSome (cell_at N i) → i < 2 ^ 32
live_few table N m i is early live =
    let less = is.cells.only i live in
    let count = length-map m.items (cell_of N.library (declared_names m)) in
    let few = within_limit what.Cells 262144 (length m.items) (is_few N.library m early).cells in
    omega arith

none_passed : (table : List (List ℕ)) (N : NetlistView) (m : Module) → IsJustLinked table N m → IsFew m → cell_count N ≡ length m.items → passed_limit N ≡ None
none_passed table N m w few cells =
    let nets : length N.nets ≡ bits_in (declared_nets m) = AreAll-length (IsNet table) N.nets (nets_in (declared_nets m)) w.is.nets ∙ length-nets_in (declared_nets m) in
    let ports : length (port_numbers N.ports) ≡ bits_in (map port_nets m.ports) =
    ap (λ (xs : List ℕ). length xs) (ports_counted table 0 N.ports m.ports w.is.ports) ∙ length-counted_from 0 (port_count m.ports) ∙ sym (port_bits_in m.ports) in
    let c : too_many what.Cells 262144 (cell_count N) ≡ None = ap (too_many what.Cells 262144) cells ∙ few.cells in
    let n : too_many what.Nets 524288 (length N.nets) ≡ None = ap (too_many what.Nets 524288) nets ∙ few.nets in
    let p : too_many what.Ports 4096 (length (port_numbers N.ports)) ≡ None = ap (too_many what.Ports 4096) ports ∙ few.ports in
    ap (λ (o : Option LinkFault). or_else o (or_else (too_many what.Nets 524288 (length N.nets)) (too_many what.Ports 4096 (length (port_numbers N.ports))))) c
    ∙ ap (λ (o : Option LinkFault). or_else o (too_many what.Ports 4096 (length (port_numbers N.ports)))) n ∙ p

pub denotes_same : (m : Module) (linked : LinkedView) (prefix : List ℕ) → early_fault linked.arena.lists.library m ≡ None → IsJustLinked linked.names linked.arena.lists m → IsFreePrefix linked prefix → length linked.arena.lists.nets < 2 ^ 32
    → DenotesSame linked.arena.lists.library m (tree_of linked prefix)
denotes_same m linked prefix early w free few =
    let N : NetlistView = linked.arena.lists in
    let can : CanName linked prefix = record { are = w.are; free = free; few = few; numbers = λ i live. live_few linked.names N m i w.is early live } in
    let is = is_written linked prefix can in
    let same : denoted N.library (tree_of linked prefix) ≡ denoted N.library m = is.denotes ∙ same_again linked.names prefix N m w in
    let items : length (tree_of linked prefix).items ≡ length m.items =
    sym (length-map (tree_of linked prefix).items (cell_of N.library (declared_names (tree_of linked prefix)))) ∙ ap (λ (M : NamedNetlist). length M.cells) same ∙ length-map m.items (cell_of N.library (declared_names m)) in
    let cells : cell_count N ≡ length m.items = sym (items_count (naming_of linked prefix) 0 N.cells) ∙ items in
    record { denotes = same; links = is.links (none_passed linked.names N m w (is_few N.library m early) cells) }
