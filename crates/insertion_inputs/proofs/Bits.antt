-- The ports of a module that can be linked have 4,096 bits at most.
use Rattle.std.proofs.Common.{◌≡◌, ℕ, ◌+◌, ◌≤◌, Bool, true, false, cond, List, [], ◌∷◌, map, length, Option, Some, None, refl, ap, ◌∙◌, arith, ltb-false}
use Rattle.std.specs.Prelude.{nat_lt}
use Rattle.std.proofs.lemmas.List.{length-map}
use Rattle.std.proofs.lemmas.List.Sums.{sum_by-cons}
use Rattle.list_laws.specs.Lists.{AreAll, counted_from}
use Rattle.list_laws.proofs.Lists.{length-counted_from}
use Rattle.list_laws.proofs.Options.{or_else-parts}
use Rattle.verilog_tree.specs.declared.tree.Module.{Module}
use Rattle.verilog_tree.specs.declared.tree.Item.{Item}
use Rattle.verilog_tree.specs.declared.tree.Port.{Port}
use Rattle.netlist_model.specs.declared.What.{What}
use Rattle.netlist_model.specs.declared.What.TheVariants as what
use Rattle.netlist_model.specs.declared.NetId.{NetId}
use Rattle.netlist_model.specs.Lists.{PortView}
use Rattle.netlist_arena.specs.Arena.{bit_count}
use Rattle.cell_library.specs.declared.listed.ListedCell.{ListedCell}
use Rattle.link_model.specs.declared.fault.LinkFault.{LinkFault}
use Rattle.link_model.specs.declared.fault.LinkFault.TheVariants as fault
use Rattle.link_model.specs.Lists.{or_else, first_in}
use Rattle.link_model.specs.Nets.{NetDeclaration, port_nets, declared_nets, declared_names, nets_in, bits_in, width}
use Rattle.link_model.specs.Faults.{too_many, too_many_in, counted, gate_operands, name_twice, bit_faults, instance_faults, item_width, cells_in, text_fault, driver_fault, early_fault}
use Rattle.link_model.specs.Denoted.{IsPort, ports_from, net_id}
use Rattle.netlist_link.specs.Linked.{LinkedView}
use Rattle.netlist_link.specs.Links.{IsLinkOf}

within : (things : What) (limit count : ℕ) → too_many things limit count ≡ None → count ≤ limit
within things limit count none = by (nat_lt limit count) refl none
  where
    by : (b : Bool) → nat_lt limit count ≡ b → cond b (Some (fault.TooMany things (counted count) limit)) None ≡ None → count ≤ limit
    by true e told = absurd (cc)
    by false e told = ltb-false limit count e

ports_few : (library : List ListedCell) (m : Module) → early_fault library m ≡ None → bits_in (map port_nets m.ports) ≤ 4096
ports_few library m early =
    let operands : Option LinkFault = first_in (λ (i : Item). too_many what.Operands 256 (gate_operands i)) m.items in
    let widths : Option LinkFault = first_in (item_width library (declared_names m)) m.items in
    let text = or_else-parts (text_fault library m) (driver_fault (nets_in (declared_nets m)) (cells_in library m)) early in
    let many = or_else-parts (too_many_in m) (or_else (name_twice m) (or_else (bit_faults m) (or_else (instance_faults library m) widths))) text.0 in
    let one = or_else-parts (too_many what.Cells 262144 (length m.items)) (or_else (too_many what.Nets 524288 (bits_in (declared_nets m))) (or_else (too_many what.Ports 4096 (bits_in (map port_nets m.ports))) operands)) many.0 in
    let two = or_else-parts (too_many what.Nets 524288 (bits_in (declared_nets m))) (or_else (too_many what.Ports 4096 (bits_in (map port_nets m.ports))) operands) one.1 in
    let three = or_else-parts (too_many what.Ports 4096 (bits_in (map port_nets m.ports))) operands two.1 in
    within what.Ports 4096 (bits_in (map port_nets m.ports)) three.0

bits_same : (table : List (List ℕ)) (first : ℕ) (ports : List PortView) (qs : List Port) → AreAll (IsPort table) ports (ports_from first qs) → bit_count ports ≡ bits_in (map port_nets qs)
bits_same table first [] [] all = refl
bits_same table first [] (q ∷ qs) all = absurd all
bits_same table first (port ∷ ports) [] all = absurd all
bits_same table first (port ∷ ports) (q ∷ qs) all =
    let rest : bit_count ports ≡ bits_in (map port_nets qs) = bits_same table (first + width q.range) ports qs all.1 in
    let here : length port.nets ≡ width q.range =
    ap (λ (nets : List NetId). length nets) all.0.nets ∙ length-map (counted_from first (width q.range)) net_id ∙ length-counted_from first (width q.range) in
    let left : bit_count (port ∷ ports) ≡ length port.nets + bit_count ports = sum_by-cons (λ (p : PortView). length p.nets) port ports in
    let right : bits_in (map port_nets (q ∷ qs)) ≡ width q.range + bits_in (map port_nets qs) = sum_by-cons (λ (n : NetDeclaration). width n.range) (port_nets q) (map port_nets qs) in
    omega arith

pub bits_few : (m : Module) (linked : LinkedView) → IsLinkOf m linked → bit_count linked.arena.lists.ports ≤ 4096
bits_few m linked links =
    let same : bit_count linked.arena.lists.ports ≡ bits_in (map port_nets m.ports) = bits_same linked.names 0 linked.arena.lists.ports m.ports links.denoted.ports in
    let few : bits_in (map port_nets m.ports) ≤ 4096 = ports_few linked.arena.lists.library m links.linkable.early in
    omega arith
