-- The net that an item drives, at its place and in the flat module, is that of one bit.
use Rattle.std.proofs.Common.{ℕ, Bool, true, false, cond, List, [], ◌∷◌, map, find, Option, Some, None, MatchOption, sym, subst, unwrap_or}
use Rattle.std.specs.Bool.{⊤}
use Rattle.std.specs.List.{flat_map, AllByRecursion}
use Rattle.std.specs.Option.{option_map, option_map_or, option_and_then}
use Rattle.std.specs.Str.{bytes_eq}
use Rattle.list_laws.proofs.Lists.{all_front, all_back}
use Rattle.verilog_tree.specs.declared.tree.Bit.{Bit}
use Rattle.verilog_tree.specs.declared.tree.Operand.{Operand}
use Rattle.verilog_tree.specs.declared.tree.Operand.TheVariants as operand
use Rattle.verilog_tree.specs.declared.tree.Link.{Link}
use Rattle.verilog_tree.specs.declared.tree.Instance.{Instance}
use Rattle.verilog_tree.specs.declared.tree.Item.{Item}
use Rattle.verilog_tree.specs.declared.tree.Item.TheVariants as item
use Rattle.cell_library.specs.declared.listed.ListedCell.{ListedCell}
use Rattle.cell_library.specs.declared.Kind.{Kind}
use Rattle.cell_library.specs.declared.Kind.TheVariants as kind
use Rattle.cell_library.specs.Library.{kind_named, output_port}
use Rattle.netlist_model.specs.declared.NetId.{NetId}
use Rattle.link_model.specs.Nets.{Declared, net_of}
use Rattle.link_model.specs.Cells.{cell_of, linked_operand, operand_net, port_net, library_cell}
use Rattle.link_model.specs.Faults.{item_bits, link_bits, operand_bits}
use Rattle.hier_model.specs.Names.{flat_name, flat_bit, flat_operand, flat_link, flat_item}
use Rattle.hier_laws.proofs.SolutionsCells.{linked_flat}

abbrev Names : Type 0
Names = List (List ℕ × Declared)

-- both drive nothing, or nets that are related
abbrev pub Related : (NetId → NetId → Type 0) → Option NetId → Option NetId → Type 0
Related R None None = Unit {0}
Related R None (Some m) = ⊥
Related R (Some n) None = ⊥
Related R (Some n) (Some m) = R n m

-- a bit's nets are related
abbrev pub RelatedBit : (NetId → NetId → Type 0) → Names → Names → List (List ℕ) → Bit → Type 0
RelatedBit R names own at b = R (net_of names (flat_bit at b)) (net_of own b)

linked_such : (P : Bit → Type 0) (links : List Link) (port : List ℕ) → AllByRecursion P (flat_map link_bits links) → MatchOption (linked_operand links port) ⊤ (λ (o : Operand). AllByRecursion P (operand_bits o))
linked_such P [] port h = tt
linked_such P (l ∷ links) port h = go (bytes_eq l.port port) (all_front P (link_bits l) (flat_map link_bits links) h) (linked_such P links port (all_back P (link_bits l) (flat_map link_bits links) h))
  where
    here : (o : Option Operand) → AllByRecursion P (option_map_or operand_bits o []) → MatchOption o ⊤ (λ (x : Operand). AllByRecursion P (operand_bits x))
    here None e = tt
    here (Some x) e = e

    go : (b : Bool) → AllByRecursion P (link_bits l) → MatchOption (linked_operand links port) ⊤ (λ (o : Operand). AllByRecursion P (operand_bits o))
        → MatchOption (option_and_then (λ (k : Link). k.operand) (cond b (Some l) (find (λ (k : Link). bytes_eq k.port port) links))) ⊤ (λ (o : Operand). AllByRecursion P (operand_bits o))
    go true e rest = here l.operand e
    go false e rest = rest

port_related : (R : NetId → NetId → Type 0) (names own : Names) (at : List (List ℕ)) (links : List Link) (port : List ℕ) → AllByRecursion (RelatedBit R names own at) (flat_map link_bits links)
    → Related R (port_net names (map (flat_link at) links) port) (port_net own links port)
port_related R names own at links port h =
    let P : Option Operand → Type 0 = λ o. Related R (option_and_then (operand_net names) o) (port_net own links port) in
    subst P (sym (linked_flat at links port)) (go (linked_operand links port) (linked_such (RelatedBit R names own at) links port h))
  where
    go : (o : Option Operand) → MatchOption o ⊤ (λ (x : Operand). AllByRecursion (RelatedBit R names own at) (operand_bits x))
        → Related R (option_and_then (operand_net names) (option_map (flat_operand at) o)) (option_and_then (operand_net own) o)
    go None e = tt
    go (Some (operand.Bit b)) e = e.0
    go (Some (operand.Const c)) e = tt

library_related : (library : List ListedCell) (R : NetId → NetId → Type 0) (names own : Names) (at : List (List ℕ)) (i : Instance) (k : Kind) (name : List ℕ) → AllByRecursion (RelatedBit R names own at) (flat_map link_bits i.links)
    → Related R (library_cell library names (record { cell = i.cell; name = name; links = map (flat_link at) i.links }) k).output (library_cell library own i k).output
library_related library R names own at i k name h = go (output_port library k)
  where
    go : (o : Option (List ℕ)) → Related R (option_and_then (port_net names (map (flat_link at) i.links)) o) (option_and_then (port_net own i.links) o)
    go None = tt
    go (Some port) = port_related R names own at i.links port h

pub output_related : (library : List ListedCell) (R : NetId → NetId → Type 0) (names own : Names) (at : List (List ℕ)) (i : Item) → AllByRecursion (RelatedBit R names own at) (item_bits i) → Related R (cell_of library names (flat_item at i)).output (cell_of library own i).output
output_related library R names own at (item.Gate g) h = h.0
output_related library R names own at (item.Instance i) h = library_related library R names own at i (unwrap_or (kind_named library i.cell) kind.Buf) (flat_name at i.name) h
output_related library R names own at (item.Assign output input) h = h.0
