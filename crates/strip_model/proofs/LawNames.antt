-- The names of a module, read off what it denotes.
use Rattle.std.proofs.Common.{◌≡◌, ℕ, List, [], ◌∷◌, ◌++◌, map, refl, ap, sym, ◌∙◌, subst, Option, Some, None}
use Rattle.std.specs.List.{filter_map}
use Rattle.std.proofs.lemmas.List.{map-append}
use Rattle.list_laws.proofs.Options.{or_else-parts}
use Rattle.verilog_tree.specs.declared.tree.Item.{Item}
use Rattle.verilog_tree.specs.declared.tree.Item.TheVariants.{Gate, Instance, Assign}
use Rattle.verilog_tree.specs.declared.tree.Module.{Module}
use Rattle.verilog_tree.specs.declared.tree.Port.{Port}
use Rattle.verilog_tree.specs.declared.tree.Wire.{Wire}
use Rattle.cell_library.specs.declared.listed.ListedCell.{ListedCell}
use Rattle.link_model.specs.Lists.{repeated}
use Rattle.link_model.specs.Nets.{Declared, NetDeclaration, declared_names, declared_nets, nets_in, port_nets, wire_nets}
use Rattle.link_model.specs.Cells.{NamedCell, cell_of}
use Rattle.link_model.specs.Denoted.{IsNamed, NamedNetlist, denoted}
use Rattle.link_model.specs.Faults.{driver_fault, cells_in, item_name, names_of, text_fault}
use Rattle.link_model.specs.Late.{IsLinkable}
use Rattle.link_arena.proofs.EnteredNames.{repeated_after-append}
use Rattle.link_arena.proofs.Parts.{no_repetition}
use Rattle.strip_model.specs.Same.{SameNames, SameIsLinked}
use Rattle.strip_model.proofs.Heads.{heads, heads_are, apart}

abbrev net_names : Module → List (List ℕ)
net_names m = map (λ (d : NetDeclaration). d.name) (declared_nets m)

port_names : (ports : List Port) → map (λ (d : NetDeclaration). d.name) (map port_nets ports) ≡ map (λ (p : Port). p.name) ports
port_names [] = refl
port_names (p ∷ ports) = ap (λ (l : List (List ℕ)). p.name ∷ l) (port_names ports)

wire_names : (wires : List Wire) → map (λ (d : NetDeclaration). d.name) (map wire_nets wires) ≡ map (λ (w : Wire). w.name) wires
wire_names [] = refl
wire_names (w ∷ wires) = ap (λ (l : List (List ℕ)). w.name ∷ l) (wire_names wires)

nets_named : (m : Module) → net_names m ≡ map (λ (p : Port). p.name) m.ports ++ map (λ (w : Wire). w.name) m.wires
nets_named m =
    map-append (λ (d : NetDeclaration). d.name) (map port_nets m.ports) (map wire_nets m.wires)
    ∙ ap (λ (l : List (List ℕ)). l ++ map (λ (d : NetDeclaration). d.name) (map wire_nets m.wires)) (port_names m.ports)
    ∙ ap (λ (l : List (List ℕ)). map (λ (p : Port). p.name) m.ports ++ l) (wire_names m.wires)

names_split : (m : Module) → names_of m ≡ net_names m ++ filter_map item_name m.items
names_split m =
    ap (λ (l : List (List ℕ)). l ++ filter_map item_name m.items) (sym (nets_named m))

item_named : (library : List ListedCell) (names : List (List ℕ × Declared)) (item : Item) → (cell_of library names item).name ≡ item_name item
item_named library names (Gate g) = refl
item_named library names (Instance i) = refl
item_named library names (Assign output input) = refl

items_named : (library : List ListedCell) (names : List (List ℕ × Declared)) (items : List Item) → filter_map (λ (c : NamedCell). c.name) (map (cell_of library names) items) ≡ filter_map item_name items
items_named library names [] = refl
items_named library names (item ∷ items) = by (item_name item) refl (item_named library names item) (items_named library names items)
  where
    by : (o : Option (List ℕ)) → item_name item ≡ o → (cell_of library names item).name ≡ item_name item
        → filter_map (λ (c : NamedCell). c.name) (map (cell_of library names) items) ≡ filter_map item_name items
        → filter_map (λ (c : NamedCell). c.name) (map (cell_of library names) (item ∷ items)) ≡ filter_map item_name (item ∷ items)
    by None e same rest = let here : (cell_of library names item).name ≡ None = same ∙ e in rw (e, here) rest
    by (Some name) e same rest = let here : (cell_of library names item).name ≡ Some name = same ∙ e in rw (e, here) (ap (λ (l : List (List ℕ)). name ∷ l) rest)

-- the names that stand in a netlist
abbrev names_in : NamedNetlist → List (List ℕ)
names_in N = heads None N.nets ++ filter_map (λ (c : NamedCell). c.name) N.cells

names_are : (library : List ListedCell) (m : Module) → repeated (names_of m) ≡ None → names_of m ≡ names_in (denoted library m)
names_are library m once =
    let nets = repeated_after-append [] (net_names m) (filter_map item_name m.items) (sym (ap repeated (names_split m)) ∙ once) in
    names_split m
    ∙ ap (λ (l : List (List ℕ)). l ++ filter_map item_name m.items) (sym (heads_are None (declared_nets m) (apart (declared_nets m) nets.0)))
    ∙ ap (λ (l : List (List ℕ)). heads None (nets_in (declared_nets m)) ++ l) (sym (items_named library (declared_names m) m.items))

once_in : (library : List ListedCell) (m : Module) → IsLinkable library m → repeated (names_of m) ≡ None
once_in library m can = no_repetition library m (or_else-parts (text_fault library m) (driver_fault (nets_in (declared_nets m)) (cells_in library m)) can.early).0

pub same_names : SameNames
same_names library m tree can same =
    names_are library tree (once_in library tree same.links) ∙ ap names_in same.denotes ∙ sym (names_are library m (once_in library m can))

pub same_is_linked : SameNames → SameIsLinked
same_is_linked names m tree L links same title = record {
  linkable = same.links;
  denoted = subst (λ (N : NamedNetlist). IsNamed L.names L.arena.lists N) (sym same.denotes) links.denoted;
  names = links.names ∙ sym (names L.arena.lists.library m tree links.linkable same);
  title = links.title ∙ sym title;
  dense = links.dense;
}
