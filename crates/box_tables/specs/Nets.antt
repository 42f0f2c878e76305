-- own: what a module declares under names.
use Rattle.std.specs.Prelude.{◌≡◌, ℕ, ◌==◌, ◌&&◌, Bool, List, [], ◌++◌, map, find, count_by, Option}
use Rattle.std.specs.List.{list_any}
use Rattle.std.specs.Option.{option_map}
use Rattle.std.specs.Str.{bytes_eq}
use Rattle.verilog_tree.specs.declared.tree.Range.{Range}
use Rattle.verilog_tree.specs.declared.tree.Operand.{Operand}
use Rattle.verilog_tree.specs.declared.tree.Port.{Port}
use Rattle.verilog_tree.specs.declared.tree.Wire.{Wire}
use Rattle.verilog_tree.specs.declared.tree.Module.{Module}
use Rattle.list_laws.specs.Options.{or_else}
use Rattle.link_model.specs.Nets.{declared_nets}
pub use Rattle.box_model.specs.Opened.{is_wire_as, names_whole, is_declared_as}

-- a module without its items
abbrev pub emptied : Module → Module
emptied m = record m { items = [] }

abbrev pub port_names : List Port → List (List ℕ)
port_names ports = map (λ (p : Port). p.name) ports

abbrev pub wire_names : List Wire → List (List ℕ)
wire_names wires = map (λ (w : Wire). w.name) wires

abbrev pub all_names : List Port → List Wire → List (List ℕ)
all_names ports wires = port_names ports ++ wire_names wires

-- the range of the first declaration of a name, ports before wires
abbrev pub range_named : Module → List ℕ → Option (Option Range)
range_named m name =
    or_else (option_map (λ (p : Port). p.range) (find (λ (p : Port). bytes_eq name p.name) m.ports))
    (option_map (λ (w : Wire). w.range) (find (λ (w : Wire). bytes_eq name w.name) m.wires))

-- how often a name is declared
abbrev pub times_declared : Module → List ℕ → ℕ
times_declared m name = count_by (bytes_eq name) (all_names m.ports m.wires)

-- a wire of this range is the one declaration of the name
abbrev pub is_one_wire : Module → List ℕ → Option Range → Bool
is_one_wire m name range = list_any (is_wire_as name range) m.wires && count_by (is_declared_as name) (declared_nets m) == 1

-- the operand is this wire as a whole
abbrev pub is_joined_as : Module → List ℕ → Option Range → Operand → Bool
is_joined_as m name range o = names_whole name o && is_one_wire m name range

-- the names of tables are those of ports, of wires, and of both
pub record HoldsNets (m : Module) (port_places wire_places counts : List (List ℕ)) : Type 0 where
  pub ports_are : port_places ≡ port_names m.ports
  pub wires_are : wire_places ≡ wire_names m.wires
  pub counts_are : counts ≡ all_names m.ports m.wires
