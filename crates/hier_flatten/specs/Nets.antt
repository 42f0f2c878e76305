-- Own: what a module declares under names, and what tables find of it.
use Rattle.std.specs.Prelude.{◌≡◌, ℕ, List, find, position, Option, Some, None, not, ◌&&◌, if◌then◌else◌}
use Rattle.std.specs.Borrow.{Bor}
use Rattle.std.specs.Map.{lookup}
use Rattle.std.specs.Option.{option_map}
use Rattle.std.specs.Str.{bytes_eq}
use Rattle.texts.specs.Repeated.{has_name}
use Rattle.list_laws.specs.Options.{or_else, first_in}
use Rattle.verilog_tree.specs.declared.tree.Range.{Range}
use Rattle.verilog_tree.specs.declared.tree.Port.{Port}
use Rattle.verilog_tree.specs.declared.tree.Wire.{Wire}
use Rattle.verilog_tree.specs.declared.tree.Module.{Module}
use Rattle.link_model.specs.Nets.{width, is_within}
use Rattle.hier_model.specs.Entries.{is_out}
use Rattle.hier_model.specs.Faults.{port_named}

abbrev pub wire_named : Module → List ℕ → Option Wire
wire_named m name = find (λ (w : Wire). bytes_eq name w.name) m.wires

-- the range of the first declaration of a name, ports before wires
abbrev pub range_named : Module → List ℕ → Option (Option Range)
range_named m name = or_else (option_map (λ (p : Port). p.range) (port_named m name)) (option_map (λ (w : Wire). w.range) (wire_named m name))

-- how many bits a range has, as a whole or at an index
abbrev pub range_width : Option Range → Option ℕ → Option ℕ
range_width range None = Some (width range)
range_width None (Some index) = None
range_width (Some range) (Some index) = if is_within range index then Some 1 else None

-- the places of the first ports and of the first wires of each name stand under it
pub record FindsNets (m : Module) (ports wires : List (Bor (List ℕ) × ℕ)) : Type 0 where
  pub ports_are : (name : List ℕ) → lookup (λ (k : Bor (List ℕ)). bytes_eq name k.now) ports ≡ position (λ (p : Port). bytes_eq name p.name) m.ports
  pub wires_are : (name : List ℕ) → lookup (λ (k : Bor (List ℕ)). bytes_eq name k.now) wires ≡ position (λ (w : Wire). bytes_eq name w.name) m.wires

-- the first of these ports that is no output and has none of these names
abbrev pub first_open : List (List ℕ) → List Port → Option (List ℕ)
first_open names ports = first_in (λ (p : Port). if not (is_out p.dir) && not (has_name names p.name) then Some p.name else None) ports
