-- The range of what is declared under a name.
use Rattle.std.proofs.Common.{◌≡◌, ℕ, ◌+◌, Bool, true, false, cond, find, List, [], ◌∷◌, ◌++◌, map, Option, Some, refl}
use Rattle.std.specs.Map.{lookup}
use Rattle.std.specs.Option.{option_map}
use Rattle.std.specs.Str.{bytes_eq}
use Rattle.list_laws.specs.Options.{or_else}
use Rattle.verilog_tree.specs.declared.tree.Range.{Range}
use Rattle.verilog_tree.specs.declared.tree.Port.{Port}
use Rattle.verilog_tree.specs.declared.tree.Wire.{Wire}
use Rattle.verilog_tree.specs.declared.tree.Module.{Module}
use Rattle.link_model.specs.Nets.{Declared, port_nets, wire_nets, width, names_from, declared_names, declared_as}
use Rattle.box_tables.specs.Nets.{range_named}

abbrev of_net : ℕ → Option Range → Declared
of_net first range = record { first = first; range = range }

abbrev range_of : Option Declared → Option (Option Range)
range_of d = option_map (λ (x : Declared). x.range) d

abbrev first_wire : List ℕ → List Wire → Option Wire
first_wire name ws = find (λ (w : Wire). bytes_eq name w.name) ws

abbrev first_port : List ℕ → List Port → Option Port
first_port name ps = find (λ (p : Port). bytes_eq name p.name) ps

wires_declared : (name : List ℕ) (first : ℕ) (ws : List Wire) → range_of (lookup (bytes_eq name) (names_from first (map wire_nets ws))) ≡ option_map (λ (w : Wire). w.range) (first_wire name ws)
wires_declared name first [] = refl
wires_declared name first (w ∷ ws) = by (bytes_eq name w.name) (wires_declared name (first + width w.range) ws)
  where
    by : (b : Bool) → range_of (lookup (bytes_eq name) (names_from (first + width w.range) (map wire_nets ws))) ≡ option_map (λ (x : Wire). x.range) (first_wire name ws)
        → range_of (cond b (Some (of_net first w.range)) (lookup (bytes_eq name) (names_from (first + width w.range) (map wire_nets ws)))) ≡ option_map (λ (x : Wire). x.range) (cond b (Some w) (first_wire name ws))
    by true rest = refl
    by false rest = rest

ports_declared : (name : List ℕ) (first : ℕ) (ps : List Port) (ws : List Wire)
    → range_of (lookup (bytes_eq name) (names_from first (map port_nets ps ++ map wire_nets ws))) ≡ or_else (option_map (λ (p : Port). p.range) (first_port name ps)) (option_map (λ (w : Wire). w.range) (first_wire name ws))
ports_declared name first [] ws = wires_declared name first ws
ports_declared name first (p ∷ ps) ws = by (bytes_eq name p.name) (ports_declared name (first + width p.range) ps ws)
  where
    by : (b : Bool) → range_of (lookup (bytes_eq name) (names_from (first + width p.range) (map port_nets ps ++ map wire_nets ws))) ≡ or_else (option_map (λ (x : Port). x.range) (first_port name ps)) (option_map (λ (w : Wire). w.range) (first_wire name ws))
        → range_of (cond b (Some (of_net first p.range)) (lookup (bytes_eq name) (names_from (first + width p.range) (map port_nets ps ++ map wire_nets ws))))
        ≡ or_else (option_map (λ (x : Port). x.range) (cond b (Some p) (first_port name ps))) (option_map (λ (w : Wire). w.range) (first_wire name ws))
    by true rest = refl
    by false rest = rest

-- the range of the first declaration of a name is that of what is declared under it
pub declared_range : (m : Module) (name : List ℕ) → option_map (λ (x : Declared). x.range) (declared_as (declared_names m) name) ≡ range_named m name
declared_range m name = ports_declared name 0 m.ports m.wires
