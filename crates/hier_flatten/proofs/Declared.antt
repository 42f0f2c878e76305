-- What a module declares under names: what tables find, against its declarations.
use Rattle.std.proofs.Common.{◌≡◌, ℕ, ◌+◌, Bool, true, false, cond, find, List, [], ◌∷◌, ◌++◌, map, position, Option, Some, None, Bor, refl, sym, ap, ◌∙◌}
use Rattle.std.specs.Map.{lookup}
use Rattle.std.specs.Str.{bytes_eq}
use Rattle.std.specs.Option.{option_map, option_map_or}
use Rattle.list_laws.specs.Options.{or_else}
use Rattle.list_laws.proofs.Options.{none_some}
use Rattle.verilog_tree.specs.declared.tree.Range.{Range}
use Rattle.verilog_tree.specs.declared.tree.Port.{Port}
use Rattle.verilog_tree.specs.declared.tree.Wire.{Wire}
use Rattle.verilog_tree.specs.declared.tree.Module.{Module}
use Rattle.link_model.specs.Nets.{Declared, port_nets, wire_nets, width, names_from, declared_names, declared_as}
use Rattle.hier_model.specs.WalkNames.{texts}
use Rattle.hier_model.proofs.Tables.{lent, position-map}
use Rattle.hier_model.specs.Faults.{net_width}
use Rattle.hier_flatten.specs.Nets.{range_named, range_width}

-- a table of first places finds the first of each name
pub places_of : {X : Type 0} (name_of : X → List ℕ) (xs : List X) (names : List (Bor (List ℕ))) (entries : List (Bor (List ℕ) × ℕ)) → texts names ≡ map name_of xs
    → ((k : Bor (List ℕ)) → lookup (λ (j : Bor (List ℕ)). bytes_eq k.now j.now) entries ≡ position (λ (j : Bor (List ℕ)). bytes_eq k.now j.now) names)
    → (name : List ℕ) → lookup (λ (k : Bor (List ℕ)). bytes_eq name k.now) entries ≡ position (λ (x : X). bytes_eq name (name_of x)) xs
places_of name_of xs names entries same finds name =
    finds (lent name)
    ∙ sym (position-map (bytes_eq name) (λ (k : Bor (List ℕ)). k.now) names)
    ∙ ap (position (bytes_eq name)) same
    ∙ position-map (bytes_eq name) name_of xs

-- The first declaration of a name.

abbrev of_net : ℕ → Option Range → Declared
of_net first range = record { first = first; range = range }

abbrev range_of : Option Declared → Option (Option Range)
range_of d = option_map (λ (x : Declared). x.range) d

abbrev first_wire : List ℕ → List Wire → Option Wire
first_wire name ws = find (λ (w : Wire). bytes_eq name w.name) ws

abbrev first_port : List ℕ → List Port → Option Port
first_port name ps = find (λ (p : Port). bytes_eq name p.name) ps

wires_declared : (name : List ℕ) (first : ℕ) (ws : List Wire) → range_of (lookup (bytes_eq name) (names_from first (map wire_nets ws))) ≡ option_map (λ (w : Wire). w.range) (first_wire name ws)
wires_declared name first [] = refl
wires_declared name first (w ∷ ws) = by (bytes_eq name w.name) (wires_declared name (first + width w.range) ws)
  where
    by : (b : Bool) → range_of (lookup (bytes_eq name) (names_from (first + width w.range) (map wire_nets ws))) ≡ option_map (λ (x : Wire). x.range) (first_wire name ws)
        → range_of (cond b (Some (of_net first w.range)) (lookup (bytes_eq name) (names_from (first + width w.range) (map wire_nets ws)))) ≡ option_map (λ (x : Wire). x.range) (cond b (Some w) (first_wire name ws))
    by true rest = refl
    by false rest = rest

ports_declared : (name : List ℕ) (first : ℕ) (ps : List Port) (ws : List Wire)
    → range_of (lookup (bytes_eq name) (names_from first (map port_nets ps ++ map wire_nets ws))) ≡ or_else (option_map (λ (p : Port). p.range) (first_port name ps)) (option_map (λ (w : Wire). w.range) (first_wire name ws))
ports_declared name first [] ws = wires_declared name first ws
ports_declared name first (p ∷ ps) ws = by (bytes_eq name p.name) (ports_declared name (first + width p.range) ps ws)
  where
    by : (b : Bool) → range_of (lookup (bytes_eq name) (names_from (first + width p.range) (map port_nets ps ++ map wire_nets ws))) ≡ or_else (option_map (λ (x : Port). x.range) (first_port name ps)) (option_map (λ (w : Wire). w.range) (first_wire name ws))
        → range_of (cond b (Some (of_net first p.range)) (lookup (bytes_eq name) (names_from (first + width p.range) (map port_nets ps ++ map wire_nets ws))))
        ≡ or_else (option_map (λ (x : Port). x.range) (cond b (Some p) (first_port name ps))) (option_map (λ (w : Wire). w.range) (first_wire name ws))
    by true rest = refl
    by false rest = rest

-- the range of the first declaration of a name is that of what is declared under it
pub declared_range : (m : Module) (name : List ℕ) → option_map (λ (x : Declared). x.range) (declared_as (declared_names m) name) ≡ range_named m name
declared_range m name = ports_declared name 0 m.ports m.wires

pub width_of_range : (index : Option ℕ) (d : Option Declared) (r : Option (Option Range)) → range_of d ≡ r → option_map_or (net_width index) d None ≡ option_map_or (λ (range : Option Range). range_width range index) r None
width_of_range index None None e = refl
width_of_range index None (Some r) e = none_some e
width_of_range index (Some d) None e = none_some (sym e)
width_of_range index (Some d) (Some r) e = let same : d.range ≡ r = cc in by index d r same
  where
    by : (index : Option ℕ) (d : Declared) (r : Option Range) → d.range ≡ r → net_width index d ≡ range_width r index
    by None d r same = ap (λ (x : Option Range). Some (width x)) same
    by (Some index) d None same = ap (λ (x : Option Range). range_width x (Some index)) same
    by (Some index) d (Some r) same = ap (λ (x : Option Range). range_width x (Some index)) same

-- nothing is declared where no range is
pub none_declared : (d : Option Declared) (r : Option (Option Range)) → range_of d ≡ r → r ≡ None → d ≡ None
none_declared None r e none = refl
none_declared (Some d) r e none = none_some (sym none ∙ sym e)

pub some_declared : (d : Option Declared) (r : Option (Option Range)) (range : Option Range) → range_of d ≡ r → r ≡ Some range → (x : Declared) × (d ≡ Some x) × (x.range ≡ range)
some_declared None r range e some = none_some (e ∙ some)
some_declared (Some d) r range e some = (d, refl, (let same : Some d.range ≡ Some range = e ∙ some in cc))
