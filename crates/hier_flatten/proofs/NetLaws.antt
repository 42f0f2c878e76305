-- What is declared under a name, and what tables find of it.
use Rattle.std.proofs.Common.{◌≡◌, ℕ, ◌+◌, Bool, true, false, cond, find, position, List, [], ◌∷◌, ◌++◌, map, Option, Some, None, Bor, refl, sym, ap, ◌∙◌}
use Rattle.std.specs.Map.{lookup}
use Rattle.std.specs.Option.{option_map, option_map_or}
use Rattle.std.specs.Str.{bytes_eq}
use Rattle.list_laws.specs.Options.{or_else}
use Rattle.list_laws.proofs.Options.{none_some}
use Rattle.verilog_tree.specs.declared.tree.Range.{Range}
use Rattle.verilog_tree.specs.declared.tree.Bit.{Bit}
use Rattle.verilog_tree.specs.declared.tree.Operand.{Operand}
use Rattle.verilog_tree.specs.declared.tree.Operand.TheVariants as operand
use Rattle.verilog_tree.specs.declared.tree.Port.{Port}
use Rattle.verilog_tree.specs.declared.tree.Wire.{Wire}
use Rattle.verilog_tree.specs.declared.tree.Module.{Module}
use Rattle.link_model.specs.Nets.{Declared, port_nets, wire_nets, width, names_from, declared_names, declared_as}
use Rattle.hier_model.specs.WalkNames.{texts}
use Rattle.hier_model.proofs.Tables.{lent, position-map}
use Rattle.hier_model.specs.Faults.{index_width, net_width, operand_width}
use Rattle.hier_flatten.specs.Nets.{range_named, range_width}

-- a table of first places finds things by their names
pub finds_named : {X : Type 0} (name_of : X → List ℕ) (xs : List X) (names : List (Bor (List ℕ))) (entries : List (Bor (List ℕ) × ℕ)) → texts names ≡ map name_of xs
    → ((k : Bor (List ℕ)) → lookup (λ (j : Bor (List ℕ)). bytes_eq k.now j.now) entries ≡ position (λ (j : Bor (List ℕ)). bytes_eq k.now j.now) names)
    → (name : List ℕ) → lookup (λ (k : Bor (List ℕ)). bytes_eq name k.now) entries ≡ position (λ (x : X). bytes_eq name (name_of x)) xs
finds_named name_of xs names entries same finds name =
    finds (lent name)
    ∙ sym (position-map (bytes_eq name) (λ (k : Bor (List ℕ)). k.now) names)
    ∙ ap (position (bytes_eq name)) same
    ∙ position-map (bytes_eq name) name_of xs

-- The range of the first declaration.

both_first : {X Y : Type 0} (f : X → Option Range) (g : Y → Option Range) (b : Bool) (x : X) (y : Y) (xs : Option X) (ys : Option Y) → f x ≡ g y → option_map f xs ≡ option_map g ys
    → option_map f (cond b (Some x) xs) ≡ option_map g (cond b (Some y) ys)
both_first f g true x y xs ys same rest = ap (λ (r : Option Range). Some r) same
both_first f g false x y xs ys same rest = rest

or_behind : {X Y : Type 0} (f : X → Option Range) (g : Y → Option Range) (b : Bool) (x : X) (y : Y) (xs : Option X) (ys : Option Y) (other : Option (Option Range)) → f x ≡ g y
    → option_map f xs ≡ or_else (option_map g ys) other → option_map f (cond b (Some x) xs) ≡ or_else (option_map g (cond b (Some y) ys)) other
or_behind f g true x y xs ys other same rest = ap (λ (r : Option Range). Some r) same
or_behind f g false x y xs ys other same rest = rest

wires_range : (wires : List Wire) (first : ℕ) (name : List ℕ) → option_map (λ (d : Declared). d.range) (declared_as (names_from first (map wire_nets wires)) name) ≡ option_map (λ (w : Wire). w.range) (find (λ (w : Wire). bytes_eq name w.name) wires)
wires_range [] first name = refl
wires_range (w ∷ wires) first name =
    both_first (λ (d : Declared). d.range) (λ (v : Wire). v.range) (bytes_eq name w.name) (record { first = first; range = w.range }) w
    (declared_as (names_from (first + width w.range) (map wire_nets wires)) name) (find (λ (v : Wire). bytes_eq name v.name) wires) refl (wires_range wires (first + width w.range) name)

ports_range : (ports : List Port) (wires : List Wire) (first : ℕ) (name : List ℕ) → option_map (λ (d : Declared). d.range) (declared_as (names_from first (map port_nets ports ++ map wire_nets wires)) name)
    ≡ or_else (option_map (λ (p : Port). p.range) (find (λ (p : Port). bytes_eq name p.name) ports)) (option_map (λ (w : Wire). w.range) (find (λ (w : Wire). bytes_eq name w.name) wires))
ports_range [] wires first name = wires_range wires first name
ports_range (p ∷ ports) wires first name =
    or_behind (λ (d : Declared). d.range) (λ (q : Port). q.range) (bytes_eq name p.name) (record { first = first; range = p.range }) p
    (declared_as (names_from (first + width p.range) (map port_nets ports ++ map wire_nets wires)) name) (find (λ (q : Port). bytes_eq name q.name) ports)
    (option_map (λ (w : Wire). w.range) (find (λ (w : Wire). bytes_eq name w.name) wires)) refl (ports_range ports wires (first + width p.range) name)

pub declared_range : (m : Module) (name : List ℕ) → option_map (λ (d : Declared). d.range) (declared_as (declared_names m) name) ≡ range_named m name
declared_range m name = ports_range m.ports m.wires 0 name

-- How many bits an operand has.

index_same : (range : Option Range) (index : ℕ) → index_width range index ≡ range_width range (Some index)
index_same None index = refl
index_same (Some r) index = refl

width_at : (d : Declared) (index : Option ℕ) → net_width index d ≡ range_width d.range index
width_at d None = refl
width_at d (Some index) = index_same d.range index

width_named : (m : Module) (b : Bit) → operand_width m (operand.Bit b) ≡ option_map_or (λ (range : Option Range). range_width range b.index) (range_named m b.net) None
width_named m b = by (declared_as (declared_names m) b.net) (range_named m b.net) (declared_range m b.net)
  where
    by : (d : Option Declared) (r : Option (Option Range)) → option_map (λ (e : Declared). e.range) d ≡ r → option_map_or (net_width b.index) d None ≡ option_map_or (λ (range : Option Range). range_width range b.index) r None
    by None None is = refl
    by None (Some r) is = none_some is
    by (Some d) None is = none_some (sym is)
    by (Some d) (Some r) is = let same : d.range ≡ r = cc in width_at d b.index ∙ ap (λ (range : Option Range). range_width range b.index) same

pub no_width : (m : Module) (b : Bit) (o : Operand) → o ≡ operand.Bit b → range_named m b.net ≡ None → operand_width m o ≡ None
no_width m b o is none = ap (operand_width m) is ∙ width_named m b ∙ ap (λ (r : Option (Option Range)). option_map_or (λ (range : Option Range). range_width range b.index) r None) none

pub some_width : (m : Module) (b : Bit) (o : Operand) (range : Option Range) → o ≡ operand.Bit b → range_named m b.net ≡ Some range → operand_width m o ≡ range_width range b.index
some_width m b o range is some = ap (operand_width m) is ∙ width_named m b ∙ ap (λ (r : Option (Option Range)). option_map_or (λ (r : Option Range). range_width r b.index) r None) some
