-- The range that is declared under a name.
use Rattle.std.proofs.Common.{◌≡◌, ℕ, zero, suc, ◌+◌, Bool, true, false, cond, List, [], ◌∷◌, ◌++◌, map, Option, Some, None, refl, ap, ◌∙◌, arith, append-nil}
use Rattle.std.specs.Option.{option_map, option_or}
use Rattle.std.specs.Map.{lookup}
use Rattle.std.specs.Str.{bytes_eq}
use Rattle.std.proofs.lemmas.List.{map-append}
use Rattle.verilog_tree.specs.declared.tree.Range.{Range}
use Rattle.verilog_tree.specs.declared.tree.Port.{Port}
use Rattle.verilog_tree.specs.declared.tree.Wire.{Wire}
use Rattle.verilog_tree.specs.declared.tree.Module.{Module}
use Rattle.link_model.specs.Nets.{Declared, NetDeclaration, port_nets, wire_nets, declared_nets, declared_names, declared_as, names_from, width}
use Rattle.box_model.proofs.Counting.{times}
use Rattle.box_model.proofs.Between.{between}

-- the range of the first declaration of a name
abbrev pub net_range : List ℕ → List NetDeclaration → Option (Option Range)
net_range name [] = None
net_range name (net ∷ nets) = cond (bytes_eq name net.name) (Some net.range) (net_range name nets)

names_range : (name : List ℕ) (first : ℕ) (nets : List NetDeclaration) → option_map (λ (d : Declared). d.range) (lookup (bytes_eq name) (names_from first nets)) ≡ net_range name nets
names_range name first [] = refl
names_range name first (net ∷ nets) = by (bytes_eq name net.name) (names_range name (first + width net.range) nets)
  where
    by : (b : Bool) → option_map (λ (d : Declared). d.range) (lookup (bytes_eq name) (names_from (first + width net.range) nets)) ≡ net_range name nets
        → option_map (λ (d : Declared). d.range) (cond b (Some (record { first = first; range = net.range })) (lookup (bytes_eq name) (names_from (first + width net.range) nets))) ≡ cond b (Some net.range) (net_range name nets)
    by true rest = refl
    by false rest = rest

-- what is declared in a module has the range of its first declaration
pub declared_range : (m : Module) (name : List ℕ) → option_map (λ (d : Declared). d.range) (declared_as (declared_names m) name) ≡ net_range name (declared_nets m)
declared_range m name = names_range name 0 (declared_nets m)

pub net_range-append : (name : List ℕ) (xs ys : List NetDeclaration) → net_range name (xs ++ ys) ≡ option_or (net_range name xs) (net_range name ys)
net_range-append name [] ys = refl
net_range-append name (x ∷ xs) ys = by (bytes_eq name x.name) (net_range-append name xs ys)
  where
    by : (b : Bool) → net_range name (xs ++ ys) ≡ option_or (net_range name xs) (net_range name ys) → cond b (Some x.range) (net_range name (xs ++ ys)) ≡ option_or (cond b (Some x.range) (net_range name xs)) (net_range name ys)
    by true rest = refl
    by false rest = rest

-- ports of other names
pub ports_absent : (name : List ℕ) (ports : List Port) → times name (map (λ (p : Port). p.name) ports) ≡ 0 → net_range name (map port_nets ports) ≡ None
ports_absent name [] none = refl
ports_absent name (p ∷ ports) none = by (bytes_eq name p.name) (ports_absent name ports) none
  where
    by : (b : Bool) → (times name (map (λ (q : Port). q.name) ports) ≡ 0 → net_range name (map port_nets ports) ≡ None) → cond b 1 0 + times name (map (λ (q : Port). q.name) ports) ≡ 0
        → cond b (Some p.range) (net_range name (map port_nets ports)) ≡ None
    by true rest k = absurd (omega arith)
    by false rest k = rest (omega arith)

pub wires_absent : (name : List ℕ) (wires : List Wire) → times name (map (λ (w : Wire). w.name) wires) ≡ 0 → net_range name (map wire_nets wires) ≡ None
wires_absent name [] none = refl
wires_absent name (w ∷ wires) none = by (bytes_eq name w.name) (wires_absent name wires) none
  where
    by : (b : Bool) → (times name (map (λ (v : Wire). v.name) wires) ≡ 0 → net_range name (map wire_nets wires) ≡ None) → cond b 1 0 + times name (map (λ (v : Wire). v.name) wires) ≡ 0
        → cond b (Some w.range) (net_range name (map wire_nets wires)) ≡ None
    by true rest k = absurd (omega arith)
    by false rest k = rest (omega arith)

-- ports of other names between others hide none
absent_front : (name : List ℕ) (ys zs : List Port) → times name (map (λ (p : Port). p.name) ys) ≡ 0 → net_range name (map port_nets (ys ++ zs)) ≡ net_range name (map port_nets zs)
absent_front name ys zs none =
    ap (net_range name) (map-append port_nets ys zs) ∙ net_range-append name (map port_nets ys) (map port_nets zs)
    ∙ ap (λ (o : Option (Option Range)). option_or o (net_range name (map port_nets zs))) (ports_absent name ys none)

pub range_between : (name : List ℕ) (k : ℕ) (xs ys : List Port) → times name (map (λ (p : Port). p.name) ys) ≡ 0 → net_range name (map port_nets (between k xs ys)) ≡ net_range name (map port_nets xs)
range_between name (suc k) [] ys none = absent_front name ys [] none
range_between name zero xs ys none = absent_front name ys xs none
range_between name (suc k) (x ∷ xs) ys none = ap (λ (o : Option (Option Range)). cond (bytes_eq name x.name) (Some x.range) o) (range_between name k xs ys none)

-- an option, or else none
pub or_none : {X : Type 0} (o : Option X) → option_or o None ≡ o
or_none None = refl
or_none (Some x) = refl

-- others around some hide none
pub range_inner : (name : List ℕ) (k : ℕ) (xs ys : List Port) → times name (map (λ (p : Port). p.name) xs) ≡ 0 → net_range name (map port_nets (between k xs ys)) ≡ net_range name (map port_nets ys)
range_inner name zero xs ys none =
    ap (net_range name) (map-append port_nets ys xs) ∙ net_range-append name (map port_nets ys) (map port_nets xs)
    ∙ ap (option_or (net_range name (map port_nets ys))) (ports_absent name xs none) ∙ or_none (net_range name (map port_nets ys))
range_inner name (suc k) [] ys none = ap (λ (ps : List Port). net_range name (map port_nets ps)) (append-nil ys)
range_inner name (suc k) (x ∷ xs) ys none = by (bytes_eq name x.name) none (range_inner name k xs ys)
  where
    by : (b : Bool) → cond b 1 0 + times name (map (λ (p : Port). p.name) xs) ≡ 0 → (times name (map (λ (p : Port). p.name) xs) ≡ 0 → net_range name (map port_nets (between k xs ys)) ≡ net_range name (map port_nets ys))
        → cond b (Some x.range) (net_range name (map port_nets (between k xs ys))) ≡ net_range name (map port_nets ys)
    by true e rest = absurd (omega arith)
    by false e rest = rest (omega arith)
