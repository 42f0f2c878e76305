-- The one wire of a name.
use Rattle.std.proofs.Common.{◌≡◌, ℕ, ◌+◌, ◌≤◌, Bool, true, false, ◌&&◌, ◌||◌, cond, find, List, [], ◌∷◌, ◌++◌, map, count_by, Option, Some, None, refl, ap, sym, subst, ◌∙◌, arith}
use Rattle.std.specs.Prelude.{◌==◌}
use Rattle.std.specs.List.{list_any}
use Rattle.std.specs.Str.{bytes_eq}
use Rattle.list_laws.proofs.Bytes.{bytes_eq-sym}
use Rattle.list_laws.proofs.Tests.{or_false}
use Rattle.list_laws.proofs.Options.{none_some}
use Rattle.verilog_tree.specs.declared.tree.Range.{Range}
use Rattle.verilog_tree.specs.declared.tree.Port.{Port}
use Rattle.verilog_tree.specs.declared.tree.Wire.{Wire}
use Rattle.verilog_tree.specs.declared.tree.Module.{Module}
use Rattle.verilog_tree.specs.Trees.{range_eq}
use Rattle.link_model.specs.Nets.{port_nets, wire_nets, declared_nets}
use Rattle.box_tables.specs.Nets.{is_wire_as, is_declared_as, is_one_wire, times_declared, port_names, wire_names, all_names}
use Rattle.box_tables.proofs.Tallies.{count-cons, count-append}

-- Counts of declarations by their names.

wires_counted : (wires : List Wire) (name : List ℕ) → count_by (is_declared_as name) (map wire_nets wires) ≡ count_by (bytes_eq name) (wire_names wires)
wires_counted [] name = refl
wires_counted (w ∷ wires) name =
    count-cons (is_declared_as name) (wire_nets w) (map wire_nets wires)
    ∙ ap (λ (b : Bool). cond b 1 0 + count_by (is_declared_as name) (map wire_nets wires)) (bytes_eq-sym w.name name)
    ∙ ap (λ (n : ℕ). cond (bytes_eq name w.name) 1 0 + n) (wires_counted wires name)
    ∙ sym (count-cons (bytes_eq name) w.name (wire_names wires))

all_counted : (ports : List Port) (wires : List Wire) (name : List ℕ) → count_by (is_declared_as name) (map port_nets ports ++ map wire_nets wires) ≡ count_by (bytes_eq name) (all_names ports wires)
all_counted [] wires name = wires_counted wires name
all_counted (p ∷ ports) wires name =
    count-cons (is_declared_as name) (port_nets p) (map port_nets ports ++ map wire_nets wires)
    ∙ ap (λ (b : Bool). cond b 1 0 + count_by (is_declared_as name) (map port_nets ports ++ map wire_nets wires)) (bytes_eq-sym p.name name)
    ∙ ap (λ (n : ℕ). cond (bytes_eq name p.name) 1 0 + n) (all_counted ports wires name)
    ∙ sym (count-cons (bytes_eq name) p.name (all_names ports wires))

-- Where no wire has the name, none is like it.

no_wire : (wires : List Wire) (name : List ℕ) (range : Option Range) → None ≡ find (λ (w : Wire). bytes_eq name w.name) wires → list_any (is_wire_as name range) wires ≡ false
no_wire [] name range none = refl
no_wire (w ∷ wires) name range none = by (bytes_eq name w.name) refl none (λ behind. no_wire wires name range behind)
  where
    by : (b : Bool) → bytes_eq name w.name ≡ b → None ≡ cond b (Some w) (find (λ (v : Wire). bytes_eq name v.name) wires)
        → (None ≡ find (λ (v : Wire). bytes_eq name v.name) wires → list_any (is_wire_as name range) wires ≡ false) → list_any (is_wire_as name range) (w ∷ wires) ≡ false
    by true e none behind = none_some none
    by false e none behind = ap (λ (b : Bool). (b && range_eq w.range range) || list_any (is_wire_as name range) wires) (bytes_eq-sym w.name name ∙ e) ∙ behind none

uncounted : (wires : List Wire) (name : List ℕ) → count_by (bytes_eq name) (wire_names wires) ≤ 0 → None ≡ find (λ (w : Wire). bytes_eq name w.name) wires
uncounted [] name none = refl
uncounted (w ∷ wires) name none = by (bytes_eq name w.name) (subst (λ (n : ℕ). n ≤ 0) (count-cons (bytes_eq name) w.name (wire_names wires)) none) (λ behind. uncounted wires name behind)
  where
    by : (b : Bool) → cond b 1 0 + count_by (bytes_eq name) (wire_names wires) ≤ 0 → (count_by (bytes_eq name) (wire_names wires) ≤ 0 → None ≡ find (λ (v : Wire). bytes_eq name v.name) wires)
        → None ≡ cond b (Some w) (find (λ (v : Wire). bytes_eq name v.name) wires)
    by true none behind = absurd (omega (arith, none))
    by false none behind = behind (omega (arith, none))

-- Where one wire has it, that is the one that can be like it.

one_wire : (wires : List Wire) (name : List ℕ) (range : Option Range) (w : Wire) → Some w ≡ find (λ (v : Wire). bytes_eq name v.name) wires → count_by (bytes_eq name) (wire_names wires) ≤ 1
    → list_any (is_wire_as name range) wires ≡ range_eq w.range range
one_wire [] name range w some few = none_some (sym some)
one_wire (v ∷ wires) name range w some few = by (bytes_eq name v.name) refl some (subst (λ (n : ℕ). n ≤ 1) (count-cons (bytes_eq name) v.name (wire_names wires)) few) (λ s f. one_wire wires name range w s f)
  where
    by : (b : Bool) → bytes_eq name v.name ≡ b → Some w ≡ cond b (Some v) (find (λ (u : Wire). bytes_eq name u.name) wires) → cond b 1 0 + count_by (bytes_eq name) (wire_names wires) ≤ 1
        → (Some w ≡ find (λ (u : Wire). bytes_eq name u.name) wires → count_by (bytes_eq name) (wire_names wires) ≤ 1 → list_any (is_wire_as name range) wires ≡ range_eq w.range range)
        → list_any (is_wire_as name range) (v ∷ wires) ≡ range_eq w.range range
    by true e some few behind =
        let same : w ≡ v = cc in
        let none = no_wire wires name range (uncounted wires name (omega (arith, few))) in
        ap (λ (b : Bool). (b && range_eq v.range range) || list_any (is_wire_as name range) wires) (bytes_eq-sym v.name name ∙ e)
        ∙ ap (λ (b : Bool). range_eq v.range range || b) none
        ∙ or_false (range_eq v.range range)
        ∙ ap (λ (u : Wire). range_eq u.range range) (sym same)
    by false e some few behind =
        ap (λ (b : Bool). (b && range_eq v.range range) || list_any (is_wire_as name range) wires) (bytes_eq-sym v.name name ∙ e)
        ∙ behind some (omega (arith, few))

-- The test of the code.

and_true_right : (b : Bool) → (b && true) ≡ b
and_true_right true = refl
and_true_right false = refl

and_false_right : (b : Bool) → (b && false) ≡ false
and_false_right true = refl
and_false_right false = refl

pub none_declared : (m : Module) (name : List ℕ) (range : Option Range) → None ≡ find (λ (w : Wire). bytes_eq name w.name) m.wires → false ≡ is_one_wire m name range
none_declared m name range none = sym (ap (λ (b : Bool). b && count_by (is_declared_as name) (declared_nets m) == 1) (no_wire m.wires name range none))

pub one_declared : (m : Module) (name : List ℕ) (range : Option Range) (w : Wire) (n : ℕ) (same : Bool) → Some w ≡ find (λ (v : Wire). bytes_eq name v.name) m.wires → n ≡ times_declared m name → same ≡ range_eq w.range range
    → (n == 1 && same) ≡ is_one_wire m name range
one_declared m name range w n same some times is =
    by (n == 1) refl
    ∙ ap (λ (k : ℕ). list_any (is_wire_as name range) m.wires && k == 1) (times ∙ sym (all_counted m.ports m.wires name))
  where
    by : (b : Bool) → (n == 1) ≡ b → (n == 1 && same) ≡ (list_any (is_wire_as name range) m.wires && n == 1)
    by true e =
        let one : n ≡ 1 = grind arith in
        let split = count-append (bytes_eq name) (port_names m.ports) (wire_names m.wires) in
        let few : count_by (bytes_eq name) (wire_names m.wires) ≤ 1 = omega (arith, one, times, split) in
        ap (λ (b : Bool). b && same) e ∙ is ∙ sym (one_wire m.wires name range w some few) ∙ sym (and_true_right (list_any (is_wire_as name range) m.wires)) ∙ ap (λ (b : Bool). list_any (is_wire_as name range) m.wires && b) (sym e)
    by false e =
        ap (λ (b : Bool). b && same) e ∙ sym (and_false_right (list_any (is_wire_as name range) m.wires)) ∙ ap (λ (b : Bool). list_any (is_wire_as name range) m.wires && b) (sym e)
