-- The direction of each net of a demonstration netlist: 18 inputs, 16 outputs, and wires.
use Rattle.std.proofs.Common.{◌≡◌, ◌⊎◌, inl, inr, ℕ, ◌+◌, ◌-◌, ◌<◌, ◌≤◌, List, [], ◌∷◌, length, map, refl, ap, ◌∙◌, Option, Some, None, arith}
use Rattle.std.specs.Prelude.{codes, option_and_then}
use Rattle.std.specs.Option.{option_map}
use Rattle.std.proofs.lemmas.Bool.{cases_lt}
use Rattle.std.proofs.lemmas.List.{length-map}
use Rattle.std.proofs.lemmas.Option.{slice_get-map}
use Rattle.list_laws.specs.Lists.{counted_from}
use Rattle.list_laws.proofs.Lists.{length-counted_from, slice_get-append_left, slice_get-append_right, slice_get-counted_from}
use Rattle.verilog_tree.specs.declared.tree.Wire.{Wire}
use Rattle.verilog_tree.specs.declared.tree.Dir.TheVariants as tree
use Rattle.netlist_model.specs.declared.Dir.{Dir}
use Rattle.netlist_model.specs.declared.Dir.TheVariants.{Input, Output, Inout}
use Rattle.link_model.specs.Nets.{NamedNet, NetDeclaration, declared_nets, net_at, nets_in, port_nets, width, wire_nets}
use Rattle.link_rules.specs.DriversLaws.{dir_at}
use Rattle.demo_chips.specs.Netlists.{demo_module, demo_wires, port_of, vector_of}

-- the nets of the first declaration
first_dir : (d : NetDeclaration) (rest : List NetDeclaration) (k : ℕ) → k < width d.range → dir_at (nets_in (d ∷ rest)) k ≡ d.dir
first_dir d rest k less =
    let count : length (map (net_at d) (counted_from 0 (width d.range))) ≡ width d.range = length-map (counted_from 0 (width d.range)) (net_at d) ∙ length-counted_from 0 (width d.range) in
    let front = slice_get-append_left (map (net_at d) (counted_from 0 (width d.range))) (nets_in rest) k (omega arith) in
    let here = slice_get-map (net_at d) (counted_from 0 (width d.range)) k in
    let number = slice_get-counted_from 0 (width d.range) k less in
    ap (option_and_then (λ (n : NamedNet). n.dir)) (front ∙ here ∙ ap (option_map (net_at d)) number)

-- the nets of those behind it
later_dir : (d : NetDeclaration) (rest : List NetDeclaration) (k j : ℕ) → k ≡ width d.range + j → dir_at (nets_in (d ∷ rest)) k ≡ dir_at (nets_in rest) j
later_dir d rest k j e =
    let count : length (map (net_at d) (counted_from 0 (width d.range))) ≡ width d.range = length-map (counted_from 0 (width d.range)) (net_at d) ∙ length-counted_from 0 (width d.range) in
    ap (option_and_then (λ (n : NamedNet). n.dir)) (slice_get-append_right (map (net_at d) (counted_from 0 (width d.range))) (nets_in rest) k j (omega arith))

wire_dir : (wires : List Wire) (k : ℕ) → dir_at (nets_in (map wire_nets wires)) k ≡ None
wire_dir [] k = refl
wire_dir (w ∷ wires) k = elim (cases_lt k (width w.range)) [
  | inl less ↦ first_dir (wire_nets w) (map wire_nets wires) k less
  | inr more ↦ later_dir (wire_nets w) (map wire_nets wires) k (k - width w.range) (omega arith) ∙ wire_dir wires (k - width w.range)
]

-- where a net of this direction stands
pub record HasDirection (net : ℕ) (dir : Option Dir) : Type 0 where
  pub input : dir ≡ Some Input → net < 18
  pub output : dir ≡ Some Output → (18 ≤ net) × (net < 34)
  pub inout : dir ≡ Some Inout → ⊥
  pub wire : dir ≡ None → 34 ≤ net

an_input : (net : ℕ) (dir : Option Dir) → dir ≡ Some Input → net < 18 → HasDirection net dir
an_input net dir is low = rw is (record { input = λ e. low; output = λ e. absurd (cc); inout = λ e. cc; wire = λ e. absurd (cc) })

an_output : (net : ℕ) (dir : Option Dir) → dir ≡ Some Output → 18 ≤ net → net < 34 → HasDirection net dir
an_output net dir is low high = rw is (record { input = λ e. absurd (cc); output = λ e. (low, high); inout = λ e. cc; wire = λ e. absurd (cc) })

a_wire : (net : ℕ) (dir : Option Dir) → dir ≡ None → 34 ≤ net → HasDirection net dir
a_wire net dir is low = rw is (record { input = λ e. absurd (cc); output = λ e. absurd (cc); inout = λ e. cc; wire = λ e. low })

ports_then : (c r d q : NetDeclaration) (wires : List Wire) (net : ℕ) → width c.range ≡ 1 → width r.range ≡ 1 → width d.range ≡ 16 → width q.range ≡ 16
    → c.dir ≡ Some Input → r.dir ≡ Some Input → d.dir ≡ Some Input → q.dir ≡ Some Output → HasDirection net (dir_at (nets_in (c ∷ r ∷ d ∷ q ∷ map wire_nets wires)) net)
ports_then c r d q wires net cw rw_is dw qw ci ri di qo = by (cases_lt net 1) (cases_lt net 2) (cases_lt net 18) (cases_lt net 34)
  where
    by : (net < 1) ⊎ (1 ≤ net) → (net < 2) ⊎ (2 ≤ net) → (net < 18) ⊎ (18 ≤ net) → (net < 34) ⊎ (34 ≤ net)
        → HasDirection net (dir_at (nets_in (c ∷ r ∷ d ∷ q ∷ map wire_nets wires)) net)
    by (inl a) two eighteen most = an_input net _ (first_dir c (r ∷ d ∷ q ∷ map wire_nets wires) net (omega arith) ∙ ci) (omega arith)
    by (inr a) (inl b) eighteen most =
        an_input net _ (later_dir c (r ∷ d ∷ q ∷ map wire_nets wires) net (net - 1) (omega arith) ∙ first_dir r (d ∷ q ∷ map wire_nets wires) (net - 1) (omega arith) ∙ ri) (omega arith)
    by (inr a) (inr b) (inl x) most =
        an_input net _ (later_dir c (r ∷ d ∷ q ∷ map wire_nets wires) net (net - 1) (omega arith) ∙ later_dir r (d ∷ q ∷ map wire_nets wires) (net - 1) (net - 2) (omega arith)
        ∙ first_dir d (q ∷ map wire_nets wires) (net - 2) (omega arith) ∙ di) x
    by (inr a) (inr b) (inr x) (inl y) =
        an_output net _ (later_dir c (r ∷ d ∷ q ∷ map wire_nets wires) net (net - 1) (omega arith) ∙ later_dir r (d ∷ q ∷ map wire_nets wires) (net - 1) (net - 2) (omega arith)
        ∙ later_dir d (q ∷ map wire_nets wires) (net - 2) (net - 18) (omega arith) ∙ first_dir q (map wire_nets wires) (net - 18) (omega arith) ∙ qo) x y
    by (inr a) (inr b) (inr x) (inr y) =
        a_wire net _ (later_dir c (r ∷ d ∷ q ∷ map wire_nets wires) net (net - 1) (omega arith) ∙ later_dir r (d ∷ q ∷ map wire_nets wires) (net - 1) (net - 2) (omega arith)
        ∙ later_dir d (q ∷ map wire_nets wires) (net - 2) (net - 18) (omega arith) ∙ later_dir q (map wire_nets wires) (net - 18) (net - 34) (omega arith) ∙ wire_dir wires (net - 34)) y

pub direction_at : (n net : ℕ) → HasDirection net (dir_at (nets_in (declared_nets (demo_module n))) net)
direction_at n net =
    ports_then (port_nets (port_of (codes "clk") tree.Input)) (port_nets (port_of (codes "rn") tree.Input)) (port_nets (vector_of (codes "d") tree.Input 15)) (port_nets (vector_of (codes "q") tree.Output 15)) (demo_wires n) net
    refl refl refl refl refl refl refl refl
