-- What is read from an input, and the cells of a table.
use Rattle.std.proofs.Common.{◌≡◌, ◌≢◌, ℕ, ◌+◌, ◌&&◌, not, true, false, Bool, IsTrue, refl, ap, sym, ◌∙◌, inl}
use Rattle.std.specs.Prelude.{Some, None}
use Rattle.cell_library.specs.declared.Kind.{Kind}
use Rattle.cell_library.specs.declared.Kind.TheVariants.{Assign}
use Rattle.cell_library.specs.Gates.{is_three_state}
use Rattle.netlist_model.specs.declared.Dir.TheVariants.{Input}
use Rattle.netlist_model.specs.Lists.{CellView, NetlistView, direction}
use Rattle.netlist_model.specs.Cones.{InCone, itself, behind}
use Rattle.netlist_model.specs.Formed.{IsWellFormed}
use Rattle.gate_parts.specs.declared.Gate.{Gate}
use Rattle.netlist_link.specs.DraftLawsTables.{is_assign, is_plain}
use Rattle.netlist_link.specs.Sources.{InputIsPure, PartIsNamed}
use Rattle.netlist_link.proofs.Parts.{all_at, gate_at}

-- the cone of an input bit holds that bit alone
alone : (N : NetlistView) (root : ℕ) → IsWellFormed N → direction N.ports root ≡ Some Input → (net : ℕ) → InCone N root net → root ≡ net
alone N root formed input _ itself = refl
alone N root formed input _ (behind {net} {other} cone g) =
    let same : root ≡ net = alone N root formed input net cone in
    absurd (formed.inputs_free g.number g.cell net g.drives (ap (direction N.ports) (sym same) ∙ input))

pub input_is_pure_so : InputIsPure
input_is_pure_so N net formed input = (
  record {
    driven = λ e. absurd (let no : Some Input ≡ None = sym input ∙ e in cc);
    steady = λ i cell d three e. formed.inputs_free i cell net d input;
  },
  λ other cone. inl (ap (direction N.ports) (sym (alone N net formed input other cone)) ∙ input),
)

no_assign : (kind : Kind) → IsTrue (is_plain kind) → kind ≢ Assign
no_assign kind plain is = (let e : is_assign kind ≡ true = ap is_assign is in second (not (is_three_state kind)) (is_assign kind) plain e)
  where
    second : (a b : Bool) → IsTrue (a && not b) → b ≡ true → ⊥
    second true b h e = (let h' = rw e at h in cc)
    second false b h e = cc

pub part_named : PartIsNamed
part_named gates given first number plain cell of =
    let g = gate_at first given number first gates of.place cell of.at in
    record {
      number = number + of.place;
      name = ap (λ (c : CellView). c.name) (sym g.same);
      kind = λ is. no_assign g.gate.kind (all_at (λ (gate : Gate). is_plain gate.kind) gates of.place g.gate plain g.at) (ap (λ (c : CellView). c.kind) g.same ∙ is);
      connected = rw (ap (λ (c : CellView). c.output) (sym g.same)) refl;
    }
