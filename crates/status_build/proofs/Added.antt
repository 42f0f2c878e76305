-- Each cell among the gates of registers drives a net of its own, and if it is a flip-flop, TCK clocks and TRST clears
-- it.
use Rattle.std.proofs.Common.{◌≡◌, ℕ, zero, suc, ◌+◌, ◌*◌, ◌≤◌, ◌⊎◌, inl, inr, List, [], ◌∷◌, ◌++◌, length, Option, Some, None, refl, ap, sym, ◌∙◌, subst, arith}
use Rattle.std.specs.Prelude.{slice_get}
use Rattle.std.specs.List.{AllByRecursion}
use Rattle.list_laws.proofs.Lists.{all_append}
use Rattle.list_laws.proofs.Options.{none_some}
use Rattle.cell_library.specs.declared.FlopKind.{FlopKind}
use Rattle.cell_library.specs.declared.listed.ListedCell.{ListedCell}
use Rattle.cell_library.specs.Gates.{flop_of}
use Rattle.netlist_model.specs.declared.NetId.{NetId}
use Rattle.netlist_model.specs.declared.Feed.{Feed}
use Rattle.netlist_model.specs.declared.Feed.TheVariants.{Net}
use Rattle.netlist_model.specs.Lists.{CellView}
use Rattle.gate_parts.specs.Parts.{part_cells}
use Rattle.test_logic.specs.declared.TapNets.{TapNets}
use Rattle.register_gates.specs.declared.bits.Steering.{Steering}
use Rattle.register_gates.specs.Bits.{shift_bit_cells}
use Rattle.register_gates.specs.Chains.{chain_cells, chain_last}
use Rattle.register_gates.specs.Registers.{selected_cells, selected_steering, data_cells}
use Rattle.instruction_gates.specs.Rows.{is_one}
use Rattle.status_fitting.specs.declared.fitted.FittedRegister.{FittedRegister}
use Rattle.register_gates.specs.declared.ident.TheConstants.{INVERSE}
use Rattle.status_gates.specs.declared.TheConstants.{BOTH, SHOWN}
use Rattle.status_gates.specs.Opcodes.{inverses_cells, literal, told_feed, opcode_cells}
use Rattle.status_gates.specs.Shown.{shown_given}
use Rattle.status_gates.specs.Wires.{net_feeds}
use Rattle.status_gates.specs.declared.parts.SharedNets.{SharedNets}
use Rattle.status_gates.specs.Registers.{wanted_feeds, bits_size, on_at, near_at, registers_size, shown_of, register_cells, registers_cells}
use Rattle.status_build.specs.CellsLaws.{added_cells}

-- own: it drives a net from this one on, and if it is a flip-flop, these two nets alone clock, clear and preset it
pub record IsAdded (from : ℕ) (tck trst : NetId) (cell : CellView) : Type 0 where
  pub behind : (net : ℕ) → cell.output ≡ Some (record { 0 = net }) → from ≤ net
  pub controls : (library : List ListedCell) (kind : FlopKind) (place net : ℕ) → flop_of library cell.kind ≡ Some kind → (place ≡ 1) ⊎ (place ≡ 2)
      → slice_get cell.feeds place ≡ Some (Net (record { 0 = net })) → (net ≡ tck.0) ⊎ (net ≡ trst.0)

abbrev AreAdded : ℕ → NetId → NetId → List CellView → Type 0
AreAdded from tck trst cells = AllByRecursion (IsAdded from tck trst) cells

-- Gates.

same_id : (a b : NetId) → ◌≡◌ {A = Option NetId} (Some a) (Some b) → a ≡ b
same_id a b e = cc

drives_behind : (from at : ℕ) → from ≤ at → (output : Option NetId) → output ≡ Some (record { 0 = at }) → (net : ℕ) → output ≡ Some (record { 0 = net }) → from ≤ net
drives_behind from at low output here net there =
    subst (λ (k : ℕ). from ≤ k) (ap (λ (id : NetId). id.0) (same_id (record { 0 = at }) (record { 0 = net }) (sym here ∙ there))) low

-- a cell on this net that is no flip-flop
gate : (from at : ℕ) (tck trst : NetId) (cell : CellView) → from ≤ at → cell.output ≡ Some (record { 0 = at }) → ((library : List ListedCell) → flop_of library cell.kind ≡ None) → IsAdded from tck trst cell
gate from at tck trst cell low here none = record {
  behind = λ net out. drives_behind from at low cell.output here net out;
  controls = λ library kind place net flop is feed. none_some (sym (none library) ∙ flop);
}

-- A bit of a shift stage.

same_net : (a b : NetId) → ◌≡◌ {A = Option Feed} (Some (Net a)) (Some (Net b)) → a ≡ b
same_net a b e = cc

number_is : (a : NetId) (net : ℕ) → ◌≡◌ {A = Option Feed} (Some (Net a)) (Some (Net (record { 0 = net }))) → net ≡ a.0
number_is a net e = sym (ap (λ (x : NetId). x.0) (same_net a (record { 0 = net }) e))

one_of : (tck trst : NetId) (input : Feed) (place net : ℕ) → (place ≡ 1) ⊎ (place ≡ 2) → slice_get (input ∷ Net tck ∷ Net trst ∷ []) place ≡ Some (Net (record { 0 = net }))
    → (net ≡ tck.0) ⊎ (net ≡ trst.0)
one_of tck trst input place net (inl is) at =
    inl (number_is tck net (subst (λ (k : ℕ). slice_get (input ∷ Net tck ∷ Net trst ∷ []) k ≡ Some (Net (record { 0 = net }))) is at))
one_of tck trst input place net (inr is) at =
    inr (number_is trst net (subst (λ (k : ℕ). slice_get (input ∷ Net tck ∷ Net trst ∷ []) k ≡ Some (Net (record { 0 = net }))) is at))

bit_added : (from first number : ℕ) (by : Steering) (captured : Feed) (next : NetId) → from ≤ first → AreAdded from by.tck by.trst (shift_bit_cells first number by captured next)
bit_added from first number by captured next low = (
  record {
    behind = λ net out. drives_behind from first low (Some (record { 0 = first })) refl net out;
    controls = λ library kind place net flop is feed. one_of by.tck by.trst (Net (record { 0 = first + 1 })) place net is feed;
  },
  (
    gate from (suc first) by.tck by.trst _ (omega (arith, low)) refl (λ library. refl),
    (gate from (suc (suc first)) by.tck by.trst _ (omega (arith, low)) refl (λ library. refl), tt),
  ),
)

chain_added : (from first number : ℕ) (by : Steering) (tdi : NetId) (captured : List Feed) → from ≤ first → AreAdded from by.tck by.trst (chain_cells first number by tdi captured)
chain_added from first number by tdi [] low = tt
chain_added from first number by tdi (c ∷ rest) low =
    let at : ℕ = first + 3 * length rest in
    let cell : ℕ = number + 3 * length rest in
    all_append (IsAdded from by.tck by.trst) (chain_cells first number by tdi rest) (shift_bit_cells at cell by c (chain_last first tdi rest)) (chain_added from first number by tdi rest low)
    (bit_added from at cell by c (chain_last first tdi rest) (omega (arith, low)))

data_added : (from first number : ℕ) (tap : TapNets) (on tdi : NetId) (captured : List Feed) → from ≤ first → AreAdded from tap.tck tap.trst (data_cells first number tap on tdi captured)
data_added from first number tap on tdi captured low =
    let steers : AreAdded from tap.tck tap.trst (selected_cells first number tap on)
    = (gate from first tap.tck tap.trst _ low refl (λ library. refl), (gate from (suc first) tap.tck tap.trst _ (omega (arith, low)) refl (λ library. refl), tt)) in
    all_append (IsAdded from tap.tck tap.trst) (selected_cells first number tap on) (chain_cells (first + 2) (number + 2) (selected_steering first tap) tdi captured)
    steers (chain_added from (first + 2) (number + 2) (selected_steering first tap) tdi captured (omega (arith, low)))

-- The gates of registers.

inverses_added : (from : ℕ) (tck trst : NetId) (first number opcode count : ℕ) → from ≤ first → AreAdded from tck trst (inverses_cells first number opcode count)
inverses_added from tck trst first number opcode zero low = tt
inverses_added from tck trst first number opcode (suc behind) low =
    all_append (IsAdded from tck trst) (part_cells INVERSE (Net (record { 0 = opcode }) ∷ []) first number) (inverses_cells (suc first) (suc number) (suc opcode) behind)
    (gate from first tck trst _ low refl (λ library. refl), tt) (inverses_added from tck trst (suc first) (suc number) (suc opcode) behind (omega (arith, low)))

opcode_added : (from : ℕ) (tck trst : NetId) (first number opcode inverses : ℕ) (wanted : List Feed) → from ≤ first → AreAdded from tck trst (opcode_cells first number opcode inverses wanted)
opcode_added from tck trst first number opcode inverses [] low = tt
opcode_added from tck trst first number opcode inverses (w ∷ rest) low =
    all_append (IsAdded from tck trst) (opcode_cells first number (suc opcode) (suc inverses) rest)
    (part_cells BOTH (literal (is_one w) opcode inverses ∷ told_feed first rest ∷ []) (first + length rest) (number + length rest))
    (opcode_added from tck trst first number (suc opcode) (suc inverses) rest low) (gate from (first + length rest) tck trst _ (omega (arith, low)) refl (λ library. refl), tt)

register_added : (from first number : ℕ) (shared : SharedNets) (r : FittedRegister) (behind : NetId) → from ≤ first
    → AreAdded from shared.tap.tck shared.tap.trst (register_cells first number shared r behind)
register_added from first number shared r behind low =
    let n : ℕ = r.register.bits.len in
    let end : ℕ = n + bits_size r in
    let xs : List CellView = opcode_cells first number shared.opcode.0 shared.inverses.0 (wanted_feeds r.register.bits) in
    let ys : List CellView = data_cells (first + n) (number + n) shared.tap (on_at first r) shared.tdi (net_feeds r.nets) in
    let zs : List CellView = part_cells SHOWN (shown_given behind (near_at first shared r) (on_at first r)) (first + end) (number + end) in
    let P : CellView → Type 0 = IsAdded from shared.tap.tck shared.tap.trst in
    let here : AllByRecursion P xs = opcode_added from shared.tap.tck shared.tap.trst first number shared.opcode.0 shared.inverses.0 (wanted_feeds r.register.bits) low in
    let bits : AllByRecursion P ys = data_added from (first + n) (number + n) shared.tap (on_at first r) shared.tdi (net_feeds r.nets) (omega (arith, low)) in
    let last : AllByRecursion P zs = (gate from (first + end) shared.tap.tck shared.tap.trst _ (omega (arith, low)) refl (λ library. refl), tt) in
    all_append P (xs ++ ys) zs (all_append P xs ys here bits) last

registers_added : (from first number : ℕ) (shared : SharedNets) (bypass : NetId) (rs : List FittedRegister) → from ≤ first
    → AreAdded from shared.tap.tck shared.tap.trst (registers_cells first number shared bypass rs)
registers_added from first number shared bypass [] low = tt
registers_added from first number shared bypass (r ∷ rs) low =
    let at : ℕ = first + registers_size rs in
    let cell : ℕ = number + registers_size rs in
    let behind : NetId = shown_of first bypass rs in
    all_append (IsAdded from shared.tap.tck shared.tap.trst) (registers_cells first number shared bypass rs) (register_cells at cell shared r behind)
    (registers_added from first number shared bypass rs low) (register_added from at cell shared r behind (omega (arith, low)))

pub all_added : (first number : ℕ) (shared : SharedNets) (bypass : NetId) (bits : ℕ) (rs : List FittedRegister)
    → AllByRecursion (IsAdded first shared.tap.tck shared.tap.trst) (added_cells first number shared bypass bits rs)
all_added first number shared bypass bits rs =
    all_append (IsAdded first shared.tap.tck shared.tap.trst) (inverses_cells first number shared.opcode.0 bits) (registers_cells (first + bits) (number + bits) shared bypass rs)
    (inverses_added first shared.tap.tck shared.tap.trst first number shared.opcode.0 bits (omega arith)) (registers_added first (first + bits) (number + bits) shared bypass rs (omega arith))
