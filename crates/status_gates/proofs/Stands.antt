-- The gates of the registers at a settled moment.
use Rattle.std.proofs.Common.{◌≡◌, ℕ, ◌+◌, ◌≤◌, List, [], ◌∷◌, map, refl, ap, sym, ◌∙◌, subst, arith}
use Rattle.std.specs.Prelude.{All}
use Rattle.std.proofs.lemmas.List.Elements.{All-nil, All-cons, All-head, All-tail}
use Rattle.signal_values.specs.declared.Sig.{Sig}
use Rattle.signal_values.specs.Values.{bit}
use Rattle.netlist_model.specs.declared.NetId.{NetId}
use Rattle.netlist_model.specs.Lists.{NetlistView}
use Rattle.netlist_model.specs.Settled.{IsSettled}
use Rattle.netlist_model.specs.Runs.{Moment}
use Rattle.bsdl_device.specs.declared.values.Device.{Device}
use Rattle.test_logic.specs.Instructions.{pattern, is_pattern}
use Rattle.test_logic.specs.Machine.{Machine}
use Rattle.instruction_gates.specs.Copies.{row_values}
use Rattle.instruction_gates.specs.Matches.{AreKnown}
use Rattle.surrounded_core.specs.Places.{Places, selection_nets}
use Rattle.surrounded_core.specs.Surrounds.{SurroundsBy}
use Rattle.status_fitting.specs.declared.fitted.FittedRegister.{FittedRegister}
use Rattle.status_gates.specs.Extended.{StatusRegister, is_latched}
use Rattle.status_gates.specs.Placed.{Placed, IsPlaced}
use Rattle.status_gates.specs.Opcodes.{AreInverses, InversesTell}
use Rattle.status_gates.specs.Registers.{registers_size}
use Rattle.status_gates.specs.PartsLaws.{status_of, placed_at, placed_in, HasOpcode, Stands, AllStand, RegistersTell}
use Rattle.status_gates.specs.Stands.{FitsBeside, shared_in, behind_inverses, last_shown, HoldsRegisters}
use Rattle.status_gates.proofs.Each.{each_so}

pub record StandLaws : Type 0 where
  pub inverses : InversesTell
  pub registers : RegistersTell

-- where they stand
abbrev pub placed_behind : Places → ℕ → ℕ → List FittedRegister → List Placed
placed_behind S first number registers = placed_in (behind_inverses S first) (behind_inverses S number) registers

pub own_registers : (first number : ℕ) (rs : List FittedRegister) → map (λ (p : Placed). p.register) (placed_in first number rs) ≡ map status_of rs
own_registers first number [] = refl
own_registers first number (r ∷ rs) = ap (λ (more : List StatusRegister). status_of r ∷ more) (own_registers first number rs)

pub placed_so : (P : StatusRegister → Type 0) (first number : ℕ) (rs : List FittedRegister) → All (λ (r : FittedRegister). P (status_of r)) rs
    → All (λ (p : Placed). P p.register) (placed_in first number rs)
placed_so P first number [] all = All-nil (λ (p : Placed). P p.register)
placed_so P first number (r ∷ rs) all =
    All-cons (λ (p : Placed). P p.register) (placed_at (first + registers_size rs) (number + registers_size rs) r) (placed_in first number rs)
    (All-head (λ (s : FittedRegister). P (status_of s)) r rs all) (placed_so P first number rs (All-tail (λ (s : FittedRegister). P (status_of s)) r rs all))

-- all stand, where the nets of the latched opcode have what is latched, and that is known
pub all_stand : StandLaws → (M N : NetlistView) (B : Device) (S : Places) (shown : NetId) (first number : ℕ) (registers : List FittedRegister) → SurroundsBy M N B S shown
    → HoldsRegisters M S shown first number registers → All (λ (r : FittedRegister). FitsBeside N B S (status_of r)) registers → (m : Moment) (latched : List Sig)
    → IsSettled M m.pins m.state m.value → row_values m.value (selection_nets S).opcode.0 S.codes.length ≡ latched → AreKnown latched
    → AllStand M S (shared_in S first) m (last_shown S first registers) (placed_behind S first number registers)
all_stand laws M N B S shown first number registers around holds fit m latched settled opcode known =
    laws.registers (behind_inverses S first) (behind_inverses S number) S (shared_in S first) registers M m refl around.formed holds.gates settled
    (each_so (λ (r : FittedRegister). FitsBeside N B S (status_of r)) (HasOpcode (shared_in S first) m) has registers fit)
  where
    here : ℕ
    here = (selection_nets S).opcode.0

    told : AreKnown (row_values m.value here S.codes.length)
    told = subst AreKnown (sym opcode) known

    are : AreInverses m.value here first S.codes.length
    are = laws.inverses first number here S.codes.length M m around.formed holds.inverses settled

    has : (r : FittedRegister) → FitsBeside N B S (status_of r) → HasOpcode (shared_in S first) m r
    has r fits =
        let long : r.register.bits.len ≡ S.codes.length = fits.long in
        let some : 1 ≤ S.codes.length = around.codes.fit.some in
        record {
          some = omega (arith, long, some);
          known = subst (λ (k : ℕ). AreKnown (row_values m.value here k)) (sym long) told;
          inverses = subst (λ (k : ℕ). AreInverses m.value here first k) (sym long) are;
        }

-- a register's net tells whether its opcode is latched
pub tells_latched : (M N : NetlistView) (B : Device) (S : Places) (first : ℕ) (m : Moment) (machine : Machine) (p : Placed) → Stands M (shared_in S first) m p → FitsBeside N B S p.register
    → row_values m.value (selection_nets S).opcode.0 S.codes.length ≡ machine.latched → m.value p.on.0 ≡ bit (is_latched p.register machine)
tells_latched M N B S first m machine p stands fits opcode =
    stands.on
    ∙ ap (λ (k : ℕ). bit (is_pattern (row_values m.value (selection_nets S).opcode.0 k) (pattern p.register.opcode))) fits.long
    ∙ ap (λ (xs : List Sig). bit (is_pattern xs (pattern p.register.opcode))) opcode

-- its gates are there, and it captures wires of the core
pub is_placed : (M N : NetlistView) (B : Device) (S : Places) (first : ℕ) (m : Moment) (p : Placed) → Stands M (shared_in S first) m p → FitsBeside N B S p.register → IsPlaced M N S p
is_placed M N B S first m p stands fits = record { some = fits.some; wires = fits.wires; cells = stands.cells }
