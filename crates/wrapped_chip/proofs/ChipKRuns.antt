-- Runs of chip K, event by event.
use Rattle.std.proofs.Common.{◌≡◌, ℕ, zero, suc, true, false, List, [], ◌∷◌, ◌++◌, Option, refl, ap, sym, subst, inl, inr, ◌∙◌}
use Rattle.std.specs.Prelude.{Some, None, slice_get}
use Rattle.signal_values.specs.declared.Sig.TheVariants.{Unknown}
use Rattle.signal_values.specs.declared.PinSig.{PinSig}
use Rattle.signal_values.specs.declared.PinSig.TheVariants.{Zero, One, HighZ}
use Rattle.cell_library.specs.Gates.{flop_of}
use Rattle.cell_library.specs.declared.FlopKind.{FlopKind}
use Rattle.cell_library.specs.declared.codes.BoundaryKind.TheVariants.{Bc1}
use Rattle.netlist_model.specs.Lists.{CellView, cell_at}
use Rattle.netlist_model.specs.Cones.{IsControlNet}
use Rattle.test_logic.specs.declared.Levels.{Levels}
use Rattle.test_logic.specs.declared.TapInput.TheVariants.{Tck, Tms, Tdi, Trst}
use Rattle.test_logic.specs.Machine.{Machine, reset, machine_step, test_logic_of}
use Rattle.wrapped_chip.specs.Cells.{captured, row_of}
use Rattle.wrapped_chip.specs.ChipRuns.{ChipMoment, ChipEvent, at_pin, at_tap, IsChipLegal, IsChipStep, IsChipRun, chip_pins_after, levels_after}
use Rattle.wrapped_chip.proofs.ScanCycles.{Cycle, one, idle, into, last}
use Rattle.wrapped_chip.proofs.ExampleChips.{netlist_k, chip_k, value_k, reads_k}
use Rattle.wrapped_chip.proofs.ChipKMeets.{and_cell, not_cell, meets_k}
use Rattle.test_logic.specs.Instructions.{bits_of, instruction_of}

abbrev moment : Levels → (ℕ → PinSig) → Machine → ChipMoment
moment levels pins m = record { levels = levels; pins = pins; machine = m; state = λ i. Unknown; value = value_k Bc1 pins m }

abbrev after : ChipEvent → ChipMoment → ChipMoment
after event w =
    let levels = levels_after w.levels event in
    moment levels (chip_pins_after w.pins event) (machine_step (test_logic_of (chip_k Bc1)) w.levels levels (captured (chip_k Bc1) netlist_k w.machine w.pins w.value) w.machine)

abbrev after_all : List ChipEvent → ChipMoment → ChipMoment
after_all [] w = w
after_all (e ∷ es) w = after_all es (after e w)

abbrev up_to : Option ChipEvent → ChipMoment → ChipMoment
up_to None w = w
up_to (Some event) w = after event w

abbrev run : List ChipEvent → Levels → (ℕ → PinSig) → ℕ → ChipMoment
run events levels pins zero = moment levels pins (reset (test_logic_of (chip_k Bc1)))
run events levels pins (suc t) = up_to (slice_get events t) (run events levels pins t)

no_flop : (i : ℕ) (cell : CellView) (kind : FlopKind) → cell_at netlist_k i ≡ Some cell → flop_of [] cell.kind ≡ Some kind → ⊥
no_flop zero cell kind live flop = let same : and_cell ≡ cell = cc in let h : None ≡ Some kind = ap (λ (c : CellView). flop_of [] c.kind) same ∙ flop in cc
no_flop (suc zero) cell kind live flop = let same : not_cell ≡ cell = cc in let h : None ≡ Some kind = ap (λ (c : CellView). flop_of [] c.kind) same ∙ flop in cc
no_flop (suc (suc i)) cell kind live flop = let h : None ≡ Some cell = live in cc

no_control : (net : ℕ) → IsControlNet netlist_k net → ⊥
no_control net c = elim c.operand [
  | inl f ↦ no_flop f.number f.cell f.kind f.reads.live f.flop
  | inr f ↦ no_flop f.number f.cell f.kind f.reads.live f.flop
]

up_to_event : (o : Option ChipEvent) (event : ChipEvent) (w : ChipMoment) → o ≡ Some event → up_to o w ≡ after event w
up_to_event o event w e = rw e refl

pub run_k : (events : List ChipEvent) (levels : Levels) (pins : ℕ → PinSig) → levels.trst ≡ false
    → ((t : ℕ) (event : ChipEvent) → slice_get events t ≡ Some event → IsChipLegal netlist_k event) → IsChipRun (chip_k Bc1) netlist_k (λ i. Unknown) events (run events levels pins)
run_k events levels pins low legal = record {
  start = record {
    low = low;
    machine = refl;
    controls = λ net c. absurd (no_control net c.1);
    settled = meets_k Bc1 pins (reset (test_logic_of (chip_k Bc1)));
    flops = record { each = λ i cell kind live flop. absurd (no_flop i cell kind live flop) };
  };
  steps = λ t event at.
      let w = run events levels pins t in
      let P : ChipMoment → Type 0 = λ n. IsChipStep (chip_k Bc1) netlist_k event w n in
      subst P (sym (up_to_event (slice_get events t) event w at)) (record {
        legal = legal t event at;
        levels = refl;
        pins = λ net. refl;
        machine = refl;
        settled = meets_k Bc1 (after event w).pins (after event w).machine;
        flops = record { each = λ i cell kind live flop. absurd (no_flop i cell kind live flop) };
      });
}

-- TMS and TDI, then a rising and a falling edge of TCK
abbrev cycle : Cycle → List ChipEvent
cycle c = at_tap Tms c.tms ∷ at_tap Tdi c.tdi ∷ at_tap Tck true ∷ at_tap Tck false ∷ []

abbrev script : List Cycle → List ChipEvent
script [] = []
script (c ∷ cs) = cycle c ++ script cs

abbrev begin : ChipMoment
begin = moment (record { tck = false; tms = false; tdi = false; trst = false }) (λ net. HighZ) (reset (test_logic_of (chip_k Bc1)))

-- pins a and b at 1, TRST at 1, PRELOAD with its scan, EXTEST and Run-Test/Idle
abbrev to_extest : List ChipEvent
to_extest = at_pin (record { net = 0; value = One }) ∷ at_pin (record { net = 1; value = One }) ∷ at_tap Trst true ∷ script (idle ∷ one ∷ one ∷ idle ∷ idle ∷ into true ∷ last false ∷ one
    ∷ one ∷ idle ∷ idle ∷ into true ∷ into false ∷ into false ∷ last true ∷ one ∷ one ∷ one ∷ idle ∷ idle ∷ into false ∷ last false ∷ one ∷ idle ∷ [])

abbrev reads : List ChipEvent → PinSig × PinSig
reads events = let w = after_all events begin in (reads_k Bc1 w.pins w.machine 2, reads_k Bc1 w.pins w.machine 3)

pub under_extest : reads to_extest ≡ (Zero, One)
unfolding instruction_of bits_of row_of captured
under_extest = refl

pub third_rising_edge : reads (to_extest ++ script (one ∷ one ∷ []) ++ at_tap Tms true ∷ at_tap Tck true ∷ []) ≡ (Zero, One)
unfolding instruction_of bits_of row_of captured
third_rising_edge = refl

pub falling_edge : reads (to_extest ++ script (one ∷ one ∷ one ∷ [])) ≡ (One, Zero)
unfolding instruction_of bits_of row_of captured
falling_edge = refl

pub trst_at_once : reads (to_extest ++ at_tap Trst false ∷ []) ≡ (One, Zero)
unfolding instruction_of bits_of row_of captured
trst_at_once = refl

-- TCK does nothing while TRST is 0, and TRST that rises with TCK at 1 changes nothing
pub held_in_reset : (after_all (to_extest ++ at_tap Trst false ∷ at_tap Tck true ∷ at_tap Trst true ∷ []) begin).machine ≡ reset (test_logic_of (chip_k Bc1))
unfolding instruction_of bits_of row_of captured
held_in_reset = refl
