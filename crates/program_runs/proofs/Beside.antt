-- A netlist that realises the chip meets the program beside it.
use Rattle.std.proofs.Common.{ℕ, suc, ◌+◌, ◌≤◌, List, [], ◌∷◌, length, refl, subst, inl, inr, arith}
use Rattle.signal_values.specs.declared.PinSig.{PinSig}
use Rattle.netlist_model.specs.Lists.{NetlistView}
use Rattle.netlist_model.specs.Runs.{Moment}
use Rattle.bsdl_device.specs.declared.values.Device.{Device}
use Rattle.wrapped_chip.specs.ChipRuns.{ChipMoment, ChipEvent, at_pin, at_tap}
use Rattle.wrapped_chip.specs.Realises.{ReadsBit, ReadsTdo, ReadsAsChip}
use Rattle.scan_vectors.specs.declared.lines.Line.{Line}
use Rattle.scan_vectors.specs.declared.lines.Line.TheVariants.{Start, Set, Expect}
use Rattle.scan_programs.specs.Program.{program_of}
use Rattle.program_runs.specs.Played.{AreSets}
use Rattle.program_runs.specs.Readings.{AreReadFrom, ChipReads, ReadsThere}
use Rattle.program_runs.specs.Laws.{ChipMeetsProgram, RealisingMeetsProgram, ProgramRunExists, RunBesideProgramExists}

one_reads : (M : NetlistView) (B : Device) (N : NetlistView) (m : Moment) (w : ChipMoment) (word : List ℕ) (value : PinSig) → ReadsAsChip M B N m w → ChipReads B N w word value → ReadsThere M B N m word value
one_reads M B N m w word value as_chip (inl tdo) = inl (record { named = tdo.named; reads = subst (λ (p : PinSig). ReadsTdo M N m p) tdo.reads as_chip.tdo })
one_reads M B N m w word value as_chip (inr reads) =
    inr (record { net = reads.net; bit = reads.bit; reads = subst (λ (p : PinSig). ReadsBit M N m reads.net p) reads.reads (as_chip.bits reads.net reads.bit.read) })

read_from : (M : NetlistView) (B : Device) (N : NetlistView) (chip : ℕ → ChipMoment) (moment : ℕ → Moment) (last : ℕ) → ((t : ℕ) → t ≤ last → ReadsAsChip M B N (moment t) (chip t))
    → (lines : List Line) (rest : List ChipEvent) (t : ℕ) → t + length rest ≤ last → AreSets B lines rest → AreReadFrom (λ n. ChipReads B N (chip n)) t lines
    → AreReadFrom (λ n. ReadsThere M B N (moment n)) t lines
read_from M B N chip moment last alike [] rest t within sets read = tt
read_from M B N chip moment last alike (Start word value ∷ lines) rest t within sets read = read_from M B N chip moment last alike lines rest t within sets read
read_from M B N chip moment last alike (Expect word value ∷ lines) rest t within sets read =
    (one_reads M B N (moment t) (chip t) word value (alike t (omega arith)) read.0, read_from M B N chip moment last alike lines rest t within sets read.1)
read_from M B N chip moment last alike (Set word value ∷ lines) [] t within sets read = absurd sets
read_from M B N chip moment last alike (Set word value ∷ lines) (at_pin event ∷ rest) t within sets read = absurd sets
read_from M B N chip moment last alike (Set word value ∷ lines) (at_tap input level ∷ rest) t within sets read =
    read_from M B N chip moment last alike lines rest (suc t) (let e : suc t + length rest ≤ last = omega arith in e) sets.1 read

pub realising_meets_program : ChipMeetsProgram → RealisingMeetsProgram
realising_meets_program meets M B N formed suits around realises given events chip moment plays beside =
    read_from M B N chip moment (length events) (realises.each given events chip moment plays.run beside) (program_of B) events 0
    (let e : 0 + length events ≤ length events = omega arith in e) plays.sets (meets B N formed suits around given events chip plays)

-- Runs.

pub some_run_beside_program : ProgramRunExists → RunBesideProgramExists
some_run_beside_program exists M B N formed realises start outside known =
    let has = exists B N formed start outside known in
    let beside = realises.some start start has.events has.chip has.plays.run (λ i cell kind live is. refl) in
    record { events = has.events; chip = has.chip; moment = beside.0; plays = has.plays; straight = has.straight; beside = beside.1; starts = beside.2 }
