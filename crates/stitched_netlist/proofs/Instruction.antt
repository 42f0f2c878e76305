-- The instruction register.
use Rattle.std.proofs.Common.{◌≡◌, ℕ, zero, suc, ◌+◌, ◌*◌, ◌<◌, ◌≤◌, Bool, true, false, List, [], ◌∷◌, ◌++◌, length, length-append, refl, sym, ap, ◌∙◌, subst, Option, Some, None, arith}
use Rattle.cell_library.specs.declared.codes.Bits.{Bits}
use Rattle.cell_library.specs.declared.codes.Instr.{Instr}
use Rattle.cell_library.specs.declared.codes.Instr.TheVariants.{Extest, Sample, Preload, Idcode, Highz, Clamp, Usercode}
use Rattle.netlist_model.specs.declared.NetId.{NetId}
use Rattle.netlist_model.specs.declared.Feed.{Feed}
use Rattle.gate_parts.specs.Levels.{AreFeedsUpTo}
use Rattle.test_logic.specs.declared.Codes.{Codes}
use Rattle.test_logic.specs.declared.TapNets.{TapNets}
use Rattle.test_logic.specs.declared.InstrNets.{InstrNets}
use Rattle.test_logic.specs.declared.ScanNets.{ScanNets}
use Rattle.test_logic.specs.Instructions.{opcode_of}
use Rattle.surrounded_core.specs.register_gates.Bits.{held_bit}
use Rattle.surrounded_core.specs.register_gates.Chains.{chain_last}
use Rattle.surrounded_core.proofs.register_gates.ConstantBits.{counted}
use Rattle.surrounded_core.specs.instruction_gates.declared.latches.TheConstants.{LOADED}
use Rattle.surrounded_core.specs.instruction_gates.declared.stages.TheConstants.{LOADS}
use Rattle.surrounded_core.specs.instruction_gates.declared.matches.TheConstants.{EQUAL_BIT}
use Rattle.surrounded_core.specs.instruction_gates.declared.copies.TheConstants.{COPY}
use Rattle.surrounded_core.specs.instruction_gates.declared.selections.TheConstants.{SELECTIONS}
use Rattle.surrounded_core.specs.instruction_gates.Matches.{match_before}
use Rattle.surrounded_core.specs.instruction_gates.Copies.{copies_cells}
use Rattle.surrounded_core.specs.instruction_gates.Selections.{selections_given, selections_cells, selection_nets}
use Rattle.surrounded_core.specs.instruction_gates.Stages.{stages_cells}
use Rattle.surrounded_core.specs.instruction_gates.Register.{pattern_bits, stages_size, latches_from, size_with, cells_with, told_with, opcode_size, opcode_cells, matched_instructions, opcodes_size, opcodes_cells, opcodes_told, opcodes_from, selections_from, copies_from, instruction_size, instruction_cells, instruction_nets}
use Rattle.surrounded_core.specs.Above.{AreAbove, AreRanked, PartsStandAbove}
use Rattle.surrounded_core.specs.Registers.{selections_levels, SelectionsStandAbove, AreBitsRanked}
use Rattle.surrounded_core.specs.Instructions.{one_level, held_levels, equal_levels, AreLatchesRanked, StagesStandAbove, MatchesStandAbove, AreCopiesRanked, CopiesStandAbove}
use Rattle.surrounded_core.proofs.Feeds.{up_cons, up_constants}
use Rattle.stitched_netlist.proofs.RanksPlaces.{StandAt, front_at, behind_at, moved_at, first_at, levels_at, ranked, blocks, length_triples, triples_at, length_pairs, pairs_at}
use Rattle.stitched_netlist.proofs.RanksLaws.{shift_block, latch_block, match_block, stages_ranks, opcode_ranks, opcodes_ranks, copies_ranks, instruction_ranks, control_top}
use Rattle.stitched_netlist.proofs.Logic.{shift_length, bits_ranked, AreTapNetsLow}

-- Lengths.

latch_length : (k : ℕ) → length (latch_block k) ≡ 3
latch_length k = refl

match_length : (k : ℕ) → length (match_block k) ≡ 2
match_length k = refl

length_stages : (count : ℕ) → length (stages_ranks count) ≡ 1 + 6 * count
length_stages count =
    let a = length-append (levels_at 0 one_level ++ blocks (shift_block 0) count) (blocks latch_block count) in
    let b = length-append (levels_at 0 one_level) (blocks (shift_block 0) count) in
    let c = length_triples (shift_block 0) count (shift_length 0) in
    let d = length_triples latch_block count latch_length in
    let e : length (levels_at 0 one_level) ≡ 1 = refl in
    omega arith

length_opcode : (codes : Codes) (o : Option Bits) → length (opcode_ranks codes.length o) ≡ size_with codes o
length_opcode codes None = refl
length_opcode codes (Some opcode) = length_pairs match_block codes.length match_length

length_opcodes : (codes : Codes) (list : List Instr) → length (opcodes_ranks codes list) ≡ opcodes_size codes list
length_opcodes codes [] = refl
length_opcodes codes (i ∷ rest) =
    let a = length-append (opcode_ranks codes.length (opcode_of codes.opcodes i)) (opcodes_ranks codes rest) in
    let b = length_opcode codes (opcode_of codes.opcodes i) in
    let c = length_opcodes codes rest in
    omega arith

length_copies : (count : ℕ) → length (copies_ranks count) ≡ count
length_copies zero = refl
length_copies (suc behind) = ap suc (length_copies behind)

pub length_instruction : (codes : Codes) → length (instruction_ranks codes) ≡ instruction_size codes
length_instruction codes =
    let selections : List ℕ = levels_at (2 * codes.length) selections_levels in
    let a = length-append (stages_ranks codes.length) (opcodes_ranks codes matched_instructions ++ (selections ++ copies_ranks codes.length)) in
    let b = length-append (opcodes_ranks codes matched_instructions) (selections ++ copies_ranks codes.length) in
    let b' = length-append selections (copies_ranks codes.length) in
    let c = length_stages codes.length in
    let d = length_opcodes codes matched_instructions in
    let e : length selections ≡ 10 = refl in
    let e' = length_copies codes.length in
    omega arith

-- The two stages.

latch_ranked : (rank : ℕ → ℕ) (first : ℕ) (preset : Bool) → StandAt rank first (levels_at 2 held_levels) → AreRanked rank first 2 held_levels (held_bit preset)
latch_ranked rank first true at = ranked rank first 2 held_levels (held_bit true) refl at
latch_ranked rank first false at = ranked rank first 2 held_levels (held_bit false) refl at

latches_ranked : (rank : ℕ → ℕ) (first count : ℕ) → StandAt rank first (blocks latch_block count) → AreLatchesRanked rank first 1 count
latches_ranked rank first count at k low =
    let here = triples_at rank first latch_block count latch_length at k low in (
      ranked rank (first + 3 * k) 1 one_level LOADED refl (front_at rank (first + 3 * k) (levels_at 1 one_level) (levels_at 2 held_levels) here),
      λ preset. latch_ranked rank (first + 3 * k + 1) preset (behind_at rank (first + 3 * k) 1 (levels_at 1 one_level) (levels_at 2 held_levels) refl here),
    )

latch_low : (rank : ℕ → ℕ) (first count : ℕ) → StandAt rank first (blocks latch_block count) → (k : ℕ) → k < count → rank (first + 3 * k + 1) ≡ 0
latch_low rank first count at k low = triples_at rank first latch_block count latch_length at k low 1 0 refl

record AreStagesThere (rank : ℕ → ℕ) (first count : ℕ) : Type 0 where
  loads : StandAt rank first (levels_at 0 one_level)
  bits : StandAt rank (first + 1) (blocks (shift_block 0) count)
  latches : StandAt rank (first + (1 + 3 * count)) (blocks latch_block count)

stages_there : (rank : ℕ → ℕ) (first count : ℕ) → StandAt rank first (stages_ranks count) → AreStagesThere rank first count
stages_there rank first count at =
    let front = front_at rank first (levels_at 0 one_level ++ blocks (shift_block 0) count) (blocks latch_block count) at in
    let many : length (levels_at 0 one_level ++ blocks (shift_block 0) count) ≡ 1 + 3 * count = length_front count in
    record {
      loads = front_at rank first (levels_at 0 one_level) (blocks (shift_block 0) count) front;
      bits = behind_at rank first 1 (levels_at 0 one_level) (blocks (shift_block 0) count) refl front;
      latches = behind_at rank first (1 + 3 * count) (levels_at 0 one_level ++ blocks (shift_block 0) count) (blocks latch_block count) many at;
    }
  where
    length_front : (n : ℕ) → length (levels_at 0 one_level ++ blocks (shift_block 0) n) ≡ 1 + 3 * n
    length_front n =
        let b = length-append (levels_at 0 one_level) (blocks (shift_block 0) n) in
        let c = length_triples (shift_block 0) n (shift_length 0) in
        let e : length (levels_at 0 one_level) ≡ 1 = refl in
        omega arith

stages_above : StagesStandAbove → (rank : ℕ → ℕ) (first number count : ℕ) (tap : TapNets) (tdi : NetId) (captured presets : List Feed) → length captured ≡ count → length presets ≡ count
    → AreStagesThere rank first count → AreTapNetsLow rank tap → rank tdi.0 ≡ 0 → AreFeedsUpTo rank 0 captured → AreAbove rank (stages_cells first number tap tdi captured presets)
stages_above law rank first number count tap tdi captured presets many many' at low a up =
    let c0 = low.tck in let c1 = low.trst in let c2 = low.capture_ir in let c3 = low.shift_ir in let c4 = low.update_ir in let c5 = low.in_reset in
    law rank first number 0 tap tdi captured presets (many' ∙ sym many) (ranked rank first 0 one_level LOADS refl at.loads)
    (subst (λ (n : ℕ). AreBitsRanked rank (first + 1) 0 n) (sym many) (bits_ranked rank (first + 1) 0 count at.bits))
    (subst (λ (n : ℕ). AreLatchesRanked rank (first + (1 + 3 * n)) 1 n) (sym many) (latches_ranked rank (first + (1 + 3 * count)) count at.latches))
    (omega arith, (omega arith, (omega arith, (omega arith, (omega arith, (omega arith, (omega arith, tt))))))) up

pub last_low : (rank : ℕ → ℕ) (first base : ℕ) (tdi : NetId) (captured : List Feed) → StandAt rank first (blocks (shift_block base) (length captured)) → rank tdi.0 ≡ 0
    → rank (chain_last first tdi captured).0 ≡ 0
last_low rank first base tdi [] at a = a
last_low rank first base tdi (c ∷ rest) at a =
    first_at rank (first + 3 * length rest) 0 (shift_block base (length rest))
    (triples_at rank first (shift_block base) (suc (length rest)) (shift_length base) at (length rest) (omega arith)) refl

-- What tells which opcode is latched.

matches_ranked : (rank : ℕ → ℕ) (first count : ℕ) → StandAt rank first (blocks match_block count) → (k : ℕ) → k < count → AreRanked rank (first + 2 * k) (0 + 2 * k) equal_levels EQUAL_BIT
matches_ranked rank first count at k low = ranked rank (first + 2 * k) (0 + 2 * k) equal_levels EQUAL_BIT refl (pairs_at rank first match_block count match_length at k low)

opcode_above : MatchesStandAbove → (rank : ℕ → ℕ) (first number latches : ℕ) (codes : Codes) (o : Option Bits) → StandAt rank first (opcode_ranks codes.length o)
    → StandAt rank latches (blocks latch_block codes.length) → AreAbove rank (cells_with first number latches codes o)
opcode_above law rank first number latches codes None at low = tt
opcode_above law rank first number latches codes (Some opcode) at low =
    let wanted : List Feed = pattern_bits codes opcode in
    let many : length wanted ≡ codes.length = counted codes.length opcode.value in
    law rank first number 0 latches wanted (λ k less. matches_ranked rank first codes.length at k (omega arith))
    (λ k less. (let e = latch_low rank latches codes.length low k (omega arith) in omega arith, tt))

opcodes_above : MatchesStandAbove → PartsStandAbove → (rank : ℕ → ℕ) (first number latches : ℕ) (codes : Codes) (list : List Instr) → StandAt rank first (opcodes_ranks codes list)
    → StandAt rank latches (blocks latch_block codes.length) → AreAbove rank (opcodes_cells first number latches codes list)
opcodes_above law joined rank first number latches codes [] at low = tt
opcodes_above law joined rank first number latches codes (i ∷ rest) at low =
    joined rank (opcode_cells first number latches codes i) (opcodes_cells (first + opcode_size codes i) (number + opcode_size codes i) latches codes rest)
    (opcode_above law rank first number latches codes (opcode_of codes.opcodes i) (front_at rank first (opcode_ranks codes.length (opcode_of codes.opcodes i)) (opcodes_ranks codes rest) at) low)
    (opcodes_above law joined rank (first + opcode_size codes i) (number + opcode_size codes i) latches codes rest
    (behind_at rank first (opcode_size codes i) (opcode_ranks codes.length (opcode_of codes.opcodes i)) (opcodes_ranks codes rest) (length_opcode codes (opcode_of codes.opcodes i)) at) low)

before_up : (rank : ℕ → ℕ) (first count : ℕ) → StandAt rank first (blocks match_block count) → AreFeedsUpTo rank (2 * count) (match_before first count ∷ [])
before_up rank first zero at = tt
before_up rank first (suc behind) at =
    let here : rank (first + 2 * behind) ≡ 0 + 2 * behind + 2 =
    first_at rank (first + 2 * behind) (0 + 2 * behind + 2) (match_block behind) (pairs_at rank first match_block (suc behind) match_length at behind (omega arith)) refl in
    (omega arith, tt)

told_up : (rank : ℕ → ℕ) (first : ℕ) (codes : Codes) (o : Option Bits) → StandAt rank first (opcode_ranks codes.length o) → AreFeedsUpTo rank (2 * codes.length) (told_with first codes o ∷ [])
told_up rank first codes None at = tt
told_up rank first codes (Some opcode) at = before_up rank first codes.length at

-- one opcode, and those behind it
record Told (rank : ℕ → ℕ) (first : ℕ) (codes : Codes) (i : Instr) (rest : List Instr) : Type 0 where
  up : AreFeedsUpTo rank (2 * codes.length) (told_with first codes (opcode_of codes.opcodes i) ∷ [])
  more : StandAt rank (first + opcode_size codes i) (opcodes_ranks codes rest)

told : (rank : ℕ → ℕ) (first : ℕ) (codes : Codes) (i : Instr) (rest : List Instr) → StandAt rank first (opcodes_ranks codes (i ∷ rest)) → Told rank first codes i rest
told rank first codes i rest at =
    let one : List ℕ = opcode_ranks codes.length (opcode_of codes.opcodes i) in
    record {
      up = told_up rank first codes (opcode_of codes.opcodes i) (front_at rank first one (opcodes_ranks codes rest) at);
      more = behind_at rank first (opcode_size codes i) one (opcodes_ranks codes rest) (length_opcode codes (opcode_of codes.opcodes i)) at;
    }

selected_up : (rank : ℕ → ℕ) (first : ℕ) (codes : Codes) (tap : TapNets) → StandAt rank first (opcodes_ranks codes matched_instructions) → AreTapNetsLow rank tap
    → AreFeedsUpTo rank (2 * codes.length) (selections_given tap (opcodes_told first codes))
selected_up rank first codes tap at low =
    let top : ℕ = 2 * codes.length in
    let sample : ℕ = first + opcode_size codes Extest in
    let preload : ℕ = sample + opcode_size codes Sample in
    let idcode : ℕ = preload + opcode_size codes Preload in
    let highz : ℕ = idcode + opcode_size codes Idcode in
    let clamp : ℕ = highz + opcode_size codes Highz in
    let usercode : ℕ = clamp + opcode_size codes Clamp in
    let a = told rank first codes Extest (Sample ∷ Preload ∷ Idcode ∷ Highz ∷ Clamp ∷ Usercode ∷ []) at in
    let b = told rank sample codes Sample (Preload ∷ Idcode ∷ Highz ∷ Clamp ∷ Usercode ∷ []) a.more in
    let c = told rank preload codes Preload (Idcode ∷ Highz ∷ Clamp ∷ Usercode ∷ []) b.more in
    let d = told rank idcode codes Idcode (Highz ∷ Clamp ∷ Usercode ∷ []) c.more in
    let e = told rank highz codes Highz (Clamp ∷ Usercode ∷ []) d.more in
    let g = told rank clamp codes Clamp (Usercode ∷ []) e.more in
    let h = told rank usercode codes Usercode [] g.more in
    let t0 = low.capture_dr in let t1 = low.shift_dr in let t2 = low.update_dr in
    up_cons rank top _ _ a.up (up_cons rank top _ _ b.up (up_cons rank top _ _ c.up (up_cons rank top _ _ d.up (up_cons rank top _ _ e.up (up_cons rank top _ _ g.up (up_cons rank top _ _ h.up
    (omega arith, (omega arith, (omega arith, tt)))))))))

-- Copies of the latched bits.

copy_ranked : (rank : ℕ → ℕ) (first count : ℕ) → StandAt rank first (copies_ranks count) → AreCopiesRanked rank first 0 count
copy_ranked rank first zero at k low = absurd (omega arith)
copy_ranked rank first (suc behind) at zero low =
    ranked rank (first + 0) 0 one_level COPY refl (moved_at rank first (first + 0) (levels_at 0 one_level) (omega arith) (front_at rank first (levels_at 0 one_level) (copies_ranks behind) at))
copy_ranked rank first (suc behind) at (suc k) low =
    subst (λ (n : ℕ). AreRanked rank n 0 one_level COPY) (let e : first + 1 + k ≡ first + suc k = omega arith in e)
    (copy_ranked rank (first + 1) behind (behind_at rank first 1 (levels_at 0 one_level) (copies_ranks behind) refl at) k (omega arith))

copies_above : CopiesStandAbove → (rank : ℕ → ℕ) (first number latched count : ℕ) → StandAt rank first (copies_ranks count) → StandAt rank latched (blocks latch_block count)
    → AreAbove rank (copies_cells first number latched count)
copies_above law rank first number latched count at low =
    law rank first number 0 latched count (copy_ranked rank first count at) (λ k less. let e = latch_low rank latched count low k (omega arith) in omega arith)

-- The whole register.

pub record IsInstructionThere (rank : ℕ → ℕ) (first : ℕ) (codes : Codes) : Type 0 where
  pub stages : StandAt rank first (stages_ranks codes.length)
  pub opcodes : StandAt rank (opcodes_from first codes) (opcodes_ranks codes matched_instructions)
  pub selections : StandAt rank (selections_from first codes) (levels_at (2 * codes.length) selections_levels)
  pub copies : StandAt rank (copies_from first codes) (copies_ranks codes.length)

pub instruction_there : (rank : ℕ → ℕ) (first : ℕ) (codes : Codes) → StandAt rank first (instruction_ranks codes) → IsInstructionThere rank first codes
instruction_there rank first codes at =
    let selections : List ℕ = levels_at (2 * codes.length) selections_levels in
    let last : List ℕ = selections ++ copies_ranks codes.length in
    let rest : List ℕ = opcodes_ranks codes matched_instructions ++ last in
    let more = behind_at rank first (stages_size codes) (stages_ranks codes.length) rest (length_stages codes.length) at in
    let behind = behind_at rank (opcodes_from first codes) (opcodes_size codes matched_instructions) (opcodes_ranks codes matched_instructions) last (length_opcodes codes matched_instructions) more in
    record {
      stages = front_at rank first (stages_ranks codes.length) rest at;
      opcodes = front_at rank (opcodes_from first codes) (opcodes_ranks codes matched_instructions) last more;
      selections = front_at rank (selections_from first codes) selections (copies_ranks codes.length) behind;
      copies = behind_at rank (selections_from first codes) 10 selections (copies_ranks codes.length) refl behind;
    }

pub instruction_above : StagesStandAbove → MatchesStandAbove → SelectionsStandAbove → CopiesStandAbove → PartsStandAbove → (rank : ℕ → ℕ) (first number : ℕ) (tap : TapNets) (tdi : NetId) (codes : Codes)
    → IsInstructionThere rank first codes → AreTapNetsLow rank tap → rank tdi.0 ≡ 0 → AreAbove rank (instruction_cells first number tap tdi codes)
instruction_above stages matches selections copies joined rank first number tap tdi codes there low a =
    let captured : List Feed = pattern_bits codes codes.capture in
    let presets : List Feed = pattern_bits codes codes.reset in
    let at = stages_there rank first codes.length there.stages in
    joined rank (stages_cells first number tap tdi captured presets) _
    (stages_above stages rank first number codes.length tap tdi captured presets (counted codes.length codes.capture.value) (counted codes.length codes.reset.value) at low a
    (up_constants rank 0 codes.length codes.capture.value))
    (joined rank (opcodes_cells (opcodes_from first codes) (opcodes_from number codes) (latches_from first codes) codes matched_instructions) _
    (opcodes_above matches joined rank (opcodes_from first codes) (opcodes_from number codes) (latches_from first codes) codes matched_instructions there.opcodes at.latches)
    (joined rank (selections_cells (selections_from first codes) (selections_from number codes) tap (opcodes_told (opcodes_from first codes) codes)) _
    (selections rank (selections_from first codes) (selections_from number codes) (2 * codes.length) tap (opcodes_told (opcodes_from first codes) codes)
    (ranked rank (selections_from first codes) (2 * codes.length) selections_levels SELECTIONS refl there.selections)
    (selected_up rank (opcodes_from first codes) codes tap there.opcodes low))
    (copies_above copies rank (copies_from first codes) (copies_from number codes) (latches_from first codes) codes.length there.copies at.latches)))

-- what it hands on
pub record IsScanUpTo (rank : ℕ → ℕ) (top : ℕ) (scan : ScanNets) : Type 0 where
  pub tck : rank scan.tck.0 ≤ top
  pub trst : rank scan.trst.0 ≤ top
  pub capture : rank scan.capture.0 ≤ top
  pub shift : rank scan.shift.0 ≤ top
  pub update : rank scan.update.0 ≤ top
  pub extest : rank scan.extest.0 ≤ top
  pub m_out : rank scan.m_out.0 ≤ top
  pub m_in : rank scan.m_in.0 ≤ top
  pub hiz : rank scan.hiz.0 ≤ top

pub record AreInstrNetsUpTo (rank : ℕ → ℕ) (top : ℕ) (nets : InstrNets) : Type 0 where
  pub last : rank nets.last.0 ≤ top
  pub bypass_on : rank nets.bypass_on.0 ≤ top
  pub ident_on : rank nets.ident_on.0 ≤ top
  pub user_on : rank nets.user_on.0 ≤ top
  pub scan : IsScanUpTo rank top nets.scan

selection_nets_up : (rank : ℕ → ℕ) (first base : ℕ) (tap : TapNets) (last : NetId) → StandAt rank first (levels_at base selections_levels) → AreTapNetsLow rank tap → rank last.0 ≡ 0
    → AreInstrNetsUpTo rank (base + 2) (selection_nets first tap last)
selection_nets_up rank first base tap last at low a =
    let t = low.tck in let r = low.trst in
    let e1 = at 1 (base + 2) refl in let e2 = at 2 (base + 1) refl in let e3 = at 3 (base + 1) refl in let e4 = at 4 (base + 1) refl in let e5 = at 5 (base + 1) refl in
    let e6 = at 6 (base + 2) refl in let e7 = at 7 (base + 2) refl in let e8 = at 8 (base + 2) refl in let e9 = at 9 (base + 1) refl in
    record {
      last = omega arith;
      bypass_on = omega arith;
      ident_on = omega arith;
      user_on = omega arith;
      scan = record {
        tck = omega arith;
        trst = omega arith;
        capture = omega arith;
        shift = omega arith;
        update = omega arith;
        extest = omega arith;
        m_out = omega arith;
        m_in = omega arith;
        hiz = omega arith;
      };
    }

pub instruction_nets_up : (rank : ℕ → ℕ) (first : ℕ) (tap : TapNets) (tdi : NetId) (codes : Codes) → IsInstructionThere rank first codes → AreTapNetsLow rank tap → rank tdi.0 ≡ 0
    → AreInstrNetsUpTo rank (control_top codes) (instruction_nets first tap tdi codes)
instruction_nets_up rank first tap tdi codes there low a =
    let captured : List Feed = pattern_bits codes codes.capture in
    let many : length captured ≡ codes.length = counted codes.length codes.capture.value in
    let bits : StandAt rank (first + 1) (blocks (shift_block 0) (length captured)) =
    subst (λ (n : ℕ). StandAt rank (first + 1) (blocks (shift_block 0) n)) (sym many) (stages_there rank first codes.length there.stages).bits in
    selection_nets_up rank (selections_from first codes) (2 * codes.length) tap (chain_last (first + 1) tdi captured) there.selections low (last_low rank (first + 1) 0 tdi captured bits a)
