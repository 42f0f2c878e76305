-- The instruction register is that of the test logic.
use Rattle.std.proofs.Common.{◌≡◌, ℕ, zero, suc, ◌+◌, ◌*◌, ◌≤◌, List, [], ◌∷◌, length, refl, sym, ap, ◌∙◌, arith}
use Rattle.signal_values.specs.declared.Sig.{Sig}
use Rattle.signal_values.specs.Values.{bit, sig_or}
use Rattle.signal_values.proofs.Laws.{or-bit}
use Rattle.netlist_model.specs.declared.NetId.{NetId}
use Rattle.netlist_model.specs.declared.Feed.{Feed}
use Rattle.netlist_model.specs.Lists.{NetlistView}
use Rattle.netlist_model.specs.Settled.{feed_values}
use Rattle.netlist_model.specs.Formed.{IsWellFormed}
use Rattle.netlist_model.specs.Contained.{HasCells}
use Rattle.netlist_model.specs.Runs.{Moment, PinEvent, IsRun}
use Rattle.netlist_model.specs.LawsContained.{ContainedParts}
use Rattle.netlist_model.specs.LawsRuns.{RunHasMoments}
use Rattle.gate_parts.specs.Parts.{part_cells}
use Rattle.gate_parts.specs.PartLaws.{ContainedPartMeets}
use Rattle.test_logic.specs.declared.TapNets.{TapNets}
use Rattle.test_logic.specs.declared.TapState.{TapState}
use Rattle.test_logic.specs.declared.TapState.TheVariants.{TestLogicReset, CaptureIr, ShiftIr, UpdateIr}
use Rattle.test_logic.specs.declared.Levels.{Levels}
use Rattle.test_logic.specs.Controller.{ir_action, act}
use Rattle.test_logic.specs.Instructions.{reset_opcode}
use Rattle.test_logic.specs.Registers.{shifted, latched_after}
use Rattle.test_logic.specs.Machine.{TestLogic, Machine, IsHistory, zeros}
use Rattle.register_gates.specs.tap_gates.Controller.{same_state}
use Rattle.register_gates.specs.Chains.{chain_cells, chain_values, cleared, ChainsFollow}
use Rattle.register_gates.specs.BitsLaws.{Steers, is_capture, is_shift, bit_after}
use Rattle.register_gates.specs.Steps.{StepsByRegister}
use Rattle.register_gates.proofs.DataRegisters.{cleared_is}
use Rattle.instruction_gates.specs.declared.stages.TheConstants.{LOADS}
use Rattle.instruction_gates.specs.Rows.{bits_in}
use Rattle.instruction_gates.specs.Latches.{latches_cells, is_reset, is_update, Latches, LatchesFollow}
use Rattle.instruction_gates.specs.Stages.{loads_given, ir_steering, ir_latching, shift_stage_cells, stages_cells, shift_list, latched_list, Feeds, StagesFollow, StagesStep}

-- the laws of what it is made of
pub record PartLaws : Type 0 where
  pub parts : ContainedParts
  pub meets : ContainedPartMeets
  pub chains : ChainsFollow
  pub latches : LatchesFollow
  pub steps : StepsByRegister
  pub moments : RunHasMoments

captures : (w : TapState) → bit (same_state CaptureIr w) ≡ bit (is_capture (ir_action w))
captures w = grind arith

shifts : (w : TapState) → bit (same_state ShiftIr w) ≡ bit (is_shift (ir_action w))
shifts w = grind arith

updates : (w : TapState) → same_state UpdateIr w ≡ is_update w
updates w = grind arith

resets : (w : TapState) → same_state TestLogicReset w ≡ is_reset w
resets w = grind arith

-- a chain's values by its length
same_values : (value : ℕ → Sig) (first : ℕ) (xs ys : List Feed) → length xs ≡ length ys → chain_values value first xs ≡ chain_values value first ys
same_values value first [] [] e = refl
same_values value first [] (y ∷ ys) e = absurd (omega arith)
same_values value first (x ∷ xs) [] e = absurd (omega arith)
same_values value first (x ∷ xs) (y ∷ ys) e =
    let less : length xs ≡ length ys = omega arith in
    ap (λ (n : ℕ). value (first + 3 * n) ∷ chain_values value first xs) less ∙ ap (λ (vs : List Sig). value (first + 3 * length ys) ∷ vs) (same_values value first xs ys less)

record Apart (N : NetlistView) (first number : ℕ) (tap : TapNets) (tdi : NetId) (captured presets : List Feed) : Type 0 where
  loads : HasCells N (part_cells LOADS (loads_given tap) first number)
  chain : HasCells N (chain_cells (first + 1) (number + 1) (ir_steering tap) tdi captured)
  latches : HasCells N (latches_cells (first + (1 + 3 * length captured)) (number + (1 + 3 * length captured)) (ir_latching first tap) (first + 1) presets)

apart : ContainedParts → (N : NetlistView) (first number : ℕ) (tap : TapNets) (tdi : NetId) (captured presets : List Feed) → HasCells N (stages_cells first number tap tdi captured presets)
    → Apart N first number tap tdi captured presets
apart parts N first number tap tdi captured presets has =
    let two = (parts N (shift_stage_cells first number tap tdi captured)
    (latches_cells (first + (1 + 3 * length captured)) (number + (1 + 3 * length captured)) (ir_latching first tap) (first + 1) presets)).parts has in
    let one = (parts N (part_cells LOADS (loads_given tap) first number) (chain_cells (first + 1) (number + 1) (ir_steering tap) tdi captured)).parts two.0 in
    record { loads = one.0; chain = one.1; latches = two.1 }

pub step : PartLaws → StagesStep
step laws = λ first number tap tdi captured presets N event L before after caught machine m m' as_many formed has settled goes opcode f carries' shift latched.
    let cells = apart laws.parts N first number tap tdi captured presets has in
    let at : ℕ = first + (1 + 3 * length captured) in
    let w : TapState = machine.state in
    let ss : List Sig = shift_list m.value first captured in
    let ls : List Sig = latched_list m.value first captured presets in
    let steers : Steers (ir_steering tap) (ir_action w) m = record { capture = f.shows.capture_ir ∙ captures w; shift = f.shows.shift_ir ∙ shifts w } in
    let z : first + 0 ≡ first = omega arith in
    let e0 : m.value (first + 0) ≡ sig_or (m.value tap.update_ir.0) (m.value tap.in_reset.0)
    = (laws.meets N LOADS (loads_given tap) first number formed cells.loads _ m.state m.value settled 0 _ refl refl).1 in
    let latches : Latches (ir_latching first tap) w m = record {
      loads = ap m.value (sym z) ∙ e0 ∙ ap (λ (x : Sig). sig_or x (m.value tap.in_reset.0)) (f.shows.update_ir ∙ ap bit (updates w))
          ∙ ap (λ (x : Sig). sig_or (bit (is_update w)) x) (f.shows.in_reset ∙ ap bit (resets w)) ∙ or-bit (is_update w) (is_reset w);
      resets = f.shows.in_reset ∙ ap bit (resets w);
    } in
    let a : shift_list m'.value first captured
    ≡ bit_after before after (cleared captured) (act (ir_action w) (feed_values m.value captured) (shifted (m.value tdi.0) ss) ss) ss ss
    = (laws.chains (first + 1) (number + 1) (ir_steering tap) tdi captured).step N event (ir_action w) before after m m' formed cells.chain settled goes f.carries carries' steers in
    let b : latched_list m'.value first captured presets
    ≡ bit_after before after (bits_in presets) ls (latched_after (bits_in presets) w (chain_values m.value (first + 1) presets) ls) ls
    = (laws.latches at (number + (1 + 3 * length captured)) (ir_latching first tap) (first + 1) presets).step N event w before after m m' formed cells.latches settled goes f.carries carries' latches in
    let next = laws.steps L before after caught machine in
    let shift_next : List Sig → List Sig → Sig → List Sig → List Sig = λ zs cs d vs. bit_after before after zs (act (ir_action w) cs (shifted d vs) vs) vs vs in
    let latch_next : List Sig → List Sig → List Sig → List Sig = λ rs xs vs. bit_after before after rs vs (latched_after rs w xs vs) vs in (
      (a ∙ ap (λ (zs : List Sig). shift_next zs (feed_values m.value captured) (m.value tdi.0) ss) (cleared_is m.value captured ∙ ap (λ (xs : List Sig). zeros xs) f.pattern)
          ∙ ap (λ (cs : List Sig). shift_next (zeros L.capture) cs (m.value tdi.0) ss) f.pattern
          ∙ ap (λ (d : Sig). shift_next (zeros L.capture) L.capture d ss) f.data_in
          ∙ ap (λ (vs : List Sig). shift_next (zeros L.capture) L.capture (bit before.tdi) vs) shift
          ∙ sym next.shift),
      (b ∙ ap (λ (rs : List Sig). latch_next rs (chain_values m.value (first + 1) presets) ls) (sym opcode)
          ∙ ap (λ (xs : List Sig). latch_next (reset_opcode L.opcodes) xs ls) (same_values m.value (first + 1) presets captured as_many ∙ shift)
          ∙ ap (λ (vs : List Sig). latch_next (reset_opcode L.opcodes) machine.shift vs) latched
          ∙ sym next.latched),
    )

pub follow : PartLaws → StagesFollow
follow laws = λ first number tap tdi captured presets N given events moment as_many formed has run L levels caught machine history opcode feeds.
    along laws first number tap tdi captured presets N given events moment as_many formed has run L levels caught machine history opcode feeds
  where
    along : PartLaws → (first number : ℕ) (tap : TapNets) (tdi : NetId) (captured presets : List Feed) (N : NetlistView) (given : ℕ → Sig) (events : List PinEvent) (moment : ℕ → Moment)
        → length presets ≡ length captured → IsWellFormed N → HasCells N (stages_cells first number tap tdi captured presets) → IsRun N given events moment
        → (L : TestLogic) (levels : ℕ → Levels) (caught : ℕ → List Sig) (machine : ℕ → Machine) → IsHistory L levels caught (length events) machine
        → reset_opcode L.opcodes ≡ bits_in presets → ((t : ℕ) → t ≤ length events → Feeds tap tdi captured L (levels t) (machine t) (moment t))
        → (t : ℕ) → t ≤ length events
        → (shift_list (moment t).value first captured ≡ (machine t).shift) × (latched_list (moment t).value first captured presets ≡ (machine t).latched)
    along laws first number tap tdi captured presets N given events moment as_many formed has run L levels caught machine history opcode feeds zero below =
        let cells = apart laws.parts N first number tap tdi captured presets has in
        let at : ℕ = first + (1 + 3 * length captured) in
        let f = feeds 0 below in (
          ((laws.chains (first + 1) (number + 1) (ir_steering tap) tdi captured).start N given (levels 0) (moment 0) formed cells.chain run.start f.carries history.low
              ∙ cleared_is (moment 0).value captured ∙ ap (λ (xs : List Sig). zeros xs) f.pattern ∙ sym (ap (λ (x : Machine). x.shift) history.start)),
          ((laws.latches at (number + (1 + 3 * length captured)) (ir_latching first tap) (first + 1) presets).start N given (levels 0) (moment 0) formed cells.latches run.start f.carries history.low
              ∙ sym opcode ∙ sym (ap (λ (x : Machine). x.latched) history.start)),
        )
    along laws first number tap tdi captured presets N given events moment as_many formed has run L levels caught machine history opcode feeds (suc t) below =
        let now_below : t ≤ length events = omega arith in
        let held = along laws first number tap tdi captured presets N given events moment as_many formed has run L levels caught machine history opcode feeds t now_below in
        let now = laws.moments N given events moment run t now_below in
        let event = now.step below in
        let next = step laws first number tap tdi captured presets N event.0 L (levels t) (levels (suc t)) (caught t) (machine t) (moment t) (moment (suc t)) as_many formed has now.settled event.2
        opcode (feeds t now_below) (feeds (suc t) below).carries held.0 held.1 in
        let same = history.steps t below in (
          next.0 ∙ ap (λ (x : Machine). x.shift) (sym same),
          next.1 ∙ ap (λ (x : Machine). x.latched) (sym same),
        )
