-- A register of any length is what the test logic makes of it.
use Rattle.std.proofs.Common.{◌≡◌, ℕ, ◌+◌, ◌<◌, Bool, List, [], ◌∷◌, length, refl, ap, ◌∙◌, arith}
use Rattle.signal_values.specs.declared.Sig.{Sig}
use Rattle.signal_values.specs.declared.Sig.TheVariants.{Zero}
use Rattle.signal_values.specs.Values.{bit}
use Rattle.netlist_model.specs.declared.NetId.{NetId}
use Rattle.netlist_model.specs.declared.Feed.{Feed}
use Rattle.netlist_model.specs.Lists.{NetlistView}
use Rattle.netlist_model.specs.Settled.{feed_values, IsSettled}
use Rattle.netlist_model.specs.Formed.{IsWellFormed}
use Rattle.netlist_model.specs.Contained.{HasCells}
use Rattle.netlist_model.specs.Runs.{Moment, PinEvent, IsStep}
use Rattle.netlist_model.specs.LawsContained.{ContainedParts}
use Rattle.gate_parts.specs.PartLaws.{ContainedPartMeets}
use Rattle.tap_gates.specs.test_logic.declared.TapNets.{TapNets}
use Rattle.tap_gates.specs.test_logic.declared.TapState.{TapState}
use Rattle.tap_gates.specs.test_logic.declared.Levels.{Levels}
use Rattle.tap_gates.specs.test_logic.Controller.{act}
use Rattle.tap_gates.specs.test_logic.Registers.{first_bit, shifted, ident_after}
use Rattle.tap_gates.specs.test_logic.Machine.{zeros}
use Rattle.register_gates.specs.Chains.{chain_cells, chain_last, chain_values, cleared, ChainsFollow}
use Rattle.register_gates.specs.BitsLaws.{Carries, bit_after}
use Rattle.register_gates.specs.Registers.{selected_cells, selected_steering, data_cells, data_values}
use Rattle.register_gates.specs.Laws.{Directs, DataFollows}
use Rattle.register_gates.proofs.Selection.{selected_action, acted, steered}

-- the laws of what it is made of
pub record PartLaws : Type 0 where
  pub parts : ContainedParts
  pub meets : ContainedPartMeets
  pub chains : ChainsFollow

-- as many zeros
pub cleared_is : (value : ℕ → Sig) (captured : List Feed) → cleared captured ≡ zeros (feed_values value captured)
cleared_is value [] = refl
cleared_is value (c ∷ cs) = ap (λ (xs : List Sig). Zero ∷ xs) (cleared_is value cs)

last_of : (value : ℕ → Sig) (first : ℕ) (tdi : NetId) (captured : List Feed) → 0 < length captured → value (chain_last first tdi captured).0 ≡ first_bit (chain_values value first captured)
last_of value first tdi [] some = absurd (omega arith)
last_of value first tdi (c ∷ cs) some = refl

step_at : PartLaws → (N : NetlistView) (first number : ℕ) (tap : TapNets) (on tdi : NetId) (captured : List Feed) (event : PinEvent) (w : TapState) (selected : Bool)
    (before after : Levels) (m m' : Moment) → IsWellFormed N → HasCells N (data_cells first number tap on tdi captured) → IsSettled N m.pins m.state m.value → IsStep N event m m'
    → Directs tap on tdi before w selected m → Carries tap.tck tap.trst after m'
    → data_values m'.value first captured
    ≡ bit_after before after (zeros captured) (ident_after selected (feed_values m.value captured) w (bit before.tdi) (data_values m.value first captured))
    (data_values m.value first captured) (data_values m.value first captured)
step_at by N first number tap on tdi captured event w selected before after m m' formed has settled step directs carried' =
    let apart = (by.parts N (selected_cells first number tap on) (chain_cells (first + 2) (number + 2) (selected_steering first tap) tdi captured)).parts has in
    let steers = steered by.meets N first number tap on w selected m formed apart.0 settled directs.shows directs.selection in
    let vs : List Sig = chain_values m.value (first + 2) captured in
    let e : chain_values m'.value (first + 2) captured
    ≡ bit_after before after (cleared captured) (act (selected_action selected w) (feed_values m.value captured) (shifted (m.value tdi.0) vs) vs) vs vs
    = (by.chains (first + 2) (number + 2) (selected_steering first tap) tdi captured).step N event (selected_action selected w) before after m m' formed apart.1 settled step
    directs.carries carried' steers in
    let d : act (selected_action selected w) (feed_values m.value captured) (shifted (m.value tdi.0) vs) vs ≡ ident_after selected (feed_values m.value captured) w (bit before.tdi) vs
    = acted selected w (feed_values m.value captured) (shifted (m.value tdi.0) vs) vs
    ∙ ap (λ (x : Sig). ident_after selected (feed_values m.value captured) w x vs) directs.data_in in
    e ∙ ap (λ (xs : List Sig). bit_after before after (zeros captured) xs vs vs) d

pub follows : PartLaws → DataFollows
follows by = λ first number tap on tdi captured. record {
  start = λ N given levels m formed has start carried low.
      let apart = (by.parts N (selected_cells first number tap on) (chain_cells (first + 2) (number + 2) (selected_steering first tap) tdi captured)).parts has in
      (by.chains (first + 2) (number + 2) (selected_steering first tap) tdi captured).start N given levels m formed apart.1 start carried low;
  step = λ N event w selected before after m m' formed has settled step directs carried'.
      step_at by N first number tap on tdi captured event w selected before after m m' formed has settled step directs carried';
  last = λ some m. last_of m.value (first + 2) tdi captured some;
}
