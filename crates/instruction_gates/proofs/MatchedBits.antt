-- What tells whether an opcode is latched.
use Rattle.std.proofs.Common.{◌≡◌, ℕ, ◌+◌, ◌*◌, Bool, true, false, List, [], ◌∷◌, length, refl, sym, ap, ◌∙◌, arith}
use Rattle.signal_values.specs.declared.Sig.{Sig}
use Rattle.signal_values.specs.declared.Sig.TheVariants.{Zero, One, Unknown}
use Rattle.signal_values.specs.Values.{bit, sig_and, sig_not, sig_xor}
use Rattle.signal_values.proofs.Laws.{and-bit}
use Rattle.netlist_model.specs.declared.Feed.{Feed}
use Rattle.netlist_model.specs.Lists.{NetlistView}
use Rattle.netlist_model.specs.Settled.{feed_value, IsSettled}
use Rattle.netlist_model.specs.Formed.{IsWellFormed}
use Rattle.netlist_model.specs.Contained.{HasCells}
use Rattle.netlist_model.specs.Runs.{Moment}
use Rattle.netlist_model.specs.LawsContained.{ContainedParts}
use Rattle.gate_parts.specs.PartLaws.{ContainedPartMeets}
use Rattle.test_logic.specs.Instructions.{is_pattern, is_same_bit}
use Rattle.instruction_gates.specs.declared.matches.TheConstants.{EQUAL_BIT}
use Rattle.instruction_gates.specs.Rows.{is_one, bits_in}
use Rattle.instruction_gates.specs.Latches.{latch_values}
use Rattle.instruction_gates.specs.Matches.{match_before, equal_given, match_cells, matches_cells, IsKnown, AreKnown}

equal : (x : Sig) (b : Bool) → IsKnown x → sig_not (sig_xor x (bit b)) ≡ bit (is_same_bit x (bit b))
equal Zero true known = refl
equal Zero false known = refl
equal One true known = refl
equal One false known = refl
equal Unknown b known = absurd known

pub told : ContainedParts → ContainedPartMeets → (first number latches : ℕ) (wanted : List Feed) (N : NetlistView) (m : Moment) → IsWellFormed N
    → HasCells N (matches_cells first number latches wanted) → IsSettled N m.pins m.state m.value → AreKnown (latch_values m.value latches wanted)
    → feed_value m.value (match_before first (length wanted)) ≡ bit (is_pattern (latch_values m.value latches wanted) (bits_in wanted))
told parts meets first number latches [] N m formed has settled known = refl
told parts meets first number latches (w ∷ rest) N m formed has settled known =
    let f : ℕ = first + 2 * length rest in
    let n : ℕ = number + 2 * length rest in
    let l : ℕ = latches + 3 * length rest + 1 in
    let before : Feed = match_before first (length rest) in
    let apart = (parts N (matches_cells first number latches rest) (match_cells before l f n w)).parts has in
    let eqs = meets N EQUAL_BIT (equal_given before l w) f n formed apart.1 _ m.state m.value settled in
    let z : f + 0 ≡ f = omega arith in
    let e0 : m.value (f + 0) ≡ sig_and (m.value (f + 1)) (feed_value m.value before) = (eqs 0 _ refl refl).1 in
    let e1 : m.value (f + 1) ≡ sig_not (sig_xor (m.value l) (bit (is_one w))) = (eqs 1 _ refl refl).1 in
    let there : feed_value m.value before ≡ bit (is_pattern (latch_values m.value latches rest) (bits_in rest))
    = told parts meets first number latches rest N m formed apart.0 settled known.1 in
    ap m.value (sym z) ∙ e0 ∙ ap (λ (x : Sig). sig_and x (feed_value m.value before)) (e1 ∙ equal (m.value l) (is_one w) known.0)
    ∙ ap (λ (x : Sig). sig_and (bit (is_same_bit (m.value l) (bit (is_one w)))) x) there
    ∙ and-bit (is_same_bit (m.value l) (bit (is_one w))) (is_pattern (latch_values m.value latches rest) (bits_in rest))
