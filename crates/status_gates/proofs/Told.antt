-- What the gates tell.
use Rattle.std.proofs.Common.{◌≡◌, ℕ, zero, suc, ◌+◌, Bool, true, false, List, [], ◌∷◌, length, refl, sym, ap, ◌∙◌, arith}
use Rattle.signal_values.specs.declared.Sig.{Sig}
use Rattle.signal_values.specs.declared.Sig.TheVariants.{Zero, One, Unknown}
use Rattle.signal_values.specs.Values.{bit, sig_and, sig_not, sig_mux}
use Rattle.signal_values.proofs.Laws.{and-bit}
use Rattle.netlist_model.specs.declared.Feed.{Feed}
use Rattle.netlist_model.specs.declared.Feed.TheVariants.{Net}
use Rattle.netlist_model.specs.Settled.{feed_value}
use Rattle.netlist_model.specs.LawsContained.{ContainedParts}
use Rattle.gate_parts.specs.Parts.{part_cells}
use Rattle.gate_parts.specs.PartLaws.{ContainedPartMeets}
use Rattle.test_logic.specs.Instructions.{is_pattern, is_same_bit}
use Rattle.instruction_gates.specs.Rows.{is_one, bits_in}
use Rattle.instruction_gates.specs.Copies.{row_values}
use Rattle.instruction_gates.specs.Matches.{IsKnown}
use Rattle.register_gates.specs.declared.ident.TheConstants.{INVERSE}
use Rattle.status_gates.specs.declared.TheConstants.{BOTH, SHOWN}
use Rattle.status_gates.specs.Opcodes.{inverses_cells, InversesTell, literal, told_feed, opcode_cells, OpcodesTell}
use Rattle.status_gates.specs.Shown.{ShownTells}

pub record GateLaws : Type 0 where
  pub parts : ContainedParts
  pub meets : ContainedPartMeets

-- The inverses.

pub inverses_tell : GateLaws → InversesTell
inverses_tell laws first number opcode zero N m formed has settled = tt
inverses_tell laws first number opcode (suc behind) N m formed has settled =
    let given : List Feed = Net (record { 0 = opcode }) ∷ [] in
    let apart = (laws.parts N (part_cells INVERSE given first number) (inverses_cells (suc first) (suc number) (suc opcode) behind)).parts has in
    let eqs = laws.meets N INVERSE given first number formed apart.0 _ m.state m.value settled in
    let z : first + 0 ≡ first = omega arith in
    let e : m.value (first + 0) ≡ sig_not (m.value opcode) = (eqs 0 _ refl refl).1 in
    (ap m.value (sym z) ∙ e, inverses_tell laws (suc first) (suc number) (suc opcode) behind N m formed apart.1 settled)

-- One bit.

same : (b : Bool) (x y : Sig) → IsKnown x → y ≡ sig_not x → (v : ℕ → Sig) (opcode inverse : ℕ) → v opcode ≡ x → v inverse ≡ y
    → feed_value v (literal b opcode inverse) ≡ bit (is_same_bit x (bit b))
same true Zero y known e v opcode inverse f g = f
same true One y known e v opcode inverse f g = f
same true Unknown y known e v opcode inverse f g = absurd known
same false Zero y known e v opcode inverse f g = g ∙ e
same false One y known e v opcode inverse f g = g ∙ e
same false Unknown y known e v opcode inverse f g = absurd known

pub opcodes_tell : GateLaws → OpcodesTell
opcodes_tell laws first number opcode inverses [] N m formed has settled are known = refl
opcodes_tell laws first number opcode inverses (w ∷ rest) N m formed has settled are known =
    let given : List Feed = literal (is_one w) opcode inverses ∷ told_feed first rest ∷ [] in
    let f : ℕ = first + length rest in
    let n : ℕ = number + length rest in
    let apart = (laws.parts N (opcode_cells first number (suc opcode) (suc inverses) rest) (part_cells BOTH given f n)).parts has in
    let eqs = laws.meets N BOTH given f n formed apart.1 _ m.state m.value settled in
    let z : f + 0 ≡ f = omega arith in
    let e : m.value (f + 0) ≡ sig_and (feed_value m.value (literal (is_one w) opcode inverses)) (feed_value m.value (told_feed first rest)) = (eqs 0 _ refl refl).1 in
    let here = same (is_one w) (m.value opcode) (m.value inverses) known.0 are.0 m.value opcode inverses refl refl in
    let there = opcodes_tell laws first number (suc opcode) (suc inverses) rest N m formed apart.0 settled are.1 known.1 in
    ap m.value (sym z) ∙ e ∙ ap (λ (x : Sig). sig_and x (feed_value m.value (told_feed first rest))) here
    ∙ ap (λ (x : Sig). sig_and (bit (is_same_bit (m.value opcode) (bit (is_one w)))) x) there
    ∙ and-bit (is_same_bit (m.value opcode) (bit (is_one w))) (is_pattern (row_values m.value (suc opcode) (length rest)) (bits_in rest))

-- The bit that is shown.

pub shown_tells : ContainedPartMeets → ShownTells
shown_tells meets first number behind near on N m formed has settled =
    let given : List Feed = Net behind ∷ Net near ∷ Net on ∷ [] in
    let eqs = meets N SHOWN given first number formed has _ m.state m.value settled in
    let z : first + 0 ≡ first = omega arith in
    let e : m.value (first + 0) ≡ sig_mux (m.value on.0) (m.value behind.0) (m.value near.0) = (eqs 0 _ refl refl).1 in
    ap m.value (sym z) ∙ e
