-- What the gates of all registers tell.
use Rattle.std.proofs.Common.{◌≡◌, ℕ, zero, suc, ◌+◌, ◌/◌, ◌%◌, ◌<◌, ◌==◌, List, [], ◌∷◌, ◌++◌, length, refl, sym, ap, subst, ◌∙◌, arith}
use Rattle.std.proofs.lemmas.List.Elements.{All-nil, All-cons, All-head, All-tail}
use Rattle.signal_values.specs.declared.Sig.{Sig}
use Rattle.signal_values.specs.Values.{bit, sig_mux}
use Rattle.netlist_model.specs.declared.NetId.{NetId}
use Rattle.netlist_model.specs.declared.Feed.{Feed}
use Rattle.netlist_model.specs.Lists.{CellView, NetlistView}
use Rattle.netlist_model.specs.Settled.{feed_value, IsSettled}
use Rattle.netlist_model.specs.Formed.{IsWellFormed}
use Rattle.netlist_model.specs.Contained.{HasCells}
use Rattle.netlist_model.specs.Runs.{Moment}
use Rattle.netlist_model.specs.LawsContained.{ContainedParts}
use Rattle.gate_parts.specs.Parts.{part_cells}
use Rattle.test_logic.specs.Instructions.{bits_of, pattern, is_pattern}
use Rattle.instruction_gates.specs.Rows.{bits_in}
use Rattle.instruction_gates.specs.Copies.{row_values}
use Rattle.instruction_gates.specs.Matches.{AreKnown}
use Rattle.register_gates.specs.Constants.{constant_bits, ConstantsAreBits}
use Rattle.register_gates.specs.Registers.{data_cells, data_last}
use Rattle.surrounded_core.specs.Places.{bypass_bit}
use Rattle.status_gates.specs.Placed.{shown_by}
use Rattle.status_fitting.specs.declared.fitted.FittedRegister.{FittedRegister}
use Rattle.status_gates.specs.declared.TheConstants.{SHOWN}
use Rattle.status_gates.specs.Opcodes.{told_feed, opcode_cells, AreInverses, OpcodesTell}
use Rattle.status_gates.specs.Shown.{shown_given, ShownTells}
use Rattle.status_gates.specs.Wires.{net_feeds}
use Rattle.status_gates.specs.declared.parts.SharedNets.{SharedNets}
use Rattle.status_gates.specs.Registers.{wanted_feeds, net_in, bits_size, registers_size, on_at, near_at, shown_of, registers_cells}
use Rattle.status_gates.specs.PartsLaws.{placed_at, placed_in, HasOpcode, Stands, RegistersTell}

-- the laws that it stands on
pub record TellLaws : Type 0 where
  pub opcodes : OpcodesTell
  pub shown : ShownTells
  pub parts : ContainedParts
  pub constants : ConstantsAreBits

bits_in_constants : (count value : ℕ) → bits_in (constant_bits count value) ≡ bits_of count value
unfolding constant_bits bits_of
bits_in_constants zero value = refl
bits_in_constants (suc count) value = ap (λ (bits : List Sig). bit (value % 2 == 1) ∷ bits) (bits_in_constants count (value / 2))

-- what a net carries that an operand is
on_value : (v : ℕ → Sig) (first : ℕ) (items : List Feed) → 0 < length items → v (net_in (told_feed first items)).0 ≡ feed_value v (told_feed first items)
on_value v first [] some = absurd (omega (arith, some))
on_value v first (item ∷ rest) some = refl

-- a register's net tells its opcode
on_tells : TellLaws → (first number : ℕ) (shared : SharedNets) (r : FittedRegister) (N : NetlistView) (m : Moment) → IsWellFormed N
    → HasCells N (opcode_cells first number shared.opcode.0 shared.inverses.0 (wanted_feeds r.register.bits)) → IsSettled N m.pins m.state m.value → HasOpcode shared m r
    → m.value (on_at first r).0 ≡ bit (is_pattern (row_values m.value shared.opcode.0 r.register.bits.len) (pattern r.register.bits))
on_tells laws first number shared r N m formed has settled opcode =
    let n : ℕ = r.register.bits.len in
    let wanted : List Feed = wanted_feeds r.register.bits in
    let count : length wanted ≡ n = (laws.constants n r.register.bits.value).counted in
    let are : AreInverses m.value shared.opcode.0 shared.inverses.0 (length wanted) = subst (AreInverses m.value shared.opcode.0 shared.inverses.0) (sym count) opcode.inverses in
    let known : AreKnown (row_values m.value shared.opcode.0 (length wanted)) = subst (λ (k : ℕ). AreKnown (row_values m.value shared.opcode.0 k)) (sym count) opcode.known in
    let some = opcode.some in
    on_value m.value first wanted (omega (arith, some, count))
    ∙ laws.opcodes first number shared.opcode.0 shared.inverses.0 wanted N m formed has settled are known
    ∙ ap (λ (k : ℕ). bit (is_pattern (row_values m.value shared.opcode.0 k) (bits_in wanted))) count
    ∙ ap (λ (ys : List Sig). bit (is_pattern (row_values m.value shared.opcode.0 n) ys)) (bits_in_constants n r.register.bits.value)

pub registers_tell : TellLaws → RegistersTell
registers_tell laws first number S shared [] N m tdi formed has settled opcodes = record { each = All-nil (Stands N shared m); shown_is = refl }
registers_tell laws first number S shared (r ∷ rs) N m tdi formed has settled opcodes =
    let f : ℕ = first + registers_size rs in
    let k : ℕ = number + registers_size rs in
    let n : ℕ = r.register.bits.len in
    let front : List CellView = registers_cells first number shared (bypass_bit S) rs in
    let behind : NetId = shown_of first (bypass_bit S) rs in
    let end : ℕ = n + bits_size r in
    let xs : List CellView = opcode_cells f k shared.opcode.0 shared.inverses.0 (wanted_feeds r.register.bits) in
    let ys : List CellView = data_cells (f + n) (k + n) shared.tap (on_at f r) shared.tdi (net_feeds r.nets) in
    let zs : List CellView = part_cells SHOWN (shown_given behind (near_at f shared r) (on_at f r)) (f + end) (k + end) in
    let apart = (laws.parts N front ((xs ++ ys) ++ zs)).parts has in
    let inner = (laws.parts N (xs ++ ys) zs).parts apart.1 in
    let both = (laws.parts N xs ys).parts inner.0 in
    let before = registers_tell laws first number S shared rs N m tdi formed apart.0 settled (All-tail (HasOpcode shared m) r rs opcodes) in
    let stands : Stands N shared m (placed_at f k r) = record {
      cells = both.1;
      on = on_tells laws f k shared r N m formed both.0 settled (All-head (HasOpcode shared m) r rs opcodes);
    } in
    let e = laws.shown (f + end) (k + end) behind (near_at f shared r) (on_at f r) N m formed inner.1 settled in
    let near : near_at f shared r ≡ data_last (f + n) S.tdi (net_feeds r.nets) = ap (λ (t : NetId). data_last (f + n) t (net_feeds r.nets)) tdi in
    record {
      each = All-cons (Stands N shared m) (placed_at f k r) (placed_in first number rs) stands before.each;
      shown_is = e ∙ ap (λ (x : Sig). sig_mux (m.value (on_at f r).0) x (m.value (near_at f shared r).0)) before.shown_is
          ∙ ap (λ (t : NetId). sig_mux (m.value (on_at f r).0) (shown_by S (placed_in first number rs) m) (m.value t.0)) near;
    }
