-- Two parts that are added one after the other; what is left after the gates that steer a register; and registers in parts.
use Rattle.std.proofs.Common.{◌≡◌, ℕ, ◌+◌, ◌*◌, ◌<◌, ◌≤◌, false, List, ◌++◌, length, refl, sym, ◌∙◌, ap, subst, Some, None, arith}
use Rattle.netlist_model.specs.declared.NetId.{NetId}
use Rattle.netlist_model.specs.declared.Feed.{Feed}
use Rattle.netlist_model.specs.declared.Feed.TheVariants.{Net, Const}
use Rattle.netlist_model.specs.Lists.{cell_count}
use Rattle.netlist_model.specs.Below.{IsFeedBelow, AreFeedsBelow}
use Rattle.netlist_arena.specs.Arena.{ArenaView}
use Rattle.gate_parts.specs.Appended.{Appended}
use Rattle.gate_parts.specs.Laws.{AppendedCount, AppendedMore}
use Rattle.tap_gates.specs.test_logic.declared.TapNets.{TapNets}
use Rattle.register_gates.specs.declared.bits.Steering.{Steering}
use Rattle.register_gates.specs.Bits.{AreNetsBelow, shift_bit_cells}
use Rattle.register_gates.specs.Chains.{chain_cells, chain_last}
use Rattle.register_gates.specs.Constants.{constant_bits}
use Rattle.register_gates.specs.Choices.{choice_bits}
use Rattle.register_gates.specs.Registers.{selected_cells, selected_steering, bypass_cells, data_cells, data_last, inverse_cells, ident_size, ident_cells}
use Rattle.register_gates.specs.Steps.{AddedInTurn}
use Rattle.register_gates.proofs.ConstantBits.{counted, all_below}
use Rattle.register_gates.proofs.ChoiceBits.{counted_choices, each_choice}

pub in_turn : AppendedCount → AppendedMore → AddedInTurn
in_turn by_count more old middle new count others sum part rest a whole b total =
    let nets : length middle.lists.nets ≡ length old.lists.nets + count = by_count old middle count part a in
    let cells : cell_count middle.lists ≡ cell_count old.lists + count = a.counted ∙ ap (λ (k : ℕ). cell_count old.lists + k) whole in
    let P : ℕ → Type 0 = λ n. Appended middle new others (rest n (cell_count middle.lists)) in
    let Q : ℕ → Type 0 = λ n. Appended middle new others (rest (length old.lists.nets + count) n) in
    let R : ℕ → Type 0 = λ n. Appended old new n (part ++ rest (length old.lists.nets + count) (cell_count old.lists + count)) in
    subst R total (more old middle new count others part _ a (subst Q cells (subst P nets b)))

-- the nets of what steers a register are there
pub clock_below : (k n : ℕ) (by : Steering) (tap : TapNets) → by ≡ selected_steering k tap → n ≡ k + 2 → AreNetsBelow k tap.tck tap.trst → AreNetsBelow n by.tck by.trst
clock_below k n by tap e more h =
    let a = h.0 in let b = h.1 in
    let P : Steering → Type 0 = λ s. AreNetsBelow n s.tck s.trst in subst P (sym e) (omega arith, omega arith)

pub steps_below : (k n : ℕ) (by : Steering) (tap : TapNets) → by ≡ selected_steering k tap → n ≡ k + 2 → AreNetsBelow n by.capture by.shift
steps_below k n by tap e more = let P : Steering → Type 0 = λ s. AreNetsBelow n s.capture s.shift in subst P (sym e) (omega arith, omega arith)

pub cells_left : (old middle : ArenaView) (tap : TapNets) (on : NetId) (wanted : ℕ) → Appended old middle 2 (selected_cells (length old.lists.nets) (cell_count old.lists) tap on)
    → 2 + wanted ≤ old.spare.cells → wanted ≤ middle.spare.cells
cells_left old middle tap on wanted added room = let e : middle.spare.cells + 2 ≡ old.spare.cells = added.cell_room in omega arith

pub bypass_added : AppendedCount → AppendedMore → (old middle new : ArenaView) (by : Steering) (tap : TapNets) (on tdi : NetId) → by ≡ selected_steering (length old.lists.nets) tap
    → Appended old middle 2 (selected_cells (length old.lists.nets) (cell_count old.lists) tap on)
    → Appended middle new 3 (shift_bit_cells (length middle.lists.nets) (cell_count middle.lists) by (Const false) tdi)
    → Appended old new 5 (bypass_cells (length old.lists.nets) (cell_count old.lists) tap on tdi)
bypass_added count more old middle new by tap on tdi e a b =
    let P : Steering → Type 0 = λ s. Appended middle new 3 (shift_bit_cells (length middle.lists.nets) (cell_count middle.lists) s (Const false) tdi) in
    in_turn count more old middle new 2 3 5 (selected_cells (length old.lists.nets) (cell_count old.lists) tap on)
    (λ first number. shift_bit_cells first number (selected_steering (length old.lists.nets) tap) (Const false) tdi) a refl (subst P e b) refl

-- operands below so many nets are below more
below_more : (few nets : ℕ) (feed : Feed) → few ≤ nets → IsFeedBelow few feed → IsFeedBelow nets feed
below_more few nets (Net net) h low = omega arith
below_more few nets (Const b) h low = tt

pub more_below : (few nets : ℕ) (feeds : List Feed) → few ≤ nets → AreFeedsBelow few feeds → AreFeedsBelow nets feeds
more_below few nets feeds h all = λ k d within. below_more few nets _ h (all k d within)

pub chain_last_at : (first n : ℕ) (tdi : NetId) (captured : List Feed) → n ≡ first → chain_last n tdi captured ≡ chain_last first tdi captured
chain_last_at first n tdi captured f = ap (λ (k : ℕ). chain_last k tdi captured) f

pub data_added : AppendedCount → AppendedMore → (old middle new : ArenaView) (by : Steering) (tap : TapNets) (on tdi : NetId) (captured : List Feed)
    → by ≡ selected_steering (length old.lists.nets) tap
    → Appended old middle 2 (selected_cells (length old.lists.nets) (cell_count old.lists) tap on)
    → Appended middle new (3 * length captured) (chain_cells (length middle.lists.nets) (cell_count middle.lists) by tdi captured)
    → Appended old new (2 + 3 * length captured) (data_cells (length old.lists.nets) (cell_count old.lists) tap on tdi captured)
data_added count more old middle new by tap on tdi captured e a b =
    let P : Steering → Type 0 = λ s. Appended middle new (3 * length captured) (chain_cells (length middle.lists.nets) (cell_count middle.lists) s tdi captured) in
    in_turn count more old middle new 2 (3 * length captured) (2 + 3 * length captured) (selected_cells (length old.lists.nets) (cell_count old.lists) tap on)
    (λ first number. chain_cells first number (selected_steering (length old.lists.nets) tap) tdi captured) a refl (subst P e b) refl

pub data_last_at : (first n : ℕ) (tdi : NetId) (captured bits : List Feed) → captured ≡ bits → n ≡ first → data_last n tdi captured ≡ data_last first tdi bits
data_last_at first n tdi captured bits e f = ap (λ (k : ℕ). data_last k tdi captured) f ∙ ap (λ (xs : List Feed). data_last first tdi xs) e

-- the identification register without a usercode
pub ident_without : (old new : ArenaView) (tap : TapNets) (on user_on tdi : NetId) (code : ℕ) (captured : List Feed) → captured ≡ constant_bits 32 code
    → Appended old new (2 + 3 * length captured) (data_cells (length old.lists.nets) (cell_count old.lists) tap on tdi captured)
    → Appended old new (ident_size None) (ident_cells (length old.lists.nets) (cell_count old.lists) tap on user_on tdi None code)
ident_without old new tap on user_on tdi code captured e a =
    let bits : List Feed = constant_bits 32 code in
    let P : List Feed → Type 0 = λ xs. Appended old new (2 + 3 * length xs) (data_cells (length old.lists.nets) (cell_count old.lists) tap on tdi xs) in
    let Q : ℕ → Type 0 = λ n. Appended old new n (data_cells (length old.lists.nets) (cell_count old.lists) tap on tdi bits) in
    let R : ℕ → Type 0 = λ n. Appended old new 98 (data_cells n (cell_count old.lists) tap on tdi bits) in
    let S : ℕ → Type 0 = λ n. Appended old new 98 (data_cells (length old.lists.nets + 0) n tap on tdi bits) in
    let size : 2 + 3 * length bits ≡ 98 = let h = counted 32 code in omega arith in
    let nets : length old.lists.nets ≡ length old.lists.nets + 0 = omega arith in
    let cells : cell_count old.lists ≡ cell_count old.lists + 0 = omega arith in
    subst S cells (subst R nets (subst Q size (subst P e a)))

chosen_at : (first : ℕ) (user_on off : NetId) (user code : ℕ) (captured : List Feed) → off.0 ≡ first → captured ≡ choice_bits 32 code user user_on off
    → captured ≡ choice_bits 32 code user user_on (record { 0 = first })
chosen_at first user_on off user code captured at e = e ∙ ap (λ (n : ℕ). choice_bits 32 code user user_on (record { 0 = n })) at

-- and with one
pub ident_with : AppendedCount → AppendedMore → (old middle new : ArenaView) (tap : TapNets) (on user_on off tdi : NetId) (user code : ℕ) (captured : List Feed) → off.0 ≡ length old.lists.nets
    → captured ≡ choice_bits 32 code user user_on off
    → Appended old middle 1 (inverse_cells (length old.lists.nets) (cell_count old.lists) user_on (Some user))
    → Appended middle new (2 + 3 * length captured) (data_cells (length middle.lists.nets) (cell_count middle.lists) tap on tdi captured)
    → Appended old new (ident_size (Some user)) (ident_cells (length old.lists.nets) (cell_count old.lists) tap on user_on tdi (Some user) code)
ident_with count more old middle new tap on user_on off tdi user code captured at e a b =
    let bits : List Feed = choice_bits 32 code user user_on (record { 0 = length old.lists.nets }) in
    let P : List Feed → Type 0 = λ xs. Appended middle new (2 + 3 * length xs) (data_cells (length middle.lists.nets) (cell_count middle.lists) tap on tdi xs) in
    let size : 1 + (2 + 3 * length bits) ≡ 99 = let h = counted_choices 32 code user user_on (record { 0 = length old.lists.nets }) in omega arith in
    in_turn count more old middle new 1 (2 + 3 * length bits) 99 (inverse_cells (length old.lists.nets) (cell_count old.lists) user_on (Some user))
    (λ first number. data_cells first number tap on tdi bits) a refl (subst P (chosen_at (length old.lists.nets) user_on off user code captured at e) b) size

-- of bits that are handed on
pub many : (captured : List Feed) (code : ℕ) → captured ≡ constant_bits 32 code → length captured ≡ 32
many captured code e = ap (λ (xs : List Feed). length xs) e ∙ counted 32 code

pub many_choices : (captured : List Feed) (code user : ℕ) (on off : NetId) → captured ≡ choice_bits 32 code user on off → length captured ≡ 32
many_choices captured code user on off e = ap (λ (xs : List Feed). length xs) e ∙ counted_choices 32 code user on off

pub constants_below : (nets : ℕ) (captured : List Feed) (code : ℕ) → captured ≡ constant_bits 32 code → AreFeedsBelow nets captured
constants_below nets captured code e = let P : List Feed → Type 0 = λ xs. AreFeedsBelow nets xs in subst P (sym e) (all_below nets 32 code)

pub choices_below : (nets : ℕ) (captured : List Feed) (code user : ℕ) (on off : NetId) → captured ≡ choice_bits 32 code user on off → on.0 < nets → off.0 < nets → AreFeedsBelow nets captured
choices_below nets captured code user on off e a b =
    let P : List Feed → Type 0 = λ xs. AreFeedsBelow nets xs in subst P (sym e) (each_choice (IsFeedBelow nets) 32 code user on off (λ c. tt) a b)
