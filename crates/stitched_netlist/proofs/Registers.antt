-- The cells of the instruction register and of the other registers beside the boundary register.
use Rattle.std.proofs.Common.{◌≡◌, ℕ, zero, suc, ◌+◌, ◌*◌, ◌<◌, ◌≤◌, ◌/◌, ◌%◌, ◌==◌, true, false, Bool, List, [], ◌∷◌, length, refl, ap, Option, Some, None, arith}
use Rattle.netlist_model.specs.declared.NetId.{NetId}
use Rattle.netlist_model.specs.declared.Feed.{Feed}
use Rattle.netlist_model.specs.declared.Feed.TheVariants.{Net, Const}
use Rattle.gate_parts.specs.Parts.{part_cells}
use Rattle.surrounded_core.specs.register_gates.declared.bits.Steering.{Steering}
use Rattle.surrounded_core.specs.register_gates.declared.bits.TheConstants.{SHIFT_BIT}
use Rattle.surrounded_core.specs.register_gates.Bits.{shift_bit_given, shift_bit_cells, held_bit, held_bit_given, held_bit_cells}
use Rattle.surrounded_core.specs.register_gates.Chains.{chain_last, chain_cells}
use Rattle.surrounded_core.proofs.register_gates.Lengths.{chain_length}
use Rattle.surrounded_core.specs.register_gates.Constants.{constant_bits}
use Rattle.surrounded_core.specs.register_gates.Choices.{choice, choice_bits}
use Rattle.surrounded_core.specs.register_gates.Registers.{user_size, captured_feeds}
use Rattle.surrounded_core.specs.instruction_gates.declared.latches.Latching.{Latching}
use Rattle.surrounded_core.specs.instruction_gates.declared.latches.TheConstants.{LOADED}
use Rattle.surrounded_core.specs.instruction_gates.declared.matches.TheConstants.{EQUAL_BIT}
use Rattle.surrounded_core.specs.instruction_gates.declared.copies.TheConstants.{COPY}
use Rattle.surrounded_core.specs.instruction_gates.Rows.{is_one}
use Rattle.surrounded_core.specs.instruction_gates.Latches.{holding_of, loaded_given, latch_cells, latches_cells}
use Rattle.surrounded_core.specs.instruction_gates.Matches.{match_before, equal_given, matches_cells}
use Rattle.surrounded_core.specs.instruction_gates.Copies.{copy_given, copies_cells}
use Rattle.surrounded_core.proofs.instruction_gates.Sizes.{latches_length, matches_length}
use Rattle.stitched_netlist.specs.Gates.{EachCell, DriveInTurn, FeedsAre, IsLogicCell}
use Rattle.stitched_netlist.proofs.Tables.{each_append, turn_append, turn_moved, feed_cons, feed_head, feed_tail, table_turn, table_logic, plain_logic}

-- Nets between two numbers.

abbrev pub Between : (ℕ → Type 0) → ℕ → ℕ → Type 0
Between P low high = (net : ℕ) → low ≤ net → net < high → P net

pub constant_feeds : (P : ℕ → Type 0) (count value : ℕ) → FeedsAre P (constant_bits count value)
unfolding constant_bits
constant_feeds P zero value = tt
constant_feeds P (suc count) value = constant_feeds P count (value / 2)

choice_feed : (P : ℕ → Type 0) (a b : Bool) (on off : NetId) (feeds : List Feed) → P on.0 → P off.0 → FeedsAre P feeds → FeedsAre P (choice a b on off ∷ feeds)
choice_feed P false false on off feeds p q are = are
choice_feed P false true on off feeds p q are = (p, are)
choice_feed P true false on off feeds p q are = (q, are)
choice_feed P true true on off feeds p q are = are

choice_feeds : (P : ℕ → Type 0) (count code user : ℕ) (on off : NetId) → P on.0 → P off.0 → FeedsAre P (choice_bits count code user on off)
unfolding choice_bits
choice_feeds P zero code user on off p q = tt
choice_feeds P (suc count) code user on off p q = choice_feed P (code % 2 == 1) (user % 2 == 1) on off (choice_bits count (code / 2) (user / 2) on off) p q (choice_feeds P count (code / 2) (user / 2) on off p q)

-- what the identification register captures
pub captured_are : (P : ℕ → Type 0) (first : ℕ) (user_on : NetId) (user : Option ℕ) (code : ℕ) → P user_on.0 → Between P first (first + user_size user)
    → FeedsAre P (captured_feeds first user_on user code)
captured_are P first user_on None code u own = constant_feeds P 32 code
captured_are P first user_on (Some user) code u own = choice_feeds P 32 code user user_on (record { 0 = first }) u (own first (omega arith) (omega arith))

-- Bits behind one another.

pub chain_turn : (first number : ℕ) (by : Steering) (tdi : NetId) (captured : List Feed) → DriveInTurn first (chain_cells first number by tdi captured)
chain_turn first number by tdi [] = tt
chain_turn first number by tdi (c ∷ rest) =
    let xs = chain_cells first number by tdi rest in
    let ys = shift_bit_cells (first + 3 * length rest) (number + 3 * length rest) by c (chain_last first tdi rest) in
    let many = chain_length first number by tdi rest in
    turn_append first xs ys (chain_turn first number by tdi rest)
    (turn_moved (first + 3 * length rest) (first + length xs) ys (omega arith)
    (table_turn SHIFT_BIT (shift_bit_given by c (chain_last first tdi rest)) (first + 3 * length rest) (number + 3 * length rest)))

pub record SteeringAre (P : ℕ → Type 0) (by : Steering) : Type 0 where
  pub tck : P by.tck.0
  pub trst : P by.trst.0
  pub capture : P by.capture.0
  pub shift : P by.shift.0

pub shift_feeds : (P : ℕ → Type 0) (by : Steering) (captured : Feed) (next : NetId) → SteeringAre P by → FeedsAre P (captured ∷ []) → P next.0 → FeedsAre P (shift_bit_given by captured next)
shift_feeds P by (Net net) next s c n = (s.tck, (s.trst, (s.capture, (s.shift, (c.0, (n, tt))))))
shift_feeds P by (Const b) next s c n = (s.tck, (s.trst, (s.capture, (s.shift, (n, tt)))))

pub shift_logic : (P : ℕ → Type 0) (first number : ℕ) (by : Steering) (captured : Feed) (next : NetId) → SteeringAre P by → FeedsAre P (captured ∷ []) → P next.0
    → Between P first (first + 3) → EachCell (IsLogicCell by.tck by.trst P) (shift_bit_cells first number by captured next)
shift_logic P first number by captured next s c n own =
    table_logic SHIFT_BIT (shift_bit_given by captured next) first number 0 1 by.tck by.trst P refl refl refl (shift_feeds P by captured next s c n)
    (λ j below. own (first + j) (omega arith) (omega arith))

pub last_is : (P : ℕ → Type 0) (first : ℕ) (tdi : NetId) (captured : List Feed) → P tdi.0 → Between P first (first + 3 * length captured) → P (chain_last first tdi captured).0
last_is P first tdi [] t own = t
last_is P first tdi (c ∷ rest) t own = own (first + 3 * length rest) (omega arith) (omega arith)

pub chain_logic : (P : ℕ → Type 0) (first number : ℕ) (by : Steering) (tdi : NetId) (captured : List Feed) → SteeringAre P by → FeedsAre P captured → P tdi.0
    → Between P first (first + 3 * length captured) → EachCell (IsLogicCell by.tck by.trst P) (chain_cells first number by tdi captured)
chain_logic P first number by tdi [] s c t own = tt
chain_logic P first number by tdi (f ∷ rest) s c t own =
    let before : Between P first (first + 3 * length rest) = λ net low high. own net low (omega arith) in
    each_append (IsLogicCell by.tck by.trst P) (chain_cells first number by tdi rest)
    (shift_bit_cells (first + 3 * length rest) (number + 3 * length rest) by f (chain_last first tdi rest))
    (chain_logic P first number by tdi rest s (feed_tail P f rest c) t before)
    (shift_logic P (first + 3 * length rest) (number + 3 * length rest) by f (chain_last first tdi rest) s (feed_head P f rest c) (last_is P first tdi rest t before)
    (λ net low high. own net (omega arith) (omega arith)))

-- Latched bits.

held_turn : (first number : ℕ) (by : Latching) (preset : Bool) (loaded : Feed) → DriveInTurn first (held_bit_cells first number (holding_of by) preset loaded)
held_turn first number by preset loaded = table_turn (held_bit preset) (held_bit_given (holding_of by) loaded) first number

held_length : (first number : ℕ) (by : Latching) (preset : Bool) (loaded : Feed) → length (held_bit_cells first number (holding_of by) preset loaded) ≡ 2
held_length first number by true loaded = refl
held_length first number by false loaded = refl

latch_turn : (by : Latching) (shift first number : ℕ) (preset : Feed) → DriveInTurn first (latch_cells by shift first number preset)
latch_turn by shift first number preset =
    turn_append first (part_cells LOADED (loaded_given by shift preset) first number)
    (held_bit_cells (first + 1) (number + 1) (holding_of by) (is_one preset) (Net (record { 0 = first })))
    (table_turn LOADED (loaded_given by shift preset) first number)
    (held_turn (first + 1) (number + 1) by (is_one preset) (Net (record { 0 = first })))

latch_length : (by : Latching) (shift first number : ℕ) (preset : Feed) → length (latch_cells by shift first number preset) ≡ 3
latch_length by shift first number preset = ap suc (held_length (first + 1) (number + 1) by (is_one preset) (Net (record { 0 = first })))

pub latches_turn : (first number : ℕ) (by : Latching) (shifts : ℕ) (presets : List Feed) → DriveInTurn first (latches_cells first number by shifts presets)
latches_turn first number by shifts [] = tt
latches_turn first number by shifts (preset ∷ rest) =
    let xs = latches_cells first number by shifts rest in
    let ys = latch_cells by (shifts + 3 * length rest) (first + 3 * length rest) (number + 3 * length rest) preset in
    let many = latches_length first number by shifts rest in
    turn_append first xs ys (latches_turn first number by shifts rest)
    (turn_moved (first + 3 * length rest) (first + length xs) ys (omega arith) (latch_turn by (shifts + 3 * length rest) (first + 3 * length rest) (number + 3 * length rest) preset))

pub record LatchingAre (P : ℕ → Type 0) (by : Latching) : Type 0 where
  pub tck : P by.tck.0
  pub trst : P by.trst.0
  pub load : P by.load.0
  pub in_reset : P by.in_reset.0

held_logic : (P : ℕ → Type 0) (first number : ℕ) (by : Latching) (preset : Bool) (loaded : ℕ) → LatchingAre P by → P loaded → Between P first (first + 2)
    → EachCell (IsLogicCell by.tck by.trst P) (held_bit_cells first number (holding_of by) preset (Net (record { 0 = loaded })))
held_logic P first number by true loaded l d own =
    table_logic (held_bit true) (held_bit_given (holding_of by) (Net (record { 0 = loaded }))) first number 0 1 by.tck by.trst P refl refl refl
    (l.tck, (l.trst, (l.load, (d, tt)))) (λ j below. own (first + j) (omega arith) (omega arith))
held_logic P first number by false loaded l d own =
    table_logic (held_bit false) (held_bit_given (holding_of by) (Net (record { 0 = loaded }))) first number 0 1 by.tck by.trst P refl refl refl
    (l.tck, (l.trst, (l.load, (d, tt)))) (λ j below. own (first + j) (omega arith) (omega arith))

latch_logic : (P : ℕ → Type 0) (by : Latching) (shift first number : ℕ) (preset : Feed) → LatchingAre P by → P shift → Between P first (first + 3)
    → EachCell (IsLogicCell by.tck by.trst P) (latch_cells by shift first number preset)
latch_logic P by shift first number preset l s own =
    each_append (IsLogicCell by.tck by.trst P) (part_cells LOADED (loaded_given by shift preset) first number)
    (held_bit_cells (first + 1) (number + 1) (holding_of by) (is_one preset) (Net (record { 0 = first })))
    (plain_logic LOADED (loaded_given by shift preset) first number by.tck by.trst P refl (s, (l.in_reset, tt)) (λ j below. own (first + j) (omega arith) (omega arith)))
    (held_logic P (first + 1) (number + 1) by (is_one preset) first l (own first (omega arith) (omega arith)) (λ net low high. own net (omega arith) (omega arith)))

pub latches_logic : (P : ℕ → Type 0) (first number : ℕ) (by : Latching) (shifts : ℕ) (presets : List Feed) → LatchingAre P by → Between P shifts (shifts + 3 * length presets)
    → Between P first (first + 3 * length presets) → EachCell (IsLogicCell by.tck by.trst P) (latches_cells first number by shifts presets)
latches_logic P first number by shifts [] l s own = tt
latches_logic P first number by shifts (preset ∷ rest) l s own =
    each_append (IsLogicCell by.tck by.trst P) (latches_cells first number by shifts rest)
    (latch_cells by (shifts + 3 * length rest) (first + 3 * length rest) (number + 3 * length rest) preset)
    (latches_logic P first number by shifts rest l (λ net low high. s net low (omega arith)) (λ net low high. own net low (omega arith)))
    (latch_logic P by (shifts + 3 * length rest) (first + 3 * length rest) (number + 3 * length rest) preset l (s (shifts + 3 * length rest) (omega arith) (omega arith))
    (λ net low high. own net (omega arith) (omega arith)))

-- What tells of opcodes.

pub matches_turn : (first number latched : ℕ) (wanted : List Feed) → DriveInTurn first (matches_cells first number latched wanted)
matches_turn first number latched [] = tt
matches_turn first number latched (item ∷ rest) =
    let given = equal_given (match_before first (length rest)) (latched + 3 * length rest + 1) item in
    let xs = matches_cells first number latched rest in
    let ys = part_cells EQUAL_BIT given (first + 2 * length rest) (number + 2 * length rest) in
    let many = matches_length first number latched rest in
    turn_append first xs ys (matches_turn first number latched rest)
    (turn_moved (first + 2 * length rest) (first + length xs) ys (omega arith) (table_turn EQUAL_BIT given (first + 2 * length rest) (number + 2 * length rest)))

pub before_is : (P : ℕ → Type 0) (first behind : ℕ) → Between P first (first + 2 * behind) → FeedsAre P (match_before first behind ∷ [])
before_is P first zero own = tt
before_is P first (suc behind) own = (own (first + 2 * behind) (omega arith) (omega arith), tt)

pub matches_logic : (tck trst : NetId) (P : ℕ → Type 0) (first number latched : ℕ) (wanted : List Feed) → Between P latched (latched + 3 * length wanted)
    → Between P first (first + 2 * length wanted) → EachCell (IsLogicCell tck trst P) (matches_cells first number latched wanted)
matches_logic tck trst P first number latched [] l own = tt
matches_logic tck trst P first number latched (item ∷ rest) l own =
    let before = match_before first (length rest) in
    let given = equal_given before (latched + 3 * length rest + 1) item in
    let fewer : Between P first (first + 2 * length rest) = λ net low high. own net low (omega arith) in
    each_append (IsLogicCell tck trst P) (matches_cells first number latched rest) (part_cells EQUAL_BIT given (first + 2 * length rest) (number + 2 * length rest))
    (matches_logic tck trst P first number latched rest (λ net low high. l net low (omega arith)) fewer)
    (plain_logic EQUAL_BIT given (first + 2 * length rest) (number + 2 * length rest) tck trst P refl
    (feed_cons P before (Net (record { 0 = latched + 3 * length rest + 1 }) ∷ Const (is_one item) ∷ []) (before_is P first (length rest) fewer)
    (l (latched + 3 * length rest + 1) (omega arith) (omega arith), tt))
    (λ j below. own (first + 2 * length rest + j) (omega arith) (omega arith)))

-- Copies of latched bits.

pub copies_turn : (first number latched count : ℕ) → DriveInTurn first (copies_cells first number latched count)
copies_turn first number latched zero = tt
copies_turn first number latched (suc behind) =
    let rest = copies_cells (suc first) (suc number) latched behind in
    turn_append first (part_cells COPY (copy_given latched behind) first number) rest (table_turn COPY (copy_given latched behind) first number)
    (turn_moved (suc first) (first + 1) rest (omega arith) (copies_turn (suc first) (suc number) latched behind))

pub copies_logic : (tck trst : NetId) (P : ℕ → Type 0) (first number latched count : ℕ) → Between P latched (latched + 3 * count) → Between P first (first + count)
    → EachCell (IsLogicCell tck trst P) (copies_cells first number latched count)
copies_logic tck trst P first number latched zero l own = tt
copies_logic tck trst P first number latched (suc behind) l own =
    each_append (IsLogicCell tck trst P) (part_cells COPY (copy_given latched behind) first number) (copies_cells (suc first) (suc number) latched behind)
    (plain_logic COPY (copy_given latched behind) first number tck trst P refl (l (latched + 3 * behind + 1) (omega arith) (omega arith), tt)
    (λ j below. own (first + j) (omega arith) (omega arith)))
    (copies_logic tck trst P (suc first) (suc number) latched behind (λ net low high. l net low (omega arith)) (λ net low high. own net (omega arith) (omega arith)))
