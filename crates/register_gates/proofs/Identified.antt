-- The identification register is that of the test logic.
use Rattle.std.proofs.Common.{◌≡◌, ℕ, zero, suc, ◌+◌, ◌≤◌, ◌/◌, Bool, true, false, not, List, [], ◌∷◌, length, Option, Some, None, refl, sym, ap, ◌∙◌, arith}
use Rattle.std.specs.Prelude.{if◌then◌else◌, unwrap_or}
use Rattle.signal_values.specs.declared.Sig.{Sig}
use Rattle.signal_values.specs.declared.Sig.TheVariants.{Zero}
use Rattle.signal_values.specs.Values.{bit, sig_not}
use Rattle.netlist_model.specs.declared.NetId.{NetId}
use Rattle.netlist_model.specs.declared.Feed.{Feed}
use Rattle.netlist_model.specs.declared.Feed.TheVariants.{Net}
use Rattle.netlist_model.specs.Lists.{NetlistView}
use Rattle.netlist_model.specs.Settled.{feed_values, IsSettled}
use Rattle.netlist_model.specs.Formed.{IsWellFormed}
use Rattle.netlist_model.specs.Contained.{HasCells}
use Rattle.netlist_model.specs.Runs.{Moment, PinEvent, IsStart, IsStep, IsRun}
use Rattle.netlist_model.specs.LawsContained.{ContainedParts}
use Rattle.netlist_model.specs.LawsRuns.{RunHasMoments}
use Rattle.gate_parts.specs.PartLaws.{ContainedPartMeets}
use Rattle.tap_gates.specs.bsdl_device.declared.entries.Register.TheVariants as register
use Rattle.tap_gates.specs.test_logic.declared.TapNets.{TapNets}
use Rattle.tap_gates.specs.test_logic.declared.TapState.{TapState}
use Rattle.tap_gates.specs.test_logic.declared.Levels.{Levels}
use Rattle.tap_gates.specs.test_logic.Instructions.{is_usercode, bits_of}
use Rattle.tap_gates.specs.test_logic.Registers.{ident_after}
use Rattle.tap_gates.specs.test_logic.Machine.{TestLogic, Machine, IsHistory, in_effect, selects, captured_code, zeros}
use Rattle.register_gates.specs.BitsLaws.{Carries, bit_after}
use Rattle.register_gates.specs.declared.ident.TheConstants.{INVERSE}
use Rattle.register_gates.specs.Registers.{data_cells, user_size, inverse_cells, captured_feeds, ident_cells, ident_values}
use Rattle.register_gates.specs.Laws.{Directs, DirectsRun, DataLaws, DataFollows, captured_bits, TellsUsercode, IdentFollows}
use Rattle.register_gates.proofs.ConstantBits.{counted, valued}
use Rattle.register_gates.proofs.ChoiceBits.{counted_choices, valued_choices}
use Rattle.register_gates.proofs.Steps.{by_register, all_along}

-- the laws of what it is made of
pub record PartLaws : Type 0 where
  pub parts : ContainedParts
  pub meets : ContainedPartMeets
  pub registers : DataFollows
  pub moments : RunHasMoments

pub long : (first : ℕ) (user_on : NetId) (user : Option ℕ) (code : ℕ) → length (captured_feeds first user_on user code) ≡ 32
long first user_on None code = counted 32 code
long first user_on (Some user) code = counted_choices 32 code user user_on (record { 0 = first })

-- as many zeros
zeros_by : {A : Type 0} (xs : List A) (count value : ℕ) → length xs ≡ count → zeros xs ≡ zeros (bits_of count value)
unfolding bits_of
zeros_by [] zero value e = refl
zeros_by [] (suc count) value e = absurd (omega arith)
zeros_by (x ∷ xs) zero value e = absurd (omega arith)
zeros_by (x ∷ xs) (suc count) value e = ap (λ (zs : List Sig). Zero ∷ zs) (zeros_by xs count (value / 2) (omega arith))

same : (using : Bool) (xs : List Sig) → xs ≡ (if using then xs else xs)
same true xs = refl
same false xs = refl

inverted : (b : Bool) → sig_not (bit b) ≡ bit (not b)
inverted true = refl
inverted false = refl

-- what is captured
worth : PartLaws → (N : NetlistView) (first number : ℕ) (user_on : NetId) (user : Option ℕ) (code : ℕ) (using : Bool) (m : Moment) → IsWellFormed N
    → HasCells N (inverse_cells first number user_on user) → IsSettled N m.pins m.state m.value → m.value user_on.0 ≡ bit using
    → feed_values m.value (captured_feeds first user_on user code) ≡ captured_bits user code using
worth by N first number user_on None code using m formed has settled on = valued m.value 32 code ∙ same using (bits_of 32 code)
worth by N first number user_on (Some user) code using m formed has settled on =
    let z : first + 0 ≡ first = omega arith in
    let g : m.value (first + 0) ≡ sig_not (m.value user_on.0) = (by.meets N INVERSE (Net user_on ∷ []) first number formed has _ m.state m.value settled 0 _ refl refl).1 in
    let off : m.value first ≡ bit (not using) = (rw z at g) ∙ ap sig_not on ∙ inverted using in
    valued_choices m.value 32 code user using user_on (record { 0 = first }) on off

apart : PartLaws → (N : NetlistView) (first number : ℕ) (tap : TapNets) (on user_on tdi : NetId) (user : Option ℕ) (code : ℕ) → HasCells N (ident_cells first number tap on user_on tdi user code)
    → HasCells N (inverse_cells first number user_on user) × HasCells N (data_cells (first + user_size user) (number + user_size user) tap on tdi (captured_feeds first user_on user code))
apart by N first number tap on user_on tdi user code has =
    (by.parts N (inverse_cells first number user_on user)
    (data_cells (first + user_size user) (number + user_size user) tap on tdi (captured_feeds first user_on user code))).parts has

laws : PartLaws → (first number : ℕ) (tap : TapNets) (on user_on tdi : NetId) (user : Option ℕ) (code : ℕ)
    → DataLaws (first + user_size user) (number + user_size user) tap on tdi (captured_feeds first user_on user code)
laws by first number tap on user_on tdi user code = by.registers (first + user_size user) (number + user_size user) tap on tdi (captured_feeds first user_on user code)

blank : (first : ℕ) (user_on : NetId) (user : Option ℕ) (code : ℕ) → zeros (captured_feeds first user_on user code) ≡ zeros (bits_of 32 code)
blank first user_on user code = zeros_by (captured_feeds first user_on user code) 32 code (long first user_on user code)

start_at : PartLaws → (N : NetlistView) (first number : ℕ) (tap : TapNets) (on user_on tdi : NetId) (user : Option ℕ) (code : ℕ) (given : ℕ → Sig) (levels : Levels) (m : Moment) → IsWellFormed N
    → HasCells N (ident_cells first number tap on user_on tdi user code) → IsStart N given m → Carries tap.tck tap.trst levels m → levels.trst ≡ false
    → ident_values m.value first user_on user code ≡ zeros (bits_of 32 code)
start_at by N first number tap on user_on tdi user code given levels m formed has start carried low =
    (laws by first number tap on user_on tdi user code).start N given levels m formed (apart by N first number tap on user_on tdi user code has).1 start carried low
    ∙ blank first user_on user code

step_at : PartLaws → (N : NetlistView) (first number : ℕ) (tap : TapNets) (on user_on tdi : NetId) (user : Option ℕ) (code : ℕ) (event : PinEvent) (w : TapState) (selected using : Bool)
    (before after : Levels) (m m' : Moment) → IsWellFormed N → HasCells N (ident_cells first number tap on user_on tdi user code) → IsSettled N m.pins m.state m.value → IsStep N event m m'
    → Directs tap on tdi before w selected m → m.value user_on.0 ≡ bit using → Carries tap.tck tap.trst after m'
    → ident_values m'.value first user_on user code
    ≡ bit_after before after (zeros (bits_of 32 code)) (ident_after selected (captured_bits user code using) w (bit before.tdi) (ident_values m.value first user_on user code))
    (ident_values m.value first user_on user code) (ident_values m.value first user_on user code)
step_at by N first number tap on user_on tdi user code event w selected using before after m m' formed has settled step directs on_is carried' =
    let cells = apart by N first number tap on user_on tdi user code has in
    let vs : List Sig = ident_values m.value first user_on user code in
    let captured : List Feed = captured_feeds first user_on user code in
    (laws by first number tap on user_on tdi user code).step N event w selected before after m m' formed cells.1 settled step directs carried'
    ∙ ap (λ (zs : List Sig). bit_after before after zs (ident_after selected (feed_values m.value captured) w (bit before.tdi) vs) vs vs) (blank first user_on user code)
    ∙ ap (λ (cs : List Sig). bit_after before after (zeros (bits_of 32 code)) (ident_after selected cs w (bit before.tdi) vs) vs vs)
    (worth by N first number user_on user code using m formed cells.0 settled on_is)

run_at : PartLaws → (N : NetlistView) (first number : ℕ) (tap : TapNets) (on user_on tdi : NetId) (user : Option ℕ) (code : ℕ) (given : ℕ → Sig) (events : List PinEvent) (moment : ℕ → Moment)
    → IsWellFormed N → HasCells N (ident_cells first number tap on user_on tdi user code) → IsRun N given events moment
    → (L : TestLogic) (levels : ℕ → Levels) (captured : ℕ → List Sig) (machine : ℕ → Machine) → IsHistory L levels captured (length events) machine
    → L.code ≡ bits_of 32 code → L.user ≡ bits_of 32 (unwrap_or user code) → DirectsRun tap on tdi register.DeviceId (length events) moment L levels machine
    → TellsUsercode user_on (length events) moment L machine
    → (t : ℕ) → t ≤ length events → ident_values (moment t).value first user_on user code ≡ (machine t).ident
run_at by N first number tap on user_on tdi user code given events moment formed has run L levels captured machine history is_code is_user directs tells =
    all_along by.moments N given events moment run (λ t. ident_values (moment t).value first user_on user code ≡ (machine t).ident) base more
  where
    base : ident_values (moment 0).value first user_on user code ≡ (machine 0).ident
    base = start_at by N first number tap on user_on tdi user code given (levels 0) (moment 0) formed has run.start (directs 0 (omega arith)).carries history.low
        ∙ sym (ap (λ (x : Machine). x.ident) history.start ∙ ap (λ (xs : List Sig). zeros xs) is_code)

    captured_is : (using : Bool) → (if using then L.user else L.code) ≡ captured_bits user code using
    captured_is true = is_user
    captured_is false = is_code

    more : (t : ℕ) → suc t ≤ length events → (event : PinEvent) → IsSettled N (moment t).pins (moment t).state (moment t).value → IsStep N event (moment t) (moment (suc t))
        → ident_values (moment t).value first user_on user code ≡ (machine t).ident → ident_values (moment (suc t)).value first user_on user code ≡ (machine (suc t)).ident
    more t below event settled step held =
        let selected : Bool = selects L (machine t) register.DeviceId in
        let using : Bool = is_usercode (in_effect L (machine t)) in
        let next : List Sig → List Sig → List Sig → List Sig = λ zs cs vs.
        bit_after (levels t) (levels (suc t)) (zeros zs) (ident_after selected cs (machine t).state (bit (levels t).tdi) vs) vs vs in
        step_at by N first number tap on user_on tdi user code event (machine t).state selected using (levels t) (levels (suc t)) (moment t) (moment (suc t)) formed has settled step
        (directs t (omega arith)) (tells t (omega arith)) (directs (suc t) below).carries
        ∙ ap (λ (vs : List Sig). next (bits_of 32 code) (captured_bits user code using) vs) held
        ∙ sym (ap (λ (x : Machine). x.ident) (history.steps t below) ∙ (by_register L (levels t) (levels (suc t)) (captured t) (machine t)).ident
        ∙ ap (λ (zs : List Sig). next zs (captured_code (in_effect L (machine t)) L) (machine t).ident) is_code
        ∙ ap (λ (cs : List Sig). next (bits_of 32 code) cs (machine t).ident) (captured_is using))

pub ident : PartLaws → IdentFollows
ident by = λ first number tap on user_on tdi user code. record {
  long = long first user_on user code;
  start = λ N given levels m formed has start carried low. start_at by N first number tap on user_on tdi user code given levels m formed has start carried low;
  step = λ N event w selected using before after m m' formed has settled step directs on_is carried'.
      step_at by N first number tap on user_on tdi user code event w selected using before after m m' formed has settled step directs on_is carried';
  last = λ m. (laws by first number tap on user_on tdi user code).last (let n = long first user_on user code in omega arith) m;
  whole_run = λ N given events moment formed has run L levels captured machine history is_code is_user directs tells.
      run_at by N first number tap on user_on tdi user code given events moment formed has run L levels captured machine history is_code is_user directs tells;
}
