-- A shift stage of any length captures, shifts and keeps as its list does.
use Rattle.std.proofs.Common.{◌≡◌, ℕ, ◌+◌, ◌*◌, Bool, true, false, List, [], ◌∷◌, ◌++◌, length, refl, sym, ap, ◌∙◌}
use Rattle.std.specs.Prelude.{Option, Some, None, if◌then◌else◌}
use Rattle.signal_values.specs.declared.Sig.{Sig}
use Rattle.signal_values.specs.declared.Sig.TheVariants.{Zero}
use Rattle.cell_library.specs.declared.Edge.{Edge}
use Rattle.cell_library.specs.declared.Edge.TheVariants.{Rise, Fall}
use Rattle.netlist_model.specs.declared.NetId.{NetId}
use Rattle.netlist_model.specs.declared.Feed.{Feed}
use Rattle.netlist_model.specs.Lists.{CellView, NetlistView}
use Rattle.netlist_model.specs.Settled.{feed_value, feed_values, IsSettled}
use Rattle.netlist_model.specs.Formed.{IsWellFormed}
use Rattle.netlist_model.specs.Contained.{HasCells}
use Rattle.netlist_model.specs.Runs.{Moment, PinEvent, IsStart, IsStep}
use Rattle.tap_gates.specs.test_logic.declared.Levels.{Levels}
use Rattle.tap_gates.specs.test_logic.declared.Action.{Action}
use Rattle.tap_gates.specs.test_logic.declared.Action.TheVariants.{Captures, Shifts, Keeps}
use Rattle.tap_gates.specs.test_logic.Controller.{act}
use Rattle.tap_gates.specs.test_logic.Machine.{edge_of}
use Rattle.tap_gates.specs.test_logic.Registers.{shifted}
use Rattle.register_gates.specs.declared.bits.Steering.{Steering}
use Rattle.register_gates.specs.Bits.{shift_bit_cells}
use Rattle.register_gates.specs.BitsLaws.{Carries, Steers, on_edge, bit_after, ShiftBitsFollow}
use Rattle.register_gates.specs.Chains.{chain_last, chain_cells, chain_values, cleared, ChainsFollow}

-- what is contained joined is contained apart
pub has_both : (N : NetlistView) (xs ys : List CellView) → HasCells N (xs ++ ys) → HasCells N xs × HasCells N ys
has_both N [] ys has = (tt, has)
has_both N (x ∷ xs) ys has = let rest = has_both N xs ys has.1 in ((has.0, rest.0), rest.1)

-- the bit behind these that shifts next, TDI behind none
abbrev next_bit : Sig → List Sig → Sig
next_bit tdi [] = tdi
next_bit tdi (b ∷ bs) = b

shifted_cons : (tdi b : Sig) (bs : List Sig) → next_bit tdi bs ∷ shifted tdi bs ≡ shifted tdi (b ∷ bs)
shifted_cons tdi b [] = refl
shifted_cons tdi b (c ∷ cs) = refl

-- where all that may come is one value, that comes
edge_same : (edge : Option Edge) (x : List Sig) → on_edge edge x x x ≡ x
edge_same None x = refl
edge_same (Some Rise) x = refl
edge_same (Some Fall) x = refl

if_same : (b : Bool) (x : List Sig) → (if b then x else x) ≡ x
if_same true x = refl
if_same false x = refl

act_same : (action : Action) (x : List Sig) → act action x x x ≡ x
act_same Captures x = refl
act_same Shifts x = refl
act_same Keeps x = refl

none_after : (action : Action) (before after : Levels) (x : List Sig) → bit_after before after x (act action x x x) x x ≡ x
none_after action before after x = rw (act_same action x, edge_same (edge_of before.tck after.tck) x) (if_same after.trst x)

-- a bit and the bits behind it
cons_by : (reset clock clock' : Bool) (action : Action) (c n v : Sig) (cs ns vs zs : List Sig)
    → (if reset then on_edge (edge_of clock clock') (act action c n v) v v else Zero) ∷ (if reset then on_edge (edge_of clock clock') (act action cs ns vs) vs vs else zs)
    ≡ (if reset then on_edge (edge_of clock clock') (act action (c ∷ cs) (n ∷ ns) (v ∷ vs)) (v ∷ vs) (v ∷ vs) else Zero ∷ zs)
cons_by false clock clock' action c n v cs ns vs zs = refl
cons_by true true true action c n v cs ns vs zs = refl
cons_by true true false action c n v cs ns vs zs = refl
cons_by true false false action c n v cs ns vs zs = refl
cons_by true false true Captures c n v cs ns vs zs = refl
cons_by true false true Shifts c n v cs ns vs zs = refl
cons_by true false true Keeps c n v cs ns vs zs = refl

behind : (value : ℕ → Sig) (first : ℕ) (tdi : NetId) (rest : List Feed) → value (chain_last first tdi rest).0 ≡ next_bit (value tdi.0) (chain_values value first rest)
behind value first tdi [] = refl
behind value first tdi (c ∷ rest) = refl

start_at : ShiftBitsFollow → (N : NetlistView) (first number : ℕ) (by : Steering) (tdi : NetId) (captured : List Feed) (given : ℕ → Sig) (levels : Levels) (m : Moment)
    → IsWellFormed N → HasCells N (chain_cells first number by tdi captured) → IsStart N given m → Carries by.tck by.trst levels m → levels.trst ≡ false
    → chain_values m.value first captured ≡ cleared captured
start_at bits N first number by tdi [] given levels m formed has start carried low = refl
start_at bits N first number by tdi (c ∷ rest) given levels m formed has start carried low =
    let f : ℕ = first + 3 * length rest in
    let parts = has_both N (chain_cells first number by tdi rest) (shift_bit_cells f (number + 3 * length rest) by c (chain_last first tdi rest)) has in
    let here : m.value f ≡ Zero = (bits f (number + 3 * length rest) by c (chain_last first tdi rest)).start N given levels m formed parts.1 start carried low in
    let there = start_at bits N first number by tdi rest given levels m formed parts.0 start carried low in
    ap (λ (x : Sig). x ∷ chain_values m.value first rest) here ∙ ap (λ (xs : List Sig). Zero ∷ xs) there

step_at : ShiftBitsFollow → (N : NetlistView) (first number : ℕ) (by : Steering) (tdi : NetId) (captured : List Feed) (event : PinEvent) (action : Action) (before after : Levels) (m m' : Moment)
    → IsWellFormed N → HasCells N (chain_cells first number by tdi captured) → IsSettled N m.pins m.state m.value → IsStep N event m m'
    → Carries by.tck by.trst before m → Carries by.tck by.trst after m' → Steers by action m
    → chain_values m'.value first captured ≡ bit_after before after (cleared captured)
    (act action (feed_values m.value captured) (shifted (m.value tdi.0) (chain_values m.value first captured)) (chain_values m.value first captured))
    (chain_values m.value first captured) (chain_values m.value first captured)
step_at bits N first number by tdi [] event action before after m m' formed has settled step carried carried' steers = sym (none_after action before after [])
step_at bits N first number by tdi (c ∷ rest) event action before after m m' formed has settled step carried carried' steers =
    let f : ℕ = first + 3 * length rest in
    let next = chain_last first tdi rest in
    let vs : List Sig = chain_values m.value first rest in
    let parts = has_both N (chain_cells first number by tdi rest) (shift_bit_cells f (number + 3 * length rest) by c next) has in
    let here : m'.value f ≡ bit_after before after Zero (act action (feed_value m.value c) (m.value next.0) (m.value f)) (m.value f) (m.value f)
    = (bits f (number + 3 * length rest) by c next).step N event action before after m m' formed parts.1 settled step carried carried' steers in
    let here' : m'.value f ≡ bit_after before after Zero (act action (feed_value m.value c) (next_bit (m.value tdi.0) vs) (m.value f)) (m.value f) (m.value f)
    = rw (behind m.value first tdi rest) at here in
    let there = step_at bits N first number by tdi rest event action before after m m' formed parts.0 settled step carried carried' steers in
    ap (λ (x : Sig). x ∷ chain_values m'.value first rest) here'
    ∙ ap (λ (xs : List Sig). bit_after before after Zero (act action (feed_value m.value c) (next_bit (m.value tdi.0) vs) (m.value f)) (m.value f) (m.value f) ∷ xs) there
    ∙ cons_by after.trst before.tck after.tck action (feed_value m.value c) (next_bit (m.value tdi.0) vs) (m.value f) (feed_values m.value rest) (shifted (m.value tdi.0) vs) vs (cleared rest)
    ∙ ap (λ (xs : List Sig). bit_after before after (cleared (c ∷ rest)) (act action (feed_values m.value (c ∷ rest)) xs (m.value f ∷ vs)) (m.value f ∷ vs) (m.value f ∷ vs)) (shifted_cons (m.value tdi.0) (m.value f) vs)

pub chains : ShiftBitsFollow → ChainsFollow
chains bits first number by tdi captured = record {
  start = λ N given levels m formed has start carried low. start_at bits N first number by tdi captured given levels m formed has start carried low;
  step = λ N event action before after m m' formed has settled step carried carried' steers.
      step_at bits N first number by tdi captured event action before after m m' formed has settled step carried carried' steers;
}
