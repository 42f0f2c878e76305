-- The cells of the test data registers that every device has, or may have.
-- IEEE Std 1149.1-2001: bypass register, device identification register; the gates are own.
use Rattle.std.specs.Prelude.{ℕ, ◌+◌, false, List, [], ◌∷◌, ◌++◌, Option, Some, None}
use Rattle.signal_values.specs.declared.Sig.{Sig}
use Rattle.netlist_model.specs.declared.NetId.{NetId}
use Rattle.netlist_model.specs.declared.Feed.{Feed}
use Rattle.netlist_model.specs.declared.Feed.TheVariants.{Net, Const}
use Rattle.netlist_model.specs.Lists.{CellView}
use Rattle.gate_parts.specs.Parts.{part_cells}
use Rattle.tap_gates.specs.test_logic.declared.TapNets.{TapNets}
use Rattle.register_gates.specs.declared.bits.Steering.{Steering}
use Rattle.register_gates.specs.Bits.{shift_bit_cells}
use Rattle.register_gates.specs.Chains.{chain_cells, chain_last, chain_values}
use Rattle.register_gates.specs.declared.TheConstants.{SELECTED}
use Rattle.register_gates.specs.declared.ident.TheConstants.{INVERSE}
use Rattle.register_gates.specs.Constants.{constant_bits}
use Rattle.register_gates.specs.Choices.{choice_bits}

-- own: what is handed to the gates that steer a register
abbrev pub selected_given : TapNets → NetId → List Feed
selected_given tap on = Net tap.capture_dr ∷ Net tap.shift_dr ∷ Net on ∷ []

-- own: these gates, from this cell number on, on the nets from `first` on
abbrev pub selected_cells : ℕ → ℕ → TapNets → NetId → List CellView
selected_cells first number tap on = part_cells SELECTED (selected_given tap on) first number

-- own: their nets
abbrev pub selected_steering : ℕ → TapNets → Steering
selected_steering first tap = record { tck = tap.tck; trst = tap.trst; capture = record { 0 = first }; shift = record { 0 = first + 1 } }

-- the bypass register has one bit, and captures 0
abbrev pub bypass_cells : ℕ → ℕ → TapNets → NetId → NetId → List CellView
bypass_cells first number tap on tdi = selected_cells first number tap on
    ++ shift_bit_cells (first + 2) (number + 2) (selected_steering first tap) (Const false) tdi

-- a register of any length, which captures these; place 0 is nearest TDO
abbrev pub data_cells : ℕ → ℕ → TapNets → NetId → NetId → List Feed → List CellView
data_cells first number tap on tdi captured = selected_cells first number tap on
    ++ chain_cells (first + 2) (number + 2) (selected_steering first tap) tdi captured

-- own: what its bits hold
abbrev pub data_values : (ℕ → Sig) → ℕ → List Feed → List Sig
data_values value first captured = chain_values value (first + 2) captured

-- own: the net of the bit nearest TDO
abbrev pub data_last : ℕ → NetId → List Feed → NetId
data_last first tdi captured = chain_last (first + 2) tdi captured

-- own: where there is a usercode, one gate more tells that USERCODE isn't in effect; it comes first
abbrev pub user_size : Option ℕ → ℕ
user_size None = 0
user_size (Some user) = 1

abbrev pub inverse_cells : ℕ → ℕ → NetId → Option ℕ → List CellView
inverse_cells first number user_on None = []
inverse_cells first number user_on (Some user) = part_cells INVERSE (Net user_on ∷ []) first number

-- the identification register captures the code, and where there is a usercode, that one while USERCODE is in effect
abbrev pub captured_feeds : ℕ → NetId → Option ℕ → ℕ → List Feed
captured_feeds first user_on None code = constant_bits 32 code
captured_feeds first user_on (Some user) code = choice_bits 32 code user user_on (record { 0 = first })

-- it has 32 bits
abbrev pub ident_cells : ℕ → ℕ → TapNets → NetId → NetId → NetId → Option ℕ → ℕ → List CellView
ident_cells first number tap on user_on tdi user code = inverse_cells first number user_on user
    ++ data_cells (first + user_size user) (number + user_size user) tap on tdi (captured_feeds first user_on user code)

-- own: how many cells and nets it takes
abbrev pub ident_size : Option ℕ → ℕ
ident_size user = user_size user + 98

-- own: what its bits hold, bit 0 first
abbrev pub ident_values : (ℕ → Sig) → ℕ → NetId → Option ℕ → ℕ → List Sig
ident_values value first user_on user code = data_values value (first + user_size user) (captured_feeds first user_on user code)

-- own: the net of bit 0
abbrev pub ident_last : ℕ → NetId → NetId → Option ℕ → ℕ → NetId
ident_last first user_on tdi user code = data_last (first + user_size user) tdi (captured_feeds first user_on user code)
