-- How many cells a chain and a bit that holds have.
use Rattle.std.proofs.Common.{◌≡◌, ℕ, ◌+◌, ◌*◌, Bool, true, false, List, [], ◌∷◌, length, length-append, refl, arith}
use Rattle.netlist_model.specs.declared.NetId.{NetId}
use Rattle.netlist_model.specs.declared.Feed.{Feed}
use Rattle.register_gates.specs.declared.bits.Holding.{Holding}
use Rattle.register_gates.specs.declared.bits.Steering.{Steering}
use Rattle.register_gates.specs.Bits.{shift_bit_cells, held_bit_cells}
use Rattle.register_gates.specs.Chains.{chain_last, chain_cells}

pub chain_length : (first number : ℕ) (by : Steering) (tdi : NetId) (captured : List Feed) → length (chain_cells first number by tdi captured) ≡ 3 * length captured
chain_length first number by tdi [] = refl
chain_length first number by tdi (c ∷ rest) =
    let xs = chain_cells first number by tdi rest in
    let ys = shift_bit_cells (first + 3 * length rest) (number + 3 * length rest) by c (chain_last first tdi rest) in
    let three : length ys ≡ 3 = refl in
    let both = length-append xs ys in
    let before = chain_length first number by tdi rest in
    omega arith

pub held_length : (first number : ℕ) (by : Holding) (preset : Bool) (loaded : Feed) → length (held_bit_cells first number by preset loaded) ≡ 2
held_length first number by true loaded = refl
held_length first number by false loaded = refl
