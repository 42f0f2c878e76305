-- How many nets and cells the parts of the test logic take at most.
use Rattle.std.proofs.Common.{◌≡◌, ℕ, ◌*◌, ◌≤◌, length, refl, Option, Some, None, arith}
use Rattle.cell_library.specs.declared.codes.Bits.{Bits}
use Rattle.cell_library.specs.declared.codes.BoundaryKind.{BoundaryKind}
use Rattle.cell_library.specs.declared.codes.BoundaryKind.TheVariants.{Bc1, Bc2, Bc4, Bc7}
use Rattle.netlist_model.specs.declared.NetId.{NetId}
use Rattle.surrounded_core.specs.register_gates.Registers.{user_size, inverse_cells, captured_feeds, ident_size}
use Rattle.surrounded_core.proofs.register_gates.ConstantBits.{counted}
use Rattle.surrounded_core.proofs.register_gates.ChoiceBits.{counted_choices}
use Rattle.test_logic.specs.declared.Codes.{Codes}
use Rattle.surrounded_core.specs.instruction_gates.Register.{size_with}
use Rattle.stitched_netlist.specs.declared.model.Site.{Site}
use Rattle.stitched_netlist.specs.declared.model.Site.TheVariants as site
use Rattle.stitched_netlist.specs.ModelRows.{nets_by}
use Rattle.stitched_netlist.specs.ModelLogic.{code_size}

pub size_few : (codes : Codes) (found : Option Bits) → size_with codes found ≤ 2 * codes.length
size_few codes None = omega arith
size_few codes (Some opcode) = omega arith

pub ident_few : (user : Option ℕ) → ident_size user ≤ 99
ident_few None = omega arith
ident_few (Some user) = omega arith

pub code_few : (user code : Option ℕ) → code_size user code ≤ 99
code_few user None = omega arith
code_few user (Some code) = ident_few user

-- the identification register has 32 bits
pub captured_counted : (first : ℕ) (user_on : NetId) (user : Option ℕ) (code : ℕ) → length (captured_feeds first user_on user code) ≡ 32
captured_counted first user_on None code = counted 32 code
captured_counted first user_on (Some user) code = counted_choices 32 code user user_on (record { 0 = first })

pub inverse_counted : (first number : ℕ) (user_on : NetId) (user : Option ℕ) → length (inverse_cells first number user_on user) ≡ user_size user
inverse_counted first number user_on None = refl
inverse_counted first number user_on (Some user) = refl

pub nets_by_few : (at : Site) (cell : BoundaryKind) → nets_by at cell ≤ 7
nets_by_few site.Observed cell = omega arith
nets_by_few site.Input cell = omega arith
nets_by_few site.Inout cell = omega arith
nets_by_few site.Control Bc1 = omega arith
nets_by_few site.Control Bc2 = omega arith
nets_by_few site.Control Bc4 = omega arith
nets_by_few site.Control Bc7 = omega arith
nets_by_few site.Output Bc1 = omega arith
nets_by_few site.Output Bc2 = omega arith
nets_by_few site.Output Bc4 = omega arith
nets_by_few site.Output Bc7 = omega arith
nets_by_few site.AddedDriver Bc1 = omega arith
nets_by_few site.AddedDriver Bc2 = omega arith
nets_by_few site.AddedDriver Bc4 = omega arith
nets_by_few site.AddedDriver Bc7 = omega arith
nets_by_few site.Driver Bc1 = omega arith
nets_by_few site.Driver Bc2 = omega arith
nets_by_few site.Driver Bc4 = omega arith
nets_by_few site.Driver Bc7 = omega arith
