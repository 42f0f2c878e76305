-- The bits of a number as constants, bit 0 first, as it is nearest TDO.
use Rattle.std.specs.Prelude.{◌≡◌, ℕ, zero, suc, ◌/◌, ◌%◌, ◌==◌, ◌≤◌, List, [], ◌∷◌, length, take}
use Rattle.signal_values.specs.declared.Sig.{Sig}
use Rattle.netlist_model.specs.declared.Feed.{Feed}
use Rattle.netlist_model.specs.declared.Feed.TheVariants.{Const}
use Rattle.netlist_model.specs.Settled.{feed_values}
use Rattle.netlist_model.specs.Below.{AreFeedsBelow}
use Rattle.tap_gates.specs.test_logic.Instructions.{bits_of}

-- own: so many of them
unfoldable pub constant_bits : ℕ → ℕ → List Feed
constant_bits zero value = []
constant_bits (suc count) value = Const (value % 2 == 1) ∷ constant_bits count (value / 2)

pub record ConstantLaws (count value : ℕ) : Type 0 where
  pub counted : length (constant_bits count value) ≡ count
  pub values : (net : ℕ → Sig) → feed_values net (constant_bits count value) ≡ bits_of count value
  pub below : (nets : ℕ) → AreFeedsBelow nets (constant_bits count value)
  -- fewer of them are the first ones
  pub fewer : (more : ℕ) → count ≤ more → take count (constant_bits more value) ≡ constant_bits count value

abbrev pub ConstantsAreBits : Type 0
ConstantsAreBits = (count value : ℕ) → ConstantLaws count value
