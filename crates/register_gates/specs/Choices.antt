-- What the bits of the identification register capture, of the code and the usercode, bit 0 first, as
-- it is nearest TDO.
-- IEEE Std 1149.1-2001: device identification register (IDCODE, USERCODE); the gates are own.
use Rattle.std.specs.Prelude.{◌≡◌, ℕ, zero, suc, ◌/◌, ◌%◌, ◌==◌, ◌<◌, Bool, true, false, not, List, [], ◌∷◌, length, if◌then◌else◌}
use Rattle.signal_values.specs.declared.Sig.{Sig}
use Rattle.signal_values.specs.Values.{bit}
use Rattle.netlist_model.specs.declared.NetId.{NetId}
use Rattle.netlist_model.specs.declared.Feed.{Feed}
use Rattle.netlist_model.specs.declared.Feed.TheVariants.{Net, Const}
use Rattle.netlist_model.specs.Settled.{feed_values}
use Rattle.netlist_model.specs.Below.{AreFeedsBelow}
use Rattle.tap_gates.specs.test_logic.Instructions.{bits_of}

-- a bit of the code, and of the usercode: a constant where they agree, else whether USERCODE is in effect, or isn't
abbrev pub choice : Bool → Bool → NetId → NetId → Feed
choice false false on off = Const false
choice false true on off = Net on
choice true false on off = Net off
choice true true on off = Const true

-- own: so many of them
unfoldable pub choice_bits : ℕ → ℕ → ℕ → NetId → NetId → List Feed
choice_bits zero code user on off = []
choice_bits (suc count) code user on off = choice (code % 2 == 1) (user % 2 == 1) on off ∷ choice_bits count (code / 2) (user / 2) on off

pub record ChoiceLaws (count code user : ℕ) (on off : NetId) : Type 0 where
  pub counted : length (choice_bits count code user on off) ≡ count
  -- where the nets tell whether USERCODE is in effect, they have the usercode's values, and else the code's
  pub values : (net : ℕ → Sig) (using : Bool) → net on.0 ≡ bit using → net off.0 ≡ bit (not using)
      → feed_values net (choice_bits count code user on off) ≡ (if using then bits_of count user else bits_of count code)
  pub below : (nets : ℕ) → on.0 < nets → off.0 < nets → AreFeedsBelow nets (choice_bits count code user on off)

abbrev pub ChoicesAreBits : Type 0
ChoicesAreBits = (count code user : ℕ) (on off : NetId) → ChoiceLaws count code user on off
