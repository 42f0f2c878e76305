-- own: what tables are searched for.
use Rattle.std.specs.Prelude.{ℕ, ◌&&◌, nat_eq, Bool, List, map, Option}
use Rattle.std.specs.Option.{option_eq}
use Rattle.cell_library.specs.declared.codes.Bits.{Bits}
use Rattle.status_fitting.specs.declared.keys.WireKey.{WireKey}
use Rattle.status_fitting.specs.declared.keys.GivenKey.{GivenKey}
use Rattle.status_fitting.specs.declared.keys.GivenKey.TheVariants as key
use Rattle.status_fitting.specs.declared.keys.PatternKey.{PatternKey}
use Rattle.status_fitting.specs.Names.{Given, RegisterName, InstructionName}

abbrev pub wire_key : ℕ → Option ℕ → WireKey
wire_key number index = record { number = number; index = index }

abbrev pub same_key : WireKey → WireKey → Bool
same_key j k = nat_eq j.number k.number && option_eq nat_eq j.index k.index

abbrev pub given_of : GivenKey → Given
given_of (key.Register name) = RegisterName name.0.now
given_of (key.Instruction name) = InstructionName name.0.now

abbrev pub given_in : List GivenKey → List Given
given_in keys = map given_of keys

abbrev pub pattern_of : PatternKey → Bits
pattern_of k = record { len = k.len; value = k.value }

abbrev pub patterns_in : List PatternKey → List Bits
patterns_in keys = map pattern_of keys
