use Rattle.std.proofs.Common.{◌≡◌, ◌-◌, ◌++◌, length, take}
use Rattle.register_gates.specs.Constants.{constant_bits}
use Rattle.register_gates.proofs.constants.constants_of.Given as goal

abbrev pub invariant-loop-place : goal.invariant-loop-place
invariant-loop-place l = record {
  long : length l.constants ≡ 32;
  written : take l.place l.constants ++ constant_bits (32 - l.place) l.rest ≡ constant_bits 32 l.value;
}
