use Rattle.std.proofs.Common.{◌≡◌, ◌-◌, ◌++◌, length, take}
use Rattle.register_gates.specs.Choices.{choice_bits}
use Rattle.register_gates.proofs.constants.choices_of.Given as goal

abbrev pub invariant-loop-place : goal.invariant-loop-place
invariant-loop-place l = record {
  long : length l.chosen ≡ 32;
  written : take l.place l.chosen ++ choice_bits (32 - l.place) l.code_rest l.user_rest l.on l.off ≡ choice_bits 32 l.code l.user l.on l.off;
}
