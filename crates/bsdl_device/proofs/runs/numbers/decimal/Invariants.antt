use Rattle.std.proofs.Common.{◌≡◌, ◌^◌, ◌<◌, take}
use Rattle.bsdl_device.specs.Runs.{value_after}
use Rattle.bsdl_device.proofs.runs.numbers.decimal.Given as goal

abbrev pub invariant-loop-i : goal.invariant-loop-i
invariant-loop-i l = record {
  value : l.value ≡ value_after 10 0 (take l.i l.digits);
  fits : l.value < 10 ^ l.i;
}
