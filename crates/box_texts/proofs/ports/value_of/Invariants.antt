use Rattle.std.proofs.Common.{◌≡◌, ◌<◌, ◌^◌, drop}
use Rattle.verilog_lexicon.specs.Pieces.{value_from}
use Rattle.box_texts.proofs.ports.value_of.Given as goal

abbrev pub invariant-loop-count : goal.invariant-loop-count
invariant-loop-count l = record {
  rest : value_from l.value (drop l.count l.digits) ≡ value_from 0 l.digits;
  small : l.value < 10 ^ l.count;
}
