use Rattle.std.proofs.Common.{◌≡◌, ◌+◌, ◌-◌, ◌^◌, ◌<◌, ◌≤◌, take, drop, length}
use Rattle.std.specs.List.{prefix_len}
use Rattle.verilog_lexicon.specs.Bytes.{is_digit}
use Rattle.verilog_lexicon.specs.Pieces.{value_from}
use Rattle.verilog_words.proofs.machine.runs.digits_of.Given as goal

abbrev pub invariant-loop-count : goal.invariant-loop-count
invariant-loop-count l = record {
  within : l.count ≤ length l.piece;
  digits : l.count + prefix_len is_digit (drop l.count l.piece) ≡ prefix_len is_digit l.piece;
  value : l.value ≡ value_from 0 (take l.count l.piece);
  fits : l.value < 10 ^ l.count;
  few : l.count ≤ 9;
}

abbrev pub decreases-loop-count : goal.decreases-loop-count
decreases-loop-count l = length l.piece - l.count
