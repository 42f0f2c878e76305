use Rattle.std.proofs.Common.{ℕ, ◌<◌, ◌≤◌, length, get_or}
use Rattle.std.specs.Prelude.{IsTrue}
use Rattle.verilog_lexicon.specs.Bytes.{is_digit}
use Rattle.status_fitting.proofs.words.digits_from.Given as goal

abbrev pub invariant-loop-start : goal.invariant-loop-start
invariant-loop-start l = record {
  within : l.start ≤ length l.bytes;
  digits : (k : ℕ) → l.start ≤ k → k < length l.bytes → IsTrue (is_digit (get_or l.bytes k 0));
}

abbrev pub decreases-loop-start : goal.decreases-loop-start
decreases-loop-start l = l.start
