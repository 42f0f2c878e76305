use Rattle.std.proofs.Common.{ℕ, ◌≢◌, ◌<◌, ◌≤◌, length, get_or}
use Rattle.box_trees.proofs.bit_words.behind_bracket.Given as goal

abbrev pub invariant-loop-start : goal.invariant-loop-start
invariant-loop-start l = record {
  within : l.start ≤ length l.word;
  behind : (k : ℕ) → l.start ≤ k → k < length l.word → get_or l.word k 0 ≢ 91;
}

abbrev pub decreases-loop-start : goal.decreases-loop-start
decreases-loop-start l = l.start
