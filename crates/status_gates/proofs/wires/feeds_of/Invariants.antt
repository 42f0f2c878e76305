use Rattle.std.proofs.Common.{◌≡◌, length, take}
use Rattle.status_gates.specs.Wires.{net_feeds}
use Rattle.status_gates.proofs.wires.feeds_of.Given as goal

abbrev pub invariant-loop-place : goal.invariant-loop-place
invariant-loop-place l = record {
  long : length l.feeds ≡ 256;
  written : take l.place l.feeds ≡ net_feeds (take l.place l.nets);
}
