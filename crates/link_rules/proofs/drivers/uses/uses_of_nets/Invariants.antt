use Rattle.std.proofs.Common.{◌≡◌, ℕ, ◌<◌, length, take}
use Rattle.link_rules.specs.Uses.{uses_at, uses_among}
use Rattle.link_rules.proofs.drivers.uses.uses_of_nets.Given as goal

abbrev pub invariant-loop-cell : goal.invariant-loop-cell
invariant-loop-cell l = record {
  len : length l.uses.items ≡ l.nets;
  each : (net : ℕ) → net < l.nets → uses_at l.uses.items net ≡ uses_among (take l.cell-index l.cells) net;
}
