use Rattle.std.proofs.Common.{◌≡◌, drop}
use Rattle.bsdl_device.specs.Checks.{any_pair}
use Rattle.bsdl_port_rules.specs.Keys.{repeats_after}
use Rattle.bsdl_port_rules.proofs.keys.comes_twice.Given as goal

abbrev pub invariant-loop-key : goal.invariant-loop-key
invariant-loop-key g l = repeats_after g.K.PartialEq.eq l.seen.keys (drop l.key-index l.keys) ≡ any_pair g.K.PartialEq.eq l.keys
