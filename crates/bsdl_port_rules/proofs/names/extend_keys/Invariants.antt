use Rattle.std.proofs.Common.{◌≡◌, ◌++◌, take}
use Rattle.bsdl_lexicon.specs.NameKeys.{names_in}
use Rattle.bsdl_port_rules.proofs.names.extend_keys.Given as goal

abbrev pub invariant-loop-name : goal.invariant-loop-name
invariant-loop-name l = names_in l.keys.items ≡ names_in l.initial.keys.items ++ take l.name-index l.names
