use Rattle.std.proofs.Common.{◌≡◌, take, count_by}
use Rattle.indexmap.specs.IndexMap.{get}
use Rattle.bsdl_port_rules.specs.Keys.{uses_for}
use Rattle.bsdl_port_rules.proofs.keys.uses_of.Given as goal

abbrev pub invariant-loop-key : goal.invariant-loop-key
invariant-loop-key g l = (k : g.row.K.Denot) → get g.K.PartialEq.eq l.table k ≡ uses_for (count_by (g.K.PartialEq.eq k) (take l.key-index l.keys))
