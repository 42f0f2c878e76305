-- What a data register captures, by its nets.
-- Own.
use Rattle.std.specs.Prelude.{List, map}
use Rattle.netlist_model.specs.declared.NetId.{NetId}
use Rattle.netlist_model.specs.declared.Feed.{Feed}
use Rattle.netlist_model.specs.declared.Feed.TheVariants.{Net}

-- the nets as operands
abbrev pub net_feeds : List NetId → List Feed
net_feeds nets = map (λ (net : NetId). Net net) nets
