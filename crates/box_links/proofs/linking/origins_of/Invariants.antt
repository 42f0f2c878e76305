use Rattle.std.proofs.Common.{◌≡◌, map, take}
use Rattle.box_links.specs.BoxFaults.{origin_of}
use Rattle.box_links.proofs.linking.origins_of.Given as goal

abbrev pub invariant-loop-number : goal.invariant-loop-number
invariant-loop-number l = l.found ≡ map (origin_of l.origins) (take l.number-index l.numbers)
