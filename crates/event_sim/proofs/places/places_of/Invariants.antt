use Rattle.std.proofs.Common.{◌≤◌, length}
use Rattle.event_sim.proofs.NetPlaces.{ArePlacedUpTo}
use Rattle.event_sim.proofs.places.places_of.Given as goal

abbrev pub invariant-loop-place : goal.invariant-loop-place
invariant-loop-place l = record {
  placed : ArePlacedUpTo l.nets l.count l.place l.places.items;
  upto : l.place ≤ length l.nets;
}
