use Rattle.std.proofs.Common.{◌≡◌, ◌<◌, drop, length, None, IfSome}
use Rattle.bsdl_contents.specs.OwnPlaces.{place_from}
use Rattle.bsdl_contents.proofs.entries.own_place.own_place.Given as goal

abbrev pub invariant-loop-i : goal.invariant-loop-i
invariant-loop-i l = record {
  place : place_from l.comma l.i (drop l.i l.bytes) ≡ place_from None 0 l.bytes;
  within : IfSome l.comma (λ at. at < length l.bytes);
}
