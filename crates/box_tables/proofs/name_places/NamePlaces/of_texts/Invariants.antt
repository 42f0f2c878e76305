use Rattle.std.proofs.Common.{◌≡◌, take}
use Rattle.texts.specs.Repeated.{texts}
use Rattle.box_tables.proofs.name_places.NamePlaces.of_texts.Given as goal

abbrev pub invariant-loop-name : goal.invariant-loop-name
invariant-loop-name l = texts l.names.items ≡ take l.name-index l.list
