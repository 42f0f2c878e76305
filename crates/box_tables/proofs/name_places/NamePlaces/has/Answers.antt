use Rattle.std.proofs.Common.{◌∙◌, ap, is_some, Option, ℕ}
use Rattle.std.specs.Str.{bytes_eq}
use Rattle.box_tables.proofs.Places.{placed}
use Rattle.box_tables.proofs.name_places.NamePlaces.has.Goals as goal

pub returns : goal.returns
returns c = c.is_some.ensures ∙ ap (λ (o : Option ℕ). is_some o) c.find.ensures ∙ placed (bytes_eq c.args.name.now) c.args.self.now
