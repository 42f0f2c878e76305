use Rattle.std.proofs.Common.{List, Some, find, ◌∙◌, ap, sym}
use Rattle.std.specs.Str.{bytes_eq}
use Rattle.box_trees.specs.declared.hidden_names.HiddenName.{HiddenName}
use Rattle.box_tables.proofs.Places.{found_at, found_nowhere}
use Rattle.box_trees.proofs.hidden_names.HiddenTable.find.Goals as goal

pub returns-in-None : goal.returns-in-None
returns-in-None c =
    found_nowhere (λ (x : HiddenName). x.name) c.self.inside.hidden.now c.self.inside.places c.args.name.now c.self.invariant c.in-None.ensures
    ∙ ap (find (λ (x : HiddenName). bytes_eq c.args.name.now x.name)) c.self.view_is

pub returns-in-Some : goal.returns-in-Some
returns-in-Some c =
    ap (λ (x : HiddenName). Some x) (sym c.index-self-place.is)
    ∙ found_at (λ (x : HiddenName). x.name) c.self.inside.hidden.now c.self.inside.places c.args.name.now c.in-Some.place c.index-self-place.result c.self.invariant c.in-Some.ensures c.index-self-place.is
    ∙ ap (find (λ (x : HiddenName). bytes_eq c.args.name.now x.name)) c.self.view_is
