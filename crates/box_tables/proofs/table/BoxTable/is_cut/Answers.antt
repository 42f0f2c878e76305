use Rattle.std.proofs.Common.{List, ℕ, ◌∙◌, ap}
use Rattle.texts.specs.Repeated.{has_name}
use Rattle.box_model.specs.declared.boxes.BoxLibrary.{BoxLibrary}
use Rattle.box_tables.proofs.table.BoxTable.is_cut.Goals as goal

pub returns : goal.returns
returns c =
    c.has.ensures ∙ ap (λ (l : List (List ℕ)). has_name l c.args.instance.now) c.self.invariant.cuts_are
    ∙ ap (λ (b : BoxLibrary). has_name b.cuts c.args.instance.now) c.self.view_is
