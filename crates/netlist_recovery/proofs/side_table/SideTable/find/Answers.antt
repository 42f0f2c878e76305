use Rattle.std.proofs.Common.{◌≡◌, ℕ, List, Some, position, ◌∙◌, ap, sym}
use Rattle.std.specs.Str.{bytes_eq}
use Rattle.strip_model.specs.declared.Side.{Side}
use Rattle.strip_model.specs.Core.{find_side}
use Rattle.netlist_recovery.proofs.FoundSides.{side_found, side_missing}
use Rattle.netlist_recovery.proofs.side_table.SideTable.find.Goals as goal

pub returns-in-None : goal.returns-in-None
returns-in-None c = side_missing c.args.name.now c.args.self.now c.in-None.ensures

pub returns-in-Some : goal.returns-in-Some
returns-in-Some c =
    let at : Some c.in-Some.place ≡ position (λ (side : Side). bytes_eq c.args.name.now side.net) c.self.inside.sides.now =
    c.in-Some.ensures ∙ ap (λ (list : List Side). position (λ (side : Side). bytes_eq c.args.name.now side.net) list) (sym c.self.view_is) in
    ap (λ (side : Side). Some side.core) (sym c.index-self-place.is)
    ∙ side_found c.args.name.now c.self.inside.sides.now c.in-Some.place c.index-self-place.result at c.index-self-place.is
    ∙ ap (λ (list : List Side). find_side list c.args.name.now) c.self.view_is
