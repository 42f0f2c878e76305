use Rattle.std.proofs.Common.{◌≡◌, ℕ, List, Some, ◌∙◌, ap, sym}
use Rattle.std.specs.Str.{bytes_eq}
use Rattle.verilog_tree.specs.declared.tree.Module.{Module}
use Rattle.hier_model.specs.Visits.{module_named}
use Rattle.hier_model.specs.WalkNames.{module_place}
use Rattle.hier_model.proofs.Tables.{stands_first, stands_nowhere}
use Rattle.hier_model.proofs.walk.modules.ModuleTable.find.Goals as goal

pub returns-in-None : goal.returns-in-None
returns-in-None c = stands_nowhere (λ (m : Module). bytes_eq c.args.name.now m.name) c.args.self.now c.in-None.ensures

pub returns-in-Some : goal.returns-in-Some
returns-in-Some c =
    let at : Some c.in-Some.place ≡ module_place c.self.inside.modules.now c.args.name.now =
    c.in-Some.ensures ∙ ap (λ (modules : List Module). module_place modules c.args.name.now) (sym c.self.view_is) in
    ap (λ (m : Module). Some m) (sym c.index-self-place.is)
    ∙ stands_first (λ (m : Module). bytes_eq c.args.name.now m.name) c.self.inside.modules.now c.in-Some.place c.index-self-place.result at c.index-self-place.is
    ∙ ap (λ (modules : List Module). module_named modules c.args.name.now) c.self.view_is
