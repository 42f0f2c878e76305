use Rattle.std.proofs.Common.{◌≡◌, List, Some, position, get_or, ◌∙◌, ap}
use Rattle.std.specs.Str.{bytes_eq}
use Rattle.verilog_tree.specs.declared.tree.Module.{Module}
use Rattle.hier_model.specs.WalkNames.{module_place}
use Rattle.hier_model.specs.Visits.{module_named}
use Rattle.hier_model.proofs.Tables.{stands_first, stands_nowhere}
use Rattle.hier_flatten.proofs.nets.NetTables.find.Goals as goal

pub returns-in-None : goal.returns-in-None
returns-in-None c =
    stands_nowhere (λ (m : Module). bytes_eq c.args.module.now.name m.name) c.args.self.now
    (c.in-None.ensures ∙ ap (module_place c.self.inside.modules.now) c.as_bytes.ensures ∙ ap (λ (modules : List Module). module_place modules c.args.module.now.name) c.self.view_is)

pub returns-in-Some : goal.returns-in-Some
returns-in-Some c =
    let at : Some c.in-Some.place ≡ position (λ (m : Module). bytes_eq c.args.module.now.name m.name) c.self.inside.modules.now = c.in-Some.ensures ∙ ap (module_place c.self.inside.modules.now) c.as_bytes.ensures in
    let here : c.index.result.now ≡ get_or c.self.inside.modules.now c.in-Some.place c.index.result.now = c.index.ensures ∙ ap (λ (modules : List Module). get_or modules c.in-Some.place c.index.result.now) c.self.invariant in
    stands_first (λ (m : Module). bytes_eq c.args.module.now.name m.name) c.self.inside.modules.now c.in-Some.place c.index.result.now at here
    ∙ ap (λ (modules : List Module). module_named modules c.args.module.now.name) c.self.view_is
