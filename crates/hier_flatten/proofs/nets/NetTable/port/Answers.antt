use Rattle.std.proofs.Common.{◌≡◌, position, find, ◌∙◌, ap, sym}
use Rattle.std.specs.Str.{bytes_eq}
use Rattle.verilog_tree.specs.declared.tree.Port.{Port}
use Rattle.verilog_tree.specs.declared.tree.Module.{Module}
use Rattle.hier_model.proofs.Tables.{stands_first, stands_nowhere}
use Rattle.hier_flatten.proofs.nets.NetTable.port.Goals as goal

pub returns-in-None : goal.returns-in-None
returns-in-None c = stands_nowhere (λ (p : Port). bytes_eq c.args.name.now p.name) c.args.self.now.ports c.in-None.ensures

pub returns-in-Some : goal.returns-in-Some
returns-in-Some c =
    let same : c.args.self.now.ports ≡ c.as_slice.result.now = ap (λ (m : Module). m.ports) (sym c.self.view_is) ∙ sym c.as_slice.ensures in
    stands_first (λ (p : Port). bytes_eq c.args.name.now p.name) c.as_slice.result.now c.in-Some.place c.index-as_slice-place.result
    (c.in-Some.ensures ∙ ap (position (λ (p : Port). bytes_eq c.args.name.now p.name)) same) c.index-as_slice-place.is
    ∙ ap (find (λ (p : Port). bytes_eq c.args.name.now p.name)) (sym same)
