use Rattle.std.proofs.Common.{◌≡◌, position, find, ◌∙◌, ap, sym}
use Rattle.std.specs.Str.{bytes_eq}
use Rattle.verilog_tree.specs.declared.tree.Wire.{Wire}
use Rattle.verilog_tree.specs.declared.tree.Module.{Module}
use Rattle.hier_model.proofs.Tables.{stands_first, stands_nowhere}
use Rattle.hier_flatten.proofs.nets.NetTable.wire.Goals as goal

pub returns-in-None : goal.returns-in-None
returns-in-None c = stands_nowhere (λ (w : Wire). bytes_eq c.args.name.now w.name) c.args.self.now.wires c.in-None.ensures

pub returns-in-Some : goal.returns-in-Some
returns-in-Some c =
    let same : c.args.self.now.wires ≡ c.as_slice.result.now = ap (λ (m : Module). m.wires) (sym c.self.view_is) ∙ sym c.as_slice.ensures in
    stands_first (λ (w : Wire). bytes_eq c.args.name.now w.name) c.as_slice.result.now c.in-Some.place c.index-as_slice-place.result
    (c.in-Some.ensures ∙ ap (position (λ (w : Wire). bytes_eq c.args.name.now w.name)) same) c.index-as_slice-place.is
    ∙ ap (find (λ (w : Wire). bytes_eq c.args.name.now w.name)) (sym same)
