use Rattle.std.proofs.Common.{◌≡◌, ◌∙◌, ℕ, ◌+◌, Bool, if◌then◌else◌, List, Some, Bor, ap, sym}
use Rattle.std.specs.Prelude.{slice_get}
use Rattle.std.specs.Map.{lookup}
use Rattle.std.specs.Str.{bytes_eq}
use Rattle.std.proofs.lemmas.Option.{slice_get-get_or}
use Rattle.verilog_tree.specs.declared.tree.Port.{Port}
use Rattle.hier_model.proofs.Tables.{lent}
use Rattle.hier_model.specs.Faults.{cell_limit}
use Rattle.hier_counts.specs.Widths.{capped, port_bits, width_under}
use Rattle.hier_counts.proofs.Joins.{turned}
use Rattle.hier_counts.proofs.WidthLaws.{widths_more}
use Rattle.hier_counts.proofs.widths.PortWidths.of.Goals as goal

pub loop-port-preserved : goal.loop-port-preserved
loop-port-preserved c =
    let ports = c.args.ports.now in
    let k = c.loop-port.port-index in
    let p = c.port-item.result in
    let at : slice_get ports k ≡ Some p = slice_get-get_or ports k p c.loop-port-test.true ∙ ap (λ (x : Port). Some x) (sym c.port-item.is) in
    let old = c.loop-port.widths.entries in
    let key = c.as_bytes-name.result in
    let sum : c.capped_sum-sum.result ≡ capped cell_limit (width_under old key.now + port_bits p) =
    c.capped_sum-sum.ensures
    ∙ ap (λ (n : ℕ). capped cell_limit (n + c.port_bits.result)) c.width_under.ensures
    ∙ ap (λ (n : ℕ). capped cell_limit (width_under old key.now + n)) c.port_bits.ensures in
    widths_more ports k p key c.capped_sum-sum.result old c.insert.new.self.entries at c.as_bytes-name.ensures c.loop-port.invariant sum (λ name. c.in_ok-insert.ensures.updates.0 (lent name) ∙ ap (λ (b : Bool). if b then Some c.capped_sum-sum.result else lookup (λ (j : Bor (List ℕ)). bytes_eq name j.now) old) (turned key.now name))
