use Rattle.std.proofs.Common.{◌≡◌, Some, None, ap, sym, ◌∙◌}
use Rattle.hier_flatten.specs.Nets.{range_named}
use Rattle.hier_flatten.proofs.NetLaws.{no_width, some_width}
use Rattle.hier_flatten.proofs.nets.NetTable.width.Goals as goal

pub returns-in_err-range-in-Bit : goal.returns-in_err-range-in-Bit
returns-in_err-range-in-Bit c =
    let none : range_named c.args.self.now c.in-Bit.bit.net ≡ None = ap (range_named c.args.self.now) (sym c.as_bytes.ensures) ∙ sym c.range.ensures ∙ c.in_err-range-in-Bit.was in
    c.from_residual.ensures ∙ sym (no_width c.args.self.now c.in-Bit.bit c.args.operand.now c.in-Bit.is none)

pub returns-in_ok-range-in-Bit : goal.returns-in_ok-range-in-Bit
returns-in_ok-range-in-Bit c =
    let some : range_named c.args.self.now c.in-Bit.bit.net ≡ Some c.in_ok-range-in-Bit.range = ap (range_named c.args.self.now) (sym c.as_bytes.ensures) ∙ sym c.range.ensures ∙ c.in_ok-range-in-Bit.was in
    c.net_width.ensures ∙ sym (some_width c.args.self.now c.in-Bit.bit c.args.operand.now c.in_ok-range-in-Bit.range c.in-Bit.is some)
