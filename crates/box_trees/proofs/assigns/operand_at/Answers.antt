use Rattle.std.proofs.Common.{◌≡◌, ◌∙◌, ℕ, List, Some, ap, sym, arith}
use Rattle.std.specs.Prelude.{slice_get}
use Rattle.std.proofs.lemmas.Result.{IfOk-weaker}
use Rattle.verilog_tree.specs.declared.tree.Operand.{Operand}
use Rattle.box_model.specs.Ports.{bits_of}
use Rattle.box_model.specs.Opened.{link_bits}
use Rattle.box_trees.specs.Opening.{whole_range}
use Rattle.box_trees.proofs.Assigned.{length-spread_some, one_there, whole_there}
use Rattle.box_trees.proofs.assigns.operand_at.Goals as goal

pub returns-in_default : goal.returns-in_default
returns-in_default c =
    let m = c.args.nets.now in
    let p = c.args.port.now in
    let o = c.args.operand.now in
    IfOk-weaker c.copy_of_operand.result (λ made. made ≡ o) (λ made. slice_get (link_bits m p o) c.args.place ≡ Some made)
    (λ made is. one_there m p o made c.args.place (sym c.in_default.ensures) c.requires is) c.copy_of_operand.ensures

pub bit_at-requires : goal.bit_at-requires
bit_at-requires c = let long = length-spread_some c.args.nets.now c.args.port.now c.args.operand.now c.in-Some.range (sym c.in-Some.ensures) in omega (arith, long, c.requires)

pub returns-in_ok-bit-in-Bit : goal.returns-in_ok-bit-in-Bit
returns-in_ok-bit-in-Bit c =
    let m = c.args.nets.now in
    let p = c.args.port.now in
    let range = c.in-Some.range in
    let b = c.in-Bit.bit in
    ap (λ (o : Operand). slice_get (link_bits m p o) c.args.place) c.in-Bit.is
    ∙ whole_there m p b c.in_ok-bit-in-Bit.bit range c.args.place (ap (whole_range m p) (sym c.in-Bit.is) ∙ sym c.in-Some.ensures)
    (ap (λ (n : List ℕ). slice_get (bits_of n range) c.args.place) (sym c.as_bytes.ensures) ∙ c.in_ok-bit-in-Bit.ensures)
