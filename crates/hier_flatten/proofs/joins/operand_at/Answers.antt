use Rattle.std.proofs.Common.{◌≡◌, ◌∙◌, ℕ, List, Some, map, ap, sym, arith}
use Rattle.std.specs.Prelude.{slice_get}
use Rattle.std.proofs.lemmas.Result.{IfOk-weaker}
use Rattle.verilog_tree.specs.declared.tree.Operand.{Operand}
use Rattle.hier_model.specs.Walks.{texts}
use Rattle.hier_model.specs.Names.{flat_bit, flat_operand}
use Rattle.hier_model.specs.Entries.{bits_of, spread}
use Rattle.hier_flatten.specs.Joins.{whole_range}
use Rattle.hier_flatten.proofs.Joined.{length-spread_some, one_there, whole_there}
use Rattle.hier_flatten.proofs.joins.operand_at.Goals as goal

pub returns-in_default : goal.returns-in_default
returns-in_default c =
    let at = texts c.args.at.now in
    let m = c.args.nets.now in
    let o = c.args.operand.now in
    IfOk-weaker c.flat_operand.result (λ flat. flat ≡ flat_operand at o) (λ flat. slice_get (map (flat_operand at) (spread m o)) c.args.place ≡ Some flat)
    (λ flat is. one_there at m o flat c.args.place (sym c.in_default.ensures) c.requires is) c.flat_operand.ensures

pub bit_at-requires : goal.bit_at-requires
bit_at-requires c = let long = length-spread_some c.args.nets.now c.args.operand.now c.in-Some.range (sym c.in-Some.ensures) in omega (arith, long, c.requires)

pub returns-in_ok-bit-in-Bit : goal.returns-in_ok-bit-in-Bit
returns-in_ok-bit-in-Bit c =
    let at = texts c.args.at.now in
    let m = c.args.nets.now in
    let range = c.in-Some.range in
    let b = c.in-Bit.bit in
    ap (λ (o : Operand). slice_get (map (flat_operand at) (spread m o)) c.args.place) c.in-Bit.is
    ∙ whole_there at m b c.in_ok-bit-in-Bit.bit range c.args.place (ap (whole_range m) (sym c.in-Bit.is) ∙ sym c.in-Some.ensures)
    (ap (λ (n : List ℕ). slice_get (map (flat_bit at) (bits_of n range)) c.args.place) (sym c.as_bytes.ensures) ∙ c.in_ok-bit-in-Bit.ensures)
