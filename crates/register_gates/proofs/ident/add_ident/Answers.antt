use Rattle.std.proofs.Common.{◌≡◌, Option, length, ℕ, sym, subst, arith}
use Rattle.netlist_model.specs.Lists.{cell_count}
use Rattle.gate_parts.specs.Appended.{Appended}
use Rattle.register_gates.specs.Registers.{ident_size, ident_cells}
use Rattle.register_gates.proofs.Added.{constants_below, choices_below, ident_with}
use Rattle.register_gates.proofs.ident.add_ident.Goals as goal

pub add_data-requires-clause-captured : goal.add_data-requires-clause-captured
add_data-requires-clause-captured c = constants_below (length c.args.netlist.now.lists.nets) c.constants_of.result c.args.code c.constants_of.ensures

pub add_data-requires-in-Some-clause-captured : goal.add_data-requires-in-Some-clause-captured
add_data-requires-in-Some-clause-captured c =
    let more = c.appended_count.ensures c.args.netlist.now c.add_inverse-off.new.netlist 1 _ c.add_inverse-off.ensures.added in
    choices_below (length c.add_inverse-off.new.netlist.lists.nets) c.choices_of-captured.result c.args.code c.in-Some.user c.args.instruction.now.user_on c.add_inverse-off.result
    c.choices_of-captured.ensures (omega (arith, c.requires.selections)) (omega (arith, c.add_inverse-off.ensures.first))

pub returns-in-Some-clause-added : goal.returns-in-Some-clause-added
returns-in-Some-clause-added c =
    let P : Option ℕ → Type 0
    = λ user. Appended c.args.netlist.now c.add_data-in-Some.new.netlist (ident_size user) (ident_cells (length c.args.netlist.now.lists.nets) (cell_count c.args.netlist.now.lists) c.args.tap.now c.args.instruction.now.ident_on c.args.instruction.now.user_on c.args.tdi user c.args.code) in
    subst P (sym c.in-Some.is)
    (ident_with c.appended_count.ensures c.appended_more.ensures c.args.netlist.now c.add_inverse-off.new.netlist c.add_data-in-Some.new.netlist c.args.tap.now c.args.instruction.now.ident_on
    c.args.instruction.now.user_on c.add_inverse-off.result c.args.tdi c.in-Some.user c.args.code c.choices_of-captured.result c.add_inverse-off.ensures.first c.choices_of-captured.ensures
    c.add_inverse-off.ensures.added c.add_data-in-Some.ensures.added)
