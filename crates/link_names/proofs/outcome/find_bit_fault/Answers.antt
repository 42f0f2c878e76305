use Rattle.std.proofs.Common.{sym, ◌∙◌, refl}
use Rattle.link_names.specs.Views.{entries_of}
use Rattle.link_names.specs.declared.bits.BitTest.TheVariants.{NameUnknown, BitOutside}
use Rattle.link_names.proofs.Clear.{is_nothing, clear_items}
use Rattle.link_names.proofs.outcome.find_bit_fault.Goals as goal

pub returns-then-clear : goal.returns-then-clear
returns-then-clear c =
    let clear = is_nothing _ (sym c.requires ∙ c.if-clear.true) in
    rw (clear_items NameUnknown (entries_of c.args.table.now) c.args.items.now clear, clear_items BitOutside (entries_of c.args.table.now) c.args.items.now clear) refl
