use Rattle.std.proofs.Common.{◌≡◌, None, sym, ◌∙◌}
use Rattle.std.proofs.lemmas.List.Elements.{All-get_or}
use Rattle.link_model.specs.Faults.{item_bits}
use Rattle.link_names.specs.Views.{entries_of}
use Rattle.link_names.specs.declared.bits.BitTest.TheVariants.{Any}
use Rattle.link_names.specs.Tests.{first_at}
use Rattle.link_names.proofs.Clear.{is_nothing}
use Rattle.link_names.proofs.Firsts.{first_none}
use Rattle.link_names.proofs.widths.find_width.Goals as goal

pub check_width-requires-clause-clear : goal.check_width-requires-clause-clear
check_width-requires-clause-clear c = λ clear.
    let each = first_none (λ i. first_at Any (entries_of c.args.table.now) (item_bits i)) c.args.items.now (is_nothing _ (sym c.requires.clear ∙ clear)) in
    rw (sym c.item-item.is) at (All-get_or (λ i. first_at Any (entries_of c.args.table.now) (item_bits i) ≡ None) c.args.items.now c.loop-item.item-index c.item-item.result c.loop-item-test.true each)
