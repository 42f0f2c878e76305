use Rattle.std.proofs.Common.{◌≡◌, ℕ, List, sym, subst, rules}
use Rattle.verilog_tree.specs.Canonical.{canonical}
use Rattle.verilog_tree.specs.Texts.{SpellsText}
use Rattle.verilog_texts.proofs.Lines.{canonical_spells}
use Rattle.verilog_texts.proofs.printing.print.print_module.Goals as goal

pub returns-clause-spells : goal.returns-clause-spells
returns-clause-spells c =
    let same : c.put_module.new.text ≡ canonical c.args.tree.now = search rules in
    λ is. subst (λ (text : List ℕ). SpellsText text c.args.tree.now) (sym same) (canonical_spells c.args.tree.now is)

pub returns-clause-spelled : goal.returns-clause-spelled
returns-clause-spelled c = λ bytes spells. c.spelled_trees_keep_the_conditions.ensures bytes c.args.tree.now spells

pub returns-in_err-put_module-clause-spelled : goal.returns-in_err-put_module-clause-spelled
returns-in_err-put_module-clause-spelled c = λ bytes spells. c.spelled_trees_keep_the_conditions.ensures bytes c.args.tree.now spells
