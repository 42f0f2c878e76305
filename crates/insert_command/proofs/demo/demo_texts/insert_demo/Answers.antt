use Rattle.std.proofs.Common.{List, [], ℕ, IfOk, IfErr, ◌∙◌, subst}
use Rattle.cell_library.specs.declared.listed.ListedCell.{ListedCell}
use Rattle.verilog_tree.specs.Canonical.{canonical}
use Rattle.status_insertions.specs.insertions.Insertions.{IsInsertionText}
use Rattle.status_insertions.specs.insertion_inputs.Faults.{StandsInTexts}
use Rattle.demo_chips.specs.Netlists.{demo_module}
use Rattle.insert_command.proofs.demo.demo_texts.insert_demo.Goals as goal

pub returns-clause-inserted : goal.returns-clause-inserted
returns-clause-inserted c =
    subst (λ (t : List ℕ). IfOk c.insert_texts.result (λ made. IsInsertionText [] (canonical (demo_module c.args.number)) t made.verilog made.bsdl made.report)) (c.as_bytes.ensures ∙ c.in_ok-plan.ensures)
    (subst (λ (n : List ℕ). IfOk c.insert_texts.result (λ made. IsInsertionText [] n c.as_bytes.result.now made.verilog made.bsdl made.report)) c.in_ok-net.ensures
    (subst (λ (l : List ListedCell). IfOk c.insert_texts.result (λ made. IsInsertionText l c.in_ok-net.net c.as_bytes.result.now made.verilog made.bsdl made.report)) c.new.ensures c.insert_texts.ensures.inserted))

pub returns-clause-fault : goal.returns-clause-fault
returns-clause-fault c =
    subst (λ (t : List ℕ). IfErr c.insert_texts.result (StandsInTexts [] (canonical (demo_module c.args.number)) t)) (c.as_bytes.ensures ∙ c.in_ok-plan.ensures)
    (subst (λ (n : List ℕ). IfErr c.insert_texts.result (StandsInTexts [] n c.as_bytes.result.now)) c.in_ok-net.ensures
    (subst (λ (l : List ListedCell). IfErr c.insert_texts.result (StandsInTexts l c.in_ok-net.net c.as_bytes.result.now)) c.new.ensures c.insert_texts.ensures.fault))
