use Rattle.std.proofs.Common.{ℕ, List, nat_eq, position, ◌∙◌, ap}
use Rattle.bsdl_checks.proofs.TableFinds.{finds_rows}
use Rattle.bsdl_checks.proofs.row_table.RowTable.of.Goals as goal

pub invariant_of-result : goal.invariant_of-result
invariant_of-result c =
    finds_rows c.args.rows.now c.in_ok-numbers.numbers.items c.in_ok-places.places.entries c.in_ok-numbers.ensures
    (λ n. c.in_ok-places.ensures n ∙ ap (λ (numbers : List ℕ). position (nat_eq n) numbers) c.deref.ensures.value)
