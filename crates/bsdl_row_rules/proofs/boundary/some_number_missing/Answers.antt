use Rattle.std.proofs.Common.{ℕ, List, not, nat_eq, ◌∙◌, ap}
use Rattle.std.specs.List.{list_any}
use Rattle.bsdl_device.specs.Ports.{counted_from}
use Rattle.bsdl_row_rules.proofs.Sets.{missing_by_rows}
use Rattle.bsdl_row_rules.proofs.boundary.some_number_missing.Goals as goal

pub returns : goal.returns
returns c =
    c.in_ok-misses.ensures
    ∙ ap (λ (ns : List ℕ). list_any (λ (n : ℕ). not (list_any (nat_eq n) ns)) (counted_from 0 c.args.count)) (c.deref.ensures.value ∙ c.in_ok-numbers.ensures)
    ∙ missing_by_rows c.args.rows.now (counted_from 0 c.args.count)
