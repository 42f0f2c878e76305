-- No fault stands in the texts of a demonstration. Own.
use Rattle.std.specs.Prelude.{ℕ, ◌<◌, []}
use Rattle.verilog_tree.specs.IsTree.{IsTree}
use Rattle.verilog_tree.specs.Canonical.{canonical}
use Rattle.link_model.specs.Late.{IsLinkable}
use Rattle.plan_texts.specs.Canonical.{canonical_plan}
use Rattle.insert_command.specs.Free.{IsInsertable}
use Rattle.demo_chips.specs.Netlists.{demo_module}
use Rattle.demo_chips.specs.Plans.{demo_plan}

-- where some text spells the netlist of a number, and it can be linked without listed cells, no fault stands in its
-- canonical text and in that of the plan
abbrev pub TextsAreInsertable : Type 0
TextsAreInsertable = (number : ℕ) → number < 10000 → IsTree (demo_module number) → IsLinkable [] (demo_module number)
    → IsInsertable [] (canonical (demo_module number)) (canonical_plan demo_plan)
