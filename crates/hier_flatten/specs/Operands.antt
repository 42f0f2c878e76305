-- How many operands and links the items have that stay in a hierarchy.
-- Own.
use Rattle.std.specs.Prelude.{ℕ, List, [], length, sum_by}
use Rattle.verilog_tree.specs.declared.tree.Item.{Item}
use Rattle.verilog_tree.specs.declared.tree.Item.TheVariants as item
use Rattle.verilog_tree.specs.declared.tree.Module.{Module}
use Rattle.hier_model.specs.Visits.{Turn, keeps, opens, closes, Visit, visits}
use Rattle.hier_model.specs.Entries.{level_limit}

-- the operands of a gate, the links of an instance
abbrev pub item_operands : Item → ℕ
item_operands (item.Gate g) = length g.inputs
item_operands (item.Instance i) = length i.links
item_operands (item.Assign output input) = 1

-- an instance of a module has none: its links become assignments
abbrev pub turn_operands : Turn → ℕ
turn_operands (keeps i) = item_operands i
turn_operands (opens i child) = 0
turn_operands (closes i child) = 0

abbrev pub visit_operands : Visit → ℕ
visit_operands v = turn_operands v.turn

abbrev pub operand_count : List Module → Module → ℕ
operand_count modules top = sum_by visit_operands (visits level_limit modules [] top)

-- 256 for each of 262,144 cells
abbrev pub operand_limit : ℕ
operand_limit = 67108864
