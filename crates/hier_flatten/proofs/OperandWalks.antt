-- A loop over a walk that counts operands: the room that is left, and what is left to be counted.
use Rattle.std.proofs.Common.{◌≡◌, ℕ, ◌+◌, ◌-◌, ◌<◌, ◌≤◌, List, [], Some, None, IsTrue, sym, ap, ◌∙◌, arith}
use Rattle.std.specs.Prelude.{sum_by}
use Rattle.std.proofs.lemmas.List.Sums.{sum_by-cons}
use Rattle.verilog_tree.specs.declared.tree.Module.{Module}
use Rattle.hier_model.specs.declared.walk.walk.Step.{Step}
use Rattle.hier_model.specs.declared.walk.walk.Walk.{Walk}
use Rattle.hier_model.specs.Visits.{Visit, visits, has_levels}
use Rattle.hier_model.specs.Walks.{Walks, left_in, turn_of, Goes, ended, went, Begins}
use Rattle.hier_flatten.specs.Operands.{turn_operands, visit_operands, operand_limit}
use Rattle.hier_flatten.proofs.Walks.{visit_in}

-- the operands of what is left
abbrev pub operands_left : ℕ → Walk → ℕ
operands_left levels w = sum_by visit_operands (left_in levels w)

-- what a loop knows before each step, of all operands and the room that is left for them
pub record Counts (levels all : ℕ) (w : Walk) (room : ℕ) : Type 0 where
  pub walks : Walks levels w
  pub rest : room + all ≡ operand_limit + operands_left levels w

-- Of numbers: before and after a step that has so many operands.

pub taken : (room count own : ℕ) → count ≡ own → count ≤ room → (room - count) + own ≡ room
taken room count own is fits = omega (arith, is, fits)

pub many : (room count own : ℕ) → count ≡ own → room < count → room < own
many room count own is more = omega (arith, is, more)

numbers_on : (limit room all next count before after : ℕ) → room + all ≡ limit + before → before ≡ count + after → next + count ≡ room → next + all ≡ limit + after
numbers_on limit room all next count before after rest first fits = omega (arith, rest, first, fits)

numbers_past : (limit room all count before after : ℕ) → room + all ≡ limit + before → before ≡ count + after → room < count → limit < all
numbers_past limit room all count before after rest first more = omega (arith, rest, first, more)

numbers_end : (limit room all before : ℕ) → room + all ≡ limit + before → before ≡ 0 → all ≤ limit
numbers_end limit room all before rest none = omega (arith, rest, none)

-- at the start nothing is counted
pub counts_first : (levels : ℕ) (modules : List Module) (top : Module) (w : Walk) → Begins modules top w → IsTrue (has_levels levels modules top)
    → Counts levels (sum_by visit_operands (visits levels modules [] top)) w operand_limit
counts_first levels modules top w b deep = record {
  walks = b.walks levels deep;
  rest = ap (λ (vs : List Visit). operand_limit + sum_by visit_operands vs) (sym (b.all levels deep));
}

-- those of a step are the first that were left
step_first : (levels : ℕ) (old new : Walk) (s : Step) → Goes levels old new (Some s) → operands_left levels old ≡ turn_operands (turn_of s.turn) + operands_left levels new
step_first levels old new s (went left walks after) = ap (sum_by visit_operands) left ∙ sum_by-cons visit_operands (visit_in new s) (left_in levels new)

-- a step that has room
pub counts_on : (levels all : ℕ) (old new : Walk) (s : Step) (room next : ℕ) → Goes levels old new (Some s) → Counts levels all old room → next + turn_operands (turn_of s.turn) ≡ room → Counts levels all new next
counts_on levels all old new s room next (went left walks after) c fits = record {
  walks = walks;
  rest = numbers_on operand_limit room all next (turn_operands (turn_of s.turn)) (operands_left levels old) (operands_left levels new) c.rest (step_first levels old new s (went left walks after)) fits;
}

-- a step that has none
pub counts_past : (levels all : ℕ) (old new : Walk) (s : Step) (room : ℕ) → Goes levels old new (Some s) → Counts levels all old room → room < turn_operands (turn_of s.turn) → operand_limit < all
counts_past levels all old new s room goes c more =
    numbers_past operand_limit room all (turn_operands (turn_of s.turn)) (operands_left levels old) (operands_left levels new) c.rest (step_first levels old new s goes) more

-- at the end nothing is left
pub counts_all : (levels all : ℕ) (old new : Walk) (room : ℕ) → Goes levels old new None → Counts levels all old room → all ≤ operand_limit
counts_all levels all old new room (ended none) c = numbers_end operand_limit room all (operands_left levels old) c.rest (ap (sum_by visit_operands) none)
