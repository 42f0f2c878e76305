-- own: how registers are read from the kept lines of a text, one after the other.
use Rattle.std.specs.Prelude.{◌≡◌, ℕ, zero, suc, List, [], ◌∷◌, ◌++◌, Option, Some, None, Result, Ok, Err, if◌then◌else◌}
use Rattle.word_cutter.specs.Ahead.{rest_of}
use Rattle.status_fitting.specs.declared.register_texts.fault.LineFault.{LineFault}
use Rattle.status_fitting.specs.declared.register_texts.fault.LineFault.TheVariants as fault
use Rattle.status_fitting.specs.declared.register_texts.plan.StatusRow.{StatusRow}
use Rattle.status_fitting.specs.declared.register_texts.plan.StatusPlan.{StatusPlan}
use Rattle.status_fitting.specs.Lines.{is_first, register_line}

-- kept lines, each with its number
abbrev pub Rows : Type 0
Rows = List (ℕ × List (List ℕ))

-- What was read, or nothing at a fault; and the rows that are left, at a fault from where it stands.
abbrev pub Read : Type 0
Read = Option StatusPlan × Rows

-- the register of the first row
abbrev pub front : Rows → Option StatusRow
front [] = None
front (row ∷ rows) = register_line row.1

-- one row less where a register was seen in it
abbrev pub rest_if : Option StatusRow → Rows → Rows
rest_if None rows = rows
rest_if (Some register) rows = rest_of rows

abbrev pub put_first : Option StatusRow → Rows → (List StatusRow × Rows) → (List StatusRow × Rows)
put_first None rows more = ([], rows)
put_first (Some register) rows more = (register ∷ more.0, more.1)

-- so many registers at most, and the rows behind them
abbrev pub few_at : ℕ → Rows → List StatusRow × Rows
few_at zero rows = ([], rows)
few_at (suc room) [] = ([], [])
few_at (suc room) (row ∷ rows) = put_first (register_line row.1) (row ∷ rows) (few_at room rows)

-- registers that were read before
abbrev pub put_before : List StatusRow → (List StatusRow × Rows) → (List StatusRow × Rows)
put_before before more = (before ++ more.0, more.1)

-- one register at least, and nothing may follow
abbrev pub plan_at : (List StatusRow × Rows) → Read
plan_at ([], rows) = (None, rows)
plan_at (register ∷ registers, []) = (Some (record { registers = register ∷ registers }), [])
plan_at (register ∷ registers, row ∷ rows) = (None, row ∷ rows)

abbrev pub status_at : Rows → Read
status_at [] = (None, [])
status_at (row ∷ rows) = if is_first row.1 then plan_at (few_at 16 rows) else (None, row ∷ rows)

-- what a reader answers: what was read and the rows after it; at a fault the rows from there on; nothing where
-- memory was refused
abbrev pub Gives : Result StatusPlan LineFault → Rows → Read → Type 0
Gives (Ok plan) left read = read ≡ (Some plan, left)
Gives (Err fault.Line) left read = read ≡ (None, left)
Gives (Err fault.OutOfMemory) left read = Unit {0}
