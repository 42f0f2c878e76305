-- Cells that a library lists: their steps, and what these leave. Own.
use Rattle.std.specs.Prelude.{ℕ, List, [], ◌∷◌, fold, slice_index_or, Option, Some, None}
use Rattle.signal_values.specs.declared.Sig.{Sig}
use Rattle.signal_values.specs.declared.Sig.TheVariants.{Zero, Unknown}
use Rattle.signal_values.specs.Values.{bit, sig_not, sig_and, sig_or, sig_xor, sig_mux}
use Rattle.cell_library.specs.declared.FlopKind.{FlopKind}
use Rattle.cell_library.specs.declared.listed.Step.{Step}
use Rattle.cell_library.specs.declared.listed.Step.TheVariants as step
use Rattle.cell_library.specs.declared.listed.Body.{Body}
use Rattle.cell_library.specs.declared.listed.Body.TheVariants as body
use Rattle.cell_library.specs.declared.listed.ListedCell.{ListedCell}

-- a gate without operands, which stands for a number past the library's last
abbrev pub no_cell : ListedCell
no_cell = record { name = []; output = []; inputs = []; body = body.Gate [] }

-- the cell with this number
abbrev pub listed : List ListedCell → ℕ → ListedCell
listed library number = slice_index_or library number no_cell

-- the flip-flop that a cell is
abbrev pub body_flop : Body → Option FlopKind
body_flop (body.Gate steps) = None
body_flop (body.Flop kind) = Some kind

-- The values that stand after steps, the last one first. Where a step lacks a value it takes 0, which no body
-- of a library does.

abbrev pub top : List Sig → Sig
top [] = Zero
top (value ∷ values) = value

abbrev pub rest : List Sig → List Sig
rest [] = []
rest (value ∷ values) = values

-- what a step leaves on these values; `mux` has s, a, b pushed in this order
abbrev pub after_step : List Sig → List Sig → Step → List Sig
after_step inputs values (step.Input place) = slice_index_or inputs place Zero ∷ values
after_step inputs values (step.Const b) = bit b ∷ values
after_step inputs values step.Not = sig_not (top values) ∷ rest values
after_step inputs values step.And = sig_and (top (rest values)) (top values) ∷ rest (rest values)
after_step inputs values step.Or = sig_or (top (rest values)) (top values) ∷ rest (rest values)
after_step inputs values step.Xor = sig_xor (top (rest values)) (top values) ∷ rest (rest values)
after_step inputs values step.Mux = sig_mux (top (rest (rest values))) (top (rest values)) (top values) ∷ rest (rest (rest values))

-- the values that steps leave over the operands' values
abbrev pub left_by : List Sig → List Step → List Sig
left_by inputs steps = fold (after_step inputs) [] steps

-- the value that is left on top
abbrev pub steps_output : List Step → List Sig → Sig
steps_output steps inputs = top (left_by inputs steps)

-- what a body gives; a flip-flop gives nothing that hangs on its operands alone
abbrev pub body_output : Body → List Sig → Sig
body_output (body.Gate steps) inputs = steps_output steps inputs
body_output (body.Flop kind) inputs = Unknown
