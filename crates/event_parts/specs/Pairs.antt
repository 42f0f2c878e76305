-- Gates of two operands, whose values stand in tables.
use Rattle.std.specs.Prelude.{◌≡◌, ℕ, ◌+◌, ◌-◌, ◌<◌, ◌∷◌, [], false, List, length, slice_index_or}
use Rattle.std.specs.List.{flat_map}
use Rattle.list_laws.specs.Lists.{counted_from}
use Rattle.signal_values.specs.declared.Sig.{Sig}
use Rattle.signal_values.specs.declared.Sig.TheVariants.{Zero, One, Unknown}
use Rattle.cell_library.specs.declared.Kind.{Kind}
use Rattle.cell_library.specs.declared.Kind.TheVariants.{And, Or, Nand, Nor, Xor, Xnor, Listed}
use Rattle.cell_library.specs.declared.listed.ListedCell.{ListedCell}
use Rattle.cell_library.specs.Gates.{is_flop, is_three_state, gate_output}
use Rattle.event_parts.specs.declared.counted_cells.pairs.Pair.{Pair}

-- own: the order of values in a table
abbrev pub code : Sig → ℕ
code Zero = 0
code One = 1
code Unknown = 2

-- gate level modelling: what a gate of two operands gives, three values for each first operand, and there one for
-- each second
abbrev pub table_of : List ListedCell → Kind → List Sig
table_of library kind =
    gate_output library kind (Zero ∷ Zero ∷ []) ∷ gate_output library kind (Zero ∷ One ∷ []) ∷ gate_output library kind (Zero ∷ Unknown ∷ [])
    ∷ gate_output library kind (One ∷ Zero ∷ []) ∷ gate_output library kind (One ∷ One ∷ []) ∷ gate_output library kind (One ∷ Unknown ∷ [])
    ∷ gate_output library kind (Unknown ∷ Zero ∷ []) ∷ gate_output library kind (Unknown ∷ One ∷ []) ∷ gate_output library kind (Unknown ∷ Unknown ∷ []) ∷ []

-- gate level modelling: the kinds of gates that take several operands
abbrev pub open_kinds : List Kind
open_kinds = And ∷ Or ∷ Nand ∷ Nor ∷ Xor ∷ Xnor ∷ []

-- own: the kind whose table has this number: those, and then the listed cells
abbrev pub kind_at : ℕ → Kind
kind_at number = slice_index_or open_kinds number (Listed (number - 6))

-- own: so many tables, one after another
abbrev pub tables_upto : List ListedCell → ℕ → List Sig
tables_upto library count = flat_map (λ (number : ℕ). table_of library (kind_at number)) (counted_from 0 count)

-- own: these are all tables over a library
abbrev pub AreTables : List ListedCell → List Sig → Type 0
AreTables library values = values ≡ tables_upto library (6 + length library)

-- own: the table of this number is the kind's, which is a gate that always drives
pub record IsPair (library : List ListedCell) (kind : Kind) (pair : Pair) : Type 0 where
  pub below : pair.0 < 6 + length library
  pub kind_is : kind_at pair.0 ≡ kind
  pub gate : is_flop library kind ≡ false
  pub plain : is_three_state kind ≡ false
