-- Which cells a library can list, and which lists of them are one. Own, but for names.
-- IEEE Std 1364-2001: lexical conventions (identifiers, key words).
use Rattle.std.specs.Prelude.{◌≡◌, ◌≢◌, ◌≤◌, ◌+◌, ◌-◌, ◌==◌, ◌&&◌, nat_le, nat_lt, not, ℕ, Bool, true, List, [], ◌∷◌, All, length, codes, slice_get, Some, None, is_some, IsTrue}
use Rattle.std.specs.Str.{bytes_eq}
use Rattle.verilog_lexicon.specs.Bytes.{is_simple_name}
use Rattle.verilog_lexicon.specs.Keywords.{reserved_of}
use Rattle.cell_library.specs.declared.listed.Step.{Step}
use Rattle.cell_library.specs.declared.listed.Step.TheVariants as step
use Rattle.cell_library.specs.declared.listed.Body.{Body}
use Rattle.cell_library.specs.declared.listed.Body.TheVariants as body
use Rattle.cell_library.specs.declared.listed.ListedCell.{ListedCell}
use Rattle.cell_library.specs.Gates.{flop_operand_count}
use Rattle.cell_library.specs.Library.{own_kind_named}
use Rattle.cell_library.specs.Ports.{AreApart}

-- a simple name that is no key word, of at most 255 bytes
abbrev pub is_cell_name : List ℕ → Bool
is_cell_name word = is_simple_name word && (not (is_some (reserved_of word)) && nat_le (length word) 255)

-- a port's name besides isn't `mux`, which is a step
abbrev pub is_port_name : List ℕ → Bool
is_port_name word = is_cell_name word && not (bytes_eq word (codes "mux"))

abbrev pub IsPort : List ℕ → Type 0
IsPort name = IsTrue (is_port_name name)

-- how many values a step needs; it leaves one in their place
abbrev pub wants : Step → ℕ
wants (step.Input place) = 0
wants (step.Const b) = 0
wants step.Not = 1
wants step.And = 2
wants step.Or = 2
wants step.Xor = 2
wants step.Mux = 3

-- the step names an operand that there is
abbrev pub is_of : ℕ → Step → Bool
is_of count (step.Input place) = nat_lt place count
is_of count (step.Const b) = true
is_of count step.Not = true
is_of count step.And = true
is_of count step.Or = true
is_of count step.Xor = true
is_of count step.Mux = true

-- from so many values on, no step lacks one, never more than 16 stand at once, and one is left
abbrev pub leaves_one : ℕ → ℕ → List Step → Bool
leaves_one count depth [] = depth == 1
leaves_one count depth (s ∷ steps) =
    is_of count s && (nat_le (wants s) depth && (nat_le (depth - wants s + 1) 16 && leaves_one count (depth - wants s + 1) steps))

-- a gate has at most 16 operands and 1 to 64 steps, which leave one value; a flip-flop has its kind's operands
abbrev pub is_sound_body : ℕ → Body → Bool
is_sound_body count (body.Gate steps) = nat_le count 16 && (nat_le 1 (length steps) && (nat_le (length steps) 64 && leaves_one count 0 steps))
is_sound_body count (body.Flop kind) = count == flop_operand_count kind.reset

-- a cell that a library can list
pub record IsSoundCell (cell : ListedCell) : Type 0 where
  pub name : IsTrue (is_cell_name cell.name)
  pub ports : All IsPort (cell.output ∷ cell.inputs)
  pub apart : AreApart (cell.output ∷ cell.inputs)
  pub body : IsTrue (is_sound_body (length cell.inputs) cell.body)

-- at most 4,096 such cells, of which none has the name of one of the seven, and none that of another
pub record IsLibrary (library : List ListedCell) : Type 0 where
  pub few : length library ≤ 4096
  pub sound : All IsSoundCell library
  pub named : (number : ℕ) (cell : ListedCell) → slice_get library number ≡ Some cell → own_kind_named cell.name ≡ None
  pub once : (i j : ℕ) (cell other : ListedCell) → slice_get library i ≡ Some cell → slice_get library j ≡ Some other → cell.name ≡ other.name → i ≡ j

-- a name that is none of the seven's and none of the library's
pub record IsNewTo (library : List ListedCell) (name : List ℕ) : Type 0 where
  pub free : own_kind_named name ≡ None
  pub new : (number : ℕ) (cell : ListedCell) → slice_get library number ≡ Some cell → cell.name ≢ name
