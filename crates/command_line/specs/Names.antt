-- The files that a command reads and writes, and their names. Own.
use Rattle.std.specs.Prelude.{◌≡◌, ◌≢◌, ℕ, ◌⊎◌, List, [], ◌∷◌, ◌++◌}
use Rattle.command_edges.specs.Names.{IsOneOf}
use Rattle.command_line.specs.Forms.{Form, HasForm}
use Rattle.command_line.specs.Tasks.{task_of}

-- the files that the command reads, and those that it writes
abbrev pub inputs : Form → List (List ℕ)
inputs form = (task_of form).reads

abbrev pub outputs : Form → List (List ℕ)
outputs form = (task_of form).writes

-- the name is none of these
abbrev pub IsNoneOf : List ℕ → List (List ℕ) → Type 0
IsNoneOf name [] = Unit {0}
IsNoneOf name (other ∷ others) = (name ≢ other) × IsNoneOf name others

-- the name is that of the first output that is an input too, or a later output
abbrev pub IsRepeated : List ℕ → List (List ℕ) → List (List ℕ) → Type 0
IsRepeated name reads [] = ⊥
IsRepeated name reads (output ∷ more) =
    ((name ≡ output) × IsOneOf output (reads ++ more)) ⊎ (IsNoneOf output (reads ++ more) × IsRepeated name reads more)

-- no output has the name of an input, or of a later output
abbrev pub AreApart : List (List ℕ) → List (List ℕ) → Type 0
AreApart reads [] = Unit {0}
AreApart reads (output ∷ more) = IsNoneOf output (reads ++ more) × AreApart reads more

-- the words are this command, each of whose outputs has a name of its own
pub record Runs (words : List (List ℕ)) (form : Form) : Type 0 where
  pub has : HasForm words form
  pub apart : AreApart (inputs form) (outputs form)

-- the name is that of a file that the command writes
pub record Writes (words : List (List ℕ)) (name : List ℕ) : Type 0 where
  pub form : Form
  pub runs : Runs words form
  pub is_one : IsOneOf name (outputs form)
