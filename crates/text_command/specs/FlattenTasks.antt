-- What `flatten` is to do. Own.
use Rattle.std.specs.Prelude.{◌≡◌, ℕ, ◌⊎◌, List, [], ◌∷◌, Option, false}
use Rattle.command_faults.specs.declared.fault.Fault.{Fault}
use Rattle.command_faults.specs.declared.status.Status.{Status}
use Rattle.command_faults.specs.declared.status.Status.TheVariants as status
use Rattle.box_model.specs.declared.boxes.BoxLibrary.{BoxLibrary}
use Rattle.command_edges.specs.Libraries.{names_if, IsBoxLibraryOf, StandsInBoxLibrary}
use Rattle.command_edges.specs.Tasks.{Task}
use Rattle.text_command.specs.FlatTexts.{IsFlattened, StandsInModules, CanBeFlat}

-- the texts behind that of the modules come to the library, of which a box is a cell like others
abbrev pub AreFlattened : List ℕ → List (List ℕ) → List (List ℕ) → List ℕ → Status → Type 0
AreFlattened top (bytes ∷ more) (text ∷ []) put end =
    (library : BoxLibrary) × (IsBoxLibraryOf more library × (IsFlattened library.cells top bytes text × (end ≡ status.Done)))
AreFlattened top _ _ put end = ⊥

-- the library's text is looked at first
abbrev pub HaveFault : List ℕ → List (List ℕ) → Fault → Type 0
HaveFault top (bytes ∷ more) f = StandsInBoxLibrary more f ⊎ ((library : BoxLibrary) × (IsBoxLibraryOf more library × StandsInModules library.cells top bytes f))
HaveFault top _ f = ⊥

abbrev pub AreFlattenable : List ℕ → List (List ℕ) → Type 0
AreFlattenable top (bytes ∷ more) = (library : BoxLibrary) × (IsBoxLibraryOf more library × CanBeFlat library.cells top bytes)
AreFlattenable top _ = ⊥

-- The flat module of the module of a name is written; a library may stand behind the modules. The
-- name is no file's.
abbrev pub flatten_task : List ℕ → List ℕ → List ℕ → Option (List ℕ) → Task
flatten_task input top output library = record {
  reads = input ∷ names_if library;
  writes = output ∷ [];
  puts = false;
  Makes = AreFlattened top;
  HaveFault = HaveFault top;
  AreFree = AreFlattenable top;
}
