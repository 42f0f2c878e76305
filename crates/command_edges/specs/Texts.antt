-- Texts that are read along a list of names, and texts that are written along one. Own.
use Rattle.std.specs.Prelude.{◌≡◌, ℕ, ◌⊎◌, List, [], ◌∷◌, Option, Some}
use Rattle.edge_io.specs.Shelf.{Access, RoseAt, WhereTold, told_if}
use Rattle.command_faults.specs.declared.fault.Fault.{Fault}
use Rattle.command_edges.specs.Lengths.{IsShort}
use Rattle.command_edges.specs.Seen.{ShelfSeen, IsCutOff}
use Rattle.command_edges.specs.EdgeFaults.{StandsInReading, StandsInWriting}
use Rattle.command_edges.specs.Names.{IsOneOf}

-- each text is what is held under its name, where that is told, and none is too long
abbrev pub AreRead : (List ℕ → Option (List ℕ)) → List (List ℕ) → List (List ℕ) → Type 0
AreRead held [] [] = Unit {0}
AreRead held (name ∷ names) (text ∷ texts) = (WhereTold (held name) (λ bytes. text ≡ bytes) × IsShort text) × AreRead held names texts
AreRead held _ _ = ⊥

-- each text is told to be held under its name, and none is too long
abbrev pub AreHeld : (List ℕ → Option (List ℕ)) → List (List ℕ) → List (List ℕ) → Type 0
AreHeld held [] [] = Unit {0}
AreHeld held (name ∷ names) (text ∷ texts) = ((held name ≡ Some text) × IsShort text) × AreHeld held names texts
AreHeld held _ _ = ⊥

-- the fault stands in reading one of the texts, before which none that is told is too long
abbrev pub StandsInReadings : List (List ℕ) → ShelfSeen → Fault → Type 0
StandsInReadings [] shelf f = ⊥
StandsInReadings (name ∷ names) shelf f = StandsInReading name shelf f ⊎ (WhereTold (shelf.held name) IsShort × StandsInReadings names shelf f)

-- each text is written under its name, where the shelf tells it
abbrev pub AreWritten : List (List ℕ) → List (List ℕ) → ShelfSeen → Type 0
AreWritten [] [] shelf = Unit {0}
AreWritten (name ∷ names) (text ∷ texts) shelf = (shelf.written_after name ≡ told_if shelf.tells text) × AreWritten names texts shelf
AreWritten _ _ shelf = ⊥

-- what is written under these names is as before
abbrev pub AreKept : List (List ℕ) → ShelfSeen → Type 0
AreKept names shelf = (name : List ℕ) → IsOneOf name names → shelf.written_after name ≡ shelf.written name

-- the fault stands in writing one of the texts: those before it stand whole, and those behind it are as before
abbrev pub StandsInWritings : List (List ℕ) → List (List ℕ) → ShelfSeen → Fault → Type 0
StandsInWritings (name ∷ names) (text ∷ texts) shelf f =
    (StandsInWriting name shelf f × (IsCutOff name text shelf × AreKept names shelf))
    ⊎ ((shelf.written_after name ≡ told_if shelf.tells text) × StandsInWritings names texts shelf f)
StandsInWritings _ _ shelf f = ⊥

-- no count of this kind rises under one of these names
abbrev pub NoneRose : Access → List (List ℕ) → ShelfSeen → Type 0
NoneRose access names shelf = (name : List ℕ) → IsOneOf name names → RoseAt shelf.faults shelf.faults_after access name → ⊥
