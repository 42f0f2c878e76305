-- The library that a command takes as its last text, if it takes one: of listed cells, or with boxes besides. Own.
use Rattle.std.specs.Prelude.{◌≡◌, ℕ, List, [], ◌∷◌, Option, Some, None}
use Rattle.std.specs.Borrow.{Bor}
use Rattle.std.specs.Option.{option_map}
use Rattle.cell_library.specs.declared.listed.ListedCell.{ListedCell}
use Rattle.cell_text.specs.Grammar.{SpellsLibrary}
use Rattle.cell_text.specs.Faults.{IsFault}
use Rattle.box_model.specs.declared.boxes.BoxLibrary.{BoxLibrary}
use Rattle.box_model.specs.Ports.{of_cells}
use Rattle.box_texts.specs.Grammar.{SpellsBoxes}
use Rattle.box_texts.specs.Faults as boxes
use Rattle.command_faults.specs.declared.fault.Fault.{Fault}
use Rattle.command_faults.specs.declared.fault.Fault.TheVariants as fault

-- the name of the library's file, if there is one
abbrev pub name_of : Option (Bor (List ℕ)) → Option (List ℕ)
name_of name = option_map (λ (n : Bor (List ℕ)). n.now) name

-- it stands behind the names of the other texts
abbrev pub names_if : Option (List ℕ) → List (List ℕ)
names_if None = []
names_if (Some name) = name ∷ []

-- what the texts behind the others come to: the library that the first of them spells; without one there
-- are no listed cells
abbrev pub IsLibraryOf : List (List ℕ) → List ListedCell → Type 0
IsLibraryOf [] library = library ≡ []
IsLibraryOf (text ∷ more) library = SpellsLibrary text library

-- the fault stands in the text of the library
abbrev pub StandsInLibrary : List (List ℕ) → Fault → Type 0
StandsInLibrary (text ∷ more) (fault.Library f) = IsFault text f
StandsInLibrary more f = ⊥

-- with boxes; without a text there are neither cells nor boxes
abbrev pub IsBoxLibraryOf : List (List ℕ) → BoxLibrary → Type 0
IsBoxLibraryOf [] library = library ≡ of_cells []
IsBoxLibraryOf (text ∷ more) library = SpellsBoxes text library

abbrev pub StandsInBoxLibrary : List (List ℕ) → Fault → Type 0
StandsInBoxLibrary (text ∷ more) (fault.Library f) = boxes.IsFault text f
StandsInBoxLibrary more f = ⊥

-- a text, and behind it those that come to this library
pub record IsFirst (L : Type 0) (Is : List (List ℕ) → L → Type 0) (texts : List (List ℕ)) (one : List ℕ) (library : L) : Type 0 where
  pub more : List (List ℕ)
  pub are : texts ≡ one ∷ more
  pub is : Is more library

-- two texts, and behind them those that come to this library
pub record AreTwo (L : Type 0) (Is : List (List ℕ) → L → Type 0) (texts : List (List ℕ)) (one two : List ℕ) (library : L) : Type 0 where
  pub more : List (List ℕ)
  pub are : texts ≡ one ∷ two ∷ more
  pub is : Is more library

-- three texts, and behind them those that come to this library
pub record AreThree (L : Type 0) (Is : List (List ℕ) → L → Type 0) (texts : List (List ℕ)) (one two three : List ℕ) (library : L) : Type 0 where
  pub more : List (List ℕ)
  pub are : texts ≡ one ∷ two ∷ three ∷ more
  pub is : Is more library

-- the fault stands in the text of the library behind another
pub record StandsBehindFirst (Stands : List (List ℕ) → Fault → Type 0) (texts : List (List ℕ)) (f : Fault) : Type 0 where
  pub one : List ℕ
  pub more : List (List ℕ)
  pub are : texts ≡ one ∷ more
  pub stands : Stands more f

-- or behind two others
pub record StandsBehindTwo (Stands : List (List ℕ) → Fault → Type 0) (texts : List (List ℕ)) (f : Fault) : Type 0 where
  pub one : List ℕ
  pub two : List ℕ
  pub more : List (List ℕ)
  pub are : texts ≡ one ∷ two ∷ more
  pub stands : Stands more f

-- or behind three
pub record StandsBehindThree (Stands : List (List ℕ) → Fault → Type 0) (texts : List (List ℕ)) (f : Fault) : Type 0 where
  pub one : List ℕ
  pub two : List ℕ
  pub three : List ℕ
  pub more : List (List ℕ)
  pub are : texts ≡ one ∷ two ∷ three ∷ more
  pub stands : Stands more f
