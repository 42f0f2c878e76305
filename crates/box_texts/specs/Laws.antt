-- own: how spelling and faults belong together.
use Rattle.std.specs.Prelude.{◌≡◌, ℕ, List, None}
use Rattle.box_model.specs.declared.boxes.BoxLibrary.{BoxLibrary}
use Rattle.box_model.specs.Sound.{IsSoundLibrary}
use Rattle.box_texts.specs.Faults.{first_fault}
use Rattle.box_texts.specs.Sound.{IsBoxLibrary}
use Rattle.box_texts.specs.Grammar.{SpellsBoxes}
use Rattle.box_texts.specs.Canonical.{canonical_boxes}

-- bytes spell one library at most
abbrev pub SpelledOnce : Type 0
SpelledOnce = (bytes : List ℕ) (one other : BoxLibrary) → SpellsBoxes bytes one → SpellsBoxes bytes other → one ≡ other

-- where bytes spell a library, they have no fault
abbrev pub SpelledIsFaultless : Type 0
SpelledIsFaultless = (bytes : List ℕ) (library : BoxLibrary) → SpellsBoxes bytes library → first_fault bytes ≡ None

-- where they have none, they spell a library
abbrev pub FaultlessIsSpelled : Type 0
FaultlessIsSpelled = (bytes : List ℕ) → first_fault bytes ≡ None → (library : BoxLibrary) × SpellsBoxes bytes library

-- what they spell is sound
abbrev pub SpelledIsSound : Type 0
SpelledIsSound = (bytes : List ℕ) (library : BoxLibrary) → SpellsBoxes bytes library → IsSoundLibrary library

-- and its canonical text spells it
abbrev pub SpelledCanBePrinted : Type 0
SpelledCanBePrinted = (bytes : List ℕ) (library : BoxLibrary) → SpellsBoxes bytes library → IsBoxLibrary library × SpellsBoxes (canonical_boxes library) library
