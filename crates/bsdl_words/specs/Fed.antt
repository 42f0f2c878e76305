use Rattle.std.specs.Prelude.{ℕ, List, Option}
use Rattle.std.specs.Option.{option_map}
use Rattle.bsdl_lexicon.specs.declared.token.BsdlSpanned.{BsdlSpanned}
use Rattle.bsdl_lexicon.specs.Pieces.{Begins, IsPlace, words_of}
use Rattle.word_cutter.specs.Run.{FedAs}
use Rattle.bsdl_words.specs.declared.cutter.BsdlCutter.{BsdlCutter}
use Rattle.bsdl_words.specs.declared.fault.BsdlWordFault.{BsdlWordFault}
use Rattle.bsdl_words.specs.declared.fault.BsdlWordFault.TheVariants.{BsdlWord, OutOfMemory}
use Rattle.bsdl_words.specs.Machine.{start, step}
use Rattle.bsdl_words.specs.Kinds.{word_fault}
use Rattle.bsdl_words.specs.Steps.{state_of}

-- What a cutter was fed (own).

-- the refusal that the cutter came to
abbrev pub refusal_of : BsdlCutter → Option BsdlWordFault
refusal_of c = option_map word_fault c.cutter.fault

-- a fault of a text that begins with these bytes
abbrev pub IsFault : BsdlWordFault → List ℕ → Type 0
IsFault OutOfMemory bytes = Unit {0}
IsFault (BsdlWord place) bytes = IsPlace bytes place × (Begins bytes → ⊥)

-- a fault of a text that ends here
abbrev pub IsEndFault : BsdlWordFault → List ℕ → Type 0
IsEndFault OutOfMemory bytes = Unit {0}
IsEndFault (BsdlWord place) bytes = IsPlace bytes place × ((words : List BsdlSpanned) → words_of bytes words → ⊥)

-- no fault has come, and the cutter was fed these bytes
abbrev pub Fed : BsdlCutter → List ℕ → Type 0
Fed c bytes = FedAs step start c.cutter.fault c.cutter.at (state_of c.cutter.machine) bytes
