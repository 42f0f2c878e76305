use Rattle.std.specs.Prelude.{ℕ, List, Option}
use Rattle.std.specs.Option.{option_map}
use Rattle.verilog_lexicon.specs.declared.word.Spanned.{Spanned}
use Rattle.verilog_lexicon.specs.Pieces.{Begins, IsPlace, words_of}
use Rattle.word_cutter.specs.Run.{FedAs}
use Rattle.verilog_words.specs.declared.cutter.Cutter.{Cutter}
use Rattle.verilog_words.specs.declared.fault.WordFault.{WordFault}
use Rattle.verilog_words.specs.declared.fault.WordFault.TheVariants.{BadWord, OutOfMemory}
use Rattle.verilog_words.specs.Machine.{start, step}
use Rattle.verilog_words.specs.Kinds.{word_fault}
use Rattle.verilog_words.specs.Steps.{state_of}

-- What a cutter was fed (own).

-- the refusal that the cutter came to
abbrev pub refusal_of : Cutter → Option WordFault
refusal_of c = option_map word_fault c.cutter.fault

-- a fault of a text that begins with these bytes
abbrev pub IsFault : WordFault → List ℕ → Type 0
IsFault OutOfMemory bytes = Unit {0}
IsFault (BadWord place) bytes = IsPlace bytes place × (Begins bytes → ⊥)

-- a fault of a text that ends here
abbrev pub IsEndFault : WordFault → List ℕ → Type 0
IsEndFault OutOfMemory bytes = Unit {0}
IsEndFault (BadWord place) bytes = IsPlace bytes place × ((words : List Spanned) → words_of bytes words → ⊥)

-- no fault has come, and the cutter was fed these bytes
abbrev pub Fed : Cutter → List ℕ → Type 0
Fed c bytes = FedAs step start c.cutter.fault c.cutter.at (state_of c.cutter.machine) bytes
