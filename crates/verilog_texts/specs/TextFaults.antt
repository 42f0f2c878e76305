-- When a text is no module. Own.
use Rattle.std.specs.Prelude.{ℕ, List}
use Rattle.verilog_lexicon.specs.Words.{WordText}
use Rattle.verilog_words.specs.declared.fault.WordFault.{WordFault}
use Rattle.verilog_words.specs.declared.fault.WordFault.TheVariants as word
use Rattle.verilog_modules.specs.declared.fault.SyntaxFault.{SyntaxFault}
use Rattle.verilog_modules.specs.declared.fault.SyntaxFault.TheVariants as syntax
use Rattle.verilog_modules.specs.Faults.{IsBadSyntax}
use Rattle.verilog_modules.specs.Texts.{IsBadText}
use Rattle.verilog_texts.specs.declared.fault.TextFault.{TextFault}
use Rattle.verilog_texts.specs.declared.fault.TextFault.TheVariants.{BadWord, BadSyntax, OutOfMemory}
use Rattle.verilog_texts.specs.TextOutcome.{IsBadWord, HasBadSyntax, HasBadText}

abbrev pub word_fault : WordFault → TextFault
word_fault (word.BadWord place) = BadWord place
word_fault word.OutOfMemory = OutOfMemory

abbrev pub syntax_fault : SyntaxFault → TextFault
syntax_fault (syntax.BadSyntax place number) = BadSyntax place number
syntax_fault syntax.OutOfMemory = OutOfMemory

abbrev pub memory_fault : TextFault
memory_fault = OutOfMemory

-- the fault stands in a text
abbrev pub IsTextFault : List ℕ → TextFault → Type 0
IsTextFault bytes (BadWord place) = IsBadWord bytes place
IsTextFault bytes (BadSyntax place number) = HasBadSyntax bytes place number
IsTextFault bytes OutOfMemory = Unit {0}

-- the fault stands in a list of words
abbrev pub IsModuleFault : WordText → TextFault → Type 0
IsModuleFault text (BadWord place) = ⊥
IsModuleFault text (BadSyntax place number) = IsBadSyntax text place number
IsModuleFault text OutOfMemory = Unit {0}

-- the fault is one of cutting a text into words
abbrev pub IsWordFault : List ℕ → TextFault → Type 0
IsWordFault bytes (BadWord place) = IsBadWord bytes place
IsWordFault bytes (BadSyntax place number) = ⊥
IsWordFault bytes OutOfMemory = Unit {0}

-- the fault stands in a text of several modules
abbrev pub IsModulesTextFault : List ℕ → TextFault → Type 0
IsModulesTextFault bytes (BadWord place) = IsBadWord bytes place
IsModulesTextFault bytes (BadSyntax place number) = HasBadText bytes place number
IsModulesTextFault bytes OutOfMemory = Unit {0}

-- the fault stands in a list of words of several modules
abbrev pub IsModulesFault : WordText → TextFault → Type 0
IsModulesFault text (BadWord place) = ⊥
IsModulesFault text (BadSyntax place number) = IsBadText text place number
IsModulesFault text OutOfMemory = Unit {0}
