-- own: how many words the parts of a file have that vary.
use Rattle.std.specs.Prelude.{ℕ, ◌+◌, ◌-◌, List, length, Option}
use Rattle.std.specs.Option.{option_map_or}
use Rattle.bsdl_lexicon.specs.declared.symbol.BsdlSymbol.TheVariants.{Semicolon}
use Rattle.bsdl_device.specs.declared.written.PortDeclaration.{PortDeclaration}
use Rattle.bsdl_device.specs.declared.written.StringAttribute.{StringAttribute}
use Rattle.bsdl_device.specs.Patterns.{each_after}
use Rattle.bsdl_device.specs.declared.written.File.{File}
use Rattle.bsdl_device.specs.Shape.{Pattern, Mark, declaration_words, file_words, section_word}

-- parts of one word, with a mark between them
abbrev pub strings_count : List (List ℕ) → ℕ
strings_count strings = length strings + (length strings - 1)

-- a code's attribute, where the file has it
abbrev pub code_count : Option StringAttribute → ℕ
code_count code = option_map_or (λ (a : StringAttribute). 8 + strings_count a.strings) code 0

-- declarations, with `;` before each
abbrev pub after_semicolons : List PortDeclaration → List Pattern
after_semicolons declarations = each_after (Mark Semicolon) declaration_words declarations

-- the number of the first word of a section
unfoldable pub first_word : File → ℕ → ℕ
first_word f number = section_word f number

-- how many words a file has
unfoldable pub all_words : File → ℕ
all_words f = length (file_words f)
