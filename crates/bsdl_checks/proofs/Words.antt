-- How many words sections have.
use Rattle.std.proofs.Common.{◌≡◌, ℕ, ◌+◌, ◌-◌, ◌≤◌, List, [], ◌∷◌, length, take, Option, Some, None, codes, refl, ap, ◌∙◌, arith}
use Rattle.std.proofs.lemmas.List.{length-append}
use Rattle.std.specs.Option.{option_map_or}
use Rattle.bsdl_lexicon.specs.declared.symbol.BsdlSymbol.TheVariants.{RightParenthesis, Colon, Semicolon, Comma, Ampersand}
use Rattle.bsdl_device.specs.declared.written.WrittenRange.{WrittenRange}
use Rattle.bsdl_device.specs.declared.written.PortDeclaration.{PortDeclaration}
use Rattle.bsdl_device.specs.declared.written.StringAttribute.{StringAttribute}
use Rattle.bsdl_device.specs.declared.written.File.{File}
use Rattle.bsdl_device.specs.Patterns.{each_after, separated_by}
use Rattle.bsdl_device.specs.Shape.{Mark, KeyWord, NameOf, mode_word, type_words, StringOf, joined, sections, strings_words, names_words, declaration_words, string_attribute_words, constant_section, port_section, code_words, usercode_words, idcode_section}
use Rattle.bsdl_checks.specs.Counts.{strings_count, code_count, after_semicolons, first_word, all_words}

abbrev lengths : {A : Type 0} → List (List A) → ℕ
lengths [] = 0
lengths (x ∷ xs) = length x + lengths xs

joined-length : {A : Type 0} → (xs : List (List A)) → length (joined xs) ≡ lengths xs
joined-length [] = refl
joined-length (x ∷ xs) = length-append x (joined xs) ∙ ap (λ n. length x + n) (joined-length xs)

single-after : {A P : Type 0} (mark : P) (word : A → P) → (xs : List A) → length (each_after mark (λ x. word x ∷ []) xs) ≡ length xs + length xs
single-after mark word [] = refl
single-after mark word (x ∷ xs) = omega (arith, single-after mark word xs)

pub single-between : {A P : Type 0} (mark : P) (word : A → P) → (xs : List A) → length (separated_by mark (λ x. word x ∷ []) xs) ≡ length xs + (length xs - 1)
single-between mark word [] = refl
single-between mark word (x ∷ xs) = omega (arith, single-after mark word xs)

between-after : {A P : Type 0} (mark : P) (words : A → List P) → (xs : List A) → length (separated_by mark words xs) ≡ length (each_after mark words xs) - 1
between-after mark words [] = refl
between-after mark words (x ∷ xs) = omega arith

-- `;` before each declaration: one word more than between them
pub port-length : (f : File) → length (port_section f) ≡ 4 + (length (after_semicolons f.declarations) - 1)
port-length f = omega (arith, length-append (separated_by (Mark Semicolon) declaration_words f.declarations) (Mark RightParenthesis ∷ Mark Semicolon ∷ []), between-after (Mark Semicolon) declaration_words f.declarations)

strings-length : (strings : List (List ℕ)) → length (strings_words strings) ≡ strings_count strings
strings-length strings = single-between (Mark Ampersand) StringOf strings

pub names-length : (names : List (List ℕ)) → length (names_words names) ≡ strings_count names
names-length names = single-between (Mark Comma) NameOf names

pub constant-length : (f : File) → length (constant_section f) ≡ 6 + strings_count f.pin_map
constant-length f = omega (arith, length-append (strings_words f.pin_map) (Mark Semicolon ∷ []), strings-length f.pin_map)

pub attribute-length : (kind : List ℕ) (a : StringAttribute) → length (string_attribute_words kind a) ≡ 8 + strings_count a.strings
attribute-length kind a = omega (arith, length-append (strings_words a.strings) (Mark Semicolon ∷ []), strings-length a.strings)

-- an attribute that may be left out
optional-length : (kind : List ℕ) (code : Option StringAttribute) → length (option_map_or (string_attribute_words kind) code []) ≡ code_count code
optional-length kind None = refl
optional-length kind (Some a) = attribute-length kind a

pub code-length : (f : File) → length (code_words f) ≡ code_count f.idcode
code-length f = optional-length (codes "IDCODE_REGISTER") f.idcode

pub idcode-length : (f : File) → length (idcode_section f) ≡ code_count f.idcode + code_count f.usercode
idcode-length f = omega (arith, length-append (code_words f) (usercode_words f), code-length f, optional-length (codes "USERCODE_REGISTER") f.usercode)

-- the sections before one, as lengths
before : (f : File) (n : ℕ) → length (joined (take n (sections f))) ≡ lengths (take n (sections f))
before f n = joined-length (take n (sections f))

pub word-pin_map : (f : File) → first_word f 7 ≡ 39 + (length (after_semicolons f.declarations) - 1)
unfolding first_word
word-pin_map f = omega (arith, before f 6, port-length f)

pub word-tap : (f : File) → first_word f 8 ≡ first_word f 7 + 6 + strings_count f.pin_map
unfolding first_word
word-tap f = omega (arith, before f 7, before f 6, constant-length f)

pub word-length : (f : File) → first_word f 10 ≡ first_word f 8 + 49
unfolding first_word
word-length f = omega (arith, before f 9, before f 7)

pub word-opcode : (f : File) → first_word f 11 ≡ first_word f 10 + 9
unfolding first_word
word-opcode f = omega (arith, before f 10, before f 9)

pub word-capture : (f : File) → first_word f 12 ≡ first_word f 11 + 8 + strings_count f.opcodes.strings
unfolding first_word
word-capture f = omega (arith, before f 11, before f 10, attribute-length (codes "INSTRUCTION_OPCODE") f.opcodes)

pub word-idcode : (f : File) → first_word f 13 ≡ first_word f 12 + 8 + strings_count f.capture.strings
unfolding first_word
word-idcode f = omega (arith, before f 12, before f 11, attribute-length (codes "INSTRUCTION_CAPTURE") f.capture)

pub word-access : (f : File) → first_word f 14 ≡ first_word f 13 + code_count f.idcode + code_count f.usercode
unfolding first_word
word-access f = omega (arith, before f 13, before f 12, idcode-length f)

pub word-boundary_length : (f : File) → first_word f 15 ≡ first_word f 14 + 8 + strings_count f.access.strings
unfolding first_word
word-boundary_length f = omega (arith, before f 14, before f 13, attribute-length (codes "REGISTER_ACCESS") f.access)

pub word-boundary : (f : File) → first_word f 16 ≡ first_word f 15 + 9
unfolding first_word
word-boundary f = omega (arith, before f 15, before f 14)

pub word-all : (f : File) → first_word f 16 + 8 ≤ all_words f
unfolding first_word all_words
word-all f = omega (arith, before f 15, joined-length (sections f), attribute-length (codes "BOUNDARY_REGISTER") f.boundary)

pub fits-boundary_length : (f : File) → first_word f 15 ≤ all_words f
fits-boundary_length f = omega (arith, word-boundary f, word-all f)

pub fits-access : (f : File) → first_word f 14 ≤ all_words f
fits-access f = omega (arith, word-boundary_length f, fits-boundary_length f)

pub fits-idcode : (f : File) → first_word f 13 ≤ all_words f
fits-idcode f = omega (arith, word-access f, fits-access f)

pub fits-capture : (f : File) → first_word f 12 ≤ all_words f
fits-capture f = omega (arith, word-idcode f, fits-idcode f)

pub fits-opcode : (f : File) → first_word f 11 ≤ all_words f
fits-opcode f = omega (arith, word-capture f, fits-capture f)

pub fits-length : (f : File) → first_word f 10 ≤ all_words f
fits-length f = omega (arith, word-opcode f, fits-opcode f)

pub fits-tap : (f : File) → first_word f 8 ≤ all_words f
fits-tap f = omega (arith, word-length f, fits-length f)

pub fits-pin_map : (f : File) → first_word f 7 ≤ all_words f
fits-pin_map f = omega (arith, word-tap f, fits-tap f)

pub ruleset section_words = (word-pin_map, word-tap, word-length, word-opcode, word-capture, word-idcode, word-access, word-boundary_length, word-boundary, word-all, fits-boundary_length, fits-access, fits-idcode, fits-capture, fits-opcode, fits-length, fits-tap, fits-pin_map, names-length)

-- The first strings of sections.

pub fits-pin_map_string : (f : File) → first_word f 7 + 5 ≤ all_words f
fits-pin_map_string f = omega (arith, word-tap f, fits-tap f)

pub fits-opcode_string : (f : File) → first_word f 11 + 7 ≤ all_words f
fits-opcode_string f = omega (arith, word-capture f, fits-capture f)

pub fits-capture_string : (f : File) → first_word f 12 + 7 ≤ all_words f
fits-capture_string f = omega (arith, word-idcode f, word-access f, fits-access f)

pub fits-idcode_string : (f : File) → first_word f 13 + 7 ≤ all_words f
fits-idcode_string f = omega (arith, word-access f, word-boundary_length f, fits-boundary_length f)

pub fits-usercode_string : (f : File) → first_word f 13 + length (code_words f) + 7 ≤ all_words f
fits-usercode_string f = omega (arith, code-length f, word-access f, word-boundary_length f, fits-boundary_length f)

pub fits-access_string : (f : File) → first_word f 14 + 7 ≤ all_words f
fits-access_string f = omega (arith, word-boundary_length f, fits-boundary_length f)

pub fits-rows_string : (f : File) → first_word f 16 + 7 ≤ all_words f
fits-rows_string f = omega (arith, word-all f)

pub ruleset string_words = (fits-pin_map_string, fits-opcode_string, fits-capture_string, fits-idcode_string, fits-usercode_string, fits-access_string, fits-rows_string)

-- the words of a declaration, by its type
pub declaration_words_count : (d : PortDeclaration) → length (declaration_words d) ≡ strings_count d.names + 2 + option_map_or (λ (r : WrittenRange). 6) d.range 1
declaration_words_count d = length-append (names_words d.names) (Mark Colon ∷ KeyWord (mode_word d.mode) ∷ type_words d.range) ∙ ap (λ n. n + length (Mark Colon ∷ KeyWord (mode_word d.mode) ∷ type_words d.range)) (names-length d.names) ∙ by d.range
  where
    by : (range : Option WrittenRange) → strings_count d.names + length (Mark Colon ∷ KeyWord (mode_word d.mode) ∷ type_words range) ≡ strings_count d.names + 2 + option_map_or (λ (r : WrittenRange). 6) range 1
    by None = omega arith
    by (Some r) = omega arith

pub one_declaration_more : (d : PortDeclaration) (ds : List PortDeclaration) → length (after_semicolons (d ∷ ds)) ≡ 1 + length (declaration_words d) + length (after_semicolons ds)
one_declaration_more d ds = omega (arith, length-append (declaration_words d) (after_semicolons ds))

-- what has no section stands at the first word
pub word_none : (f : File) → first_word f 0 ≡ 0
unfolding first_word
word_none f = refl
