-- How a file is read from its words, section by section.
-- IEEE Std 1149.1-2001: the annex on BSDL.
use Rattle.std.specs.Prelude.{ℕ, List, [], ◌∷◌, map, Option, Some, None, if◌then◌else◌, option_and_then, codes}
use Rattle.std.specs.Str.{bytes_eq}
use Rattle.bsdl_lexicon.specs.declared.token.BsdlToken.{BsdlToken}
use Rattle.bsdl_lexicon.specs.declared.symbol.BsdlSymbol.TheVariants.{LeftParenthesis, RightParenthesis, Colon, Semicolon, Comma, Ampersand, Dot}
use Rattle.bsdl_lexicon.specs.Words.{name_in, key_in, integer_in, real_in, quoted_in, symbol_in, becomes_in}
use Rattle.bsdl_device.specs.declared.values.PortMode.{PortMode}
use Rattle.bsdl_device.specs.declared.values.PortMode.TheVariants as mode
use Rattle.bsdl_device.specs.declared.values.Stop.{Stop}
use Rattle.bsdl_device.specs.declared.values.Stop.TheVariants as stop
use Rattle.bsdl_device.specs.declared.written.Direction.{Direction}
use Rattle.bsdl_device.specs.declared.written.Direction.TheVariants as direction
use Rattle.bsdl_device.specs.declared.written.WrittenRange.{WrittenRange}
use Rattle.bsdl_device.specs.declared.written.PortDeclaration.{PortDeclaration}
use Rattle.bsdl_device.specs.declared.written.IntegerAttribute.{IntegerAttribute}
use Rattle.bsdl_device.specs.declared.written.StringAttribute.{StringAttribute}
use Rattle.bsdl_device.specs.declared.written.File.{File}
use Rattle.bsdl_device.specs.Shape.{is_ordered, Pattern, KeyWord, NameOf, IntegerOf, RealOf, StringOf, Mark, BecomesMark}
use Rattle.bsdl_device.specs.Readers.{Read, done, take_at, some_of, pair_at, skip_at, ended_at, made_at, either}

abbrev pub same_string : List ℕ → List ℕ → Option (Unit {0})
same_string wanted bytes = if bytes_eq bytes wanted then Some tt else None

-- something where the word is this string
abbrev pub string_in : List ℕ → BsdlToken → Option (Unit {0})
string_in wanted w = option_and_then (same_string wanted) (quoted_in w)

-- something where the word is what a pattern without a value wants
abbrev pub mark_in : Pattern → BsdlToken → Option (Unit {0})
mark_in (KeyWord wanted) w = key_in wanted w
mark_in (NameOf name) w = None
mark_in (IntegerOf value) w = None
mark_in (RealOf real) w = None
mark_in (StringOf bytes) w = string_in bytes w
mark_in (Mark wanted) w = symbol_in wanted w
mark_in BecomesMark w = becomes_in w

abbrev pub views : List Pattern → List (BsdlToken → Option (Unit {0}))
views marks = map mark_in marks

abbrev pub key : List ℕ → Pattern
key word = KeyWord word

-- Parts.

abbrev pub name_at : List BsdlToken → Read BsdlToken (List ℕ)
name_at ws = take_at name_in ws

abbrev pub integer_at : List BsdlToken → Read BsdlToken ℕ
integer_at ws = take_at integer_in ws

abbrev pub strings_at : List BsdlToken → Read BsdlToken (List (List ℕ))
strings_at ws = some_of (symbol_in Ampersand) (λ l. take_at quoted_in l) ws

abbrev pub names_at : List BsdlToken → Read BsdlToken (List (List ℕ))
names_at ws = some_of (symbol_in Comma) (λ l. take_at name_in l) ws

abbrev pub real_at : List BsdlToken → Read BsdlToken (List ℕ)
real_at ws = take_at real_in ws

-- one value where something is seen, else what comes next
abbrev pub or_next : {X : Type 0} → Option (Unit {0}) → X → Option X → Option X
or_next None x next = next
or_next (Some u) x next = Some x

abbrev pub mode_in : BsdlToken → Option PortMode
mode_in w =
    or_next (key_in (codes "in") w) mode.Input (or_next (key_in (codes "out") w) mode.Output
    (or_next (key_in (codes "inout") w) mode.Inout (or_next (key_in (codes "linkage") w) mode.Linkage None)))

abbrev pub direction_in : BsdlToken → Option Direction
direction_in w = or_next (key_in (codes "to") w) direction.To (or_next (key_in (codes "downto") w) direction.Downto None)

abbrev pub stop_in : BsdlToken → Option Stop
stop_in w = or_next (key_in (codes "LOW") w) stop.Low (or_next (key_in (codes "BOTH") w) stop.Both None)

-- `attribute kind of entity : entity is`
abbrev pub entity_at : List ℕ → List BsdlToken → Read BsdlToken (List ℕ)
entity_at kind ws =
    ended_at (skip_at (views (key (codes "attribute") ∷ key kind ∷ key (codes "of") ∷ [])) name_at)
    (views (Mark Colon ∷ key (codes "entity") ∷ key (codes "is") ∷ [])) ws

-- an attribute of an integer, and of strings
abbrev pub integer_attribute_at : List ℕ → List BsdlToken → Read BsdlToken IntegerAttribute
integer_attribute_at kind ws = made_at (λ z. record { entity = z.0; value = z.1 }) (pair_at (entity_at kind) (λ _ a. ended_at integer_at (views (Mark Semicolon ∷ [])) a)) ws

abbrev pub string_attribute_at : List ℕ → List BsdlToken → Read BsdlToken StringAttribute
string_attribute_at kind ws = made_at (λ z. record { entity = z.0; strings = z.1 }) (pair_at (entity_at kind) (λ _ a. ended_at strings_at (views (Mark Semicolon ∷ [])) a)) ws

-- a right bound that is ordered as the direction says
abbrev pub bounded : ℕ → Direction → ℕ → Option ℕ
bounded left d right = if is_ordered (record { left = left; direction = d; right = right }) then Some right else None

abbrev pub bound_in : ℕ → Direction → BsdlToken → Option ℕ
bound_in left d w = option_and_then (bounded left d) (integer_in w)

-- `left to right`
abbrev pub range_at : List BsdlToken → Read BsdlToken WrittenRange
range_at ws =
    made_at (λ z. record { left = z.0; direction = z.1.0; right = z.1.1 })
    (pair_at integer_at (λ left. pair_at (λ a. take_at direction_in a) (λ d a. take_at (bound_in left d) a))) ws

-- `bit`, or `bit_vector (left to right)`
abbrev pub type_at : List BsdlToken → Read BsdlToken (Option WrittenRange)
type_at ws = either (key_in (codes "bit")) ws (λ _ a. done None a)
    (λ a. made_at (λ r. Some r) (ended_at (skip_at (views (key (codes "bit_vector") ∷ Mark LeftParenthesis ∷ [])) range_at) (views (Mark RightParenthesis ∷ []))) a)

-- `name, name : mode type`
abbrev pub declaration_at : List BsdlToken → Read BsdlToken PortDeclaration
declaration_at ws =
    made_at (λ z. record { names = z.0; mode = z.1.0; range = z.1.1 })
    (pair_at (ended_at names_at (views (Mark Colon ∷ []))) (λ _. pair_at (λ a. take_at mode_in a) (λ _ a. type_at a))) ws

abbrev pub declarations_at : List BsdlToken → Read BsdlToken (List PortDeclaration)
declarations_at ws = some_of (symbol_in Semicolon) declaration_at ws

-- Sections.

-- what follows the kind of an attribute of strings
abbrev pub strings_behind : List BsdlToken → Read BsdlToken StringAttribute
strings_behind ws =
    made_at (λ z. record { entity = z.0; strings = z.1 })
    (pair_at (ended_at (skip_at (views (key (codes "of") ∷ [])) name_at) (views (Mark Colon ∷ key (codes "entity") ∷ key (codes "is") ∷ [])))
    (λ _ a. ended_at strings_at (views (Mark Semicolon ∷ [])) a)) ws

-- an attribute of this kind, which may be left out, and behind it what begins with its own kind
abbrev pub optional_before : {Y : Type 0} → List ℕ → (List BsdlToken → Read BsdlToken Y) → List BsdlToken → Read BsdlToken (Option StringAttribute × Y)
optional_before kind next ws = either (key_in kind) ws
    (λ _ b. made_at (λ z. (Some z.0, z.1)) (pair_at strings_behind (λ _ d. skip_at (views (key (codes "attribute") ∷ [])) next d)) b)
    (λ b. made_at (λ x. (None, x)) next b)

abbrev pub access_behind : List BsdlToken → Read BsdlToken StringAttribute
access_behind ws = skip_at (views (key (codes "REGISTER_ACCESS") ∷ [])) strings_behind ws

-- the identification register's attributes, each of which may be left out, and register access
abbrev pub registers_at : List BsdlToken → Read BsdlToken (Option StringAttribute × (Option StringAttribute × StringAttribute))
registers_at ws = skip_at (views (key (codes "attribute") ∷ []))
    (λ a. optional_before (codes "IDCODE_REGISTER") (λ b. optional_before (codes "USERCODE_REGISTER") access_behind b) a) ws

abbrev pub string_at : List BsdlToken → Read BsdlToken (List ℕ)
string_at ws = take_at quoted_in ws

abbrev pub stop_at : List BsdlToken → Read BsdlToken Stop
stop_at ws = take_at stop_in ws

abbrev pub entity_before : List Pattern
entity_before = key (codes "entity") ∷ []

abbrev pub entity_behind : List Pattern
entity_behind = key (codes "is") ∷ []

abbrev pub entity_section_at : List BsdlToken → Read BsdlToken (List ℕ)
entity_section_at ws = ended_at (skip_at (views entity_before) name_at) (views entity_behind) ws

abbrev pub generic_before : List Pattern
generic_before = key (codes "generic") ∷ Mark LeftParenthesis ∷ key (codes "PHYSICAL_PIN_MAP") ∷ Mark Colon ∷ key (codes "string") ∷ BecomesMark ∷ []

abbrev pub generic_behind : List Pattern
generic_behind = Mark RightParenthesis ∷ Mark Semicolon ∷ []

abbrev pub generic_section_at : List BsdlToken → Read BsdlToken (List ℕ)
generic_section_at ws = ended_at (skip_at (views generic_before) string_at) (views generic_behind) ws

abbrev pub ports_before : List Pattern
ports_before = key (codes "port") ∷ Mark LeftParenthesis ∷ []

abbrev pub ports_behind : List Pattern
ports_behind = Mark RightParenthesis ∷ Mark Semicolon ∷ []

abbrev pub ports_section_at : List BsdlToken → Read BsdlToken (List PortDeclaration)
ports_section_at ws = ended_at (skip_at (views ports_before) declarations_at) (views ports_behind) ws

abbrev pub conformance_before : List Pattern
conformance_before = key (codes "use") ∷ key (codes "STD_1149_1_2001") ∷ Mark Dot ∷ key (codes "all") ∷ Mark Semicolon ∷ key (codes "attribute") ∷ key (codes "COMPONENT_CONFORMANCE") ∷ key (codes "of") ∷ []

abbrev pub conformance_behind : List Pattern
conformance_behind = Mark Colon ∷ key (codes "entity") ∷ key (codes "is") ∷ StringOf (codes "STD_1149_1_2001") ∷ Mark Semicolon ∷ []

abbrev pub conformance_section_at : List BsdlToken → Read BsdlToken (List ℕ)
conformance_section_at ws = ended_at (skip_at (views conformance_before) name_at) (views conformance_behind) ws

abbrev pub pin_map_before : List Pattern
pin_map_before = key (codes "attribute") ∷ key (codes "PIN_MAP") ∷ key (codes "of") ∷ []

abbrev pub pin_map_behind : List Pattern
pin_map_behind = Mark Colon ∷ key (codes "entity") ∷ key (codes "is") ∷ key (codes "PHYSICAL_PIN_MAP") ∷ Mark Semicolon ∷ []

abbrev pub pin_map_section_at : List BsdlToken → Read BsdlToken (List ℕ)
pin_map_section_at ws = ended_at (skip_at (views pin_map_before) name_at) (views pin_map_behind) ws

abbrev pub constant_before : List Pattern
constant_before = key (codes "constant") ∷ []

abbrev pub constant_behind : List Pattern
constant_behind = Mark Colon ∷ key (codes "PIN_MAP_STRING") ∷ BecomesMark ∷ []

abbrev pub constant_section_at : List BsdlToken → Read BsdlToken (List ℕ)
constant_section_at ws = ended_at (skip_at (views constant_before) name_at) (views constant_behind) ws

abbrev pub pins_before : List Pattern
pins_before = []

abbrev pub pins_behind : List Pattern
pins_behind = Mark Semicolon ∷ []

abbrev pub pins_section_at : List BsdlToken → Read BsdlToken (List (List ℕ))
pins_section_at ws = ended_at (skip_at (views pins_before) strings_at) (views pins_behind) ws

abbrev pub scan_in_before : List Pattern
scan_in_before = key (codes "attribute") ∷ key (codes "TAP_SCAN_IN") ∷ key (codes "of") ∷ []

abbrev pub scan_in_behind : List Pattern
scan_in_behind = Mark Colon ∷ key (codes "signal") ∷ key (codes "is") ∷ key (codes "true") ∷ Mark Semicolon ∷ []

abbrev pub scan_in_section_at : List BsdlToken → Read BsdlToken (List ℕ)
scan_in_section_at ws = ended_at (skip_at (views scan_in_before) name_at) (views scan_in_behind) ws

abbrev pub scan_mode_before : List Pattern
scan_mode_before = key (codes "attribute") ∷ key (codes "TAP_SCAN_MODE") ∷ key (codes "of") ∷ []

abbrev pub scan_mode_behind : List Pattern
scan_mode_behind = Mark Colon ∷ key (codes "signal") ∷ key (codes "is") ∷ key (codes "true") ∷ Mark Semicolon ∷ []

abbrev pub scan_mode_section_at : List BsdlToken → Read BsdlToken (List ℕ)
scan_mode_section_at ws = ended_at (skip_at (views scan_mode_before) name_at) (views scan_mode_behind) ws

abbrev pub scan_out_before : List Pattern
scan_out_before = key (codes "attribute") ∷ key (codes "TAP_SCAN_OUT") ∷ key (codes "of") ∷ []

abbrev pub scan_out_behind : List Pattern
scan_out_behind = Mark Colon ∷ key (codes "signal") ∷ key (codes "is") ∷ key (codes "true") ∷ Mark Semicolon ∷ []

abbrev pub scan_out_section_at : List BsdlToken → Read BsdlToken (List ℕ)
scan_out_section_at ws = ended_at (skip_at (views scan_out_before) name_at) (views scan_out_behind) ws

abbrev pub scan_reset_before : List Pattern
scan_reset_before = key (codes "attribute") ∷ key (codes "TAP_SCAN_RESET") ∷ key (codes "of") ∷ []

abbrev pub scan_reset_behind : List Pattern
scan_reset_behind = Mark Colon ∷ key (codes "signal") ∷ key (codes "is") ∷ key (codes "true") ∷ Mark Semicolon ∷ []

abbrev pub scan_reset_section_at : List BsdlToken → Read BsdlToken (List ℕ)
scan_reset_section_at ws = ended_at (skip_at (views scan_reset_before) name_at) (views scan_reset_behind) ws

abbrev pub scan_clock_before : List Pattern
scan_clock_before = key (codes "attribute") ∷ key (codes "TAP_SCAN_CLOCK") ∷ key (codes "of") ∷ []

abbrev pub scan_clock_behind : List Pattern
scan_clock_behind = Mark Colon ∷ key (codes "signal") ∷ key (codes "is") ∷ Mark LeftParenthesis ∷ []

abbrev pub scan_clock_section_at : List BsdlToken → Read BsdlToken (List ℕ)
scan_clock_section_at ws = ended_at (skip_at (views scan_clock_before) name_at) (views scan_clock_behind) ws

abbrev pub frequency_before : List Pattern
frequency_before = []

abbrev pub frequency_behind : List Pattern
frequency_behind = Mark Comma ∷ []

abbrev pub frequency_section_at : List BsdlToken → Read BsdlToken (List ℕ)
frequency_section_at ws = ended_at (skip_at (views frequency_before) real_at) (views frequency_behind) ws

abbrev pub stop_before : List Pattern
stop_before = []

abbrev pub stop_behind : List Pattern
stop_behind = Mark RightParenthesis ∷ Mark Semicolon ∷ []

abbrev pub stop_section_at : List BsdlToken → Read BsdlToken Stop
stop_section_at ws = ended_at (skip_at (views stop_before) stop_at) (views stop_behind) ws

abbrev pub end_before : List Pattern
end_before = key (codes "end") ∷ []

abbrev pub end_behind : List Pattern
end_behind = Mark Semicolon ∷ []

abbrev pub end_section_at : List BsdlToken → Read BsdlToken (List ℕ)
end_section_at ws = ended_at (skip_at (views end_before) name_at) (views end_behind) ws

-- a file's parts in their order
abbrev pub FileParts : Type 0
FileParts = ((List ℕ) × ((List ℕ) × ((List PortDeclaration) × ((List ℕ) × ((List ℕ) × ((List ℕ) × ((List (List ℕ)) × ((List ℕ) × ((List ℕ) × ((List ℕ) × ((List ℕ) × ((List ℕ) × ((List ℕ) × (Stop × (IntegerAttribute × (StringAttribute × (StringAttribute × ((Option StringAttribute × (Option StringAttribute × StringAttribute)) × (IntegerAttribute × (StringAttribute × (List ℕ)))))))))))))))))))))

abbrev pub file_of : FileParts → File
file_of z = record {
  entity = z.0;
  default_package = z.1.0;
  declarations = z.1.1.0;
  conformance_entity = z.1.1.1.0;
  pin_map_entity = z.1.1.1.1.0;
  «package» = z.1.1.1.1.1.0;
  pin_map = z.1.1.1.1.1.1.0;
  tap = record { tdi = z.1.1.1.1.1.1.1.0; tms = z.1.1.1.1.1.1.1.1.0; tdo = z.1.1.1.1.1.1.1.1.1.0; trst = z.1.1.1.1.1.1.1.1.1.1.0; tck = z.1.1.1.1.1.1.1.1.1.1.1.0 };
  clock = z.1.1.1.1.1.1.1.1.1.1.1.1.0;
  stop = z.1.1.1.1.1.1.1.1.1.1.1.1.1.0;
  length = z.1.1.1.1.1.1.1.1.1.1.1.1.1.1.0;
  opcodes = z.1.1.1.1.1.1.1.1.1.1.1.1.1.1.1.0;
  capture = z.1.1.1.1.1.1.1.1.1.1.1.1.1.1.1.1.0;
  idcode = z.1.1.1.1.1.1.1.1.1.1.1.1.1.1.1.1.1.0.0;
  usercode = z.1.1.1.1.1.1.1.1.1.1.1.1.1.1.1.1.1.0.1.0;
  access = z.1.1.1.1.1.1.1.1.1.1.1.1.1.1.1.1.1.0.1.1;
  boundary_length = z.1.1.1.1.1.1.1.1.1.1.1.1.1.1.1.1.1.1.0;
  boundary = z.1.1.1.1.1.1.1.1.1.1.1.1.1.1.1.1.1.1.1.0;
  end = z.1.1.1.1.1.1.1.1.1.1.1.1.1.1.1.1.1.1.1.1;
}

-- a whole file, and perhaps more
abbrev pub sections_at : List BsdlToken → Read BsdlToken File
sections_at ws = made_at file_of (pair_at (entity_section_at) (λ _ a. (pair_at (generic_section_at) (λ _ a. (pair_at (ports_section_at) (λ _ a. (pair_at (conformance_section_at) (λ _ a. (pair_at (pin_map_section_at) (λ _ a. (pair_at (constant_section_at) (λ _ a. (pair_at (pins_section_at) (λ _ a. (pair_at (scan_in_section_at) (λ _ a. (pair_at (scan_mode_section_at) (λ _ a. (pair_at (scan_out_section_at) (λ _ a. (pair_at (scan_reset_section_at) (λ _ a. (pair_at (scan_clock_section_at) (λ _ a. (pair_at (frequency_section_at) (λ _ a. (pair_at (stop_section_at) (λ _ a. (pair_at (integer_attribute_at (codes "INSTRUCTION_LENGTH")) (λ _ a. (pair_at (string_attribute_at (codes "INSTRUCTION_OPCODE")) (λ _ a. (pair_at (string_attribute_at (codes "INSTRUCTION_CAPTURE")) (λ _ a. (pair_at (registers_at) (λ _ a. (pair_at (integer_attribute_at (codes "BOUNDARY_LENGTH")) (λ _ a. (pair_at (string_attribute_at (codes "BOUNDARY_REGISTER")) (λ _ a. end_section_at a)) a)) a)) a)) a)) a)) a)) a)) a)) a)) a)) a)) a)) a)) a)) a)) a)) a)) a)) a)) ws
