-- How entries are read from the words of a section's strings.
-- IEEE Std 1149.1-2001: the annex on BSDL.
use Rattle.std.specs.Prelude.{ℕ, ◌==◌, Bool, true, false, List, [], ◌∷◌, map, Option, Some, None, if◌then◌else◌, option_and_then, codes, Result, Ok, Err}
use Rattle.std.specs.Option.{option_map}
use Rattle.cell_library.specs.declared.codes.Bits.{Bits}
use Rattle.cell_library.specs.declared.codes.BoundaryKind.{BoundaryKind}
use Rattle.cell_library.specs.declared.codes.BoundaryKind.TheVariants as cell
use Rattle.cell_library.specs.declared.codes.Function.{Function}
use Rattle.cell_library.specs.declared.codes.Function.TheVariants as function
use Rattle.bsdl_device.specs.declared.values.Safe.{Safe}
use Rattle.bsdl_device.specs.declared.values.Safe.TheVariants as safe
use Rattle.bsdl_device.specs.declared.values.Disable.{Disable}
use Rattle.bsdl_device.specs.declared.entries.MappedPins.{MappedPins}
use Rattle.bsdl_device.specs.declared.entries.MappedPins.TheVariants as pins
use Rattle.bsdl_device.specs.declared.entries.PinEntry.{PinEntry}
use Rattle.bsdl_device.specs.declared.entries.OpcodeEntry.{OpcodeEntry}
use Rattle.bsdl_device.specs.declared.entries.Register.{Register}
use Rattle.bsdl_device.specs.declared.entries.Register.TheVariants as register
use Rattle.bsdl_device.specs.declared.entries.AccessEntry.{AccessEntry}
use Rattle.bsdl_device.specs.declared.entries.PortBit.{PortBit}
use Rattle.bsdl_device.specs.declared.entries.RowEntry.{RowEntry}
use Rattle.bsdl_device.specs.declared.entries.Contents.{Contents}
use Rattle.bsdl_device.specs.declared.written.StringAttribute.{StringAttribute}
use Rattle.bsdl_device.specs.declared.written.File.{File}
use Rattle.bsdl_device.specs.Faults as faults
use Rattle.bsdl_device.specs.Shape.{joined}
use Rattle.bsdl_device.specs.Runs as runs
use Rattle.bsdl_device.specs.Runs.{ContentWord, ContentPattern, KeyRun, IdentifierRun, NameRun, PinRun, IntegerRun, BitsRun, MarkByte, identifier_in, name_in, pin_in, integer_in, pattern_in, left_parenthesis, right_parenthesis, comma, colon}
use Rattle.bsdl_device.specs.Grammar.{cell_word, function_word, safe_word, bit_word, register_word}
use Rattle.bsdl_device.specs.Readers.{Read, after, done, take_at, some_of, pair_at, ended_at, made_at, either, end_at}
use Rattle.bsdl_device.specs.Files.{or_next}

-- Words.

-- something where the word is what a pattern without a value wants
abbrev pub seen_as : ContentPattern → ContentWord → Option (Unit {0})
seen_as (KeyRun wanted) w = runs.key_in wanted w
seen_as (IdentifierRun name) w = None
seen_as (NameRun name) w = None
seen_as (PinRun pin) w = None
seen_as (IntegerRun value) w = None
seen_as (BitsRun bits) w = None
seen_as (MarkByte wanted) w = runs.mark_in wanted w

abbrev pub views : List ContentPattern → List (ContentWord → Option (Unit {0}))
views marks = map seen_as marks

-- the first of some values whose word this is
abbrev pub among : {X : Type 0} → (X → List ℕ) → List X → ContentWord → Option X
among word [] w = None
among word (x ∷ xs) w = or_next (runs.key_in (word x) w) x (among word xs w)

abbrev pub cell_in : ContentWord → Option BoundaryKind
cell_in w = among cell_word (cell.Bc1 ∷ cell.Bc2 ∷ cell.Bc4 ∷ cell.Bc7 ∷ []) w

abbrev pub function_in : ContentWord → Option Function
function_in w = among function_word (function.Input ∷ function.Output2 ∷ function.Output3 ∷ function.Control ∷ function.Bidir ∷ function.Clock ∷ []) w

abbrev pub safe_in : ContentWord → Option Safe
safe_in w = among safe_word (safe.Zero ∷ safe.One ∷ safe.Any ∷ []) w

abbrev pub bit_in : ContentWord → Option Bool
bit_in w = among bit_word (false ∷ true ∷ []) w

abbrev pub register_in : ContentWord → Option Register
register_in w = among register_word (register.Boundary ∷ register.Bypass ∷ register.DeviceId ∷ []) w

abbrev pub code_of : Bits → Option ℕ
code_of bits = if bits.len == 32 then Some bits.value else None

-- a run of 32 bits
abbrev pub code_in : ContentWord → Option ℕ
code_in w = option_and_then code_of (pattern_in w)

-- Parts.

-- What follows a mark where it stands there, else another part; each as something is made of it.
abbrev pub choice_at : {X Y Z : Type 0} → ContentPattern → (X → Y) → (List ContentWord → Read ContentWord X) → (Z → Y) → (List ContentWord → Read ContentWord Z) → List ContentWord → Read ContentWord Y
choice_at mark make one make_other other ws = either (seen_as mark) ws (λ _ a. made_at make one a) (λ a. made_at make_other other a)

-- no words
abbrev pub nothing_at : List ContentWord → Read ContentWord (Unit {0})
nothing_at ws = done tt ws

abbrev pub nothing : {X : Type 0} → Unit {0} → Option X
nothing u = None

abbrev pub something : {X : Type 0} → X → Option X
something x = Some x

-- parts with commas between them
abbrev pub list_at : {X : Type 0} → (List ContentWord → Read ContentWord X) → List ContentWord → Read ContentWord (List X)
list_at one ws = some_of (runs.mark_in 44) one ws

abbrev pub pin_at : List ContentWord → Read ContentWord (List ℕ)
pin_at ws = take_at pin_in ws

abbrev pub identifier_at : List ContentWord → Read ContentWord (List ℕ)
identifier_at ws = take_at identifier_in ws

abbrev pub name_at : List ContentWord → Read ContentWord (List ℕ)
name_at ws = take_at name_in ws

abbrev pub integer_at : List ContentWord → Read ContentWord ℕ
integer_at ws = take_at integer_in ws

abbrev pub bits_at : List ContentWord → Read ContentWord Bits
bits_at ws = take_at pattern_in ws

-- `pin,pin)`
unfoldable pub several_at : List ContentWord → Read ContentWord (List (List ℕ))
several_at ws = ended_at (list_at pin_at) (views (right_parenthesis ∷ [])) ws

abbrev pub several : List (List ℕ) → MappedPins
several list = pins.Several list

abbrev pub one_pin : List ℕ → MappedPins
one_pin pin = pins.One pin

-- `pin` or `(pin,pin)`
unfoldable pub pins_at : List ContentWord → Read ContentWord MappedPins
pins_at ws = choice_at left_parenthesis several several_at one_pin pin_at ws

abbrev pub pin_entry_of : (List ℕ) × MappedPins → PinEntry
pin_entry_of z = record { port = z.0; pins = z.1 }

-- `port:pins`
unfoldable pub pin_entry_at : List ContentWord → Read ContentWord PinEntry
pin_entry_at ws = made_at pin_entry_of (pair_at (ended_at name_at (views (colon ∷ []))) (λ _ a. pins_at a)) ws

abbrev pub opcode_of : (List ℕ) × Bits → OpcodeEntry
opcode_of z = record { name = z.0; bits = z.1 }

-- `INSTRUCTION (bits)`
unfoldable pub opcode_at : List ContentWord → Read ContentWord OpcodeEntry
opcode_at ws = made_at opcode_of (pair_at (ended_at identifier_at (views (left_parenthesis ∷ []))) (λ _ a. ended_at bits_at (views (right_parenthesis ∷ [])) a)) ws

abbrev pub access_of : Register × List (List ℕ) → AccessEntry
access_of z = record { register = z.0; instructions = z.1 }

-- `REGISTER (INSTRUCTION, INSTRUCTION)`
unfoldable pub access_at : List ContentWord → Read ContentWord AccessEntry
access_at ws = made_at access_of (pair_at (ended_at (λ a. take_at register_in a) (views (left_parenthesis ∷ []))) (λ _ a. ended_at (list_at identifier_at) (views (right_parenthesis ∷ [])) a)) ws

-- Rows.

-- `index)`
unfoldable pub index_at : List ContentWord → Read ContentWord ℕ
index_at ws = ended_at integer_at (views (right_parenthesis ∷ [])) ws

-- `(index)` or nothing
unfoldable pub optional_index_at : List ContentWord → Read ContentWord (Option ℕ)
optional_index_at ws = choice_at left_parenthesis something index_at nothing nothing_at ws

abbrev pub port_bit_of : (List ℕ) × Option ℕ → PortBit
port_bit_of z = record { port = z.0; index = z.1 }

-- `port` or `port(index)`
unfoldable pub port_bit_at : List ContentWord → Read ContentWord PortBit
port_bit_at ws = made_at port_bit_of (pair_at name_at (λ _ a. optional_index_at a)) ws

-- `*`, `port` or `port(index)`
unfoldable pub row_port_at : List ContentWord → Read ContentWord (Option PortBit)
row_port_at ws = choice_at runs.star nothing nothing_at something port_bit_at ws

abbrev pub disable_of : ℕ × Bool → Disable
disable_of z = record { control = z.0; value = z.1 }

-- `control, value, Z`
unfoldable pub disable_at : List ContentWord → Read ContentWord Disable
disable_at ws = made_at disable_of (pair_at (ended_at integer_at (views (comma ∷ []))) (λ _ a. ended_at (λ b. take_at bit_in b) (views (comma ∷ KeyRun (codes "Z") ∷ [])) a)) ws

-- `, control, value, Z` or nothing
unfoldable pub optional_disable_at : List ContentWord → Read ContentWord (Option Disable)
optional_disable_at ws = choice_at comma something disable_at nothing nothing_at ws

-- `number (cell,`
unfoldable pub row_head_at : List ContentWord → Read ContentWord (ℕ × BoundaryKind)
row_head_at ws = pair_at (ended_at integer_at (views (left_parenthesis ∷ []))) (λ _ a. ended_at (λ b. take_at cell_in b) (views (comma ∷ [])) a) ws

-- `port, function,`
unfoldable pub row_role_at : List ContentWord → Read ContentWord (Option PortBit × Function)
row_role_at ws = pair_at (ended_at row_port_at (views (comma ∷ []))) (λ _ a. ended_at (λ b. take_at function_in b) (views (comma ∷ [])) a) ws

-- `safe)`, or with the three fields of a disable value
unfoldable pub row_values_at : List ContentWord → Read ContentWord (Safe × Option Disable)
row_values_at ws = pair_at (λ a. take_at safe_in a) (λ _ a. ended_at optional_disable_at (views (right_parenthesis ∷ [])) a) ws

abbrev pub row_of : (ℕ × BoundaryKind) × ((Option PortBit × Function) × (Safe × Option Disable)) → RowEntry
row_of z = record { number = z.0.0; cell = z.0.1; port = z.1.0.0; function = z.1.0.1; safe = z.1.1.0; disable = z.1.1.1 }

unfoldable pub row_at : List ContentWord → Read ContentWord RowEntry
row_at ws = made_at row_of (pair_at row_head_at (λ _. pair_at row_role_at (λ _ a. row_values_at a))) ws

-- Sections.

-- a part, and no words behind it
abbrev pub whole_at : {X : Type 0} → (List ContentWord → Read ContentWord X) → List ContentWord → Read ContentWord X
whole_at one ws = after (one ws) (λ x a. after (end_at a) (λ _ b. done x b))

abbrev pub pin_map_at : List ContentWord → Read ContentWord (List PinEntry)
pin_map_at ws = list_at pin_entry_at ws

abbrev pub opcodes_at : List ContentWord → Read ContentWord (List OpcodeEntry)
opcodes_at ws = list_at opcode_at ws

abbrev pub code_at : List ContentWord → Read ContentWord ℕ
code_at ws = take_at code_in ws

abbrev pub accesses_at : List ContentWord → Read ContentWord (List AccessEntry)
accesses_at ws = list_at access_at ws

abbrev pub rows_at : List ContentWord → Read ContentWord (List RowEntry)
rows_at ws = list_at row_at ws

-- what the strings of a section hold, if they hold what they may
unfoldable pub section_at : {X : Type 0} → (List ContentWord → Read ContentWord X) → List (List ℕ) → Option X
section_at one strings = (whole_at one (runs.content_words (joined strings))).0

-- the same of an attribute that may be left out
abbrev pub optional_code_at : Option StringAttribute → Option (Option ℕ)
optional_code_at None = Some None
optional_code_at (Some a) = option_map something (section_at code_at a.strings)

-- The contents that sections hold, or the first that holds none.
abbrev pub contents_from : Option (List PinEntry) → Option (List OpcodeEntry) → Option Bits → Option (Option ℕ) → Option (Option ℕ) → Option (List AccessEntry) → Option (List RowEntry) → Result Contents faults.StringSection
contents_from None o k i u a r = Err faults.PinMap
contents_from (Some p) None k i u a r = Err faults.Opcodes
contents_from (Some p) (Some o) None i u a r = Err faults.Capture
contents_from (Some p) (Some o) (Some k) None u a r = Err faults.Idcode
contents_from (Some p) (Some o) (Some k) (Some i) None a r = Err faults.Usercode
contents_from (Some p) (Some o) (Some k) (Some i) (Some u) None r = Err faults.Access
contents_from (Some p) (Some o) (Some k) (Some i) (Some u) (Some a) None = Err faults.Rows
contents_from (Some p) (Some o) (Some k) (Some i) (Some u) (Some a) (Some r) = Ok (record { pin_map = p; opcodes = o; capture = k; idcode = i; usercode = u; access = a; rows = r })

abbrev pub contents_at : File → Result Contents faults.StringSection
contents_at f =
    contents_from (section_at pin_map_at f.pin_map) (section_at opcodes_at f.opcodes.strings) (section_at bits_at f.capture.strings)
    (optional_code_at f.idcode) (optional_code_at f.usercode) (section_at accesses_at f.access.strings) (section_at rows_at f.boundary.strings)
