-- The atoms of entries.
use Rattle.std.proofs.Common.{ℕ, List, [], ◌∷◌, ◌++◌, Option, Some, None}
use Rattle.std.specs.Prelude.{codes}
use Rattle.bsdl_device.specs.declared.values.Disable.{Disable}
use Rattle.bsdl_device.specs.declared.entries.MappedPins.{MappedPins}
use Rattle.bsdl_device.specs.declared.entries.MappedPins.TheVariants as pins
use Rattle.bsdl_device.specs.declared.entries.PinEntry.{PinEntry}
use Rattle.bsdl_device.specs.declared.entries.OpcodeEntry.{OpcodeEntry}
use Rattle.bsdl_device.specs.declared.entries.AccessEntry.{AccessEntry}
use Rattle.bsdl_device.specs.declared.entries.PortBit.{PortBit}
use Rattle.bsdl_device.specs.declared.entries.RowEntry.{RowEntry}
use Rattle.bsdl_device.specs.Grammar.{cell_word, function_word, safe_word, bit_word, register_word}
use Rattle.bsdl_device.proofs.ContentAtoms.{ContentAtom, Space, Key, Identifier, Name, Pin, Integer, Pattern, Mark, bytes_of, between_commas}

-- Rows.

abbrev pub index_atoms : Option ℕ → List ContentAtom
index_atoms None = []
index_atoms (Some index) = Mark 40 ∷ Integer index ∷ Mark 41 ∷ []

abbrev pub port_atoms : Option PortBit → List ContentAtom
port_atoms None = Mark 42 ∷ []
port_atoms (Some b) = Name b.port ∷ index_atoms b.index

abbrev pub disable_atoms : Option Disable → List ContentAtom
disable_atoms None = []
disable_atoms (Some d) = Mark 44 ∷ Space ∷ Integer d.control ∷ Mark 44 ∷ Space ∷ Key (bit_word d.value) ∷ Mark 44 ∷ Space ∷ Key (codes "Z") ∷ []

abbrev pub row_atoms : RowEntry → List ContentAtom
row_atoms r =
    Integer r.number ∷ Space ∷ Mark 40 ∷ Key (cell_word r.cell) ∷ Mark 44 ∷ Space ∷ (port_atoms r.port
    ++ (Mark 44 ∷ Space ∷ Key (function_word r.function) ∷ Mark 44 ∷ Space ∷ Key (safe_word r.safe) ∷ (disable_atoms r.disable ++ (Mark 41 ∷ []))))

-- The pin map.

abbrev pub pin_atoms : List ℕ → List ContentAtom
pin_atoms pin = Pin pin ∷ []

abbrev pub pins_atoms : MappedPins → List ContentAtom
pins_atoms (pins.One pin) = Pin pin ∷ []
pins_atoms (pins.Several list) = Mark 40 ∷ (between_commas pin_atoms list ++ (Mark 41 ∷ []))

abbrev pub pin_entry_atoms : PinEntry → List ContentAtom
pin_entry_atoms e = Name e.port ∷ Mark 58 ∷ pins_atoms e.pins

-- Instructions.

abbrev pub opcode_atoms : OpcodeEntry → List ContentAtom
opcode_atoms o = Identifier o.name ∷ Space ∷ Mark 40 ∷ Pattern o.bits ∷ Mark 41 ∷ []

abbrev pub more_names : List (List ℕ) → List ContentAtom
more_names [] = []
more_names (name ∷ names) = Mark 44 ∷ Space ∷ Identifier name ∷ more_names names

abbrev pub names_atoms : List (List ℕ) → List ContentAtom
names_atoms [] = []
names_atoms (name ∷ names) = Identifier name ∷ more_names names

abbrev pub access_atoms : AccessEntry → List ContentAtom
access_atoms a = Key (register_word a.register) ∷ Space ∷ Mark 40 ∷ (names_atoms a.instructions ++ (Mark 41 ∷ []))

-- Strings.

abbrev pub pin_entry_bytes : PinEntry → List ℕ
pin_entry_bytes e = bytes_of (pin_entry_atoms e)

abbrev pub opcode_bytes : OpcodeEntry → List ℕ
opcode_bytes o = bytes_of (opcode_atoms o)

abbrev pub access_bytes : AccessEntry → List ℕ
access_bytes a = bytes_of (access_atoms a)

abbrev pub row_bytes : RowEntry → List ℕ
row_bytes r = bytes_of (row_atoms r)

-- the texts, with a comma behind all but the last
abbrev pub comma_strings : {A : Type 0} → (A → List ℕ) → List A → List (List ℕ)
comma_strings text [] = []
comma_strings text (x ∷ []) = text x ∷ []
comma_strings text (x ∷ y ∷ xs) = (text x ++ codes ",") ∷ comma_strings text (y ∷ xs)
