-- The commands, with the names of their files, and the words that they are, without the program's own name. Own.
use Rattle.std.specs.Prelude.{◌≡◌, ◌≤◌, ℕ, ◌==◌, List, [], ◌∷◌, length, Bool, false, IsTrue, Option, codes}
use Rattle.std.specs.Bool.{IsFalse}
use Rattle.std.specs.List.{list_all, list_any}
use Rattle.bsdl_lexicon.specs.Bytes.{is_digit}
use Rattle.bsdl_device.specs.Runs.{value_after}
use Rattle.command_edges.specs.Libraries.{names_if}
use Rattle.text_command.specs.declared.convert.conversion.Conversion.{Conversion}
use Rattle.text_command.specs.declared.convert.conversion.Conversion.TheVariants as conversion

-- a command with the names of its files
pub data Form : Type 0 where
  Converts : (c : Conversion) (input output : List ℕ) → Form
  ShowsStatus : (input output : List ℕ) → Form
  Flattens : (input top output : List ℕ) (library : Option (List ℕ)) → Form
  Simulates : (netlist events : List ℕ) (library : Option (List ℕ)) → Form
  Inserts : (netlist plan outnet outbsdl : List ℕ) (library : Option (List ℕ)) → Form
  InsertsStatus : (netlist plan registers outnet outbsdl : List ℕ) (library : Option (List ℕ)) → Form
  Strips : (netlist bsdl outnet outplan : List ℕ) (library : Option (List ℕ)) → Form
  MakesVectors : (bsdl output : List ℕ) → Form
  Checks : (netlist bsdl events : List ℕ) (library : Option (List ℕ)) → Form
  Demonstrates : (number : ℕ) (outnet outbsdl : List ℕ) → Form

-- the word of a conversion's command
abbrev pub conversion_word : Conversion → List ℕ
conversion_word conversion.Canon = codes "canon"
conversion_word conversion.ShowBsdl = codes "showbsdl"

-- 1 to 4 digits, and their value
pub record IsNumeral (digits : List ℕ) (number : ℕ) : Type 0 where
  pub some : 1 ≤ length digits
  pub few : length digits ≤ 4
  pub are_digits : IsTrue (list_all is_digit digits)
  pub value : number ≡ value_after 10 0 digits

-- `canon IN OUT`, `showbsdl IN OUT`, `statusbsdl IN OUT`, `sim NET EVENTS`, `insert NET PLAN OUTNET OUTBSDL`,
-- `status NET PLAN REGS OUTNET OUTBSDL`, `strip NET BSDL OUTNET OUTPLAN`, `vectors BSDL OUT`, `check NET BSDL EVENTS`,
-- `flatten IN TOP OUT`, where TOP is a module's name and no file, and `demo NUMBER OUTNET OUTBSDL`; behind those of
-- `flatten`, `sim`, `insert`, `status`, `strip` and `check` the word LIB may stand
abbrev pub HasWords : List (List ℕ) → Form → Type 0
HasWords words (Form.Converts c input output) = words ≡ conversion_word c ∷ input ∷ output ∷ []
HasWords words (Form.ShowsStatus input output) = words ≡ codes "statusbsdl" ∷ input ∷ output ∷ []
HasWords words (Form.Flattens input top output library) = words ≡ codes "flatten" ∷ input ∷ top ∷ output ∷ names_if library
HasWords words (Form.Simulates netlist events library) = words ≡ codes "sim" ∷ netlist ∷ events ∷ names_if library
HasWords words (Form.Inserts netlist plan outnet outbsdl library) = words ≡ codes "insert" ∷ netlist ∷ plan ∷ outnet ∷ outbsdl ∷ names_if library
HasWords words (Form.InsertsStatus netlist plan registers outnet outbsdl library) =
    words ≡ codes "status" ∷ netlist ∷ plan ∷ registers ∷ outnet ∷ outbsdl ∷ names_if library
HasWords words (Form.Strips netlist bsdl outnet outplan library) = words ≡ codes "strip" ∷ netlist ∷ bsdl ∷ outnet ∷ outplan ∷ names_if library
HasWords words (Form.MakesVectors bsdl output) = words ≡ codes "vectors" ∷ bsdl ∷ output ∷ []
HasWords words (Form.Checks netlist bsdl events library) = words ≡ codes "check" ∷ netlist ∷ bsdl ∷ events ∷ names_if library
HasWords words (Form.Demonstrates number outnet outbsdl) = (digits : List ℕ) × (IsNumeral digits number × (words ≡ codes "demo" ∷ digits ∷ outnet ∷ outbsdl ∷ []))

-- a word that begins with `-`
abbrev pub begins_with_dash : List ℕ → Bool
begins_with_dash [] = false
begins_with_dash (b ∷ bytes) = b == 45

-- the words are this command; no word begins with `-`
pub record HasForm (words : List (List ℕ)) (form : Form) : Type 0 where
  pub words_are : HasWords words form
  pub plain_words : IsFalse (list_any begins_with_dash words)

-- the words are no command
abbrev pub IsNoCommand : List (List ℕ) → Type 0
IsNoCommand words = (form : Form) → HasForm words form → ⊥
