-- What is known of a file whose words a text has, and of its contents.
use Rattle.std.proofs.Common.{◌≡◌, ℕ, ◌^◌, ◌<◌, List, [], ◌∷◌, ◌++◌, Bool, true, false, cond, Option, Some, None, map, find, refl, sym, subst, lit<}
use Rattle.std.specs.Prelude.{◌&&◌}
use Rattle.std.specs.List.{list_all, flat_map, filter_map, cons_option, AllByRecursion}
use Rattle.std.specs.Option.{option_map, option_map_or}
use Rattle.list_laws.proofs.Lists.{all_append, all_front, all_back}
use Rattle.cell_library.specs.declared.codes.Instr.{Instr}
use Rattle.cell_library.specs.declared.codes.Opcode.{Opcode}
use Rattle.bsdl_lexicon.specs.declared.token.BsdlSpanned.{BsdlSpanned}
use Rattle.bsdl_lexicon.specs.declared.symbol.BsdlSymbol.TheVariants.{Comma, Semicolon, RightParenthesis}
use Rattle.bsdl_lexicon.specs.Words.{plain}
use Rattle.bsdl_lexicon.specs.Pieces.{words_of, IsReal}
use Rattle.bsdl_device.specs.declared.values.Disable.{Disable}
use Rattle.bsdl_device.specs.declared.written.WrittenRange.{WrittenRange}
use Rattle.bsdl_device.specs.declared.written.PortDeclaration.{PortDeclaration}
use Rattle.bsdl_device.specs.declared.written.DeclaredPort.{DeclaredPort}
use Rattle.bsdl_device.specs.declared.written.StringAttribute.{StringAttribute}
use Rattle.bsdl_device.specs.declared.written.File.{File}
use Rattle.bsdl_device.specs.declared.entries.MappedPins.{MappedPins}
use Rattle.bsdl_device.specs.declared.entries.MappedPins.TheVariants as pins
use Rattle.bsdl_device.specs.declared.entries.PinEntry.{PinEntry}
use Rattle.bsdl_device.specs.declared.entries.OpcodeEntry.{OpcodeEntry}
use Rattle.bsdl_device.specs.declared.entries.PortBit.{PortBit}
use Rattle.bsdl_device.specs.declared.entries.RowEntry.{RowEntry}
use Rattle.bsdl_device.specs.declared.entries.Contents.{Contents}
use Rattle.bsdl_device.specs.Patterns.{separated_by, is_filled}
use Rattle.bsdl_device.specs.Shape.{NameOf, Mark, joined, sections, file_words, declaration_words, names_words, type_words, IsFile, is_declaration}
use Rattle.bsdl_device.specs.Runs as runs
use Rattle.bsdl_device.specs.Runs.{content_words, comma, PinRun}
use Rattle.bsdl_device.specs.Grammar.{pin_entry_words, opcode_words, row_words, pins_words}
use Rattle.bsdl_device.specs.Instructions.{instruction_named}
use Rattle.bsdl_device.specs.Ports.{declared_ports, port_declared, range_of}
use Rattle.bsdl_device.specs.Checks.{entry_pins}
use Rattle.bsdl_device.specs.Denoted.{opcode_of}
use Rattle.bsdl_device.specs.Spelled.{HasContents, HoldPinMap, HoldOpcodes, HoldCapture, HoldIdcode, HoldRows}
use Rattle.bsdl_device.proofs.Good.{GoodToken, GoodPattern, GoodContent, GoodBits, GoodPin, good_tokens, good_words, all_contents, all_separated}
use Rattle.bsdl_device.proofs.RoundTripNames.{all_to}
use Rattle.bsdl_device.proofs.RoundTripHeld.{IsFileName, IsSmallRange, IsCode}

-- The file's words.

pub tokens_good : (bytes : List ℕ) (words : List BsdlSpanned) → words_of bytes words → AllByRecursion GoodToken (plain words)
tokens_good bytes words cut = subst (λ (ws : List BsdlSpanned). AllByRecursion GoodToken (plain ws)) (sym cut.words_are) (good_tokens 0 cut.pieces cut.are)

-- a port with a name and small bounds
pub record IsGoodPort (p : DeclaredPort) : Type 0 where
  pub name : IsFileName p.name
  pub range : IsSmallRange p.range

pub record GoodFile (f : File) : Type 0 where
  pub entity : IsFileName f.entity
  pub «package» : IsFileName f.«package»
  pub ports : AllByRecursion IsGoodPort (declared_ports f)
  pub clock : IsReal f.clock
  pub length : f.length.value < 10 ^ 9
  pub count : f.boundary_length.value < 10 ^ 9

range_small : (range : Option WrittenRange) → AllByRecursion GoodPattern (type_words range) → IsSmallRange (option_map range_of range)
range_small None all = tt
range_small (Some r) all = (all.1.1.0, all.1.1.1.1.0)

names_good : (d : PortDeclaration) → IsSmallRange (option_map range_of d.range) → (names : List (List ℕ)) → AllByRecursion (λ (name : List ℕ). AllByRecursion GoodPattern (NameOf name ∷ [])) names → AllByRecursion IsGoodPort (map (port_declared d) names)
names_good d small [] all = tt
names_good d small (name ∷ names) all = (record { name = all.0.0; range = small }, names_good d small names all.1)

declarations_good : (ds : List PortDeclaration) → AllByRecursion (λ d. AllByRecursion GoodPattern (declaration_words d)) ds → AllByRecursion IsGoodPort (flat_map (λ (d : PortDeclaration). map (port_declared d) d.names) ds)
declarations_good [] all = tt
declarations_good (d ∷ ds) all =
    let behind = all_back GoodPattern (names_words d.names) _ all.0 in
    all_append IsGoodPort (map (port_declared d) d.names) _
    (names_good d (range_small d.range behind.1.1) d.names (all_separated GoodPattern (Mark Comma) (λ (name : List ℕ). NameOf name ∷ []) d.names (all_front GoodPattern (names_words d.names) _ all.0)))
    (declarations_good ds all.1)

all_parts : {A : Type 0} (P : A → Type 0) (list : List (List A)) → AllByRecursion P (joined list) → AllByRecursion (λ (part : List A). AllByRecursion P part) list
all_parts P [] all = tt
all_parts P (part ∷ more) all = (all_front P part (joined more) all, all_parts P more (all_back P part (joined more) all))

pub file_good : (f : File) → AllByRecursion GoodPattern (file_words f) → GoodFile f
file_good f all =
    let parts = all_parts GoodPattern (sections f) all in
    let ports = all_front GoodPattern (separated_by (Mark Semicolon) declaration_words f.declarations) (Mark RightParenthesis ∷ Mark Semicolon ∷ []) parts.1.1.0.1.1 in
    record {
      entity = parts.0.1.0;
      «package» = parts.1.1.1.1.1.1.0.1.0;
      ports = declarations_good f.declarations (all_separated GoodPattern (Mark Semicolon) declaration_words f.declarations ports);
      clock = parts.1.1.1.1.1.1.1.1.0.1.1.1.1.1.1.1.1.0;
      length = parts.1.1.1.1.1.1.1.1.1.0.1.1.1.1.1.1.1.0;
      count = parts.1.1.1.1.1.1.1.1.1.1.1.1.1.1.0.1.1.1.1.1.1.1.0;
    }

-- The file has a port.
pub some_port : (f : File) → IsFile f → is_filled (declared_ports f) ≡ true
some_port f is = by f.declarations is.ports is.declarations
  where
    by : (ds : List PortDeclaration) → is_filled ds ≡ true → list_all is_declaration ds ≡ true → is_filled (flat_map (λ (d : PortDeclaration). map (port_declared d) d.names) ds) ≡ true
    by [] some all = absurd (cc)
    by (d ∷ ds) some all = named d.names (and_left (is_filled d.names) _ (and_left (is_declaration d) (list_all is_declaration ds) all))
      where
        and_left : (a b : Bool) → (a && b) ≡ true → a ≡ true
        and_left true b h = refl
        and_left false b h = h

        named : (names : List (List ℕ)) → is_filled names ≡ true → is_filled (map (port_declared d) names ++ flat_map (λ (e : PortDeclaration). map (port_declared e) e.names) ds) ≡ true
        named [] h = absurd (cc)
        named (name ∷ names) h = refl

-- The contents.

pub record GoodRow (r : RowEntry) : Type 0 where
  pub index : option_map_or (λ (b : PortBit). option_map_or (λ (i : ℕ). i) b.index 0) r.port 0 < 10 ^ 9
  pub control : option_map_or (λ (d : Disable). d.control) r.disable 0 < 10 ^ 9

pub record GoodContents (c : Contents) : Type 0 where
  pub pins : AllByRecursion (λ (e : PinEntry). AllByRecursion GoodPin (entry_pins e.pins)) c.pin_map
  pub opcodes : AllByRecursion (λ (o : OpcodeEntry). GoodBits o.bits) c.opcodes
  pub capture : GoodBits c.capture
  pub idcode : IsCode c.idcode
  pub usercode : IsCode c.usercode
  pub rows : AllByRecursion GoodRow c.rows

pins_good : (list : List (List ℕ)) → AllByRecursion (λ (pin : List ℕ). AllByRecursion GoodContent (PinRun pin ∷ [])) list → AllByRecursion GoodPin list
pins_good [] all = tt
pins_good (pin ∷ list) all = (all.0.0, pins_good list all.1)

entry_good : (e : PinEntry) → AllByRecursion GoodContent (pin_entry_words e) → AllByRecursion GoodPin (entry_pins e.pins)
entry_good e all = by e.pins all.1.1
  where
    by : (m : MappedPins) → AllByRecursion GoodContent (pins_words m) → AllByRecursion GoodPin (entry_pins m)
    by (pins.One pin) k = (k.0, tt)
    by (pins.Several list) k = pins_good list (all_separated GoodContent comma (λ (pin : List ℕ). PinRun pin ∷ []) list (all_front GoodContent (separated_by comma (λ (pin : List ℕ). PinRun pin ∷ []) list) _ k.1))

small : 0 < 10 ^ 9
small = lit< tt

row_good : (r : RowEntry) → AllByRecursion GoodContent (row_words r) → GoodRow r
row_good r all = by r.port r.disable all
  where
    by : (port : Option PortBit) (disable : Option Disable) → AllByRecursion GoodContent (row_words (record { number = r.number; cell = r.cell; port = port; function = r.function; safe = r.safe; disable = disable })) → GoodRow (record { number = r.number; cell = r.cell; port = port; function = r.function; safe = r.safe; disable = disable })
    by None None k = record { index = small; control = small }
    by None (Some d) k = record { index = small; control = k.1.1.1.1.1.1.1.1.1.1.0 }
    by (Some b) None k = record { index = at b.index k; control = small }
      where
        at : (i : Option ℕ) → AllByRecursion GoodContent (row_words (record { number = r.number; cell = r.cell; port = Some (record { port = b.port; index = i }); function = r.function; safe = r.safe; disable = None })) → option_map_or (λ (n : ℕ). n) i 0 < 10 ^ 9
        at None m = small
        at (Some i) m = m.1.1.1.1.1.1.0
    by (Some b) (Some d) k = at b.index k
      where
        at : (i : Option ℕ) → AllByRecursion GoodContent (row_words (record { number = r.number; cell = r.cell; port = Some (record { port = b.port; index = i }); function = r.function; safe = r.safe; disable = Some d })) → GoodRow (record { number = r.number; cell = r.cell; port = Some (record { port = b.port; index = i }); function = r.function; safe = r.safe; disable = Some d })
        at None m = record { index = small; control = m.1.1.1.1.1.1.1.1.1.1.0 }
        at (Some i) m = record { index = m.1.1.1.1.1.1.0; control = m.1.1.1.1.1.1.1.1.1.1.1.1.1.0 }

code_good : (a : Option StringAttribute) (code : Option ℕ) → HoldIdcode a code → IsCode code
code_good None None h = tt
code_good None (Some code) h = absurd h
code_good (Some a) None h = absurd h
code_good (Some a) (Some code) h = (all_contents (runs.BitsRun (record { len = 32; value = code }) ∷ []) (content_words (joined a.strings)) h (good_words (joined a.strings))).0

pub held_good : (f : File) (c : Contents) → HoldPinMap f.pin_map c.pin_map → HoldOpcodes f.opcodes.strings c.opcodes → HoldCapture f.capture.strings c.capture → HoldIdcode f.idcode c.idcode → HoldIdcode f.usercode c.usercode → HoldRows f.boundary.strings c.rows → GoodContents c
held_good f c pin_map opcodes capture idcode usercode rows = record {
  pins = all_to c.pin_map entry_good (all_separated GoodContent comma pin_entry_words c.pin_map (all_contents (separated_by comma pin_entry_words c.pin_map) (content_words (joined f.pin_map)) pin_map.hold (good_words (joined f.pin_map))));
  opcodes = all_to c.opcodes (λ o (k : AllByRecursion GoodContent (opcode_words o)). k.1.1.0) (all_separated GoodContent comma opcode_words c.opcodes (all_contents (separated_by comma opcode_words c.opcodes) (content_words (joined f.opcodes.strings)) opcodes.hold (good_words (joined f.opcodes.strings))));
  capture = (all_contents (runs.BitsRun c.capture ∷ []) (content_words (joined f.capture.strings)) capture (good_words (joined f.capture.strings))).0;
  idcode = code_good f.idcode c.idcode idcode;
  usercode = code_good f.usercode c.usercode usercode;
  rows = all_to c.rows row_good (all_separated GoodContent comma row_words c.rows (all_contents (separated_by comma row_words c.rows) (content_words (joined f.boundary.strings)) rows.hold (good_words (joined f.boundary.strings))));
}

pub contents_good : (f : File) (c : Contents) → HasContents f c → GoodContents c
contents_good f c h = held_good f c h.pin_map h.opcodes h.capture h.idcode h.usercode h.rows

-- Lists of what is good.

pub found_good : {A : Type 0} (Q : A → Type 0) (test : A → Bool) (xs : List A) (x : A) → AllByRecursion Q xs → find test xs ≡ Some x → Q x
found_good Q test [] x all h = absurd (cc)
found_good {A} Q test (y ∷ ys) x all h = by (test y) (found_good Q test ys x all.1) h
  where
    by : (b : Bool) → (find test ys ≡ Some x → Q x) → cond b (Some y) (find test ys) ≡ Some x → Q x
    by true rest k = let same : y ≡ x = cc in subst Q same all.0
    by false rest k = rest k

pub chosen_good : {K A : Type 0} (Q : A → Type 0) (test : K → A → Bool) (keys : List K) (xs : List A) → AllByRecursion Q xs → AllByRecursion Q (filter_map (λ k. find (test k) xs) keys)
chosen_good Q test [] xs all = tt
chosen_good {K} {A} Q test (k ∷ ks) xs all = by (find (test k) xs) refl (chosen_good Q test ks xs all)
  where
    by : (o : Option A) → find (test k) xs ≡ o → AllByRecursion Q (filter_map (λ j. find (test j) xs) ks) → AllByRecursion Q (cons_option o (filter_map (λ j. find (test j) xs) ks))
    by None is rest = rest
    by (Some x) is rest = (found_good Q (test k) xs x all is, rest)

pub opcodes_good : (entries : List OpcodeEntry) → AllByRecursion (λ (o : OpcodeEntry). GoodBits o.bits) entries → AllByRecursion (λ (o : Opcode). GoodBits o.bits) (filter_map opcode_of entries)
opcodes_good [] all = tt
opcodes_good (o ∷ os) all = by (instruction_named o.name) (opcodes_good os all.1)
  where
    by : (found : Option Instr) → AllByRecursion (λ (p : Opcode). GoodBits p.bits) (filter_map opcode_of os) → AllByRecursion (λ (p : Opcode). GoodBits p.bits) (cons_option (option_map (λ i. let opcode : Opcode = record { instr = i; bits = o.bits } in opcode) found) (filter_map opcode_of os))
    by None rest = rest
    by (Some i) rest = (all.0, rest)
