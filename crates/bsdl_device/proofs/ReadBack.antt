-- The canonical text of a device that some text spells spells that device.
use Rattle.std.proofs.Common.{◌≡◌, ℕ, suc, ◌+◌, ◌^◌, ◌<◌, ◌≤◌, List, [], ◌∷◌, true, false, Option, Some, None, map, length, refl, sym, ap, subst, ◌∙◌, arith}
use Rattle.std.specs.Prelude.{◌&&◌, ◌||◌, ◌==◌, not, is_none, is_some}
use Rattle.std.specs.List.{list_all, list_any, AllByRecursion}
use Rattle.std.specs.Option.{option_map, option_map_or}
use Rattle.list_laws.proofs.Tests.{or_first, or_second}
use Rattle.bsdl_lexicon.specs.Names.{is_same_name}
use Rattle.bsdl_lexicon.specs.Words.{plain}
use Rattle.bsdl_lexicon.specs.declared.token.BsdlSpanned.{BsdlSpanned}
use Rattle.bsdl_lexicon.specs.Pieces.{words_of, words_from}
use Rattle.bsdl_device.specs.declared.values.PortRange.{PortRange}
use Rattle.bsdl_device.specs.declared.values.PortMode.{PortMode}
use Rattle.bsdl_device.specs.declared.values.PortMode.TheVariants as mode
use Rattle.bsdl_device.specs.declared.values.Device.{Device}
use Rattle.bsdl_device.specs.declared.written.DeclaredPort.{DeclaredPort}
use Rattle.bsdl_device.specs.declared.written.File.{File}
use Rattle.bsdl_device.specs.declared.entries.MappedPins.{MappedPins}
use Rattle.bsdl_device.specs.declared.entries.MappedPins.TheVariants as pins
use Rattle.bsdl_device.specs.declared.entries.PinEntry.{PinEntry}
use Rattle.bsdl_device.specs.declared.entries.PortBit.{PortBit}
use Rattle.bsdl_device.specs.declared.entries.RowEntry.{RowEntry}
use Rattle.bsdl_device.specs.declared.entries.Contents.{Contents}
use Rattle.bsdl_device.specs.Patterns.{is_filled}
use Rattle.bsdl_device.specs.Shape.{joined, file_words}
use Rattle.bsdl_device.specs.Grammar.{has_pins}
use Rattle.bsdl_device.specs.Ports.{declared_ports, port_named, is_mode}
use Rattle.bsdl_device.specs.Checks.{has_pins_for, entry_pins, is_scalar_port, tap_port_misfits, tap_names, is_repeated, is_numbered, numbers_misfit}
use Rattle.bsdl_device.specs.Denoted.{device_of, port_of, place_of, ordered_rows}
use Rattle.bsdl_device.specs.Spelled.{SpellsFile, SpellsText}
use Rattle.bsdl_device.specs.Canonical.{port_name, canonical_device}
use Rattle.bsdl_device.specs.RoundTripLaws.{CanonicalReadsBack}
use Rattle.bsdl_device.proofs.Good.{GoodPin, all_patterns}
use Rattle.bsdl_device.proofs.Lookups.{name_at_place}
use Rattle.bsdl_device.proofs.RoundTripIdentifiers.{name_test}
use Rattle.bsdl_device.proofs.Rebuilt.{rebuilt_file, rebuilt_contents}
use Rattle.bsdl_device.proofs.PinMaps.{PortMapped, ports_mapped, pins_found, pins_filled}
use Rattle.bsdl_device.proofs.Numbered.{NumberedFrom}
use Rattle.bsdl_device.proofs.Rows.{respelled_row, respelled_bit, own_spelling, is_known}
use Rattle.bsdl_device.proofs.Means.{Keeps, keeps, none_broken}
use Rattle.bsdl_device.proofs.RoundTripAgain.{Parts, parts, keeps_again, device_again}
use Rattle.bsdl_device.proofs.ContentTexts.{IsPort, IsRow, IsRowPort, HasOne}
use Rattle.bsdl_device.proofs.RoundTripHeld.{GoodDevice, IsDeclared, IsFileName, holds_again}
use Rattle.bsdl_device.proofs.FileAtoms.{pieces_of, text_of-atoms, are_pieces, Free}
use Rattle.bsdl_device.proofs.FileTexts.{section_atoms, sections_are, all_joined}
use Rattle.bsdl_device.proofs.FileWords.{spells_file}
use Rattle.bsdl_device.proofs.CanonicalText.{chain_joined, canonical_text}
use Rattle.bsdl_device.proofs.RoundTripFacts.{IsGoodPort, GoodFile, GoodContents, GoodRow, tokens_good, file_good, some_port, contents_good, found_good, chosen_good, opcodes_good}

-- Ports.

ports_declared : (entries : List PinEntry) (ports : List DeclaredPort) → AllByRecursion IsGoodPort ports → AllByRecursion IsDeclared (map (port_of entries) ports)
ports_declared entries [] all = tt
ports_declared entries (p ∷ ps) all = (record { name = all.0.name; range = all.0.range }, ports_declared entries ps all.1)

one_pin : (range : Option PortRange) (m : MappedPins) → has_pins_for range m ≡ true → HasOne range (entry_pins m)
one_pin None (pins.One pin) h = tt
one_pin None (pins.Several list) h = absurd (cc)
one_pin (Some r) m h = tt

ports_entries : (ports : List DeclaredPort) (entries : List PinEntry) → AllByRecursion (λ (e : PinEntry). AllByRecursion GoodPin (entry_pins e.pins)) entries → (ps : List DeclaredPort) → AllByRecursion IsGoodPort ps → AllByRecursion (PortMapped ports entries) ps → AllByRecursion IsPort (map (port_of entries) ps)
ports_entries ports entries good [] names all = tt
ports_entries ports entries good (p ∷ ps) names all = (
  record {
    name = name_test p.name names.0.name;
    pins = subst (λ (l : List (List ℕ)). AllByRecursion GoodPin l) (sym (pins_found ports entries p all.0)) (found_good (λ (e : PinEntry). AllByRecursion GoodPin (entry_pins e.pins)) (λ (e : PinEntry). is_same_name e.port p.name) entries all.0.entry good all.0.found);
    one = subst (λ (l : List (List ℕ)). HasOne p.range l) (sym (pins_found ports entries p all.0)) (one_pin p.range all.0.entry.pins all.0.fits);
  },
  ports_entries ports entries good ps names.1 all.1,
)

filled_map : {A B : Type 0} (g : A → B) (xs : List A) → is_filled xs ≡ true → is_filled (map g xs) ≡ true
filled_map g [] h = absurd (cc)
filled_map g (x ∷ xs) h = refl

scalar_name : (entries : List PinEntry) (ports : List DeclaredPort) (wanted : PortMode) (name : List ℕ) → AllByRecursion IsGoodPort ports → not (is_scalar_port ports wanted name) ≡ false → IsFileName (port_name (map (port_of entries) ports) (place_of ports name))
scalar_name entries ports wanted name good h = by (port_named ports name) refl h
  where
    by : (o : Option DeclaredPort) → port_named ports name ≡ o → not (option_map_or (λ (p : DeclaredPort). is_none p.range && is_mode wanted p.mode) o false) ≡ false → IsFileName (port_name (map (port_of entries) ports) (place_of ports name))
    by None is k = absurd (cc)
    by (Some p) is k = subst (λ (n : List ℕ). IsFileName n) (sym (name_at_place entries ports name p is)) (found_good IsGoodPort (λ (q : DeclaredPort). is_same_name name q.name) ports p good is).name

-- Rows.

rows_are_rows : (ports : List DeclaredPort) → AllByRecursion IsGoodPort ports → (count first : ℕ) (rows : List RowEntry) → count < 10 ^ 9 → NumberedFrom first rows → first + length rows ≤ count
    → list_any (λ r. not (is_known ports r)) rows ≡ false → AllByRecursion GoodRow rows → AllByRecursion IsRow (map (respelled_row ports) rows)
rows_are_rows ports good count first [] small numbered fits known all = tt
rows_are_rows ports good count first (r ∷ rs) small numbered fits known all = (
  record {
    number = (let number : r.number ≡ first = numbered.0 in omega arith);
    port = by r.port (or_first (not (is_known ports r)) (list_any (λ s. not (is_known ports s)) rs) known) all.0.index;
    control = all.0.control;
  },
  rows_are_rows ports good count (suc first) rs small numbered.1 (omega arith) (or_second (not (is_known ports r)) (list_any (λ s. not (is_known ports s)) rs) known) all.1,
)
  where
    named : (b : PortBit) (o : Option DeclaredPort) → port_named ports b.port ≡ o → not (is_some o) ≡ false → IsFileName (own_spelling o b.port)
    named b None is k = absurd (cc)
    named b (Some p) is k = (found_good IsGoodPort (λ (q : DeclaredPort). is_same_name b.port q.name) ports p good is).name

    by : (o : Option PortBit) → not (option_map_or (λ (b : PortBit). is_some (port_named ports b.port)) o true) ≡ false → option_map_or (λ (b : PortBit). option_map_or (λ (i : ℕ). i) b.index 0) o 0 < 10 ^ 9 → IsRowPort (option_map (respelled_bit ports) o)
    by None k low = tt
    by (Some b) k low = (name_test (respelled_bit ports b).port (named b (port_named ports b.port) refl k), low)

rows_filled : (ports : List DeclaredPort) (count : ℕ) (rows : List RowEntry) → length rows ≡ count → (count == 0) ≡ false → is_filled (map (respelled_row ports) rows) ≡ true
rows_filled ports count [] many some = let none : (count == 0) ≡ true = ap (λ (n : ℕ). n == 0) (sym many) in absurd (cc)
rows_filled ports count (r ∷ rs) many some = refl

-- The device.

good : (f : File) (c : Contents) → GoodFile f → GoodContents c → is_filled (declared_ports f) ≡ true → Keeps f c → (p : Parts f c) → GoodDevice (device_of f c)
good f c gf gc some k p =
    let ports = declared_ports f in
    let tap = or_first (tap_port_misfits ports f.tap) (is_repeated (tap_names f.tap)) k.tap in
    let a = not (is_scalar_port ports mode.Input f.tap.tck) in
    let b = not (is_scalar_port ports mode.Input f.tap.tms) in
    let i = not (is_scalar_port ports mode.Input f.tap.tdi) in
    let o = not (is_scalar_port ports mode.Output f.tap.tdo) in
    let r = not (is_scalar_port ports mode.Input f.tap.trst) in
    let four : (((a || b) || i) || o) ≡ false = or_first (((a || b) || i) || o) r tap in
    let three : ((a || b) || i) ≡ false = or_first ((a || b) || i) o four in
    let two : (a || b) ≡ false = or_first (a || b) i three in
    let count = f.boundary_length.value in
    let small : count < 10 ^ 9 = gf.count in
    let some_rows : (count == 0) ≡ false = or_first (count == 0) (not (length c.rows == count)) (or_first (count == 0 || not (length c.rows == count)) (numbers_misfit count c.rows) k.boundary) in
    let many : length (ordered_rows count c.rows) ≡ count = p.order.many in
    record {
      entity = gf.entity;
      «package» = gf.«package»;
      declared = ports_declared c.pin_map ports gf.ports;
      ports = ports_entries ports c.pin_map gc.pins ports gf.ports (ports_mapped ports c.pin_map p.maps);
      some_port = filled_map (port_of c.pin_map) ports some;
      pins = ap (list_all (λ (e : PinEntry). has_pins e.pins)) p.pin_map ∙ pins_filled ports c.pin_map p.maps;
      tdi = scalar_name c.pin_map ports mode.Input f.tap.tdi gf.ports (or_second (a || b) i three);
      tms = scalar_name c.pin_map ports mode.Input f.tap.tms gf.ports (or_second a b two);
      tdo = scalar_name c.pin_map ports mode.Output f.tap.tdo gf.ports (or_second ((a || b) || i) o four);
      trst = scalar_name c.pin_map ports mode.Input f.tap.trst gf.ports (or_second (((a || b) || i) || o) r tap);
      tck = scalar_name c.pin_map ports mode.Input f.tap.tck gf.ports (or_first a b two);
      clock = gf.clock;
      length = gf.length;
      opcodes = opcodes_good c.opcodes gc.opcodes;
      all = p.all;
      capture = gc.capture;
      idcode = gc.idcode;
      usercode = gc.usercode;
      count = subst (λ (n : ℕ). n < 10 ^ 9) (sym p.many) small;
      rows = subst (λ (l : List RowEntry). AllByRecursion IsRow l) (sym p.rows) (rows_are_rows ports gf.ports count 0 (ordered_rows count c.rows) small p.order.numbered (omega arith) p.known (chosen_good GoodRow is_numbered _ c.rows gc.rows));
      some_row = ap is_filled p.rows ∙ rows_filled ports count (ordered_rows count c.rows) many some_rows;
    }

-- a device whose canonical file can be written, breaks no rule and describes it
pub record Stands (d : Device) : Type 0 where
  pub good : GoodDevice d
  pub keeps : Keeps (rebuilt_file d) (rebuilt_contents d)
  pub again : device_of (rebuilt_file d) (rebuilt_contents d) ≡ d

-- its canonical text spells it
pub spells : (d : Device) → Stands d → SpellsText (canonical_device d) d
spells d s =
    let whole = all_joined (section_atoms d) (sections_are d s.good) in record {
      words = words_from 0 (pieces_of (joined (section_atoms d)));
      cut = record {
        pieces = pieces_of (joined (section_atoms d));
        are = are_pieces Free (joined (section_atoms d)) whole.all whole.fits;
        text = canonical_text d s.good ∙ sym (chain_joined (section_atoms d)) ∙ sym (text_of-atoms (joined (section_atoms d)));
        words_are = refl;
      };
      spells = record {
        file = rebuilt_file d;
        spells = spells_file d s.good;
        contents = rebuilt_contents d;
        holds = holds_again d s.good;
        means = none_broken (rebuilt_file d) (rebuilt_contents d) s.keeps;
        device_is = sym s.again;
      };
    }

-- that of a file whose parts are good and that breaks no rule is one
pub stands_by : (f : File) (c : Contents) → GoodFile f → GoodContents c → is_filled (declared_ports f) ≡ true → Keeps f c → Stands (device_of f c)
stands_by f c gf gc some k =
    let p : Parts f c = parts f c k in
    record { good = good f c gf gc some k p; keeps = keeps_again f c k p; again = device_again f c p }

-- the parts of a file whose words a text has are good
pub spelled_file_good : (bytes : List ℕ) (words : List BsdlSpanned) (f : File) → words_of bytes words → SpellsFile (plain words) f → GoodFile f
spelled_file_good bytes words f cut spells = file_good f (all_patterns (file_words f) (plain words) spells.matches (tokens_good bytes words cut))

-- a device that a text spells is one
pub stands : (bytes : List ℕ) (d : Device) → SpellsText bytes d → Stands d
stands bytes d s =
    let f = s.spells.file in
    let c = s.spells.contents in
    let here : Stands (device_of f c) = stands_by f c (spelled_file_good bytes s.words f s.cut s.spells.spells) (contents_good f c s.spells.holds) (some_port f s.spells.spells.is) (keeps f c s.spells.means) in
    subst (λ (e : Device). Stands e) (sym s.spells.device_is) here

pub canonical_reads_back : CanonicalReadsBack
canonical_reads_back bytes d s = spells d (stands bytes d s)
