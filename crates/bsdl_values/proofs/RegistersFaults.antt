-- From the faults of the file without the entries of the design's own registers to those of the words.
use Rattle.std.proofs.Common.{◌≡◌, ℕ, suc, ◌<◌, List, [], ◌∷◌, true, false, length, IfOk, Option, Some, None, Result, Ok, Err, refl, sym, ap, subst, ◌∙◌, arith}
use Rattle.std.proofs.lemmas.List.{length-map}
use Rattle.std.specs.List.{AllByRecursion}
use Rattle.std.specs.Option.{option_map}
use Rattle.bsdl_lexicon.specs.declared.words.BsdlWords.{BsdlWords}
use Rattle.bsdl_lexicon.specs.declared.token.BsdlSpanned.{BsdlSpanned}
use Rattle.bsdl_lexicon.specs.Words.{plain, place_in}
use Rattle.bsdl_device.specs.declared.meaning.MeaningKind.{MeaningKind}
use Rattle.bsdl_device.specs.declared.written.File.{File}
use Rattle.bsdl_device.specs.declared.values.Device.{Device}
use Rattle.bsdl_device.specs.declared.entries.OpcodeEntry.{OpcodeEntry}
use Rattle.bsdl_device.specs.declared.entries.Contents.{Contents}
use Rattle.bsdl_device.specs.Patterns.{MatchesBy, is_filled}
use Rattle.bsdl_device.specs.Shape.{file_words, Fits, section_word}
use Rattle.bsdl_device.specs.Spelled.{SpellsFile, HasContents}
use Rattle.bsdl_device.specs.Meanings.{first_meaning_fault, MeaningFault}
use Rattle.bsdl_device.specs.Denoted.{device_of}
use Rattle.bsdl_device.specs.Faults as faults
use Rattle.bsdl_device.specs.ReadingLaws.{SpellsOneFile}
use Rattle.bsdl_files.specs.declared.fault.FileFault.{FileFault}
use Rattle.bsdl_files.specs.declared.fault.FileFault.TheVariants as file
use Rattle.bsdl_files.specs.Faults as files
use Rattle.bsdl_checks.specs.Counts.{all_words, first_word}
use Rattle.bsdl_checks.specs.Ordered.{told}
use Rattle.bsdl_checks.specs.declared.first.BrokenRule.{BrokenRule}
use Rattle.bsdl_contents.specs.declared.fault.HeldSection.{HeldSection}
use Rattle.bsdl_contents.specs.Outcomes.{section_of}
use Rattle.bsdl_contents.specs.Laws.{HoldOneContents}
use Rattle.bsdl_device.specs.declared.registers.values.RegisterEntry.{RegisterEntry}
use Rattle.bsdl_device.specs.declared.registers.values.TestRegister.{TestRegister}
use Rattle.bsdl_device.specs.declared.registers.values.Extended.{Extended}
use Rattle.bsdl_device.specs.declared.registers.fault.ExtendedFault.{ExtendedFault}
use Rattle.bsdl_device.specs.Entries.{HasExtendedContents}
use Rattle.bsdl_device.specs.Rules.{base_contents, registers_fail, own_registers_fail}
use Rattle.bsdl_device.specs.RegistersSpelled.{SpellsExtended, extended_of}
use Rattle.bsdl_device.specs.RegistersFaults.{IsExtendedRight, IsExtendedContentsFault, IsExtendedSyntax, in_shape, in_contents, IsBaseFault, IsRegistersFault, IsToldAt, IsExtendedFault}
use Rattle.bsdl_contents.specs.declared.entries.parted.Parted.{Parted}
use Rattle.bsdl_contents.specs.BaseFile.{with_access, IsParted}
use Rattle.bsdl_checks.specs.declared.registers.opcodes.PartedContents.{PartedContents}
use Rattle.bsdl_values.specs.RegistersFaultKinds.{file_fault}
use Rattle.bsdl_values.specs.BaseFile.{HasParted, IsPartedFrom, fails_at, registers_for}
use Rattle.bsdl_values.specs.RegistersPlaces.{contents_word}
use Rattle.bsdl_values.proofs.Lengths.{section_same, words_same, string_same, meaning_same}

-- Counts of words.

matched-length : {P W : Type 0} (fits : P → W → Type 0) (ps : List P) (ws : List W) → MatchesBy fits ps ws → length ps ≡ length ws
matched-length fits [] [] m = refl
matched-length fits [] (w ∷ ws) m = absurd m
matched-length fits (p ∷ ps) [] m = absurd m
matched-length fits (p ∷ ps) (w ∷ ws) m = ap (λ (n : ℕ). suc n) (matched-length fits ps ws m.1)

-- a file has as many words as those that spell it
pub as_many_words : (list : List BsdlSpanned) (f : File) → SpellsFile (plain list) f → all_words f ≡ length list
unfolding all_words
as_many_words list f s = matched-length Fits (file_words f) (plain list) s.matches ∙ length-map list (λ (w : BsdlSpanned). w.word)

pub some_strings : (strings : List (List ℕ)) → is_filled strings ≡ true → 0 < length strings
some_strings [] h = absurd (cc)
some_strings (s ∷ strings) h = omega arith

-- The file without the entries.

pub parted_words : (f : File) (p : Parted) → IsParted f p → all_words p.file ≡ all_words f
parted_words f p is = ap all_words is.same ∙ words_same f p.file.access.strings is.many

meaning_of : (f : File) (p : Parted) → IsParted f p → (c : Contents) → first_meaning_fault p.file c ≡ first_meaning_fault f c
meaning_of f p is c = ap (λ (g : File). first_meaning_fault g c) is.same ∙ meaning_same f p.file.access.strings is.many c

string_of : (f : File) (p : Parted) → IsParted f p → (s : faults.StringSection) → faults.string_word p.file s ≡ faults.string_word f s
string_of f p is s = ap (λ (g : File). faults.string_word g s) is.same ∙ string_same f p.file.access.strings is.many s

section_of_file : (f : File) (p : Parted) → IsParted f p → (number : ℕ) → section_word p.file number ≡ section_word f number
section_of_file f p is number = ap (λ (g : File). section_word g number) is.same ∙ section_same f p.file.access.strings is.many number

-- what it holds is held by the file with the entries, and nothing else is
pub extended_held : (f : File) (p : Parted) → IsParted f p → (c : Contents) → HasContents p.file c → HasExtendedContents f c p.entries
extended_held f p is c h =
    let k : HasContents (with_access f p.file.access.strings) c = subst (λ (g : File). HasContents g c) is.same h in
    record { pin_map = k.pin_map; opcodes = k.opcodes; capture = k.capture; idcode = k.idcode; usercode = k.usercode; access = is.to c.access h.access; rows = k.rows }

base_held : (f : File) (p : Parted) → IsParted f p → (c : Contents) (others : List RegisterEntry) → HasExtendedContents f c others → HasContents p.file c
base_held f p is c others h =
    let k : HasContents (with_access f p.file.access.strings) c = record { pin_map = h.pin_map; opcodes = h.opcodes; capture = h.capture; idcode = h.idcode; usercode = h.usercode; access = is.from c.access others h.access; rows = h.rows } in
    subst (λ (g : File). HasContents g c) (sym is.same) k

-- Sections.

right_to : (f : File) (p : Parted) → IsParted f p → (s : faults.StringSection) → faults.IsRight p.file s → IsExtendedRight f s
right_to f p is faults.PinMap h = subst (λ (g : File). faults.IsRight g faults.PinMap) is.same h
right_to f p is faults.Opcodes h = subst (λ (g : File). faults.IsRight g faults.Opcodes) is.same h
right_to f p is faults.Capture h = subst (λ (g : File). faults.IsRight g faults.Capture) is.same h
right_to f p is faults.Idcode h = subst (λ (g : File). faults.IsRight g faults.Idcode) is.same h
right_to f p is faults.Usercode h = subst (λ (g : File). faults.IsRight g faults.Usercode) is.same h
right_to f p is faults.Access h = (h.0, (p.entries, is.to h.0 h.1))
right_to f p is faults.Rows h = subst (λ (g : File). faults.IsRight g faults.Rows) is.same h

right_from : (f : File) (p : Parted) → IsParted f p → (s : faults.StringSection) → IsExtendedRight f s → faults.IsRight p.file s
right_from f p is faults.PinMap h = subst (λ (g : File). faults.IsRight g faults.PinMap) (sym is.same) h
right_from f p is faults.Opcodes h = subst (λ (g : File). faults.IsRight g faults.Opcodes) (sym is.same) h
right_from f p is faults.Capture h = subst (λ (g : File). faults.IsRight g faults.Capture) (sym is.same) h
right_from f p is faults.Idcode h = subst (λ (g : File). faults.IsRight g faults.Idcode) (sym is.same) h
right_from f p is faults.Usercode h = subst (λ (g : File). faults.IsRight g faults.Usercode) (sym is.same) h
right_from f p is faults.Access h = (h.0, is.from h.0 h.1.0 h.1.1)
right_from f p is faults.Rows h = subst (λ (g : File). faults.IsRight g faults.Rows) (sym is.same) h

all_to : (f : File) (p : Parted) → IsParted f p → (list : List faults.StringSection) → AllByRecursion (faults.IsRight p.file) list → AllByRecursion (IsExtendedRight f) list
all_to f p is [] h = tt
all_to f p is (s ∷ list) h = (right_to f p is s h.0, all_to f p is list h.1)

contents_fault : (f : File) (p : Parted) → IsParted f p → (number : ℕ) → faults.IsContentsFault p.file number → IsExtendedContentsFault f number
contents_fault f p is number w = record {
  before = w.before;
  section = w.section;
  behind = w.behind;
  order = w.order;
  right = all_to f p is w.before w.right;
  wrong = λ r. w.wrong (right_from f p is w.section r);
  there = w.there ∙ string_of f p is w.section;
}

-- what is held is right in each section
all_right : (f : File) (c : Contents) → HasContents f c → (s : faults.StringSection) → faults.IsRight f s
all_right f c h faults.PinMap = (c.pin_map, h.pin_map)
all_right f c h faults.Opcodes = (c.opcodes, h.opcodes)
all_right f c h faults.Capture = (c.capture, h.capture)
all_right f c h faults.Idcode = (c.idcode, h.idcode)
all_right f c h faults.Usercode = (c.usercode, h.usercode)
all_right f c h faults.Access = (c.access, h.access)
all_right f c h faults.Rows = (c.rows, h.rows)

-- One file, with one list of contents.

-- words spell one file, and its strings hold one list of contents
pub record AreOne : Type 0 where
  pub file : SpellsOneFile
  pub contents : HoldOneContents

-- the contents that a device's spelling has are those of the file without the entries
held_here : AreOne → (list : List BsdlSpanned) (p : Parted) (e : Extended) → HasParted list p → (s : SpellsExtended list e) → HasContents p.file s.contents
held_here one list p e h s =
    base_held h.file p h.parted s.contents s.entries (subst (λ (g : File). HasExtendedContents g s.contents s.entries) (one.file (plain list) s.file h.file s.spells h.spells) s.holds)

entries_here : AreOne → (list : List BsdlSpanned) (p : Parted) (e : Extended) → HasParted list p → (s : SpellsExtended list e) → s.entries ≡ p.entries
entries_here one list p e h s =
    let held : HasExtendedContents h.file s.contents s.entries = subst (λ (g : File). HasExtendedContents g s.contents s.entries) (one.file (plain list) s.file h.file s.spells h.spells) s.holds in
    h.parted.only s.contents.access s.entries held.access

-- the parts of a spelling
record AreParts (list : List BsdlSpanned) (p : Parted) (found : PartedContents) (f : File) (whole : Contents) (e : Extended) (s : SpellsExtended list e) : Type 0 where
  file : s.file ≡ f
  contents : s.contents ≡ whole
  entries : s.entries ≡ p.entries

are_parts : AreOne → (list : List BsdlSpanned) (p : Parted) (found : PartedContents) (e : Extended) → (h : HasParted list p) → (k : IsPartedFrom p found) → (s : SpellsExtended list e) → AreParts list p found h.file k.whole e s
are_parts one list p found e h k s =
    record {
      file = one.file (plain list) s.file h.file s.spells h.spells;
      contents = one.contents p.file k.whole s.contents k.holds (held_here one list p e h s);
      entries = entries_here one list p e h s;
    }

-- what the rules say of a spelling, they say of the file without the entries
means_of : (list : List BsdlSpanned) (p : Parted) (found : PartedContents) (e : Extended) (h : HasParted list p) (k : IsPartedFrom p found) (s : SpellsExtended list e) → AreParts list p found h.file k.whole e s → first_meaning_fault p.file found.contents ≡ first_meaning_fault s.file (base_contents s.contents s.entries)
means_of list p found e h k s same =
    meaning_of h.file p h.parted found.contents
    ∙ ap (λ (c : Contents). first_meaning_fault h.file c) k.base
    ∙ sym (ap (λ (g : File). first_meaning_fault g (base_contents s.contents s.entries)) same.file
    ∙ ap (λ (c : Contents). first_meaning_fault h.file (base_contents c s.entries)) same.contents
    ∙ ap (λ (es : List RegisterEntry). first_meaning_fault h.file (base_contents k.whole es)) same.entries)

rules_here : (list : List BsdlSpanned) (p : Parted) (found : PartedContents) (h : HasParted list p) (k : IsPartedFrom p found) → fails_at p.file found p ≡ own_registers_fail h.file k.whole p.entries
rules_here list p found h k =
    ap (λ (g : File). fails_at g found p) h.parted.same
    ∙ ap (λ (c : Contents). registers_fail h.file.length.value c.opcodes found.own p.entries) k.base
    ∙ ap (λ (own : List OpcodeEntry). registers_fail h.file.length.value (base_contents k.whole p.entries).opcodes own p.entries) k.own

rules_of : (list : List BsdlSpanned) (p : Parted) (found : PartedContents) (e : Extended) (h : HasParted list p) (k : IsPartedFrom p found) (s : SpellsExtended list e) → AreParts list p found h.file k.whole e s → own_registers_fail h.file k.whole p.entries ≡ own_registers_fail s.file s.contents s.entries
rules_of list p found e h k s same = sym (
    ap (λ (g : File). own_registers_fail g s.contents s.entries) same.file
    ∙ ap (λ (c : Contents). own_registers_fail h.file c s.entries) same.contents
    ∙ ap (λ (es : List RegisterEntry). own_registers_fail h.file k.whole es) same.entries)

-- Faults of the parts.

pub file_refused : (e : FileFault) (words : BsdlWords) → files.Refuses words (Err e) → IsExtendedFault words (file_fault e)
file_refused file.OutOfMemory words r = tt
file_refused (file.BsdlSyntax place number) words r = record { unspelled = λ extended s. r.fault.unspelled s.file s.spells; fault = in_shape r.fault; there = r.there }

pub contents_refused : AreOne → (words : BsdlWords) (p : Parted) (s : HeldSection) (number place : ℕ) → HasParted words.list p → faults.IsContentsFault p.file (faults.string_word p.file (section_of s)) → number ≡ contents_word p.file s → place ≡ place_in words.list words.end number → IsToldAt words IsExtendedSyntax place number
unfolding contents_word
contents_refused one words p s number place h wrong is there =
    let here : faults.IsContentsFault p.file number = subst (λ (n : ℕ). faults.IsContentsFault p.file n) (sym is) wrong in
    record { unspelled = λ extended t. here.wrong (all_right p.file t.contents (held_here one words.list p extended h t) here.section); fault = in_contents h.file h.spells (contents_fault h.file p h.parted number here); there = there }

no_fault : (found : Option MeaningFault) (fault : MeaningFault) → found ≡ None → found ≡ Some fault → ⊥
no_fault found fault none some = absurd (cc)

base_refused : AreOne → (words : BsdlWords) (p : Parted) (found : PartedContents) (kind : MeaningKind) (number place : ℕ) → HasParted words.list p → IsPartedFrom p found → first_meaning_fault p.file found.contents ≡ Some (record { kind = kind; word = number }) → place ≡ place_in words.list words.end number → IsToldAt words (λ ws n. IsBaseFault ws kind n) place number
base_refused one words p found kind number place h k first there = record {
  unspelled = λ extended s. no_fault (first_meaning_fault p.file found.contents) (record { kind = kind; word = number }) (means_of words.list p found extended h k s (are_parts one words.list p found extended h k s) ∙ s.means) first;
  fault = record {
    file = h.file;
    spells = h.spells;
    contents = k.whole;
    entries = p.entries;
    holds = extended_held h.file p h.parted k.whole k.holds;
    first = sym (meaning_of h.file p h.parted found.contents ∙ ap (λ (c : Contents). first_meaning_fault h.file c) k.base) ∙ first;
  };
  there = there;
}

pub rule_refused : AreOne → (words : BsdlWords) (p : Parted) (found : PartedContents) (rules : Option BrokenRule) (rule : BrokenRule) (place : ℕ) → HasParted words.list p → IsPartedFrom p found → option_map told rules ≡ first_meaning_fault p.file found.contents → rules ≡ Some rule → place ≡ place_in words.list words.end rule.word → IsToldAt words (λ ws n. IsBaseFault ws rule.kind n) place rule.word
rule_refused one words p found rules rule place h k first is there = base_refused one words p found rule.kind rule.word place h k (sym first ∙ ap (option_map told) is) there

pub registers_refused : AreOne → (words : BsdlWords) (p : Parted) (found : PartedContents) (number place : ℕ) → HasParted words.list p → IsPartedFrom p found → first_meaning_fault p.file found.contents ≡ None → fails_at p.file found p ≡ true → number ≡ first_word p.file 14 → place ≡ place_in words.list words.end number → IsToldAt words IsRegistersFault place number
unfolding first_word
registers_refused one words p found number place h k means fails is there = record {
  unspelled = λ extended s. no_rule extended s;
  fault = record {
    file = h.file;
    spells = h.spells;
    contents = k.whole;
    entries = p.entries;
    holds = extended_held h.file p h.parted k.whole k.holds;
    means = sym (meaning_of h.file p h.parted found.contents ∙ ap (λ (c : Contents). first_meaning_fault h.file c) k.base) ∙ means;
    wrong = sym (rules_here words.list p found h k) ∙ fails;
    there = is ∙ section_of_file h.file p h.parted 14;
  };
  there = there;
}
  where
    no_rule : (e : Extended) → SpellsExtended words.list e → ⊥
    no_rule e s =
        let broken : own_registers_fail h.file k.whole p.entries ≡ true = sym (rules_here words.list p found h k) ∙ fails in
        let kept : own_registers_fail h.file k.whole p.entries ≡ false = rules_of words.list p found e h k s (are_parts one words.list p found e h k s) ∙ s.right in
        let never : true ≡ false = sym broken ∙ kept in
        absurd (cc)

-- The device of the parts.

device_same : (f : File) (p : Parted) → IsParted f p → (c : Contents) → device_of p.file c ≡ device_of f c
device_same f p is c = ap (λ (g : File). device_of g c) is.same

pub extended_spelled : (list : List BsdlSpanned) (p : Parted) (found : PartedContents) (e : Extended) → HasParted list p → IsPartedFrom p found → first_meaning_fault p.file found.contents ≡ None → fails_at p.file found p ≡ false → e.device ≡ device_of p.file found.contents → e.registers ≡ registers_for p.entries found.own → SpellsExtended list e
extended_spelled list p found e h k means right device registers = record {
  file = h.file;
  spells = h.spells;
  contents = k.whole;
  entries = p.entries;
  holds = extended_held h.file p h.parted k.whole k.holds;
  means = sym (meaning_of h.file p h.parted found.contents ∙ ap (λ (c : Contents). first_meaning_fault h.file c) k.base) ∙ means;
  right = sym (rules_here list p found h k) ∙ right;
  extended_is =
      ap (λ (d : Device). let made : Extended = record { device = d; registers = e.registers } in made) (device ∙ device_same h.file p h.parted found.contents ∙ ap (λ (c : Contents). device_of h.file c) k.base)
      ∙ ap (λ (rs : List TestRegister). let made : Extended = record { device = device_of h.file (base_contents k.whole p.entries); registers = rs } in made) (registers ∙ ap (registers_for p.entries) k.own);
}

-- so what is spelled is the only one
one_extended : AreOne → (list : List BsdlSpanned) (p : Parted) (made other : Extended) → HasParted list p → SpellsExtended list made → SpellsExtended list other → other ≡ made
one_extended one list p made other h s t =
    let file : t.file ≡ s.file = one.file (plain list) t.file s.file t.spells s.spells in
    let contents : t.contents ≡ s.contents = one.contents p.file s.contents t.contents (held_here one list p made h s) (held_here one list p other h t) in
    let entries : t.entries ≡ s.entries = entries_here one list p other h t ∙ sym (entries_here one list p made h s) in
    t.extended_is ∙ ap (λ (g : File). extended_of g t.contents t.entries) file ∙ ap (λ (c : Contents). extended_of s.file c t.entries) contents
    ∙ ap (λ (es : List RegisterEntry). extended_of s.file s.contents es) entries ∙ sym s.extended_is

pub only_one : AreOne → (list : List BsdlSpanned) (p : Parted) → HasParted list p → (r : Result Extended ExtendedFault) → IfOk r (SpellsExtended list) → IfOk r (λ made. (other : Extended) → SpellsExtended list other → other ≡ made)
only_one one list p h (Ok made) s = λ other t. one_extended one list p made other h s t
only_one one list p h (Err e) s = tt
