-- From the faults of a file and its contents to those of a device.
use Rattle.std.proofs.Common.{◌≡◌, ℕ, List, [], ◌∷◌, ◌++◌, length, suc, IfOk, Option, Some, None, Result, Ok, Err, refl, sym, ap, subst, ◌∙◌}
use Rattle.std.proofs.lemmas.List.{length-map}
use Rattle.std.specs.Option.{option_map}
use Rattle.bsdl_lexicon.specs.declared.words.BsdlWords.{BsdlWords}
use Rattle.bsdl_lexicon.specs.declared.token.BsdlToken.{BsdlToken}
use Rattle.bsdl_lexicon.specs.declared.token.BsdlSpanned.{BsdlSpanned}
use Rattle.bsdl_lexicon.specs.Words.{plain, place_in}
use Rattle.bsdl_device.specs.declared.values.Device.{Device}
use Rattle.bsdl_device.specs.declared.meaning.MeaningKind.{MeaningKind}
use Rattle.bsdl_device.specs.declared.written.File.{File}
use Rattle.bsdl_device.specs.declared.entries.Contents.{Contents}
use Rattle.bsdl_device.specs.Patterns.{MatchesBy}
use Rattle.bsdl_device.specs.Shape.{file_words, Fits}
use Rattle.bsdl_device.specs.Spelled.{SpellsFile, HasContents, SpellsDevice}
use Rattle.bsdl_device.specs.Meanings.{first_meaning_fault, MeaningFault}
use Rattle.bsdl_device.specs.Denoted.{device_of}
use Rattle.bsdl_device.specs.Faults as faults
use Rattle.bsdl_checks.specs.Counts.{all_words}
use Rattle.bsdl_checks.specs.Ordered.{told}
use Rattle.bsdl_checks.specs.declared.first.BrokenRule.{BrokenRule}
use Rattle.bsdl_files.specs.declared.fault.FileFault.{FileFault}
use Rattle.bsdl_files.specs.declared.fault.FileFault.TheVariants as file
use Rattle.bsdl_files.specs.Faults as files
use Rattle.bsdl_device.specs.ReadingLaws.{SpellsOneFile}
use Rattle.bsdl_contents.specs.declared.fault.HeldSection.{HeldSection}
use Rattle.bsdl_contents.specs.Outcomes.{section_of}
use Rattle.bsdl_contents.specs.Laws.{HoldOneContents}
use Rattle.bsdl_device.specs.declared.fault.DeviceFault.{DeviceFault}
use Rattle.bsdl_values.specs.FaultKinds.{file_fault}
use Rattle.bsdl_values.specs.Places.{contents_word}
use Rattle.bsdl_values.specs.DeviceFaults.{IsBsdlSyntax, IsBsdlMeaning, IsDeviceFault}

-- Counts of words.

matched-length : {P W : Type 0} (fits : P → W → Type 0) (ps : List P) (ws : List W) → MatchesBy fits ps ws → length ps ≡ length ws
matched-length fits [] [] m = refl
matched-length fits [] (w ∷ ws) m = absurd m
matched-length fits (p ∷ ps) [] m = absurd m
matched-length fits (p ∷ ps) (w ∷ ws) m = ap (λ (n : ℕ). suc n) (matched-length fits ps ws m.1)

-- a file has as many words as those that spell it
pub as_many_words : (list : List BsdlSpanned) (f : File) → SpellsFile (plain list) f → all_words f ≡ length list
unfolding all_words
as_many_words list f s = matched-length Fits (file_words f) (plain list) s.matches ∙ length-map list (λ (w : BsdlSpanned). w.word)

-- One file, with one list of contents.

-- words spell one file, and its strings hold one list of contents
pub record AreOne : Type 0 where
  pub file : SpellsOneFile
  pub contents : HoldOneContents

-- what is held is right in each section
all_right : (f : File) (c : Contents) → HasContents f c → (s : faults.StringSection) → faults.IsRight f s
all_right f c h faults.PinMap = (c.pin_map, h.pin_map)
all_right f c h faults.Opcodes = (c.opcodes, h.opcodes)
all_right f c h faults.Capture = (c.capture, h.capture)
all_right f c h faults.Idcode = (c.idcode, h.idcode)
all_right f c h faults.Usercode = (c.usercode, h.usercode)
all_right f c h faults.Access = (c.access, h.access)
all_right f c h faults.Rows = (c.rows, h.rows)

-- What words spell is refused by no fault.

-- the contents of the one file of the words
held_by : AreOne → (ws : List BsdlToken) (f g : File) (c : Contents) → SpellsFile ws f → SpellsFile ws g → HasContents f c → HasContents g c
held_by one ws f g c s t h = subst (λ (x : File). HasContents x c) (one.file ws f g s t) h

no_syntax : AreOne → (ws : List BsdlToken) (n : ℕ) → faults.IsSyntaxFault ws n → (f : File) (c : Contents) → SpellsFile ws f → HasContents f c → ⊥
no_syntax one ws n (faults.in_shape h) f c s k = h.unspelled f s
no_syntax one ws n (faults.in_contents g t h) f c s k = h.wrong (all_right g c (held_by one ws f g c s t k) h.section)

no_meaning : AreOne → (ws : List BsdlToken) (kind : MeaningKind) (n : ℕ) → faults.IsMeaningFault ws kind n → (f : File) (c : Contents) → SpellsFile ws f → HasContents f c → first_meaning_fault f c ≡ None → ⊥
no_meaning one ws kind n m f c s k means =
    let held : HasContents m.file c = held_by one ws f m.file c s m.spells k in
    let here : first_meaning_fault m.file c ≡ None = subst (λ (x : File). first_meaning_fault x c ≡ None) (one.file ws f m.file s m.spells) means in
    let there : first_meaning_fault m.file m.contents ≡ None = subst (λ (x : Contents). first_meaning_fault m.file x ≡ None) (one.contents m.file m.contents c m.holds held) here in
    no_fault (first_meaning_fault m.file m.contents) _ there m.first
  where
    no_fault : (found : Option MeaningFault) (fault : MeaningFault) → found ≡ None → found ≡ Some fault → ⊥
    no_fault found fault none some = absurd (cc)

-- Faults of the parts.

pub file_refused : (e : FileFault) (words : BsdlWords) → files.Refuses words (Err e) → IsDeviceFault words (file_fault e)
file_refused file.OutOfMemory words r = tt
file_refused (file.BsdlSyntax place number) words r = record { unspelled = λ device s. r.fault.unspelled s.file s.spells; fault = faults.in_shape r.fault; there = r.there }

pub contents_refused : AreOne → (words : BsdlWords) (f : File) (s : HeldSection) (number place : ℕ) → SpellsFile (plain words.list) f → faults.IsContentsFault f (faults.string_word f (section_of s)) → number ≡ contents_word f s → place ≡ place_in words.list words.end number → IsBsdlSyntax words place number
unfolding contents_word
contents_refused one words f s number place spells wrong is there =
    let fault : faults.IsSyntaxFault (plain words.list) number = faults.in_contents f spells (subst (λ (n : ℕ). faults.IsContentsFault f n) (sym is) wrong) in
    record { unspelled = λ device d. no_syntax one (plain words.list) number fault d.file d.contents d.spells d.holds; fault = fault; there = there }

pub meaning_refused : AreOne → (words : BsdlWords) (f : File) (c : Contents) (kind : MeaningKind) (number place : ℕ) → SpellsFile (plain words.list) f → HasContents f c → first_meaning_fault f c ≡ Some (record { kind = kind; word = number }) → place ≡ place_in words.list words.end number → IsBsdlMeaning words kind place
meaning_refused one words f c kind number place spells holds first there =
    let fault : faults.IsMeaningFault (plain words.list) kind number = record { file = f; spells = spells; contents = c; holds = holds; first = first } in
    record { unspelled = λ device d. no_meaning one (plain words.list) kind number fault d.file d.contents d.spells d.holds d.means; word = number; fault = fault; there = there }

pub rule_refused : AreOne → (words : BsdlWords) (f : File) (c : Contents) (found : Option BrokenRule) (rule : BrokenRule) (place : ℕ) → SpellsFile (plain words.list) f → HasContents f c → option_map told found ≡ first_meaning_fault f c → found ≡ Some rule → place ≡ place_in words.list words.end rule.word → IsBsdlMeaning words rule.kind place
rule_refused one words f c found rule place spells holds first is there = meaning_refused one words f c rule.kind rule.word place spells holds (sym first ∙ ap (option_map told) is) there

-- The device of the parts.

pub device_spelled : (list : List BsdlSpanned) (f : File) (c : Contents) (made : Device) → SpellsFile (plain list) f → HasContents f c → first_meaning_fault f c ≡ None → made ≡ device_of f c → SpellsDevice list made
device_spelled list f c made spells holds means is = record { file = f; spells = spells; contents = c; holds = holds; means = means; device_is = is }

pub one_device : AreOne → (list : List BsdlSpanned) (made other : Device) → SpellsDevice list made → SpellsDevice list other → other ≡ made
one_device one list made other s t =
    let file : t.file ≡ s.file = one.file (plain list) t.file s.file t.spells s.spells in
    let held : HasContents s.file t.contents = held_by one (plain list) t.file s.file t.contents t.spells s.spells t.holds in
    let contents : t.contents ≡ s.contents = one.contents s.file s.contents t.contents s.holds held in
    t.device_is ∙ ap (λ (f : File). device_of f t.contents) file ∙ ap (λ (c : Contents). device_of s.file c) contents ∙ sym s.device_is

-- so what is spelled is the only one
pub only_one : AreOne → (list : List BsdlSpanned) (r : Result Device DeviceFault) → IfOk r (λ made. SpellsDevice list made) → IfOk r (λ made. (other : Device) → SpellsDevice list other → other ≡ made)
only_one one list (Ok made) s = λ other t. one_device one list made other s t
only_one one list (Err e) s = tt
