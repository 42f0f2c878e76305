-- Words and bytes spell one device with registers of its own at most.
use Rattle.std.proofs.Common.{◌≡◌, ℕ, List, sym, ap, subst, ◌∙◌}
use Rattle.bsdl_lexicon.specs.declared.token.BsdlSpanned.{BsdlSpanned}
use Rattle.bsdl_lexicon.specs.Words.{plain}
use Rattle.bsdl_device.specs.declared.written.File.{File}
use Rattle.bsdl_device.specs.declared.entries.Contents.{Contents}
use Rattle.bsdl_device.specs.Spelled.{HasContents}
use Rattle.bsdl_words.specs.Laws.{AreOneList}
use Rattle.bsdl_device.specs.declared.registers.values.RegisterEntry.{RegisterEntry}
use Rattle.bsdl_device.specs.declared.registers.values.Extended.{Extended}
use Rattle.bsdl_device.specs.Entries.{HasExtendedContents}
use Rattle.bsdl_device.specs.RegistersSpelled.{extended_of, SpellsExtended}
use Rattle.bsdl_contents.specs.declared.entries.parted.Parted.{Parted}
use Rattle.bsdl_contents.specs.BaseFile.{with_access, IsParted}
use Rattle.bsdl_values.proofs.RegistersFaults.{AreOne, some_strings}
use Rattle.bsdl_values.specs.RegisterTextsLaws.{SpellsOneExtended}
use Rattle.bsdl_values.proofs.Parted.{parted_there}

-- what the file holds, the file without the entries holds
base_held : (f : File) (p : Parted) → IsParted f p → (c : Contents) (entries : List RegisterEntry) → HasExtendedContents f c entries → HasContents p.file c
base_held f p is c entries h =
    let k : HasContents (with_access f p.file.access.strings) c = record { pin_map = h.pin_map; opcodes = h.opcodes; capture = h.capture; idcode = h.idcode; usercode = h.usercode; access = is.from c.access entries h.access; rows = h.rows } in
    subst (λ (g : File). HasContents g c) (sym is.same) k

words_once : AreOne → (list : List BsdlSpanned) (made other : Extended) → SpellsExtended list made → SpellsExtended list other → other ≡ made
words_once one list made other s t =
    let file : t.file ≡ s.file = one.file (plain list) t.file s.file t.spells s.spells in
    let there = parted_there s.file (some_strings s.file.access.strings s.spells.is.access) in
    let p : Parted = there.0 in
    let is : IsParted s.file p = there.1 in
    let held : HasExtendedContents s.file t.contents t.entries = subst (λ (g : File). HasExtendedContents g t.contents t.entries) file t.holds in
    let contents : t.contents ≡ s.contents = one.contents p.file s.contents t.contents (base_held s.file p is s.contents s.entries s.holds) (base_held s.file p is t.contents t.entries held) in
    let entries : t.entries ≡ s.entries = is.only t.contents.access t.entries held.access ∙ sym (is.only s.contents.access s.entries s.holds.access) in
    t.extended_is ∙ ap (λ (g : File). extended_of g t.contents t.entries) file ∙ ap (λ (c : Contents). extended_of s.file c t.entries) contents
    ∙ ap (λ (es : List RegisterEntry). extended_of s.file s.contents es) entries ∙ sym s.extended_is

pub texts_once : AreOne → AreOneList → SpellsOneExtended
texts_once one cut bytes made other s t =
    words_once one s.words made other s.spells (subst (λ (ws : List BsdlSpanned). SpellsExtended ws other) (cut bytes s.words t.words s.cut t.cut) t.spells)
