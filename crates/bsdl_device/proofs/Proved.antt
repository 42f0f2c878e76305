-- A file is read just where the words spell it.
use Rattle.std.proofs.Common.{◌≡◌, List, [], ◌∷◌, Some, None, refl, sym, ap, subst, ◌∙◌, append-nil}
use Rattle.list_laws.proofs.Options.{none_some}
use Rattle.bsdl_lexicon.specs.declared.token.BsdlToken.{BsdlToken}
use Rattle.bsdl_device.specs.declared.written.File.{File}
use Rattle.bsdl_device.specs.Spelled.{SpellsFile}
use Rattle.bsdl_device.specs.Readers.{Read, after, done, end_at}
use Rattle.bsdl_device.specs.Files as files
use Rattle.bsdl_device.specs.ReadingLaws.{ReadsEachFile, ReadsOnlyFiles, SpellsOneFile, FaultsSpellNothing}
use Rattle.bsdl_device.proofs.Exact.{got}
use Rattle.bsdl_device.proofs.ReadingWhole.{file_law}
use Rattle.bsdl_device.proofs.ReadingRules.{is_file, kept}

pub reads_each_file : ReadsEachFile
reads_each_file f ws s =
    let read = file_law.complete f ws [] (kept f s.is, s.matches) tt in
    let here : files.sections_at ws ≡ (Some f, []) = ap (λ (l : List BsdlToken). files.sections_at l) (sym (append-nil ws)) ∙ read in
    ap (λ (r : Read BsdlToken File). after r (λ g a. after (end_at a) (λ _ b. done g b))) here

pub reads_only_files : ReadsOnlyFiles
reads_only_files ws f left h = go (files.sections_at ws) refl h
  where
    ended : (g : File) (a : List BsdlToken) → files.sections_at ws ≡ (Some g, a) → after (end_at a) (λ _ b. done g b) ≡ (Some f, left) → SpellsFile ws f
    ended g [] e k =
        let s = file_law.sound ws g [] e in
        let same : g ≡ f = let t = got k in cc in
        let words : s.0 ≡ ws = sym (append-nil s.0) ∙ sym s.1 in
        subst (λ (x : File). SpellsFile ws x) same (subst (λ (l : List BsdlToken). SpellsFile l g) words (record { is = is_file g s.2.0; matches = s.2.1 }))
    ended g (w ∷ a) e k = none_some (got k)

    go : (read : Read BsdlToken File) → files.sections_at ws ≡ read → after read (λ g a. after (end_at a) (λ _ b. done g b)) ≡ (Some f, left) → SpellsFile ws f
    go (None, a) e k = none_some (got k)
    go (Some g, a) e k = ended g a e k

pub spells_one_file : SpellsOneFile
spells_one_file ws f g s t = let same = got (sym (reads_each_file f ws s) ∙ reads_each_file g ws t) in cc

pub faults_spell_nothing : FaultsSpellNothing
faults_spell_nothing ws left f h s = none_some (got (sym h ∙ reads_each_file f ws s))
