-- From the faults of words and modules to those of a text.
use Rattle.std.proofs.Common.{◌≡◌, ℕ, List, [], ◌∷◌, ◌++◌, Err, sym, subst, ◌∙◌}
use Rattle.std.specs.List.{AllByRecursion}
use Rattle.std.proofs.lemmas.List.{append-nil}
use Rattle.verilog_lexicon.specs.declared.word.Spanned.{Spanned}
use Rattle.verilog_lexicon.specs.Pieces.{words_of, Begins}
use Rattle.verilog_lexicon.specs.Words.{WordText}
use Rattle.verilog_tree.specs.declared.tree.Module.{Module}
use Rattle.verilog_tree.specs.Texts.{SpellsModule, SpellsText}
use Rattle.verilog_tree.specs.IsTree.{IsTree}
use Rattle.verilog_words.specs.declared.fault.WordFault.{WordFault}
use Rattle.verilog_words.specs.declared.fault.WordFault.TheVariants as word
use Rattle.verilog_words.specs.Laws.{BytesHaveOneList}
use Rattle.verilog_words.specs.Fed.{IsFault, IsEndFault}
use Rattle.verilog_modules.specs.declared.fault.SyntaxFault.{SyntaxFault}
use Rattle.verilog_modules.specs.declared.fault.SyntaxFault.TheVariants as syntax
use Rattle.verilog_modules.specs.Faults.{Refuses}
use Rattle.verilog_texts.specs.declared.fault.TextFault.{TextFault}
use Rattle.verilog_texts.specs.declared.fault.TextFault.TheVariants.{BadWord, BadSyntax, OutOfMemory}
use Rattle.verilog_tree.specs.Conditions.{SpelledTreesKeepConditions, SpelledModulesKeepConditions}
use Rattle.verilog_modules.specs.Laws.{WordsSpellOneModule, WordsSpellOneList}
use Rattle.verilog_modules.specs.Texts.{SpellsModules, RefusesText}
use Rattle.verilog_texts.specs.Laws.{BytesSpellOneTree, BytesSpellOneList}
use Rattle.verilog_texts.specs.TextOutcome.{HasWords, Spelled, IsReadAs, SpellsTrees, AreSpelled, AreReadAs}
use Rattle.verilog_texts.specs.TextFaults.{word_fault, syntax_fault, IsTextFault, IsModuleFault, IsWordFault, IsModulesTextFault, IsModulesFault}

-- a text that has words begins one
pub begins : (bytes : List ℕ) (words : List Spanned) → words_of bytes words → Begins bytes
begins bytes words cut = ([], words, subst (λ (x : List ℕ). words_of x words) (sym (append-nil bytes)) cut)

pub fed_fault : (e : WordFault) (bytes : List ℕ) → IsFault e bytes → IsWordFault bytes (word_fault e)
fed_fault word.OutOfMemory bytes fault = tt
fed_fault (word.BadWord place) bytes fault = record { none = λ words cut. fault.1 (begins bytes words cut); place_is = fault.0 }

pub end_fault : (e : WordFault) (bytes : List ℕ) → IsEndFault e bytes → IsWordFault bytes (word_fault e)
end_fault word.OutOfMemory bytes fault = tt
end_fault (word.BadWord place) bytes fault = record { none = fault.1; place_is = fault.0 }

pub module_fault : (e : SyntaxFault) (text : WordText) → Refuses text (Err e) → IsModuleFault text (syntax_fault e)
module_fault syntax.OutOfMemory text fault = tt
module_fault (syntax.BadSyntax place number) text fault = fault

-- a fault of the words is one of the text
pub text_fault : (e : TextFault) (bytes : List ℕ) (text : WordText) → HasWords bytes text → IsModuleFault text e → IsTextFault bytes e
text_fault OutOfMemory bytes text has fault = tt
text_fault (BadWord place) bytes text has fault = absurd fault
text_fault (BadSyntax place number) bytes text has fault = record { text = text; has = has; syntax = fault }

-- bytes spell one tree at most, since they have one list of words, and words spell one module
pub spells_once : BytesHaveOneList → WordsSpellOneModule → BytesSpellOneTree
spells_once one_list one_module bytes one other a b =
    one_module b.words one other (subst (λ (ws : List Spanned). SpellsModule ws one) (one_list bytes a.words b.words a.cut b.cut) a.spells) b.spells

-- the tree that the words of a text spell
pub read : BytesSpellOneTree → SpelledTreesKeepConditions → (bytes : List ℕ) (text : WordText) (tree : Module) → HasWords bytes text → Spelled text tree → IsReadAs bytes tree
read once keep bytes text tree has spelled =
    let here : SpellsText bytes tree = record { words = text.list; cut = has.cut; spells = spelled.spells } in record {
      spells = here;
      only = λ other s. once bytes other tree s here;
      is = keep bytes tree here;
    }

-- a fault of cutting is one of the text
pub cut_fault : (e : TextFault) (bytes : List ℕ) → IsWordFault bytes e → IsTextFault bytes e
cut_fault OutOfMemory bytes fault = tt
cut_fault (BadWord place) bytes fault = fault
cut_fault (BadSyntax place number) bytes fault = absurd fault

-- Several modules.

pub modules_fault : (e : SyntaxFault) (text : WordText) → RefusesText text (Err e) → IsModulesFault text (syntax_fault e)
modules_fault syntax.OutOfMemory text fault = tt
modules_fault (syntax.BadSyntax place number) text fault = fault

pub modules_text_fault : (e : TextFault) (bytes : List ℕ) (text : WordText) → HasWords bytes text → IsModulesFault text e → IsModulesTextFault bytes e
modules_text_fault OutOfMemory bytes text has fault = tt
modules_text_fault (BadWord place) bytes text has fault = absurd fault
modules_text_fault (BadSyntax place number) bytes text has fault = record { text = text; has = has; syntax = fault }

pub modules_cut_fault : (e : TextFault) (bytes : List ℕ) → IsWordFault bytes e → IsModulesTextFault bytes e
modules_cut_fault OutOfMemory bytes fault = tt
modules_cut_fault (BadWord place) bytes fault = fault
modules_cut_fault (BadSyntax place number) bytes fault = absurd fault

pub spell_once : BytesHaveOneList → WordsSpellOneList → BytesSpellOneList
spell_once one_list one_text bytes one other a b =
    one_text b.words one other (subst (λ (ws : List Spanned). SpellsModules ws one) (one_list bytes a.words b.words a.cut b.cut) a.spells) b.spells

-- the trees that the words of a text spell
pub read_all : BytesSpellOneList → SpelledModulesKeepConditions → (bytes : List ℕ) (text : WordText) (trees : List Module) → HasWords bytes text → AreSpelled text trees → AreReadAs bytes trees
read_all once keep bytes text trees has spelled =
    let here : SpellsTrees bytes trees = record { words = text.list; cut = has.cut; spells = spelled.spells } in
    let said = spelled.spells in record {
      spells = here;
      only = λ others s. once bytes others trees s here;
      are = subst (λ (ts : List Module). AllByRecursion IsTree ts) (sym said.trees_are) (keep bytes text.list (said.first ∷ said.more) has.cut said.keep_rules said.words_are);
    }
