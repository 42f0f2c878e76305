-- What a text that spells a tree says of it.
use Rattle.std.specs.Prelude.{◌≡◌, ℕ, List, map}
use Rattle.std.specs.List.{flat_map, AllByRecursion}
use Rattle.verilog_lexicon.specs.declared.word.Spanned.{Spanned}
use Rattle.verilog_lexicon.specs.Pieces.{words_of}
use Rattle.verilog_lexicon.specs.Words.{plain}
use Rattle.verilog_tree.specs.declared.tree.Module.{Module}
use Rattle.verilog_tree.specs.Sources.{Source}
use Rattle.verilog_tree.specs.WrittenWords.{source_words}
use Rattle.verilog_tree.specs.Trees.{IsSource, tree_of}
use Rattle.verilog_tree.specs.IsTree.{IsTree}
use Rattle.verilog_tree.specs.Texts.{SpellsText}

-- each tree that some text spells keeps the conditions
abbrev pub SpelledTreesKeepConditions : Type 0
SpelledTreesKeepConditions = (bytes : List ℕ) (tree : Module) → SpellsText bytes tree → IsTree tree

-- so do the trees of written modules whose words a text has, one after another
abbrev pub SpelledModulesKeepConditions : Type 0
SpelledModulesKeepConditions = (bytes : List ℕ) (words : List Spanned) (sources : List Source) → words_of bytes words → AllByRecursion IsSource sources
    → plain words ≡ flat_map source_words sources → AllByRecursion IsTree (map tree_of sources)
