-- What words and what bytes spell a module's tree.
-- IEEE Std 1364-2001: lexical conventions, modules and ports.
use Rattle.std.specs.Prelude.{◌≡◌, ℕ, List}
use Rattle.verilog_lexicon.specs.declared.word.Spanned.{Spanned}
use Rattle.verilog_lexicon.specs.Pieces.{words_of}
use Rattle.verilog_lexicon.specs.Words.{plain}
use Rattle.verilog_tree.specs.declared.tree.Module.{Module}
use Rattle.verilog_tree.specs.Sources.{Source}
use Rattle.verilog_tree.specs.WrittenWords.{source_words}
use Rattle.verilog_tree.specs.Trees.{IsSource, tree_of}

-- some written module has these words and this tree
pub record SpellsModule (words : List Spanned) (tree : Module) : Type 0 where
  pub source : Source
  pub keeps_rules : IsSource source
  pub words_are : plain words ≡ source_words source
  pub tree_is : tree ≡ tree_of source

-- the bytes have words, which spell this tree
pub record SpellsText (bytes : List ℕ) (tree : Module) : Type 0 where
  pub words : List Spanned
  pub cut : words_of bytes words
  pub spells : SpellsModule words tree
