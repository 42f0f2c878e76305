-- What is read from the bytes of a text.
-- IEEE Std 1364-2001: lexical conventions, modules and ports.
use Rattle.std.specs.Prelude.{◌≡◌, ℕ, List, length}
use Rattle.std.specs.List.{AllByRecursion}
use Rattle.verilog_lexicon.specs.declared.word.Spanned.{Spanned}
use Rattle.verilog_lexicon.specs.Pieces.{words_of, IsPlace}
use Rattle.verilog_lexicon.specs.Words.{WordText}
use Rattle.verilog_tree.specs.declared.tree.Module.{Module}
use Rattle.verilog_tree.specs.Texts.{SpellsModule, SpellsText}
use Rattle.verilog_tree.specs.IsTree.{IsTree}
use Rattle.verilog_modules.specs.Faults.{IsBadSyntax}
use Rattle.verilog_modules.specs.Texts.{SpellsModules, IsBadText}

-- The words of the bytes are these, and no others.
pub record HasWords (bytes : List ℕ) (text : WordText) : Type 0 where
  pub cut : words_of bytes text.list
  pub only : (words : List Spanned) → words_of bytes words → words ≡ text.list
  pub end_is : text.end ≡ length bytes

-- The words spell this tree, and no other.
pub record Spelled (text : WordText) (tree : Module) : Type 0 where
  pub spells : SpellsModule text.list tree
  pub only : (other : Module) → SpellsModule text.list other → other ≡ tree

-- The bytes spell this tree, and no other; it keeps the conditions of a tree.
pub record IsReadAs (bytes : List ℕ) (tree : Module) : Type 0 where
  pub spells : SpellsText bytes tree
  pub only : (other : Module) → SpellsText bytes other → other ≡ tree
  pub is : IsTree tree

-- The bytes have no words, and this is the place.
pub record IsBadWord (bytes : List ℕ) (place : ℕ) : Type 0 where
  pub none : (words : List Spanned) → words_of bytes words → ⊥
  pub place_is : IsPlace bytes place

-- The bytes have words, which are no module, and this is the word that can't stand, with its place.
pub record HasBadSyntax (bytes : List ℕ) (place word : ℕ) : Type 0 where
  pub text : WordText
  pub has : HasWords bytes text
  pub syntax : IsBadSyntax text place word

-- Several modules, one after another.

-- the bytes have words, which spell these trees
pub record SpellsTrees (bytes : List ℕ) (trees : List Module) : Type 0 where
  pub words : List Spanned
  pub cut : words_of bytes words
  pub spells : SpellsModules words trees

-- The words spell these trees, and no others.
pub record AreSpelled (text : WordText) (trees : List Module) : Type 0 where
  pub spells : SpellsModules text.list trees
  pub only : (others : List Module) → SpellsModules text.list others → others ≡ trees

-- The bytes spell these trees, and no others; each keeps the conditions of a tree.
pub record AreReadAs (bytes : List ℕ) (trees : List Module) : Type 0 where
  pub spells : SpellsTrees bytes trees
  pub only : (others : List Module) → SpellsTrees bytes others → others ≡ trees
  pub are : AllByRecursion IsTree trees

-- The bytes have words, which are no modules, and this is the word that can't stand, with its place.
pub record HasBadText (bytes : List ℕ) (place word : ℕ) : Type 0 where
  pub text : WordText
  pub has : HasWords bytes text
  pub syntax : IsBadText text place word
