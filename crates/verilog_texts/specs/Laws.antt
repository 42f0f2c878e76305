-- What ties bytes to trees.
use Rattle.std.specs.Prelude.{◌≡◌, ℕ, List}
use Rattle.verilog_tree.specs.declared.tree.Module.{Module}
use Rattle.verilog_tree.specs.Texts.{SpellsText}
use Rattle.verilog_texts.specs.TextOutcome.{SpellsTrees}

-- bytes spell at most one tree
abbrev pub BytesSpellOneTree : Type 0
BytesSpellOneTree = (bytes : List ℕ) (one other : Module) → SpellsText bytes one → SpellsText bytes other → one ≡ other

-- and at most one list of trees
abbrev pub BytesSpellOneList : Type 0
BytesSpellOneList = (bytes : List ℕ) (one other : List Module) → SpellsTrees bytes one → SpellsTrees bytes other → one ≡ other
