-- What ties reading to the words of written modules.
use Rattle.std.specs.Prelude.{◌≡◌, ℕ, ◌+◌, ◌-◌, ◌<◌, ◌≤◌, List, [], ◌∷◌, ◌++◌, length, take, Some, None}
use Rattle.std.specs.List.{flat_map, AllByRecursion}
use Rattle.verilog_lexicon.specs.declared.word.Word.{Word}
use Rattle.verilog_tree.specs.Sources.{Source}
use Rattle.verilog_tree.specs.WrittenWords.{source_words}
use Rattle.verilog_tree.specs.Trees.{IsSource}
use Rattle.verilog_tree.specs.Reader.{source_at, modules_at}

-- The words of a module that keeps the rules are read as it.
abbrev pub ReadsEachSource : Type 0
ReadsEachSource = (s : Source) → IsSource s → source_at (source_words s) ≡ (Some s, [])

-- What is read is such a module, and these are its words.
abbrev pub ReadsOnlySources : Type 0
ReadsOnlySources = (ws : List Word) (s : Source) (left : List Word) → source_at ws ≡ (Some s, left) → (left ≡ []) × (ws ≡ source_words s) × IsSource s

-- Words spell one module at most.
abbrev pub SpellsOneSource : Type 0
SpellsOneSource = (s t : Source) → IsSource s → IsSource t → source_words s ≡ source_words t → s ≡ t

-- Where reading stops at a fault, the words spell no module.
abbrev pub FaultsSpellNothing : Type 0
FaultsSpellNothing = (ws left : List Word) (s : Source) → source_at ws ≡ (None, left) → IsSource s → ws ≡ source_words s → ⊥

-- a module's words that begin with these; its names and numbers may be such as no text spells, which matters for no
-- words that come from a text
pub record Begun (ws : List Word) : Type 0 where
  pub source : Source
  pub keeps : IsSource source
  pub more : List Word
  pub begins : source_words source ≡ ws ++ more

-- The word of a syntax fault, by its number: some module's words begin with the words before it, and no module's go on
-- with it. Past the last word, it is the count of words.
pub record IsFaultWord (ws : List Word) (u : ℕ) : Type 0 where
  pub within : u ≤ length ws
  pub begun : Begun (take u ws)
  pub greatest : (v : ℕ) → u < v → v ≤ length ws → Begun (take v ws) → ⊥

-- Where reading stops at a fault, it stops at the fault's word.
abbrev pub FaultsAtFaultWord : Type 0
FaultsAtFaultWord = (ws left : List Word) → source_at ws ≡ (None, left) → IsFaultWord ws (length ws - length left)

-- Several modules, one after another.

abbrev pub text_words : Source → List Source → List Word
text_words first more = flat_map source_words (first ∷ more)

-- The words of modules that keep the rules are read as them.
abbrev pub ReadsEachText : Type 0
ReadsEachText = (first : Source) (more : List Source) → AllByRecursion IsSource (first ∷ more) → modules_at (text_words first more) ≡ (Some (first, more), [])

-- What is read are such modules, and these are their words.
abbrev pub ReadsOnlyTexts : Type 0
ReadsOnlyTexts = (ws : List Word) (first : Source) (more : List Source) (left : List Word) → modules_at ws ≡ (Some (first, more), left)
    → (left ≡ []) × (ws ≡ text_words first more) × AllByRecursion IsSource (first ∷ more)

-- the words of modules, of which there is one at least, begin with these
pub record BegunText (ws : List Word) : Type 0 where
  pub first : Source
  pub others : List Source
  pub keep : AllByRecursion IsSource (first ∷ others)
  pub more : List Word
  pub begins : text_words first others ≡ ws ++ more

-- The word of a syntax fault in a text of several modules, by its number: the words before it begin such a text, and no
-- such text goes on with it. Past the last word, it is the count of words.
pub record IsTextFaultWord (ws : List Word) (u : ℕ) : Type 0 where
  pub within : u ≤ length ws
  pub begun : BegunText (take u ws)
  pub greatest : (v : ℕ) → u < v → v ≤ length ws → BegunText (take v ws) → ⊥

-- Where reading of several modules stops at a fault, it stops at the fault's word.
abbrev pub FaultsAtTextFaultWord : Type 0
FaultsAtTextFaultWord = (ws left : List Word) → modules_at ws ≡ (None, left) → IsTextFaultWord ws (length ws - length left)
