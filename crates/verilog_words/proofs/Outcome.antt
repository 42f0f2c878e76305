use Rattle.std.proofs.Common.{◌≡◌, ℕ, List, Option, ap, ◌∙◌}
use Rattle.verilog_lexicon.specs.declared.word.Spanned.{Spanned}
use Rattle.word_cutter.specs.Language.{outcome as machine_outcome}
use Rattle.verilog_words.specs.declared.mode.Mode.{Mode}
use Rattle.verilog_words.specs.Machine.{State, state, step, end}

-- the words of a text that goes on with these bytes and ends
abbrev pub outcome : ℕ → State → List ℕ → Option (List Spanned)
outcome at s bytes = machine_outcome step end at s bytes

-- the same place and the same pending bytes, spelled otherwise
pub same_outcome : (m : Mode) (words : List Spanned) (from : ℕ) (rest : List ℕ) (a b : ℕ) (p q : List ℕ) → a ≡ b → p ≡ q → outcome a (state words m from p) rest ≡ outcome b (state words m from q) rest
same_outcome m words from rest a b p q e f = ap (λ (x : ℕ). outcome x (state words m from p) rest) e ∙ ap (λ (x : List ℕ). outcome b (state words m from x) rest) f

pub same_place : (s : State) (rest : List ℕ) (a b : ℕ) → a ≡ b → outcome a s rest ≡ outcome b s rest
same_place s rest a b e = ap (λ (x : ℕ). outcome x s rest) e
