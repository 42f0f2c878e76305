use Rattle.std.proofs.Common.{◌≡◌, ◌++◌, ℕ, List, Bor, map, take}
use Rattle.std.specs.List.{flat_map}
use Rattle.output_lines.specs.Lines.{blank_word}
use Rattle.output_lines.proofs.text.add_words.Given as goal

abbrev pub invariant-loop-word : goal.invariant-loop-word
invariant-loop-word l = l.text ≡ l.fn.text ++ flat_map blank_word (map (λ (w : Bor (List ℕ)). w.now) (take l.word-index l.words))
