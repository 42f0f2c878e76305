-- How the expectations that aren't met are merged with the lines. Own.
use Rattle.std.specs.Prelude.{◌≡◌, ℕ, ◌==◌, ◌⊎◌, List, [], ◌∷◌, if◌then◌else◌}
use Rattle.sim_runs.specs.Outputs.{missed_line}
use Rattle.conformance_report.specs.declared.verdict.Missed.{Missed}

-- the expectations are of lines with some of these numbers, in their order
abbrev pub AreWithin : List Missed → List ℕ → Type 0
AreWithin [] numbers = Unit {0}
AreWithin (miss ∷ misses) [] = ⊥
AreWithin (miss ∷ misses) (number ∷ numbers) =
    ((miss.line ≡ number) × AreWithin misses numbers) ⊎ AreWithin (miss ∷ misses) numbers

-- the expectations behind the line with this number
abbrev pub misses_behind : ℕ → List Missed → List Missed
misses_behind number [] = []
misses_behind number (miss ∷ misses) = if miss.line == number then misses else miss ∷ misses

-- what is put at the line with this number and this word
abbrev pub text_at : ℕ → List ℕ → List Missed → List ℕ
text_at number word [] = []
text_at number word (miss ∷ misses) = if miss.line == number then missed_line miss.line word miss.want miss.got else []
