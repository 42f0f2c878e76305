-- own: what is seen of a line while its words are cut off.
use Rattle.std.specs.Prelude.{ℕ, Bool, false, List, [], ◌∷◌}
use Rattle.word_cutter.specs.LinesWords.{is_blank_byte}

-- the words from a first one on; no bytes are no word
abbrev pub after_word : List ℕ → List (List ℕ) → List (List ℕ)
after_word [] words = words
after_word (b ∷ bytes) words = (b ∷ bytes) ∷ words

-- the line begins with a blank
abbrev pub begins_blank : List ℕ → Bool
begins_blank [] = false
begins_blank (b ∷ bytes) = is_blank_byte b
