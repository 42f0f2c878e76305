-- The canonical text, piece by piece.
use Rattle.std.proofs.Common.{◌≡◌, ℕ, List, [], ◌∷◌, ◌++◌, map, codes, flat_map, sym, ap, ◌∙◌, append_assoc}
use Rattle.std.proofs.lemmas.Grind.{flat_map-append}
use Rattle.cell_library.specs.declared.FlopKind.{FlopKind}
use Rattle.cell_library.specs.declared.listed.Step.{Step}
use Rattle.cell_library.specs.declared.listed.Body.TheVariants as body
use Rattle.cell_library.specs.Library.{flop_name}
use Rattle.word_cutter.specs.Rows.{behind_blank, row_text}
use Rattle.cell_text.specs.Words.{Words, step_word}
use Rattle.cell_text.specs.Grammar.{body_words}

five : (t g n k o i l one two three four last : List ℕ) → one ≡ t ++ (g ++ n) → two ≡ one ++ k → three ≡ two ++ o → four ≡ three ++ i → last ≡ four ++ l
    → last ≡ t ++ ((g ++ (n ++ (k ++ (o ++ i)))) ++ l)
five t g n k o i l one two three four last a b d e h = h ∙ rw (e, d, b, a) (simp append_assoc)

pub gate_text : (t one two three four last name output : List ℕ) (inputs : Words) (steps : List Step)
    → one ≡ t ++ (codes "gate" ++ behind_blank name) → two ≡ one ++ behind_blank output → three ≡ two ++ flat_map behind_blank inputs
    → four ≡ three ++ flat_map behind_blank (codes ":" ∷ map (step_word inputs) steps) → last ≡ four ++ codes "\n" → last ≡ t ++ row_text (body_words name output inputs (body.Gate steps))
gate_text t one two three four last name output inputs steps a b d e h =
    let words = codes ":" ∷ map (step_word inputs) steps in
    five t (codes "gate") (behind_blank name) (behind_blank output) (flat_map behind_blank inputs) (flat_map behind_blank words) (codes "\n") one two three four last a b d e h
    ∙ ap (λ (x : List ℕ). t ++ ((codes "gate" ++ (behind_blank name ++ (behind_blank output ++ x))) ++ codes "\n")) (sym (flat_map-append behind_blank inputs words))

pub flop_text : (t one two three four last name output : List ℕ) (inputs : Words) (kind : FlopKind)
    → one ≡ t ++ (codes "flop" ++ behind_blank name) → two ≡ one ++ behind_blank (flop_name kind.edge kind.reset) → three ≡ two ++ behind_blank output → four ≡ three ++ flat_map behind_blank inputs
    → last ≡ four ++ codes "\n" → last ≡ t ++ row_text (body_words name output inputs (body.Flop kind))
flop_text t one two three four last name output inputs kind a b d e h =
    five t (codes "flop") (behind_blank name) (behind_blank (flop_name kind.edge kind.reset)) (behind_blank output) (flat_map behind_blank inputs) (codes "\n") one two three four last a b d e h
