-- Texts that are cut into pieces with known words, and how they are joined.
use Rattle.std.proofs.Common.{◌≡◌, ℕ, ◌+◌, List, [], ◌∷◌, ◌++◌, length, Bool, refl, sym, ap, subst, ◌∙◌, append_assoc}
use Rattle.std.specs.Prelude.{◌||◌, ◌==◌}
use Rattle.std.specs.List.{flat_map, AllByRecursion}
use Rattle.std.proofs.lemmas.List.{map-append, append-nil}
use Rattle.verilog_lexicon.specs.declared.word.Word.{Word}
use Rattle.verilog_lexicon.specs.declared.word.Spanned.{Spanned}
use Rattle.verilog_lexicon.specs.Bytes.{clings}
use Rattle.verilog_lexicon.specs.Words.{plain}
use Rattle.verilog_lexicon.specs.Pieces.{Piece, blank, line_comment, block_comment, attribute, line_directive, bare_directive, simple_name, escaped_name, number, constant, symbol, spelling, IsPiece, Ends, NotFirst, text_of, ArePieces, word_at, words_from, words_of}

-- the word that a piece is, if it is one
abbrev pub piece_words : Piece → List Word
piece_words p = plain (word_at 0 p)

plain-word_at : (at : ℕ) (p : Piece) → plain (word_at at p) ≡ piece_words p
plain-word_at at (blank b) = refl
plain-word_at at (line_comment bytes) = refl
plain-word_at at (block_comment bytes) = refl
plain-word_at at (attribute bytes) = refl
plain-word_at at (line_directive name text) = refl
plain-word_at at (bare_directive name) = refl
plain-word_at at (simple_name bytes) = refl
plain-word_at at (escaped_name bytes b) = refl
plain-word_at at (number digits) = refl
plain-word_at at (constant base value) = refl
plain-word_at at (symbol s) = refl

pub plain-words_from : (at : ℕ) (ps : List Piece) → plain (words_from at ps) ≡ flat_map piece_words ps
plain-words_from at [] = refl
plain-words_from at (p ∷ ps) =
    map-append (λ (s : Spanned). s.word) (word_at at p) (words_from (at + length (spelling p)) ps)
    ∙ ap (λ (ws : List Word). ws ++ plain (words_from (at + length (spelling p)) ps)) (plain-word_at at p)
    ∙ ap (λ (ws : List Word). piece_words p ++ ws) (plain-words_from (at + length (spelling p)) ps)

pub text_of-append : (ps qs : List Piece) → text_of (ps ++ qs) ≡ text_of ps ++ text_of qs
text_of-append [] qs = refl
text_of-append (p ∷ ps) qs = ap (λ (t : List ℕ). spelling p ++ t) (text_of-append ps qs) ∙ sym (append_assoc (spelling p) (text_of ps) (text_of qs))

pub flat_map_pieces-append : (ps qs : List Piece) → flat_map piece_words (ps ++ qs) ≡ flat_map piece_words ps ++ flat_map piece_words qs
flat_map_pieces-append [] qs = refl
flat_map_pieces-append (p ∷ ps) qs = ap (λ (t : List Word). piece_words p ++ t) (flat_map_pieces-append ps qs) ∙ sym (append_assoc (piece_words p) (flat_map piece_words ps) (flat_map piece_words qs))

-- each piece is one of the grammar and ends where it ends, before these bytes
abbrev pub AreBefore : List Piece → List ℕ → Type 0
AreBefore [] rest = Unit {0}
AreBefore (p ∷ ps) rest = IsPiece p × Ends p (text_of ps ++ rest) × AreBefore ps rest

are_before_append : (ps qs : List Piece) (rest : List ℕ) → AreBefore ps (text_of qs ++ rest) → AreBefore qs rest → AreBefore (ps ++ qs) rest
are_before_append [] qs rest first second = second
are_before_append (p ∷ ps) qs rest first second = (
  first.0,
  subst (λ (t : List ℕ). Ends p t) (sym (append_assoc (text_of ps) (text_of qs) rest) ∙ ap (λ (t : List ℕ). t ++ rest) (sym (text_of-append ps qs))) first.1,
  are_before_append ps qs rest first.2 second,
)

pub are_pieces : (ps : List Piece) → AreBefore ps [] → ArePieces ps
are_pieces [] are = tt
are_pieces (p ∷ ps) are = (are.0, subst (λ (t : List ℕ). Ends p t) (append-nil (text_of ps)) are.1, are_pieces ps are.2)

-- What may follow: anything; no star; nothing that goes on with a word, and no star.
abbrev pub Anything : List ℕ → Type 0
Anything rest = Unit {0}

abbrev pub NoStar : List ℕ → Type 0
NoStar rest = NotFirst (λ c. c == 42) rest

abbrev pub goes_on : ℕ → Bool
goes_on b = clings b || b == 42

abbrev pub Apart : List ℕ → Type 0
Apart rest = NotFirst goes_on rest

-- The text is cut into pieces with these words, before whatever may follow.
pub record Cut (MayFollow : List ℕ → Type 0) (text : List ℕ) (words : List Word) : Type 0 where
  pub pieces : List Piece
  pub text_is : text_of pieces ≡ text
  pub words_are : flat_map piece_words pieces ≡ words
  pub are : (rest : List ℕ) → MayFollow rest → AreBefore pieces rest

-- two texts, one after the other
pub joined : {F G : List ℕ → Type 0} {t u : List ℕ} {w v : List Word} → Cut F t w → Cut G u v → ((rest : List ℕ) → G rest → F (u ++ rest)) → Cut G (t ++ u) (w ++ v)
joined {F} {G} {t} {u} {w} {v} first second follows = record {
  pieces = first.pieces ++ second.pieces;
  text_is = text_of-append first.pieces second.pieces ∙ ap (λ (x : List ℕ). x ++ text_of second.pieces) first.text_is ∙ ap (λ (x : List ℕ). t ++ x) second.text_is;
  words_are = flat_map_pieces-append first.pieces second.pieces ∙ ap (λ (x : List Word). x ++ flat_map piece_words second.pieces) first.words_are ∙ ap (λ (x : List Word). w ++ x) second.words_are;
  are = λ rest may. are_before_append first.pieces second.pieces rest
      (first.are (text_of second.pieces ++ rest) (subst (λ (x : List ℕ). F (x ++ rest)) (sym second.text_is) (follows rest may)))
      (second.are rest may);
}

-- the same words, written otherwise
pub with_words : {F : List ℕ → Type 0} {t : List ℕ} {w : List Word} (v : List Word) → Cut F t w → w ≡ v → Cut F t v
with_words v cut is = record { pieces = cut.pieces; text_is = cut.text_is; words_are = cut.words_are ∙ is; are = cut.are }

-- what follows may be less
pub narrowed : {F G : List ℕ → Type 0} {t : List ℕ} {w : List Word} → Cut F t w → ((rest : List ℕ) → G rest → F rest) → Cut G t w
narrowed cut less = record { pieces = cut.pieces; text_is = cut.text_is; words_are = cut.words_are; are = λ rest may. cut.are rest (less rest may) }

-- the second text has no words
pub spaced : {F G : List ℕ → Type 0} {t u : List ℕ} {w : List Word} → Cut F t w → Cut G u [] → ((rest : List ℕ) → G rest → F (u ++ rest)) → Cut G (t ++ u) w
spaced {w = w} first second follows = with_words w (joined first second follows) (append-nil w)

pub nothing : {F : List ℕ → Type 0} → Cut F [] []
nothing = record { pieces = []; text_is = refl; words_are = refl; are = λ rest may. tt }

-- one piece
pub one_piece : {F : List ℕ → Type 0} (p : Piece) → IsPiece p → ((rest : List ℕ) → F rest → Ends p rest) → Cut F (spelling p) (piece_words p)
one_piece p is ends = record {
  pieces = p ∷ [];
  text_is = append-nil (spelling p);
  words_are = append-nil (piece_words p);
  are = λ rest may. (is, ends rest may, tt);
}

-- a text that is cut whatever follows has the words of its pieces
pub cut_whole : {t : List ℕ} {w : List Word} → Cut Anything t w → (ws : List Spanned) × words_of t ws × (plain ws ≡ w)
cut_whole cut = (
  words_from 0 cut.pieces,
  record { pieces = cut.pieces; are = are_pieces cut.pieces (cut.are [] tt); text = sym cut.text_is; words_are = refl },
  plain-words_from 0 cut.pieces ∙ cut.words_are,
)

-- each text is cut whatever follows
pub each_cut : {A : Type 0} {P : A → Type 0} (text : A → List ℕ) (words : A → List Word) → ((x : A) → P x → Cut Anything (text x) (words x)) → (xs : List A) → AllByRecursion P xs → Cut Anything (flat_map text xs) (flat_map words xs)
each_cut text words one [] all = nothing
each_cut text words one (x ∷ xs) all = joined (one x all.0) (each_cut text words one xs all.1) (λ rest may. tt)
