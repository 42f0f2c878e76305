-- A file's text as a list of atoms: their pieces, and the patterns that they are.
use Rattle.std.proofs.Common.{◌≡◌, ℕ, ◌+◌, ◌-◌, ◌*◌, ◌^◌, ◌<◌, List, [], ◌∷◌, ◌++◌, Bool, true, false, Option, Some, None, map, length, refl, ap, ◌∙◌, arith, append_assoc, lit<}
use Rattle.std.specs.Prelude.{◌==◌, ◌&&◌, not, IsTrue, if◌then◌else◌}
use Rattle.std.specs.List.{list_all, flat_map, AllByRecursion}
use Rattle.std.specs.Fmt.{decimal}
use Rattle.std.proofs.lemmas.Fmt.{length-decimal-le, decimal_nonempty}
use Rattle.list_laws.proofs.Tests.{and_left, and_right, not_true}
use Rattle.list_laws.proofs.Digits.{decimal_digits}
use Rattle.bsdl_lexicon.specs.declared.token.BsdlToken.TheVariants as word
use Rattle.bsdl_lexicon.specs.declared.symbol.BsdlSymbol.{BsdlSymbol}
use Rattle.bsdl_lexicon.specs.declared.symbol.BsdlSymbol.TheVariants.{LeftParenthesis, RightParenthesis, Colon, Semicolon, Comma, Ampersand, Dot}
use Rattle.bsdl_lexicon.specs.Bytes.{is_blank, is_name_byte, is_digit, clings, is_quotable}
use Rattle.bsdl_lexicon.specs.Reserved.{is_reserved}
use Rattle.bsdl_lexicon.specs.Words.{plain, symbol_byte}
use Rattle.bsdl_lexicon.specs.Pieces as piece
use Rattle.bsdl_lexicon.specs.Pieces.{Piece, spelling, IsPiece, Ends, NotFirst, text_of, ArePieces, IsIdentifier, IsReal, value_from, words_from}
use Rattle.bsdl_device.specs.Shape.{Pattern, KeyWord, NameOf, IntegerOf, RealOf, StringOf, Mark, BecomesMark, Fits, Matches}
use Rattle.bsdl_device.specs.Runs.{is_identifier, value_after}
use Rattle.bsdl_device.proofs.Identifiers.{identifier_from}
use Rattle.bsdl_device.proofs.RoundTripNames.{same_self}

pub data FileAtom : Type 0 where
  Blank : ℕ → FileAtom
  Key : List ℕ → FileAtom
  Name : List ℕ → FileAtom
  Integer : ℕ → FileAtom
  Real : List ℕ → FileAtom
  String : List ℕ → FileAtom
  Symbol : BsdlSymbol → FileAtom
  Becomes : FileAtom

abbrev pub piece_of : FileAtom → Piece
piece_of (Blank b) = piece.blank b
piece_of (Key word) = piece.identifier word
piece_of (Name name) = piece.identifier name
piece_of (Integer value) = piece.integer (decimal value)
piece_of (Real bytes) = piece.real bytes
piece_of (String bytes) = piece.quoted bytes
piece_of (Symbol s) = piece.symbol s
piece_of Becomes = piece.becomes

abbrev pub file_patterns : FileAtom → List Pattern
file_patterns (Blank b) = []
file_patterns (Key word) = KeyWord word ∷ []
file_patterns (Name name) = NameOf name ∷ []
file_patterns (Integer value) = IntegerOf value ∷ []
file_patterns (Real bytes) = RealOf bytes ∷ []
file_patterns (String bytes) = StringOf bytes ∷ []
file_patterns (Symbol s) = Mark s ∷ []
file_patterns Becomes = BecomesMark ∷ []

abbrev pub is_string : List ℕ → Bool
is_string bytes = list_all is_quotable bytes

-- a blank, which ends every word
abbrev pub is_space : ℕ → Bool
is_space b = is_blank b && not (is_name_byte b) && not (clings b) && not (b == 61)

abbrev pub IsFileAtom : FileAtom → Type 0
IsFileAtom (Blank b) = is_space b ≡ true
IsFileAtom (Key word) = is_identifier word ≡ true
IsFileAtom (Name name) = IsIdentifier name × (is_reserved name ≡ false)
IsFileAtom (Integer value) = value < 10 ^ 9
IsFileAtom (Real bytes) = IsReal bytes
IsFileAtom (String bytes) = is_string bytes ≡ true
IsFileAtom (Symbol s) = Unit {0}
IsFileAtom Becomes = Unit {0}

-- what may follow an atom
pub data Ending : Type 0 where
  Free : Ending
  BehindName : Ending
  BehindNumber : Ending
  BehindColon : Ending

abbrev pub symbol_ending : BsdlSymbol → Ending
symbol_ending LeftParenthesis = Free
symbol_ending RightParenthesis = Free
symbol_ending Colon = BehindColon
symbol_ending Semicolon = Free
symbol_ending Comma = Free
symbol_ending Ampersand = Free
symbol_ending Dot = Free

abbrev pub ending : FileAtom → Ending
ending (Blank b) = Free
ending (Key word) = BehindName
ending (Name name) = BehindName
ending (Integer value) = BehindNumber
ending (Real bytes) = BehindName
ending (String bytes) = Free
ending (Symbol s) = symbol_ending s
ending Becomes = Free

abbrev pub symbol_goes : Ending → BsdlSymbol → Bool
symbol_goes Free s = true
symbol_goes BehindName s = true
symbol_goes BehindColon s = false
symbol_goes BehindNumber LeftParenthesis = true
symbol_goes BehindNumber RightParenthesis = true
symbol_goes BehindNumber Colon = true
symbol_goes BehindNumber Semicolon = true
symbol_goes BehindNumber Comma = true
symbol_goes BehindNumber Ampersand = true
symbol_goes BehindNumber Dot = false

abbrev pub is_free : Ending → Bool
is_free Free = true
is_free BehindName = false
is_free BehindNumber = false
is_free BehindColon = false

abbrev pub goes : Ending → FileAtom → Bool
goes e (Blank b) = true
goes e (Key word) = is_free e
goes e (Name name) = is_free e
goes e (Integer value) = is_free e
goes e (Real bytes) = is_free e
goes e (String bytes) = is_free e
goes e (Symbol s) = symbol_goes e s
goes e Becomes = is_free e

abbrev pub fitting : Ending → List FileAtom → Bool
fitting e [] = true
fitting e (a ∷ atoms) = goes e a && fitting (ending a) atoms

abbrev pub pieces_of : List FileAtom → List Piece
pieces_of atoms = map piece_of atoms

abbrev pub patterns_of : List FileAtom → List Pattern
patterns_of atoms = flat_map file_patterns atoms

-- the text of atoms, before another
abbrev pub text_then : List FileAtom → List ℕ → List ℕ
text_then [] rest = rest
text_then (Blank b ∷ atoms) rest = b ∷ text_then atoms rest
text_then (Key word ∷ atoms) rest = word ++ text_then atoms rest
text_then (Name name ∷ atoms) rest = name ++ text_then atoms rest
text_then (Integer value ∷ atoms) rest = decimal value ++ text_then atoms rest
text_then (Real bytes ∷ atoms) rest = bytes ++ text_then atoms rest
text_then (String bytes ∷ atoms) rest = 34 ∷ (bytes ++ (34 ∷ text_then atoms rest))
text_then (Symbol s ∷ atoms) rest = symbol_byte s ∷ text_then atoms rest
text_then (Becomes ∷ atoms) rest = 58 ∷ 61 ∷ text_then atoms rest

pub text_of-atoms : (atoms : List FileAtom) → text_of (pieces_of atoms) ≡ text_then atoms []
text_of-atoms [] = refl
text_of-atoms (Blank b ∷ atoms) = ap (λ (t : List ℕ). b ∷ t) (text_of-atoms atoms)
text_of-atoms (Key word ∷ atoms) = ap (λ (t : List ℕ). word ++ t) (text_of-atoms atoms)
text_of-atoms (Name name ∷ atoms) = ap (λ (t : List ℕ). name ++ t) (text_of-atoms atoms)
text_of-atoms (Integer value ∷ atoms) = ap (λ (t : List ℕ). decimal value ++ t) (text_of-atoms atoms)
text_of-atoms (Real bytes ∷ atoms) = ap (λ (t : List ℕ). bytes ++ t) (text_of-atoms atoms)
text_of-atoms (String bytes ∷ atoms) = ap (λ (t : List ℕ). 34 ∷ t) (append_assoc bytes (34 ∷ []) (text_of (pieces_of atoms)) ∙ ap (λ (t : List ℕ). bytes ++ (34 ∷ t)) (text_of-atoms atoms))
text_of-atoms (Symbol s ∷ atoms) = ap (λ (t : List ℕ). symbol_byte s ∷ t) (text_of-atoms atoms)
text_of-atoms (Becomes ∷ atoms) = ap (λ (t : List ℕ). 58 ∷ 61 ∷ t) (text_of-atoms atoms)

pub text_then-append : (xs ys : List FileAtom) (rest : List ℕ) → text_then (xs ++ ys) rest ≡ text_then xs (text_then ys rest)
text_then-append [] ys rest = refl
text_then-append (Blank b ∷ xs) ys rest = ap (λ (t : List ℕ). b ∷ t) (text_then-append xs ys rest)
text_then-append (Key word ∷ xs) ys rest = ap (λ (t : List ℕ). word ++ t) (text_then-append xs ys rest)
text_then-append (Name name ∷ xs) ys rest = ap (λ (t : List ℕ). name ++ t) (text_then-append xs ys rest)
text_then-append (Integer value ∷ xs) ys rest = ap (λ (t : List ℕ). decimal value ++ t) (text_then-append xs ys rest)
text_then-append (Real bytes ∷ xs) ys rest = ap (λ (t : List ℕ). bytes ++ t) (text_then-append xs ys rest)
text_then-append (String bytes ∷ xs) ys rest = ap (λ (t : List ℕ). 34 ∷ (bytes ++ (34 ∷ t))) (text_then-append xs ys rest)
text_then-append (Symbol s ∷ xs) ys rest = ap (λ (t : List ℕ). symbol_byte s ∷ t) (text_then-append xs ys rest)
text_then-append (Becomes ∷ xs) ys rest = ap (λ (t : List ℕ). 58 ∷ 61 ∷ t) (text_then-append xs ys rest)

-- What follows.

abbrev Follows : Ending → List ℕ → Type 0
Follows Free rest = Unit {0}
Follows BehindName rest = NotFirst is_name_byte rest
Follows BehindNumber rest = NotFirst clings rest
Follows BehindColon rest = NotFirst (λ c. c == 61) rest

blank_follows : (e : Ending) (b : ℕ) (rest : List ℕ) → is_space b ≡ true → Follows e (b ∷ rest)
blank_follows Free b rest h = tt
blank_follows BehindName b rest h = not_true (is_name_byte b) (and_right (is_blank b) (not (is_name_byte b)) (and_left (is_blank b && not (is_name_byte b)) (not (clings b)) (and_left (is_blank b && not (is_name_byte b) && not (clings b)) (not (b == 61)) h)))
blank_follows BehindNumber b rest h = not_true (clings b) (and_right (is_blank b && not (is_name_byte b)) (not (clings b)) (and_left (is_blank b && not (is_name_byte b) && not (clings b)) (not (b == 61)) h))
blank_follows BehindColon b rest h = not_true (b == 61) (and_right (is_blank b && not (is_name_byte b) && not (clings b)) (not (b == 61)) h)

symbol_follows : (e : Ending) (s : BsdlSymbol) (rest : List ℕ) → symbol_goes e s ≡ true → Follows e (symbol_byte s ∷ rest)
symbol_follows Free s rest h = tt
symbol_follows BehindName LeftParenthesis rest h = refl
symbol_follows BehindName RightParenthesis rest h = refl
symbol_follows BehindName Colon rest h = refl
symbol_follows BehindName Semicolon rest h = refl
symbol_follows BehindName Comma rest h = refl
symbol_follows BehindName Ampersand rest h = refl
symbol_follows BehindName Dot rest h = refl
symbol_follows BehindNumber LeftParenthesis rest h = refl
symbol_follows BehindNumber RightParenthesis rest h = refl
symbol_follows BehindNumber Colon rest h = refl
symbol_follows BehindNumber Semicolon rest h = refl
symbol_follows BehindNumber Comma rest h = refl
symbol_follows BehindNumber Ampersand rest h = refl
symbol_follows BehindNumber Dot rest h = absurd (cc)
symbol_follows BehindColon s rest h = absurd (cc)

free_follows : (e : Ending) (rest : List ℕ) → is_free e ≡ true → Follows e rest
free_follows Free rest h = tt
free_follows BehindName rest h = absurd (cc)
free_follows BehindNumber rest h = absurd (cc)
free_follows BehindColon rest h = absurd (cc)

nothing_follows : (e : Ending) → Follows e []
nothing_follows Free = tt
nothing_follows BehindName = tt
nothing_follows BehindNumber = tt
nothing_follows BehindColon = tt

follows : (e : Ending) (atoms : List FileAtom) → AllByRecursion IsFileAtom atoms → fitting e atoms ≡ true → Follows e (text_of (pieces_of atoms))
follows e [] all h = nothing_follows e
follows e (Blank b ∷ atoms) all h = blank_follows e b (text_of (pieces_of atoms)) all.0
follows e (Symbol s ∷ atoms) all h = symbol_follows e s (text_of (pieces_of atoms)) (and_left (symbol_goes e s) (fitting (symbol_ending s) atoms) h)
follows e (Key word ∷ atoms) all h = free_follows e (text_of (pieces_of (Key word ∷ atoms))) (and_left (is_free e) (fitting BehindName atoms) h)
follows e (Name name ∷ atoms) all h = free_follows e (text_of (pieces_of (Name name ∷ atoms))) (and_left (is_free e) (fitting BehindName atoms) h)
follows e (Integer value ∷ atoms) all h = free_follows e (text_of (pieces_of (Integer value ∷ atoms))) (and_left (is_free e) (fitting BehindNumber atoms) h)
follows e (Real bytes ∷ atoms) all h = free_follows e (text_of (pieces_of (Real bytes ∷ atoms))) (and_left (is_free e) (fitting BehindName atoms) h)
follows e (String bytes ∷ atoms) all h = free_follows e (text_of (pieces_of (String bytes ∷ atoms))) (and_left (is_free e) (fitting Free atoms) h)
follows e (Becomes ∷ atoms) all h = free_follows e (text_of (pieces_of (Becomes ∷ atoms))) (and_left (is_free e) (fitting Free atoms) h)

-- Pieces.

all_from : (p : ℕ → Bool) (bs : List ℕ) → list_all p bs ≡ true → AllByRecursion (λ c. IsTrue (p c)) bs
all_from p [] h = tt
all_from p (b ∷ bs) h = (and_left (p b) (list_all p bs) h, all_from p bs (and_right (p b) (list_all p bs) h))

value_same : (n : ℕ) (ds : List ℕ) → value_from n ds ≡ value_after 10 n ds
value_same n [] = refl
value_same n (d ∷ ds) = value_same (10 * n + (d - 48)) ds

is_piece : (a : FileAtom) → IsFileAtom a → IsPiece (piece_of a)
is_piece (Blank b) is = and_left (is_blank b) (not (is_name_byte b)) (and_left (is_blank b && not (is_name_byte b)) (not (clings b)) (and_left (is_blank b && not (is_name_byte b) && not (clings b)) (not (b == 61)) is))
is_piece (Key word) is = identifier_from word is
is_piece (Name name) is = is.0
is_piece (Integer value) is = let fits : value < 2 ^ 64 = omega arith in ((decimal_nonempty value fits, all_from is_digit (decimal value) (decimal_digits value fits).digits), length-decimal-le 9 value (lit< tt) is fits)
is_piece (Real bytes) is = is
is_piece (String bytes) is = all_from is_quotable bytes is
is_piece (Symbol s) is = tt
is_piece Becomes is = tt

symbol_ends : (s : BsdlSymbol) (rest : List ℕ) → Follows (symbol_ending s) rest → piece.EndsSymbol s rest
symbol_ends LeftParenthesis rest h = tt
symbol_ends RightParenthesis rest h = tt
symbol_ends Colon rest h = h
symbol_ends Semicolon rest h = tt
symbol_ends Comma rest h = tt
symbol_ends Ampersand rest h = tt
symbol_ends Dot rest h = tt

piece_ends : (a : FileAtom) (rest : List ℕ) → Follows (ending a) rest → Ends (piece_of a) rest
piece_ends (Blank b) rest h = tt
piece_ends (Key word) rest h = h
piece_ends (Name name) rest h = h
piece_ends (Integer value) rest h = h
piece_ends (Real bytes) rest h = h
piece_ends (String bytes) rest h = tt
piece_ends (Symbol s) rest h = symbol_ends s rest h
piece_ends Becomes rest h = tt

pub are_pieces : (e : Ending) (atoms : List FileAtom) → AllByRecursion IsFileAtom atoms → fitting e atoms ≡ true → ArePieces (pieces_of atoms)
are_pieces e [] all h = tt
are_pieces e (a ∷ atoms) all h =
    let rest = and_right (goes e a) (fitting (ending a) atoms) h in
    (is_piece a all.0, piece_ends a (text_of (pieces_of atoms)) (follows (ending a) atoms all.1 rest), are_pieces (ending a) atoms all.1 rest)

-- Words.

name_fits : (name : List ℕ) → is_reserved name ≡ false → (if is_reserved name then None else Some name) ≡ Some name
name_fits name h = ap (λ (x : Bool). if x then None else Some name) h

integer_fits : (value : ℕ) → value < 10 ^ 9 → ◌≡◌ {A = Option ℕ} (Some (value_from 0 (decimal value))) (Some value)
integer_fits value low = ap (λ (v : ℕ). Some v) (value_same 0 (decimal value) ∙ (decimal_digits value (omega arith)).value)

symbol_fits : (t : BsdlSymbol) → Fits (Mark t) (word.Symbol t)
symbol_fits LeftParenthesis = refl
symbol_fits RightParenthesis = refl
symbol_fits Colon = refl
symbol_fits Semicolon = refl
symbol_fits Comma = refl
symbol_fits Ampersand = refl
symbol_fits Dot = refl

pub atoms_match : (at : ℕ) (atoms : List FileAtom) → AllByRecursion IsFileAtom atoms → Matches (patterns_of atoms) (plain (words_from at (pieces_of atoms)))
atoms_match at [] all = tt
atoms_match at (Blank b ∷ atoms) all = atoms_match (at + length (spelling (piece.blank b))) atoms all.1
atoms_match at (Key word ∷ atoms) all = (ap (λ (x : Bool). if x then Some tt else None) (same_self word), atoms_match (at + length (spelling (piece.identifier word))) atoms all.1)
atoms_match at (Name name ∷ atoms) all = (name_fits name all.0.1, atoms_match (at + length (spelling (piece.identifier name))) atoms all.1)
atoms_match at (Integer value ∷ atoms) all = (
  integer_fits value all.0,
  atoms_match (at + length (spelling (piece.integer (decimal value)))) atoms all.1,
)
atoms_match at (Real bytes ∷ atoms) all = (refl, atoms_match (at + length (spelling (piece.real bytes))) atoms all.1)
atoms_match at (String bytes ∷ atoms) all = (refl, atoms_match (at + length (spelling (piece.quoted bytes))) atoms all.1)
atoms_match at (Symbol s ∷ atoms) all = (symbol_fits s, atoms_match (at + length (spelling (piece.symbol s))) atoms all.1)
atoms_match at (Becomes ∷ atoms) all = (refl, atoms_match (at + length (spelling piece.becomes)) atoms all.1)
