-- Names, numbers, reserved words and symbols of the canonical text, cut into pieces.
use Rattle.std.proofs.Common.{◌≡◌, ℕ, ◌+◌, ◌-◌, ◌*◌, ◌/◌, ◌%◌, ◌^◌, ◌<◌, ◌≤◌, List, [], ◌∷◌, ◌++◌, length, Bool, true, false, Option, Some, None, refl, ap, ◌∙◌, arith, lit≤, lit<}
use Rattle.std.specs.Prelude.{◌||◌, ◌==◌, IsTrue, if◌then◌else◌, codes, is_none}
use Rattle.std.specs.Bool.{IsFalse}
use Rattle.std.specs.List.{AllByRecursion, list_all}
use Rattle.std.specs.Fmt.{decimal}
use Rattle.std.proofs.lemmas.Fmt.{decimal_by_steps, length-decimal-le, decimal_nonempty}
use Rattle.list_laws.proofs.Tests.{and_left, and_right}
use Rattle.list_laws.proofs.Lists.{all_from_list_all}
use Rattle.verilog_lexicon.specs.declared.word.Word.{Word}
use Rattle.verilog_lexicon.specs.declared.word.Word.TheVariants as word
use Rattle.verilog_lexicon.specs.declared.reserved.Reserved.{Reserved}
use Rattle.verilog_lexicon.specs.declared.reserved.Reserved.TheVariants as key
use Rattle.verilog_lexicon.specs.Bytes.{clings, is_letter, is_digit, is_name_byte, is_escaped_byte, is_simple_name}
use Rattle.verilog_lexicon.specs.Keywords.{spelling_of, reserved_of, name_word}
use Rattle.verilog_lexicon.specs.Pieces.{simple_name, escaped_name, number, IsName, NotFirst, value_from}
use Rattle.verilog_tree.specs.declared.tree.Dir.{Dir}
use Rattle.verilog_tree.specs.declared.tree.Dir.TheVariants as dir
use Rattle.verilog_tree.specs.declared.tree.GateKind.{GateKind}
use Rattle.verilog_tree.specs.declared.tree.GateKind.TheVariants as gate
use Rattle.verilog_tree.specs.WrittenWords.{key_of_dir, key_of_gate}
use Rattle.verilog_tree.specs.IsTree.{IsVisible, IsTreeName, IsTreeNumber}
use Rattle.verilog_tree.specs.Canonical.{is_plain, name_text}
use Rattle.verilog_texts.proofs.Cuts.{Cut, Apart, NoStar, one_piece, with_words}

or_left : (a b : Bool) → IsFalse (a || b) → IsFalse a
or_left true b h = h
or_left false b h = refl

or_right : (a b : Bool) → IsFalse (a || b) → IsFalse b
or_right true b h = cc
or_right false b h = h

pub apart_clings : (rest : List ℕ) → Apart rest → NotFirst clings rest
apart_clings [] h = tt
apart_clings (b ∷ rest) h = or_left (clings b) (b == 42) h

pub apart_name : (rest : List ℕ) → Apart rest → NotFirst is_name_byte rest
apart_name [] h = tt
apart_name (b ∷ rest) h = or_left (is_name_byte b) (b == 39) (or_left (clings b) (b == 42) h)

pub apart_star : (rest : List ℕ) → Apart rest → NoStar rest
apart_star [] h = tt
apart_star (b ∷ rest) h = or_right (clings b) (b == 42) h

-- Names.

is_name : (name : List ℕ) → is_simple_name name ≡ true → length name ≤ 255 → IsName name
is_name [] simple short = cc
is_name (b ∷ bytes) simple short = (
  and_left (is_letter b) (list_all is_name_byte (b ∷ bytes)) simple,
  (all_from_list_all is_name_byte (b ∷ bytes) (and_right (is_letter b) (list_all is_name_byte (b ∷ bytes)) simple)).1,
  omega arith,
)

none_from_test : {X : Type 0} (o : Option X) → is_none o ≡ true → o ≡ None
none_from_test None h = refl
none_from_test (Some x) h = cc

name_word_plain : (name : List ℕ) → reserved_of name ≡ None → name_word name ≡ word.Name name
unfolding name_word
name_word_plain name none = rw none

escaped_byte : (b : ℕ) → IsVisible b → IsTrue (is_escaped_byte b)
escaped_byte b visible = grind arith

all_escaped : (name : List ℕ) → AllByRecursion IsVisible name → AllByRecursion (λ c. IsTrue (is_escaped_byte c)) name
all_escaped [] all = tt
all_escaped (b ∷ bytes) all = (escaped_byte b all.0, all_escaped bytes all.1)

name_cut_at : (name : List ℕ) → IsTreeName name → (plain : Bool) → is_plain name ≡ plain → Cut Apart (if plain then name else codes "\\" ++ name ++ codes " ") (word.Name name ∷ [])
name_cut_at name is true h = with_words (word.Name name ∷ [])
    (one_piece (simple_name name) (is_name name (and_left (is_simple_name name) (is_none (reserved_of name)) h) is.short) apart_name)
    (ap (λ (w : Word). w ∷ []) (name_word_plain name (none_from_test (reserved_of name) (and_right (is_simple_name name) (is_none (reserved_of name)) h))))
name_cut_at name is false h = one_piece (escaped_name name 32) ((is.filled, is.short, all_escaped name is.visible), refl) (λ rest may. tt)

pub name_cut : (name : List ℕ) → IsTreeName name → Cut Apart (name_text name) (word.Name name ∷ [])
name_cut name is = name_cut_at name is (is_plain name) refl

letter_is_no_star : (b : ℕ) → is_letter b ≡ true → IsFalse (b == 42)
letter_is_no_star b letter = grind arith

no_star_name_at : (name : List ℕ) (plain : Bool) (rest : List ℕ) → is_plain name ≡ plain → NoStar ((if plain then name else codes "\\" ++ name ++ codes " ") ++ rest)
no_star_name_at [] true rest h = cc
no_star_name_at (b ∷ bytes) true rest h = letter_is_no_star b (and_left (is_letter b) (list_all is_name_byte (b ∷ bytes)) (and_left (is_simple_name (b ∷ bytes)) (is_none (reserved_of (b ∷ bytes))) h))
no_star_name_at name false rest h = refl

pub no_star_name : (name rest : List ℕ) → NoStar (name_text name ++ rest)
no_star_name name rest = no_star_name_at name (is_plain name) rest refl

-- Numbers.

value_from_push : (n : ℕ) (ds : List ℕ) (d : ℕ) → value_from n (ds ++ d ∷ []) ≡ 10 * value_from n ds + (d - 48)
value_from_push n [] d = refl
value_from_push n (e ∷ ds) d = value_from_push (10 * n + (e - 48)) ds d

all_push : (P : ℕ → Type 0) (ds : List ℕ) (d : ℕ) → AllByRecursion P ds → P d → AllByRecursion P (ds ++ d ∷ [])
all_push P [] d all last = (last, tt)
all_push P (e ∷ ds) d all last = (all.0, all_push P ds d all.1 last)

-- digits with this value
record AreDigitsOf (n : ℕ) (ds : List ℕ) : Type 0 where
  digits : AllByRecursion (λ c. IsTrue (is_digit c)) ds
  value : value_from 0 ds ≡ n

digit_byte : (d : ℕ) → d < 10 → IsTrue (is_digit (48 + d))
digit_byte d low = grind arith

one_digit : (n : ℕ) → n < 10 → AreDigitsOf n ((48 + n) ∷ [])
one_digit n low = record { digits = (digit_byte n low, tt); value = omega arith }

more_digits : (n : ℕ) (ds : List ℕ) → 10 ≤ n → AreDigitsOf (n / 10) ds → AreDigitsOf n (ds ++ (48 + n % 10) ∷ [])
more_digits n ds large before = record {
  digits = all_push (λ c. IsTrue (is_digit c)) ds (48 + n % 10) before.digits (digit_byte (n % 10) (omega arith));
  value = value_from_push 0 ds (48 + n % 10) ∙ (let e : value_from 0 ds ≡ n / 10 = before.value in omega arith);
}

decimal_digits : (n : ℕ) → n < 2 ^ 64 → AreDigitsOf n (decimal n)
decimal_digits n low = decimal_by_steps AreDigitsOf one_digit more_digits n low

pub number_cut : (n : ℕ) → IsTreeNumber n → Cut Apart (decimal n) (word.Number n ∷ [])
number_cut n low =
    let fits : n < 2 ^ 64 = omega arith in
    with_words (word.Number n ∷ [])
    (one_piece (number (decimal n)) (decimal_nonempty n fits, length-decimal-le 9 n (lit< tt) low fits, (decimal_digits n fits).digits) apart_clings)
    (ap (λ (v : ℕ). word.Number v ∷ []) (decimal_digits n fits).value)

-- Reserved words.

-- a reserved word that is read as itself
pub record IsKey (r : Reserved) : Type 0 where
  pub simple : is_simple_name (spelling_of r) ≡ true
  pub short : length (spelling_of r) ≤ 255
  pub word_is : name_word (spelling_of r) ≡ word.Reserved r

pub is_key_gate : (kind : GateKind) → IsKey (key_of_gate kind)
unfolding spelling_of name_word reserved_of
is_key_gate gate.And = record { simple = refl; short = lit≤ tt; word_is = refl }
is_key_gate gate.Or = record { simple = refl; short = lit≤ tt; word_is = refl }
is_key_gate gate.Nand = record { simple = refl; short = lit≤ tt; word_is = refl }
is_key_gate gate.Nor = record { simple = refl; short = lit≤ tt; word_is = refl }
is_key_gate gate.Xor = record { simple = refl; short = lit≤ tt; word_is = refl }
is_key_gate gate.Xnor = record { simple = refl; short = lit≤ tt; word_is = refl }
is_key_gate gate.Buf = record { simple = refl; short = lit≤ tt; word_is = refl }
is_key_gate gate.Not = record { simple = refl; short = lit≤ tt; word_is = refl }
is_key_gate gate.Bufif0 = record { simple = refl; short = lit≤ tt; word_is = refl }
is_key_gate gate.Bufif1 = record { simple = refl; short = lit≤ tt; word_is = refl }

pub is_key_dir : (d : Dir) → IsKey (key_of_dir d)
unfolding spelling_of name_word reserved_of
is_key_dir dir.Input = record { simple = refl; short = lit≤ tt; word_is = refl }
is_key_dir dir.Output = record { simple = refl; short = lit≤ tt; word_is = refl }
is_key_dir dir.Inout = record { simple = refl; short = lit≤ tt; word_is = refl }

pub key_cut : (r : Reserved) → IsKey r → Cut Apart (spelling_of r) (word.Reserved r ∷ [])
key_cut r is = with_words (word.Reserved r ∷ [])
    (one_piece (simple_name (spelling_of r)) (is_name (spelling_of r) is.simple is.short) apart_name)
    (ap (λ (w : Word). w ∷ []) is.word_is)

-- the reserved words that stand in the text as they are
pub module_key : Cut Apart (codes "module") (word.Reserved key.Module ∷ [])
unfolding spelling_of name_word reserved_of
module_key = key_cut key.Module (record { simple = refl; short = lit≤ tt; word_is = refl })

pub endmodule_key : Cut Apart (codes "endmodule") (word.Reserved key.Endmodule ∷ [])
unfolding spelling_of name_word reserved_of
endmodule_key = key_cut key.Endmodule (record { simple = refl; short = lit≤ tt; word_is = refl })

pub wire_key : Cut Apart (codes "wire") (word.Reserved key.Wire ∷ [])
unfolding spelling_of name_word reserved_of
wire_key = key_cut key.Wire (record { simple = refl; short = lit≤ tt; word_is = refl })

pub assign_key : Cut Apart (codes "assign") (word.Reserved key.Assign ∷ [])
unfolding spelling_of name_word reserved_of
assign_key = key_cut key.Assign (record { simple = refl; short = lit≤ tt; word_is = refl })
